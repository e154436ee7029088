-- What is told of a property by its negation.
use Rattle.std.proofs.Common.{◌≡◌, ◌∙◌, ℕ, List, Bool, true, false, Some, sym, subst, inl, inr}
use Rattle.std.specs.List.{list_any, slice_get}
use Rattle.pb_text_tree.specs.Form.{spec_form}
use Rattle.pb_model_tree.specs.Form.{ModelForm, PropertyForm}
use Rattle.pb_protocol_tree.specs.Form as protocol_form
use Rattle.pb_protocol_negation.specs.Negated.{negated}
use Rattle.pb_protocol_laws.specs.Solved.{IsSameProperty}
use Rattle.pb_model_words.specs.Vocabulary.{Vocabulary}
use Rattle.pb_model_properties.specs.Negations.{with_negation}
use Rattle.pb_model_properties.specs.Said.{protocol_satisfies, IsModelOf}
use Rattle.pb_model_properties.specs.Words.{words_in, IsToldModel}
use Rattle.pb_model_properties.specs.declared.verdicts.Verdict.TheVariants as verdict
use Rattle.pb_command_faults.specs.declared.property_fault.PropertyExcess.{PropertyExcess}
use Rattle.pb_command_texts.specs.declared.explained.ExplainedText.{ExplainedText}
use Rattle.pb_command_models.specs.Denials.{IsDenial, IsRefusedNegationAt}
use Rattle.pb_command_models.specs.Models.{HasLargeNegation, solved_form}
use Rattle.pb_command_models.specs.Outcomes.{IsExplainedText}
use Rattle.pb_command_models.specs.Why.{IsDenialTold, IsToldBy, IsToldText, IsVerdict, steps_of}
use Rattle.pb_command_models.specs.declared.denial.Denial.{Denial}
use Rattle.pb_command_models.proofs.Decisions.{same_at}
use Rattle.pb_command_models.proofs.Negations.{negation_says, negation_told}
use Rattle.pb_command_models.proofs.Tellings.{cut_is_false, explained_truth, shown_by_cut, told_by, true_rests}

-- a property of the protocol, of the model that is solved in its place, and its text, of whose evidence a line rests on a cut call
module _ (bytes : List ℕ) (model : ModelForm) (said : IsModelOf bytes model) (place : ℕ) (p : protocol_form.PropertyForm) (q : PropertyForm)
    (stands : slice_get said.protocol.properties place ≡ Some p) (there : slice_get model.properties place ≡ Some q)
    (explained : ExplainedText) (is : IsExplainedText model q explained) (rests : list_any (λ cut. cut) explained.explanation.cuts.items ≡ true) where
  own_same : IsSameProperty said.protocol model p q
  own_same =
      let same = same_at said.protocol model said.protocol.properties model.properties place q said.is_for.solved.properties there in
      let both : Some same.0 ≡ Some p = sym same.1 ∙ stands in
      let one : same.0 ≡ p = cc both in
      subst (λ (x : protocol_form.PropertyForm). IsSameProperty said.protocol model x q) one same.2

  fails : protocol_satisfies said.protocol p.formula ≡ false
  fails = sym own_same.satisfied ∙ cut_is_false model q explained is rests

  -- the negation is refused
  pub denial_refused : (excess : PropertyExcess) → IsRefusedNegationAt bytes place excess → HasLargeNegation said.protocol model q place excess
  denial_refused excess refused = (p, stands, inr (shown_by_cut model q explained is rests), refused said.protocol said.read p stands)

  -- or its text is explained
  module _ (denial : Denial) (of : IsDenial bytes place denial) where
    abbrev text : IsExplainedText (solved_form denial.solved) of.of.negation denial.explained
    text = of.explained.1 of.of.negation of.of.first

    says : denial.explained.explanation.evidence.truth ≡ protocol_satisfies said.protocol (negated p.formula)
    says =
        explained_truth (solved_form denial.solved) of.of.negation denial.explained text
        ∙ negation_says bytes place denial.solved of.of said.protocol said.read p stands

    pub unknown_verdict : denial.explained.explanation.evidence.truth ≡ false → IsVerdict said.protocol p.formula model q verdict.Unknown
    unknown_verdict truth = (fails, sym says ∙ truth, inr (shown_by_cut model q explained is rests))

    module _ (truth : denial.explained.explanation.evidence.truth ≡ true) where
      pub false_verdict : IsVerdict said.protocol p.formula model q verdict.False
      false_verdict = (fails, inl (sym says ∙ truth))

      pub denial_told : (instances always : Bool) (name : List ℕ) (told : List ℕ)
          → IsToldText instances always true (words_in denial.solved) name verdict.False (spec_form denial.explained.typed.spec) (steps_of (solved_form denial.solved))
          denial.explained.verified denial.explained.explanation.evidence told
          → IsDenialTold instances always said.protocol p name told
      denial_told instances always name told printed =
          let n = solved_form denial.solved in
          let model_told : IsToldModel (with_negation said.protocol p) denial.solved = negation_told bytes place denial.solved of.of said.protocol said.read p stands in
          record {
            model = n;
            is_for = model_told.is_for;
            negation = of.of.negation;
            first = of.of.first;
            satisfied = sym (explained_truth n of.of.negation denial.explained text) ∙ truth;
            printed = subst (λ (w : Vocabulary). IsToldBy instances always true w n of.of.negation name verdict.False told) model_told.words
                (told_by instances always true (words_in denial.solved) n of.of.negation name verdict.False denial.explained text
                (λ e. true_rests denial.explained text.explanation truth) told printed);
          }
