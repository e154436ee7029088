-- What the text of the step at the place says, and why there is none.
use Rattle.std.proofs.Common.{◌≡◌, ◌∙◌, ap, map}
use Rattle.std.specs.Prelude.{Some}
use Rattle.std.specs.List.{slice_get}
use Rattle.std.proofs.lemmas.Result.{IfOk-weaker}
use Rattle.pb_text_tree.specs.declared.place.Place.{Place}
use Rattle.pb_text_tree.specs.Form.{spec_form}
use Rattle.pb_model_tree.specs.Form.{FormulaForm, StepForm, formula_form, model_form, step_form}
use Rattle.pb_model_meaning.specs.Erase.{erased_formula, model_of}
use Rattle.pb_model_translation.specs.Placed.{placed}
use Rattle.pb_model_typing.specs.Reached.{reached_form}
use Rattle.pb_model_typing.specs.Texts.{HasTypedText, IsFaultFromText}
use Rattle.pb_model_typing.proofs.AskedTexts.{each-fault, each-text}
use Rattle.pb_model_typing.proofs.Decided.{reached-decided, step-at}
use Rattle.pb_model_typing.proofs.reached.reached_text.Goals as goal

abbrev placed_at : Place → FormulaForm → Place × FormulaForm
placed_at p f = (p, f)

-- the formula is that of the step
pub returns : goal.returns
returns c =
    let m = c.args.typed.now.model in
    let here = m.initial.place in
    let same : (a : StepForm) → slice_get (map step_form m.steps.items) c.args.step ≡ Some a → placed_at here (formula_form c.in_ok-formula.formula) ≡ placed_at here (reached_form here a.name.text) =
    λ a is. ap (placed_at here) (c.in_ok-formula.ensures ∙ ap (λ (b : StepForm). reached_form here b.name.text)
    (step-at m.steps.items c.args.step c.index.result.now a c.requires c.index.ensures is)) in
    let text = each-text _ _ _ same c.typed_text.result (λ t f. spec_form t.spec ≡ placed (model_form m) f.0 f.1) c.typed_text.ensures.text in
    record {
      text = text;
      typed = each-text _ _ _ same c.typed_text.result (λ t f. HasTypedText (model_of m) (erased_formula f.1)) c.typed_text.ensures.typed;
      answer = IfOk-weaker c.typed_text.result _ _ (λ t said a is. reached-decided m here a (spec_form t.spec) c.args.typed.now.typed (said a is)) text;
      fails = each-fault _ _ _ same c.typed_text.result (λ fault f. IsFaultFromText (model_form m) f fault) c.typed_text.ensures.fails;
      ill_typed = each-fault _ _ _ same c.typed_text.result (λ fault f. HasTypedText (model_of m) (erased_formula f.1) → ⊥) c.typed_text.ensures.ill_typed;
    }
