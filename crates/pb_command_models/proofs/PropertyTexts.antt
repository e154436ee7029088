-- The text of a property that isn't well typed: it is too large, or the model is refused.
use Rattle.std.proofs.Common.{◌≡◌, ◌∙◌, ℕ, true, false, Some, refl, sym, ap, subst}
use Rattle.std.specs.Prelude.{IfOk, Result, Ok, Err}
use Rattle.std.specs.List.{slice_get}
use Rattle.pb_model_tree.specs.Form.{PropertyForm, model_form}
use Rattle.pb_typing_declarations.specs.declared.fault.TypingFault.{TypingFault}
use Rattle.pb_typing_declarations.specs.declared.fault.TypingRule.{TypingRule}
use Rattle.pb_typing_declarations.specs.declared.fault.TypingRule.TheVariants as rule
use Rattle.pb_model_faults.specs.declared.ModelFault.{ModelFault}
use Rattle.pb_model_faults.specs.declared.ModelFault.TheVariants as model_fault
use Rattle.pb_model_properties.specs.declared.solved.SolvedModel.{SolvedModel}
use Rattle.pb_model_properties.specs.Refusals.{IsRefusedText}
use Rattle.pb_base.specs.OrMemory.{IfFault, IfRefused}
use Rattle.pb_base.specs.declared.or_memory.OrMemory.{OrMemory}
use Rattle.pb_base.specs.declared.or_memory.OrMemory.TheVariants as or_memory
use Rattle.pb_command_faults.specs.Errors.{fault_of_model}
use Rattle.pb_command_faults.specs.declared.solve_fault.SolveFault.{SolveFault}
use Rattle.pb_model_properties.specs.Refusals.{is_limit, is_limit_rule}
use Rattle.pb_command_models.specs.Models.{IsOverTextLimit}
use Rattle.pb_command_models.specs.Outcomes.{IsFault, IsPropertyText, IsTextAt, IsUntypedAt, IsUntypedText}
use Rattle.pb_command_models.specs.declared.property_text.AskedText.{AskedText}
use Rattle.pb_command_models.specs.declared.property_text.PropertyText.TheVariants as property_text

limit_rule : (r : TypingRule) → is_limit_rule r ≡ true → r ≡ rule.Limit
limit_rule rule.Limit e = refl
limit_rule rule.UnknownName e = absurd (cc e)
limit_rule rule.NameTwice e = absurd (cc e)
limit_rule rule.UnknownSort e = absurd (cc e)
limit_rule rule.WrongKind e = absurd (cc e)
limit_rule rule.MissingRange e = absurd (cc e)
limit_rule rule.OddNegations e = absurd (cc e)
limit_rule rule.PredicateInData e = absurd (cc e)
limit_rule rule.WrongCount e = absurd (cc e)
limit_rule rule.Divisor e = absurd (cc e)
limit_rule rule.LargeInterval e = absurd (cc e)
limit_rule rule.OutsideCarrier e = absurd (cc e)
limit_rule rule.QuantifierInData e = absurd (cc e)

module _ (solved : SolvedModel) (p : PropertyForm) where
  over_limit : (fault : ModelFault) → is_limit fault ≡ true → IsRefusedText solved p fault → IsOverTextLimit (model_form solved.typed.model) p
  over_limit (model_fault.Typing fault) limit h = record {
    ill_typed = h.ill_typed;
    fault = h.broken;
    fails = h.fails;
    limit = sym (ap (λ (f : TypingFault). f.rule) h.told) ∙ limit_rule fault.rule limit;
  }
  over_limit (model_fault.Text fault) limit h = absurd h
  over_limit model_fault.NoProperty limit h = absurd h

  -- a text that is refused by the fault of a limit passes it
  pub text_over_limit : (error : OrMemory ModelFault) → IsFault error → IfFault error (λ fault. is_limit fault ≡ true) → IfFault error (IsRefusedText solved p)
      → IsOverTextLimit (model_form solved.typed.model) p
  text_over_limit (or_memory.Refused fault) is limit h = over_limit fault limit h
  text_over_limit or_memory.Memory is limit h = absurd is

  untyped_by : (fault : ModelFault) → is_limit fault ≡ false → IsRefusedText solved p fault → IsUntypedText solved p (fault_of_model fault)
  untyped_by (model_fault.Typing fault) other h = (other, h)
  untyped_by (model_fault.Text fault) other h = absurd h
  untyped_by model_fault.NoProperty other h = absurd h

  -- by another it isn't well typed
  text_untyped : (error : OrMemory ModelFault) (made : SolveFault) → IsFault error
      → IfFault error (λ fault. made ≡ fault_of_model fault) → IfFault error (λ fault. is_limit fault ≡ false) → IfFault error (IsRefusedText solved p)
      → IsUntypedText solved p made
  text_untyped (or_memory.Refused fault) made is same other h = subst (IsUntypedText solved p) (sym same) (untyped_by fault other h)
  text_untyped or_memory.Memory made is same other h = absurd is

  module _ (place : ℕ) (at : slice_get (model_form solved.typed.model).properties place ≡ Some p) (error : OrMemory ModelFault) where
    pub large_text : {E : Type 0} (r : Result AskedText E)
        → IfOk r (λ asked. (asked.place ≡ place) × (asked.text ≡ property_text.TooLarge) × IfFault error (λ fault. is_limit fault ≡ true) × IsFault error)
        → IfFault error (IsRefusedText solved p) → IfOk r (IsTextAt (model_form solved.typed.model))
    large_text (Ok asked) (here, large, limit, is) h = record {
      property = p;
      stands = subst (λ (k : ℕ). slice_get (model_form solved.typed.model).properties k ≡ Some p) (sym here) at;
      text = subst (IsPropertyText (model_form solved.typed.model) p) (sym large) (text_over_limit error is limit h);
    }
    large_text (Err e) made h = tt

    pub untyped_text : {A : Type 0} (r : Result A (OrMemory SolveFault))
        → IfRefused r (λ made. IfFault error (λ fault. made ≡ fault_of_model fault) × IsFault error × IfFault error (λ fault. is_limit fault ≡ false))
        → IfFault error (IsRefusedText solved p) → IfRefused r (IsUntypedAt solved place)
    untyped_text (Ok x) made h = tt
    untyped_text (Err or_memory.Memory) made h = tt
    untyped_text (Err (or_memory.Refused fault)) made h = (p, at, text_untyped error fault made.1 made.0 made.2 h)
