-- A text that typing accepts: it is solvable, and what its tree says of the sign of an equation and of the initial instance is so.
use Rattle.std.proofs.Common.{◌≡◌, ◌<◌, ℕ, Some, length, get_or, sym, ap, ◌∙◌, arith}
use Rattle.std.specs.List.{slice_get}
use Rattle.std.proofs.lemmas.Option.{same_Some}
use Rattle.std.proofs.Math.ListN.{get_or-map}
use Rattle.pb_sorts.proofs.Places.{map_length}
use Rattle.pb_text_tree.specs.declared.spec.Equation as declared_equation
use Rattle.pb_text_tree.specs.Form.{equation_form, spec_form}
use Rattle.pb_text_meaning.specs.Syntax.{Equation, Spec}
use Rattle.pb_text_meaning.specs.Names.{AreNamedApart}
use Rattle.pb_text_meaning.specs.Positive.{ArePositive}
use Rattle.pb_text_meaning.specs.Erase.{erase, erased_equation}
use Rattle.pb_base_values.specs.Carrier.{Tuple}
use Rattle.pb_typing_tree.specs.InitialPlace.{IsInitial}
use Rattle.pb_typing_rules.specs.WellTyped.{IsWellTyped}
use Rattle.pb_typing_rules.proofs.Fitting.{spec_positive}
use Rattle.pb_typing.specs.declared.typed.Typed.{Typed}
use Rattle.pb_typing.proofs.Accepted.{accepted-well-typed}
use Rattle.pb_typing_values.specs.Environment.{IsLaidOut}
use Rattle.pb_typing_plain_solver.proofs.Owned.{equation_known}

-- equations of different names, each right side positive
pub record IsSolvable (spec : Spec) : Type 0 where
  pub apart : AreNamedApart spec.equations
  pub positive : ArePositive spec.equations

solvable : (spec : Spec) → IsWellTyped spec → IsSolvable spec
solvable spec h = record {
  apart = λ i j d lt below e.
      h.declarations.predicate_variables i j d.name lt (omega (arith, below, map_length (λ (X : Equation). X.name) spec.equations))
      (get_or-map (λ (X : Equation). X.name) spec.equations i d ∙ (e ∙ sym (get_or-map (λ (X : Equation). X.name) spec.equations j d)));
  positive = spec_positive spec h;
}

pub well : (typed : Typed) → IsWellTyped (erase (spec_form typed.spec))
well typed = accepted-well-typed (spec_form typed.spec) typed.faultless

pub able : (typed : Typed) → IsSolvable (erase (spec_form typed.spec))
able typed = solvable (erase (spec_form typed.spec)) (well typed)

pub laid : (typed : Typed) → IsLaidOut (erase (spec_form typed.spec)) typed.layout
laid typed = record { apart = (able typed).apart; carriers = typed.laid_out.values }

-- the equations of the text
abbrev pub text : Typed → Spec
text typed = erase (spec_form typed.spec)

-- the sign in the text is the equation's
pub sign_there : (typed : Typed) (k : ℕ) (R : declared_equation.Equation) (X : Equation) → k < length typed.layout
    → R ≡ get_or typed.spec.equations.items k R → slice_get (text typed).equations k ≡ Some X → R.sign ≡ X.sign
sign_there typed k R X lt is at =
    ap (λ (Y : Equation). Y.sign) (same_Some (erased_equation (equation_form R)) X (sym (equation_known typed.spec typed.layout k R typed.laid_out.values lt is) ∙ at))

-- the initial instance, in a copy of its values
pub initial_there : (typed : Typed) (vs : Tuple) → vs ≡ typed.initial.values.items → IsInitial (text typed) typed.initial.equation vs
initial_there typed vs same = record { equation = typed.asked.equation; values = same ∙ typed.asked.values }
