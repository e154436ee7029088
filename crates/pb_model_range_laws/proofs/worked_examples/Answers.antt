use Rattle.std.proofs.Common.{◌≡◌, ℕ, inl, inr, true≢false, [], ◌∷◌, refl, sym, ap, subst, arith}
use Rattle.std.specs.Prelude.{Contains, codes}
use Rattle.pb_fixpoint.specs.declared.Sign.TheVariants.{Nu}
use Rattle.pb_text_meaning.specs.Syntax.{Name, Equation, Spec}
use Rattle.pb_text_meaning.specs.Formula.{Instance, is_instance}
use Rattle.pb_text_meaning.specs.Meaning.{assigned}
use Rattle.pb_model_meaning.specs.Syntax.{Formula, StepSet}
use Rattle.pb_model_meaning.specs.Examples.{X, leaving}
use Rattle.pb_model_translation.specs.Names.{names_of, translation}
use Rattle.pb_model_translation.specs.Translation.{equation, right_side}
use Rattle.pb_model_range_laws.specs.Calls.{Calls, StaysInRanges, IsReachedByCalls, Initial, Called, initial_instance}
use Rattle.pb_model_range_laws.specs.Examples.{is_one, stays_one}
use Rattle.pb_model_runs.proofs.Elements.{either_of}
use Rattle.pb_model_range_laws.proofs.worked_examples.Goals as goal

abbrev text : Spec
text = translation leaving stays_one

abbrev names : ℕ → Name
names = names_of stays_one

-- its equation
abbrev first : Equation
first =
    equation leaving names Nu 0
    (right_side leaving names ((codes "X", 0) ∷ []) 1 (Formula.And is_one (Formula.Box StepSet.All X)))

-- the test n == 1 decides at the initial instance
first-calls-nothing : (j : Instance) → Calls text (assigned first.parameters (initial_instance text).values []) first.right j → ⊥
first-calls-nothing j (inl (e, h)) = h
first-calls-nothing j (inr (e, h)) = true≢false e

calls-nothing : (Y : Equation) (j : Instance) → Contains text.equations Y → Calls text (assigned Y.parameters (initial_instance text).values []) Y.right j → ⊥
calls-nothing Y j among h = elim (either_of first [] Y among) [
  | inl e ↦ first-calls-nothing j (subst (λ (Z : Equation). Calls text (assigned Z.parameters (initial_instance text).values []) Z.right j) (sym e) h)
  | inr later ↦ absurd (omega (arith, later.1))
]

only : (i : Instance) → IsReachedByCalls text i → i ≡ initial_instance text
only _ Initial = refl
only _ (Called i j r (Y, among, same, h)) =
    absurd (calls-nothing Y j among (subst (λ (k : Instance). Calls text (assigned Y.parameters k.values []) Y.right j) (only i r) h))

no-cut : StaysInRanges text
no-cut i r = ap (is_instance text) (only i r)

pub returns : goal.returns
returns c = record {
  no_cut = no-cut;
  negation = (_, _, refl, refl, (_, _, refl, inl refl, (_, refl, refl)));
  holds = refl;
  fails = refl;
}
