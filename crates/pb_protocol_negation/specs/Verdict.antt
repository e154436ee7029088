-- What satisfaction says of a property: it holds, it fails, or the ranges decide, where neither is
-- so (Bruns and Godefroid 1999).
use Rattle.std.specs.Prelude.{◌≡◌, Bool, true, List, [], ◌∷◌, ⊤}
use Rattle.std.specs.List.{list_any, list_all}
use Rattle.pb_text_meaning.specs.Syntax.{Name, same_name}
use Rattle.pb_model_meaning.specs.Steps.{State}
use Rattle.pb_model_meaning.specs.Satisfaction.{States}
use Rattle.pb_protocol_meaning.specs.Syntax.{StepSet, Formula, Protocol}
use Rattle.pb_protocol_meaning.specs.Steps.{is_state, initial_state, successors}
use Rattle.pb_protocol_meaning.specs.Satisfaction.{satisfies}
use Rattle.pb_protocol_negation.specs.Negation.{negation}

abbrev pub holds : Protocol → Formula → Bool
holds m f = satisfies m f

abbrev pub fails : Protocol → Formula → Bool
fails m f = satisfies m (negation f)

-- An inductive invariant of a protocol: a set of its states with the initial one and each successor
-- of each. There is one where no state that is reached has a successor outside the ranges.
pub record IsInvariant (m : Protocol) (S : States) : Type 0 where
  pub within : (s : State) → S s ≡ true → is_state m s ≡ true
  pub initial : S (initial_state m) ≡ true
  pub closed : (s : State) → S s ≡ true → list_all S (successors m [] StepSet.All s) ≡ true

-- each variable of a formula is that of a fixpoint around it, or one of these
abbrev pub IsClosed : List Name → Formula → Type 0
IsClosed bound (Formula.Truth b) = ⊤
IsClosed bound (Formula.Data x) = ⊤
IsClosed bound (Formula.Named X) = list_any (λ Y. same_name Y X) bound ≡ true
IsClosed bound (Formula.Not f) = IsClosed bound f
IsClosed bound (Formula.And f g) = IsClosed bound f × IsClosed bound g
IsClosed bound (Formula.Or f g) = IsClosed bound f × IsClosed bound g
IsClosed bound (Formula.Implies f g) = IsClosed bound f × IsClosed bound g
IsClosed bound (Formula.Box A f) = IsClosed bound f
IsClosed bound (Formula.Diamond A f) = IsClosed bound f
IsClosed bound (Formula.Fixpoint sign X f) = IsClosed (X ∷ bound) f
IsClosed bound (Formula.Quantified q xs f) = IsClosed bound f
