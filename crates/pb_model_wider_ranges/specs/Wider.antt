-- When a model is another one with wider ranges of its state variables.
use Rattle.std.specs.Prelude.{◌≡◌, true, [], ⊤}
use Rattle.std.specs.List.{list_all}
use Rattle.pb_text_meaning.specs.Syntax.{Term}
use Rattle.pb_text_meaning.specs.Value.{is_true, value}
use Rattle.pb_text_meaning.specs.Meaning.{assigned}
use Rattle.pb_model_meaning.specs.Syntax.{StepSet, Formula, Model}
use Rattle.pb_model_meaning.specs.Steps.{State, data_of, is_state, initial_state, successors}
use Rattle.pb_model_meaning.specs.Satisfaction.{States}

-- a test is as true in w as in m, at each state of m
abbrev pub IsSameTest : Model → Model → Term → Type 0
IsSameTest m w x =
    (s : State) → is_state m s ≡ true →
    is_true (value (data_of w) (assigned w.variables s []) x)
    ≡ is_true (value (data_of m) (assigned m.variables s []) x)

-- P holds of each test of a formula
abbrev pub EachTest : (Term → Type 0) → Formula → Type 0
EachTest P (Formula.Truth b) = ⊤
EachTest P (Formula.Data x) = P x
EachTest P (Formula.Named X) = ⊤
EachTest P (Formula.Not f) = EachTest P f
EachTest P (Formula.And f g) = EachTest P f × EachTest P g
EachTest P (Formula.Or f g) = EachTest P f × EachTest P g
EachTest P (Formula.Implies f g) = EachTest P f × EachTest P g
EachTest P (Formula.Box A f) = EachTest P f
EachTest P (Formula.Diamond A f) = EachTest P f
EachTest P (Formula.Fixpoint sign X f) = EachTest P f

-- Each state of m is one of w, and there w's steps lead where m's do and f's tests are as true:
-- only what lies outside m's ranges may be a state of w.
pub record IsWider (m w : Model) (f : Formula) : Type 0 where
  pub states : (s : State) → is_state m s ≡ true → is_state w s ≡ true
  pub initial : initial_state w ≡ initial_state m
  pub successors : (A : StepSet) (s : State) → is_state m s ≡ true
      → successors w A s ≡ successors m A s
  pub tests : EachTest (IsSameTest m w) f

-- An inductive invariant of a model: a set of its states with the initial one and each successor of
-- each. There is one where no state that is reached has a successor outside the ranges: that of the
-- states that are reached.
pub record IsInvariant (m : Model) (S : States) : Type 0 where
  pub within : (s : State) → S s ≡ true → is_state m s ≡ true
  pub initial : S (initial_state m) ≡ true
  pub closed : (s : State) → S s ≡ true → list_all S (successors m StepSet.All s) ≡ true
