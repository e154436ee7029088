-- Where other ranges widen those of the state variables alone, the steps lead where they led.
use Rattle.std.proofs.Common.{◌≡◌, Bool, true, false, ◌++◌, if◌then◌else◌, List, [], ◌∷◌, map, filter, flat_map, Some, refl, ap, ◌∙◌}
use Rattle.std.proofs.lemmas.Bool.{and_parts, and_from}
use Rattle.pb_base_values.specs.Carrier.{Value, Tuple, contains, is_within, tuples}
use Rattle.pb_text_meaning.specs.Syntax.{Name, same_name, Variable, Term, Range, Spec}
use Rattle.pb_text_meaning.specs.Sorts.{carrier_of}
use Rattle.pb_text_meaning.specs.Formula.{carriers_of}
use Rattle.pb_text_meaning.specs.Value.{is_true, value}
use Rattle.pb_text_meaning.specs.Meaning.{assigned}
use Rattle.pb_model_meaning.specs.Syntax.{Assignment, Step, Formula, Model}
use Rattle.pb_model_meaning.specs.Steps.{State, data_of, in_scope, is_enabled, assigned_term, value_after, state_after, next_state, successors_by, has_step}
use Rattle.pb_model_wider_ranges.specs.Wider.{IsSameTest, EachTest}
use Rattle.pb_model_wider_ranges.specs.Ranges.{with_ranges, AreContained, AreUnchanged, IsUnchanged, AreAssignmentsUnchanged, IsStepUnchanged, AreStepsUnchanged, WiderRangesMakeWider}
use Rattle.pb_model_wider_ranges.proofs.Values.{value-same, values-same}

-- ---- lists

map-alike : {X Y : Type 0} (g h : X → Y) → ((x : X) → g x ≡ h x) → (xs : List X) → map g xs ≡ map h xs
map-alike g h k [] = refl
map-alike g h k (x ∷ xs) = ap (λ y. y ∷ map g xs) (k x) ∙ ap (λ ys. h x ∷ ys) (map-alike g h k xs)

filter-alike : {X : Type 0} (p q : X → Bool) → ((x : X) → p x ≡ q x) → (xs : List X) → filter p xs ≡ filter q xs
filter-alike p q k [] = refl
filter-alike p q k (x ∷ xs) =
    ap (λ b. if b then x ∷ filter p xs else filter p xs) (k x) ∙ ap (λ ys. if q x then x ∷ ys else ys) (filter-alike p q k xs)

with-one : {X Y : Type 0} (g h : X → List Y) (b : Bool) (x : X) (xs : List X) → g x ≡ h x → flat_map g xs ≡ flat_map h xs →
    flat_map g (if b then x ∷ xs else xs) ≡ flat_map h (if b then x ∷ xs else xs)
with-one g h true x xs k l = ap (λ ys. ys ++ flat_map g xs) k ∙ ap (λ ys. h x ++ ys) l
with-one g h false x xs k l = l

-- ---- states

within-wider : (d e : Spec) (xs : List Variable) → AreContained d e xs → (vs : Tuple) → is_within (carriers_of d xs) vs ≡ true → is_within (carriers_of e xs) vs ≡ true
within-wider d e [] c [] k = k
within-wider d e [] c (v ∷ vs) k = k
within-wider d e (x ∷ xs) c [] k = k
within-wider d e (x ∷ xs) c (v ∷ vs) k =
    let parts = and_parts (contains (carrier_of d x.sort) v) (is_within (carriers_of d xs) vs) k in
    and_from (contains (carrier_of e x.sort) v) (is_within (carriers_of e xs) vs) (c.0 v parts.0) (within-wider d e xs c.1 vs parts.1)

carriers-same : (d e : Spec) (xs : List Variable) → AreUnchanged d e xs → carriers_of e xs ≡ carriers_of d xs
carriers-same d e [] u = refl
carriers-same d e (x ∷ xs) u = ap (λ c. c ∷ carriers_of e xs) u.0 ∙ ap (λ cs. carrier_of d x.sort ∷ cs) (carriers-same d e xs u.1)

-- ---- steps

module _ (d e : Spec) (evaluate other : Term → Value) (same : (x : Term) → IsUnchanged d e x → evaluate x ≡ other x) where
  one-after : (b : Bool) (a : Assignment) (assignments : List Assignment) (x : Name) (v : Value) → IsUnchanged d e a.term →
      value_after evaluate (assigned_term assignments x) v ≡ value_after other (assigned_term assignments x) v →
      value_after evaluate (if b then Some a.term else assigned_term assignments x) v ≡ value_after other (if b then Some a.term else assigned_term assignments x) v
  one-after true a assignments x v u h = same a.term u
  one-after false a assignments x v u h = h

  value-after-same : (assignments : List Assignment) → AreAssignmentsUnchanged d e assignments → (x : Name) (v : Value) →
      value_after evaluate (assigned_term assignments x) v ≡ value_after other (assigned_term assignments x) v
  value-after-same [] u x v = refl
  value-after-same (a ∷ assignments) u x v = one-after (same_name a.variable x) a assignments x v u.0 (value-after-same assignments u.1 x v)

  state-after-same : (assignments : List Assignment) → AreAssignmentsUnchanged d e assignments → (xs : List Variable) (s : State) →
      state_after evaluate assignments xs s ≡ state_after other assignments xs s
  state-after-same assignments u [] s = refl
  state-after-same assignments u (x ∷ xs) [] = refl
  state-after-same assignments u (x ∷ xs) (v ∷ s) =
      ap (λ y. y ∷ state_after evaluate assignments xs s) (value-after-same assignments u x.name v)
      ∙ ap (λ t. value_after other (assigned_term assignments x.name) v ∷ t) (state-after-same assignments u xs s)

module _ (m : Model) (ranges : List Range) where
  abbrev w : Model
  w = with_ranges ranges m

  abbrev d : Spec
  d = data_of m

  abbrev e : Spec
  e = data_of w

  by-same : (s : State) (a : Step) → IsStepUnchanged d e a → successors_by w s a ≡ successors_by m s a
  by-same s a u =
      ap (λ cs. map (next_state w s a) (filter (is_enabled w s a) (tuples cs))) (carriers-same d e a.variables u.variables)
      ∙ ap (map (next_state w s a))
      (filter-alike (is_enabled w s a) (is_enabled m s a)
      (λ own. ap is_true (value-same d e refl a.guard u.guard (in_scope m s a own))) (tuples (carriers_of d a.variables)))
      ∙ map-alike (next_state w s a) (next_state m s a)
      (λ own. state-after-same d e (value e (in_scope w s a own)) (value d (in_scope m s a own)) (λ x h. value-same d e refl x h (in_scope m s a own)) a.assignments u.assignments m.variables s)
      (filter (is_enabled m s a) (tuples (carriers_of d a.variables)))

  moves-same : (p : Step → Bool) (steps : List Step) → AreStepsUnchanged d e steps → (s : State) →
      flat_map (successors_by w s) (filter p steps) ≡ flat_map (successors_by m s) (filter p steps)
  moves-same p [] u s = refl
  moves-same p (a ∷ steps) u s =
      with-one (successors_by w s) (successors_by m s) (p a) a (filter p steps) (by-same s a u.0) (moves-same p steps u.1 s)

  test-same : (x : Term) → IsUnchanged d e x → IsSameTest m w x
  test-same x u s k = ap is_true (value-same d e refl x u (assigned m.variables s []))

  tests-same : (f : Formula) → EachTest (IsUnchanged d e) f → EachTest (IsSameTest m w) f
  tests-same (Formula.Truth b) t = tt
  tests-same (Formula.Data x) t = test-same x t
  tests-same (Formula.Named X) t = tt
  tests-same (Formula.Not f) t = tests-same f t
  tests-same (Formula.And f g) t = (tests-same f t.0, tests-same g t.1)
  tests-same (Formula.Or f g) t = (tests-same f t.0, tests-same g t.1)
  tests-same (Formula.Implies f g) t = (tests-same f t.0, tests-same g t.1)
  tests-same (Formula.Box A f) t = tests-same f t
  tests-same (Formula.Diamond A f) t = tests-same f t
  tests-same (Formula.Fixpoint sign X f) t = tests-same f t

pub wider : WiderRangesMakeWider
wider m ranges f h = record {
  states = λ s k. within-wider (d m ranges) (e m ranges) m.variables h.variables s k;
  initial = values-same (d m ranges) (e m ranges) refl m.initial h.initial [];
  successors = λ A s k. moves-same m ranges (λ (a : Step). has_step A a.name) m.steps h.steps s;
  tests = tests-same m ranges f h.tests;
}
