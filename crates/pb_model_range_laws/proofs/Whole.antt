-- The equations of a whole text, and what it says where it has no cut.
use Rattle.std.proofs.Common.{◌≡◌, ℕ, suc, ◌+◌, Bool, true, false, true≢false, not, ◌&&◌, cond, List, [], ◌∷◌, refl, sym, ap, ◌∙◌, subst}
use Rattle.std.specs.Prelude.{Contains, Some}
use Rattle.std.proofs.lemmas.Slice.Eq.{bytes_eq-Decides}
use Rattle.pb_base_values.specs.Carrier.{Carrier, Tuple, is_within}
use Rattle.pb_fixpoint.specs.declared.Sign.{Sign}
use Rattle.pb_fixpoint.specs.declared.Sign.TheVariants.{Nu}
use Rattle.pb_text_meaning.specs.Syntax.{Name, same_name, Variable, Equation, Spec}
use Rattle.pb_text_meaning.specs.Syntax as text
use Rattle.pb_text_meaning.specs.Formula.{Instance, carriers_of, equation_named, fits}
use Rattle.pb_text_meaning.specs.Meaning.{assigned}
use Rattle.pb_model_meaning.specs.Syntax.{Formula, Model}
use Rattle.pb_model_meaning.specs.Steps.{data_of, is_state, initial_state}
use Rattle.pb_model_meaning.specs.Satisfaction.{no_sets, satisfying, satisfies}
use Rattle.pb_model_translation.specs.Translation.{has_equation, next_if, equation_count, FixpointScope, right_side, equation, with_equation, equations, translation_by}
use Rattle.pb_model_translation.specs.Apart.{HasNamesApart}
use Rattle.pb_model_translation.specs.Nested.{instance_of}
use Rattle.pb_model_translation.proofs.Data.{other, carriers-same, values-same}
use Rattle.pb_model_range_laws.specs.Calls.{Calls, StaysInRanges, IsReachedByCalls, Initial, Called}
use Rattle.pb_model_range_laws.specs.Negation.{IsNegation, IsBound}
use Rattle.pb_model_range_laws.specs.Laws.{NegationsDecideWithoutCuts}
use Rattle.pb_model_runs.proofs.Elements.{first_of, later_of}
use Rattle.pb_model_range_laws.proofs.Called.{values-here}
use Rattle.pb_model_range_laws.proofs.Contrary.{HasEquations, contrary}

module _ (m : Model) (names : ℕ → Name) where
  -- ---- a text has its formula's equations

  module _ (D : List Equation) where
    abbrev Among : List Equation → Type 0
    Among E = (X : Equation) → Contains E X → Contains D X

    with-first : (b : Bool) (X : Equation) (E : List Equation) → Among (with_equation m names b X E) → (b ≡ true → Contains D X) × Among E
    with-first true X E h = (λ e. h X (first_of X E), λ Y k. h Y (later_of X E Y k))
    with-first false X E h = (λ e. absurd (true≢false (sym e)), h)

    have : (f : Formula) (scope : FixpointScope) (sign : Sign) (n : ℕ) (E : List Equation) → Among (equations m names scope sign n f E) → HasEquations m names D scope n f × Among E
    have (Formula.Truth b) scope sign n E h = (tt, h)
    have (Formula.Data x) scope sign n E h = (tt, h)
    have (Formula.Named X) scope sign n E h = (tt, h)
    have (Formula.Not f) scope sign n E h = have f scope sign n E h
    have (Formula.And f g) scope sign n E h =
        let k = n + equation_count f in
        let first = have f scope sign n (equations m names scope sign k g E) h in
        let second = have g scope sign k E first.1 in
        ((first.0, second.0), second.1)
    have (Formula.Or f g) scope sign n E h =
        let k = n + equation_count f in
        let first = have f scope sign n (equations m names scope sign k g E) h in
        let second = have g scope sign k E first.1 in
        ((first.0, second.0), second.1)
    have (Formula.Implies f g) scope sign n E h =
        let k = n + equation_count f in
        let first = have f scope sign n (equations m names scope sign k g E) h in
        let second = have g scope sign k E first.1 in
        ((first.0, second.0), second.1)
    have (Formula.Box A f) scope sign n E h =
        let k = next_if (has_equation f) n in
        let first = with-first (has_equation f) (equation m names sign n (right_side m names scope k f)) (equations m names scope sign k f E) h in
        let second = have f scope sign k E first.1 in
        ((λ e. (sign, first.0 e), second.0), second.1)
    have (Formula.Diamond A f) scope sign n E h =
        let k = next_if (has_equation f) n in
        let first = with-first (has_equation f) (equation m names sign n (right_side m names scope k f)) (equations m names scope sign k f E) h in
        let second = have f scope sign k E first.1 in
        ((λ e. (sign, first.0 e), second.0), second.1)
    have (Formula.Fixpoint inner X f) scope sign n E h =
        let first = with-first true (equation m names inner n (right_side m names ((X, n) ∷ scope) (suc n) f)) (equations m names ((X, n) ∷ scope) inner (suc n) f E) h in
        let second = have f ((X, n) ∷ scope) inner (suc n) E first.1 in
        ((first.0 refl, second.0), second.1)

  -- ---- each equation is over the states

  abbrev AreOver : List Equation → Type 0
  AreOver [] = Unit {0}
  AreOver (X ∷ E) = (X.parameters ≡ m.variables) × AreOver E

  with-over : (b : Bool) (sign : Sign) (n : ℕ) (right : text.Formula) (E : List Equation) → AreOver E → AreOver (with_equation m names b (equation m names sign n right) E)
  with-over true sign n right E h = (refl, h)
  with-over false sign n right E h = h

  over : (f : Formula) (scope : FixpointScope) (sign : Sign) (n : ℕ) (E : List Equation) → AreOver E → AreOver (equations m names scope sign n f E)
  over (Formula.Truth b) scope sign n E h = h
  over (Formula.Data x) scope sign n E h = h
  over (Formula.Named X) scope sign n E h = h
  over (Formula.Not f) scope sign n E h = over f scope sign n E h
  over (Formula.And f g) scope sign n E h =
      let k = n + equation_count f in
      over f scope sign n (equations m names scope sign k g E) (over g scope sign k E h)
  over (Formula.Or f g) scope sign n E h =
      let k = n + equation_count f in
      over f scope sign n (equations m names scope sign k g E) (over g scope sign k E h)
  over (Formula.Implies f g) scope sign n E h =
      let k = n + equation_count f in
      over f scope sign n (equations m names scope sign k g E) (over g scope sign k E h)
  over (Formula.Box A f) scope sign n E h =
      let k = next_if (has_equation f) n in
      with-over (has_equation f) sign n (right_side m names scope k f) (equations m names scope sign k f E) (over f scope sign k E h)
  over (Formula.Diamond A f) scope sign n E h =
      let k = next_if (has_equation f) n in
      with-over (has_equation f) sign n (right_side m names scope k f) (equations m names scope sign k f E) (over f scope sign k E h)
  over (Formula.Fixpoint inner X f) scope sign n E h = (refl, over f ((X, n) ∷ scope) inner (suc n) E h)

  within-over : (spec : Spec) (E : List Equation) → AreOver E → (x : Name) (vs : Tuple) → fits spec (equation_named E x) vs ≡ true → is_within (carriers_of spec m.variables) vs ≡ true
  within-over spec [] h x vs e = absurd (true≢false (sym e))
  within-over spec (X ∷ E) h x vs e = by (same_name X.name x) (λ k. within-over spec E h.1 x vs k) e
    where
      by : (b : Bool) → (fits spec (equation_named E x) vs ≡ true → is_within (carriers_of spec m.variables) vs ≡ true)
          → fits spec (cond b (Some X) (equation_named E x)) vs ≡ true → is_within (carriers_of spec m.variables) vs ≡ true
      by true later k = ap (λ (xs : List Variable). is_within (carriers_of spec xs) vs) (sym h.0) ∙ k
      by false later k = later k

  -- ---- the whole

  module _ (apart : HasNamesApart m) (f g : Formula) (o : IsNegation f g) (closed : IsBound [] f) (E : List Equation) (are : AreOver E)
      (none : StaysInRanges (other (data_of m) E (names 0) m.initial)) where
    abbrev spec : Spec
    spec = other (data_of m) E (names 0) m.initial

    abbrev S : Instance → Type 0
    S i = IsReachedByCalls spec i

    within : (i : Instance) → S i → is_state m i.values ≡ true
    within i at-i =
        ap (λ (cs : List Carrier). is_within cs i.values) (sym (carriers-same (data_of m) E (names 0) m.initial m.variables))
        ∙ within-over spec E are i.name i.values (none i at-i)

    called : (X : Equation) → Contains E X → (i j : Instance) → same_name X.name i.name ≡ true → S i → Calls spec (assigned X.parameters i.values []) X.right j → S j
    called X there i j same at-i x = Called i j at-i (X, there, same, x)

    first : S (instance_of names 0 (initial_state m))
    first = subst (λ s. S (instance_of names 0 s)) (values-same (data_of m) E (names 0) m.initial m.initial []) Initial

    here : is_state m (initial_state m) ≡ true
    here = within (instance_of names 0 (initial_state m)) first

    verdict : satisfying m no_sets g (initial_state m) ≡ not (satisfying m no_sets f (initial_state m)) → satisfies m g ≡ not (satisfies m f)
    verdict e =
        ap (λ b. b && satisfying m no_sets g (initial_state m)) here ∙ e
        ∙ sym (ap (λ b. not (b && satisfying m no_sets f (initial_state m))) here)

    at-start : (n : ℕ) → HasEquations m names E [] n f
        → ((j : Instance) → Calls spec (assigned m.variables (initial_state m) []) (right_side m names [] n f) j → S j) → satisfies m g ≡ not (satisfies m f)
    at-start n eqs calls =
        verdict (contrary m names E (names 0) m.initial apart S within called f g o [] n eqs closed no_sets no_sets (λ X. tt) (initial_state m) here calls)

  own-whole : (apart : HasNamesApart m) (f g : Formula) → IsNegation f g → IsBound [] f →
      StaysInRanges (other (data_of m) (equation m names Nu 0 (right_side m names [] 1 f) ∷ equations m names [] Nu 1 f []) (names 0) m.initial) → satisfies m g ≡ not (satisfies m f)
  own-whole apart f g o closed none =
      let rest = equations m names [] Nu 1 f [] in
      let X = equation m names Nu 0 (right_side m names [] 1 f) in
      let E = X ∷ rest in
      let are : AreOver E = (refl, over f [] Nu 1 [] tt) in
      at-start apart f g o closed E are none 1 (have E f [] Nu 1 [] (λ Y k. later_of X rest Y k)).0
      (λ j x. called apart f g o closed E are none X (first_of X rest) (instance_of names 0 (initial_state m)) j ((bytes_eq-Decides (names 0) (names 0)).1 refl)
      (first apart f g o closed E are none) x)

  fixpoint-whole : (apart : HasNamesApart m) (sign : Sign) (X : Name) (f g : Formula) → IsNegation (Formula.Fixpoint sign X f) g → IsBound [] (Formula.Fixpoint sign X f) →
      StaysInRanges (other (data_of m) (equations m names [] Nu 0 (Formula.Fixpoint sign X f) []) (names 0) m.initial) → satisfies m g ≡ not (satisfies m (Formula.Fixpoint sign X f))
  fixpoint-whole apart sign X f g o closed none =
      let F = Formula.Fixpoint sign X f in
      let E = equations m names [] Nu 0 F [] in
      let are : AreOver E = over F [] Nu 0 [] tt in
      at-start apart F g o closed E are none 0 (have E F [] Nu 0 [] (λ Y k. k)).0
      (λ j x. subst (IsReachedByCalls (other (data_of m) E (names 0) m.initial))
      (sym (ap (instance_of names 0) (values-here m names E (names 0) m.initial apart (initial_state m) (here apart F g o closed E are none))) ∙ x)
      (first apart F g o closed E are none))

  whole : (apart : HasNamesApart m) (f g : Formula) → IsNegation f g → IsBound [] f → StaysInRanges (translation_by m names f) → satisfies m g ≡ not (satisfies m f)
  whole apart (Formula.Truth b) g o closed none = own-whole apart (Formula.Truth b) g o closed none
  whole apart (Formula.Data x) g o closed none = own-whole apart (Formula.Data x) g o closed none
  whole apart (Formula.Named X) g o closed none = own-whole apart (Formula.Named X) g o closed none
  whole apart (Formula.Not f) g o closed none = own-whole apart (Formula.Not f) g o closed none
  whole apart (Formula.And f h) g o closed none = own-whole apart (Formula.And f h) g o closed none
  whole apart (Formula.Or f h) g o closed none = own-whole apart (Formula.Or f h) g o closed none
  whole apart (Formula.Implies f h) g o closed none = own-whole apart (Formula.Implies f h) g o closed none
  whole apart (Formula.Box A f) g o closed none = own-whole apart (Formula.Box A f) g o closed none
  whole apart (Formula.Diamond A f) g o closed none = own-whole apart (Formula.Diamond A f) g o closed none
  whole apart (Formula.Fixpoint sign X f) g o closed none = fixpoint-whole apart sign X f g o closed none

pub negations_decide : NegationsDecideWithoutCuts
negations_decide m names f g apart o closed none = whole m names apart f g o closed none
