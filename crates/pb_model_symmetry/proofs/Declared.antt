-- The equations of a translation are over the model's states, whatever their names.
use Rattle.std.proofs.Common.{◌≡◌, ℕ, suc, ◌+◌, ◌<◌, ◌≤◌, Bool, true, false, true≢false, not, if◌then◌else◌, ◌⊎◌, inl, inr, cond, List, [], ◌∷◌, refl, sym, ap, ◌∙◌, arith}
use Rattle.std.specs.Prelude.{Option, Some}
use Rattle.std.proofs.lemmas.Bool.{cases_lt}
use Rattle.std.proofs.lemmas.Slice.Eq.{bytes_eq-Decides}
use Rattle.pb_base_values.specs.Carrier.{Carrier, is_within}
use Rattle.pb_fixpoint.specs.declared.Sign.{Sign}
use Rattle.pb_fixpoint.specs.declared.Sign.TheVariants.{Nu}
use Rattle.pb_text_meaning.specs.Syntax.{Name, same_name, Variable, Equation}
use Rattle.pb_text_meaning.specs.Syntax as text
use Rattle.pb_text_meaning.specs.Formula.{carriers_of, fits, equation_named}
use Rattle.pb_model_meaning.specs.Syntax.{Formula, Model}
use Rattle.pb_model_meaning.specs.Steps.{data_of}
use Rattle.pb_model_translation.specs.Translation.{has_equation, next_if, equation_count, FixpointScope, text_of, right_side, is_fixpoint, equation, with_equation, equations, total_count, translation_by}
use Rattle.pb_model_translation.specs.Nested.{AreOverStates}
use Rattle.pb_model_translation.proofs.Data.{carriers-same}

-- ---- the names of a formula's equations are declared

module _ (m : Model) (names : ℕ → Name) where
  -- an equation of this number is there, over the state
  abbrev IsDeclared : List Equation → ℕ → Type 0
  IsDeclared E k = (X : Equation) × (equation_named E (names k) ≡ Some X) × (X.parameters ≡ m.variables)

  declared-first : (sign : Sign) (n : ℕ) (right : text.Formula) (E : List Equation) (k : ℕ) → (k ≡ n) ⊎ IsDeclared E k → IsDeclared (equation m names sign n right ∷ E) k
  declared-first sign n right E k h = by (same_name (names n) (names k)) refl
    where
      by : (b : Bool) → same_name (names n) (names k) ≡ b →
          (X : Equation) × (cond b (Some (equation m names sign n right)) (equation_named E (names k)) ≡ Some X) × (X.parameters ≡ m.variables)
      by true e = (equation m names sign n right, refl, refl)
      by false e = elim h [
        | inl same ↦ absurd (true≢false (sym ((bytes_eq-Decides (names n) (names k)).1 (ap names (sym same))) ∙ e))
        | inr later ↦ later
      ]

  abbrev IsAmong : ℕ → ℕ → ℕ → Type 0
  IsAmong n c k = (n ≤ k) × (k < n + c)

  abbrev AreDeclared : Formula → Type 0
  AreDeclared f =
      (scope : FixpointScope) (sign : Sign) (n : ℕ) (E : List Equation) (k : ℕ) → IsAmong n (equation_count f) k ⊎ IsDeclared E k →
      IsDeclared (equations m names scope sign n f E) k

  declared-with : (b : Bool) (sign : Sign) (n : ℕ) (right : text.Formula) (E F : List Equation) (c k : ℕ) →
      (IsAmong (next_if b n) c k ⊎ IsDeclared F k → IsDeclared E k) →
      IsAmong n (next_if b c) k ⊎ IsDeclared F k → IsDeclared (with_equation m names b (equation m names sign n right) E) k
  declared-with false sign n right E F c k rest h = rest h
  declared-with true sign n right E F c k rest (inr later) = declared-first sign n right E k (inr (rest (inr later)))
  declared-with true sign n right E F c k rest (inl among) =
      declared-first sign n right E k (elim (cases_lt n k) [
        | inl less ↦ inr (rest (inl (omega (arith, less), omega (arith, among.1))))
        | inr le ↦ inl (omega (arith, le, among.0))
      ])

  declared-pair : (f g : Formula) → AreDeclared f → AreDeclared g → (scope : FixpointScope) (sign : Sign) (n : ℕ) (E : List Equation) (k : ℕ) →
      IsAmong n (equation_count f + equation_count g) k ⊎ IsDeclared E k →
      IsDeclared (equations m names scope sign n f (equations m names scope sign (n + equation_count f) g E)) k
  declared-pair f g p q scope sign n E k (inr later) =
      p scope sign n (equations m names scope sign (n + equation_count f) g E) k (inr (q scope sign (n + equation_count f) E k (inr later)))
  declared-pair f g p q scope sign n E k (inl among) =
      p scope sign n (equations m names scope sign (n + equation_count f) g E) k (elim (cases_lt k (n + equation_count f)) [
        | inl less ↦ inl (among.0, less)
        | inr le ↦ inr (q scope sign (n + equation_count f) E k (inl (le, omega (arith, among.1))))
      ])

  declared-none : (E : List Equation) (n k : ℕ) → IsAmong n 0 k ⊎ IsDeclared E k → IsDeclared E k
  declared-none E n k (inl among) = absurd (omega (arith, among.0, among.1))
  declared-none E n k (inr later) = later

  declared : (f : Formula) → AreDeclared f
  declared (Formula.Truth b) scope sign n E k h = declared-none E n k h
  declared (Formula.Data x) scope sign n E k h = declared-none E n k h
  declared (Formula.Named X) scope sign n E k h = declared-none E n k h
  declared (Formula.Not f) scope sign n E k h = declared f scope sign n E k h
  declared (Formula.And f g) scope sign n E k h = declared-pair f g (declared f) (declared g) scope sign n E k h
  declared (Formula.Or f g) scope sign n E k h = declared-pair f g (declared f) (declared g) scope sign n E k h
  declared (Formula.Implies f g) scope sign n E k h = declared-pair f g (declared f) (declared g) scope sign n E k h
  declared (Formula.Box A f) scope sign n E k h =
      let i = next_if (has_equation f) n in
      declared-with (has_equation f) sign n (right_side m names scope i f) (equations m names scope sign i f E) E (equation_count f) k (declared f scope sign i E k) h
  declared (Formula.Diamond A f) scope sign n E k h =
      let i = next_if (has_equation f) n in
      declared-with (has_equation f) sign n (right_side m names scope i f) (equations m names scope sign i f E) E (equation_count f) k (declared f scope sign i E k) h
  declared (Formula.Fixpoint inner X f) scope sign n E k h =
      declared-with true inner n (right_side m names ((X, n) ∷ scope) (suc n) f) (equations m names ((X, n) ∷ scope) inner (suc n) f E) E (equation_count f) k
      (declared f ((X, n) ∷ scope) inner (suc n) E k) h

  over_states : (E : List Equation) (N : ℕ) → ((k : ℕ) → k < N → IsDeclared E k) → AreOverStates m names N (text_of m E (names 0) m.initial)
  over_states E N h k less s =
      let spec = text_of m E (names 0) m.initial in
      let X = h k less in
      ap (λ (o : Option Equation). fits spec o s) X.1 ∙
      (ap (λ (xs : List Variable). is_within (carriers_of spec xs) s) X.2 ∙
      ap (λ (cs : List Carrier). is_within cs s) (carriers-same (data_of m) E (names 0) m.initial m.variables))

  pub all-over-states : (f : Formula) → AreOverStates m names (total_count f) (translation_by m names f)
  all-over-states f = by (is_fixpoint f)
    where
      by : (b : Bool) → AreOverStates m names (next_if (not b) (equation_count f)) (text_of m (if b then equations m names [] Nu 0 f [] else
          (equation m names Nu 0 (right_side m names [] 1 f) ∷ equations m names [] Nu 1 f [])) (names 0) m.initial)
      by true =
          over_states (equations m names [] Nu 0 f []) (equation_count f) (λ k less. declared f [] Nu 0 [] k (inl (omega arith, omega (arith, less))))
      by false =
          over_states (equation m names Nu 0 (right_side m names [] 1 f) ∷ equations m names [] Nu 1 f []) (suc (equation_count f))
          (λ k less. declared-with true Nu 0 (right_side m names [] 1 f) (equations m names [] Nu 1 f []) [] (equation_count f) k (declared f [] Nu 1 [] k) (inl (omega arith, omega (arith, less))))
