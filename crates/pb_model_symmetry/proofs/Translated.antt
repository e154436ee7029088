-- A symmetry of a model and a formula is one of the equations to which they are translated.
use Rattle.std.proofs.Common.{◌≡◌, ℕ, suc, ◌+◌, ◌≤◌, Bool, true, false, not, ◌&&◌, ◌||◌, if◌then◌else◌, List, [], ◌∷◌, map, refl, sym, ap, ◌∙◌, subst, arith}
use Rattle.pb_base_values.specs.Carrier.{Carrier, is_within}
use Rattle.pb_fixpoint.specs.declared.Sign.{Sign}
use Rattle.pb_fixpoint.specs.declared.Sign.TheVariants.{Nu}
use Rattle.pb_fixpoint.specs.Solution.{Environment}
use Rattle.pb_fixpoint.specs.Transfer.{Matches, IsSame, AreSame}
use Rattle.pb_text_meaning.specs.Syntax.{Name, same_name, Terms, Equation, Spec}
use Rattle.pb_text_meaning.specs.Formula.{Instance, carriers_of}
use Rattle.pb_text_meaning.specs.Meaning.{equation_of}
use Rattle.pb_model_meaning.specs.Syntax.{Formula, Model}
use Rattle.pb_model_meaning.specs.Steps.{State, data_of, is_state, successors}
use Rattle.pb_model_translation.specs.Translation.{has_equation, is_fixpoint, next_if, equation_count, total_count, Callee, Constant, Numbered, FixpointScope, operand_callee, callee_of, text_of, right_side, equation, with_equation, equations, all_equations}
use Rattle.pb_model_translation.specs.Apart.{HasNamesApart}
use Rattle.pb_model_translation.specs.Nested.{AreOverStates, ScopeIsBelow, callee_truth, instance_of, sets_in}
use Rattle.pb_model_meaning.specs.Satisfaction.{States, holds_at, satisfying}
use Rattle.pb_model_meaning.proofs.Same.{all-same, any-same}
use Rattle.pb_model_translation.proofs.Data.{other, carriers-same}
use Rattle.pb_model_translation.proofs.RightSides.{truth_by, right-truth}
use Rattle.pb_model_symmetry.specs.Symmetry.{seen, KeepsFormula, OfWhole, OfNot, OfAnd, OfOr, OfImplies, OfBox, OfDiamond, OfFixpoint, is_at_state, carried}
use Rattle.pb_model_symmetry.specs.Laws.{TranslationsAreSymmetric}
use Rattle.pb_model_symmetry.proofs.Declared.{all-over-states}
use Rattle.pb_model_symmetry.proofs.Satisfied.{two, all-carried, any-carried}

and_same : (b x y : Bool) → (b ≡ true → x ≡ y) → (b && x) ≡ (b && y)
and_same true x y h = h refl
and_same false x y h = refl

next-le : (b : Bool) (n c N : ℕ) → n + next_if b c ≤ N → next_if b n + c ≤ N
next-le true n c N le = omega arith
next-le false n c N le = le

-- ---- formulas without equations of their own

module _ (m : Model) (names : ℕ → Name) where
  callee-outside : (scope : FixpointScope) (X : Name) (t : Environment Instance) (s : State) → is_state m s ≡ false → callee_truth m names (callee_of scope X) t s ≡ false
  callee-outside [] X t s e = refl
  callee-outside ((Y, n) ∷ scope) X t s e = by (same_name Y X) (callee-outside scope X t s e)
    where
      by : (b : Bool) → callee_truth m names (callee_of scope X) t s ≡ false → callee_truth m names (if b then Numbered n else callee_of scope X) t s ≡ false
      by true h = ap (λ b. b && t (instance_of names n s)) e
      by false h = h

  by_test : (b x y z : Bool) → (b ≡ true → x ≡ y) → (b ≡ false → x ≡ z) → x ≡ (if b then y else z)
  by_test true x y z h k = h refl
  by_test false x y z h k = k refl

  none-left : (b : Bool) (c : ℕ) → next_if b c ≡ 0 → (b ≡ false) × (c ≡ 0)
  none-left true c e = absurd (omega (arith, e))
  none-left false c e = (refl, e)

  -- an operand that has no equations is a truth value or a variable
  operand-plain : (scope : FixpointScope) (n : ℕ) (g : Formula) → next_if (has_equation g) (equation_count g) ≡ 0 → (t : Environment Instance) (r : State) →
      callee_truth m names (operand_callee scope n g) t r ≡ holds_at m g (satisfying m (sets_in m names scope t) g) r
  operand-plain scope n (Formula.Truth b) none t r = by_test (is_state m r) b b b (λ e. refl) (λ e. refl)
  operand-plain scope n (Formula.Named X) none t r =
      by_test (is_state m r) (callee_truth m names (callee_of scope X) t r) (callee_truth m names (callee_of scope X) t r) false (λ e. refl) (callee-outside scope X t r)
  operand-plain scope n (Formula.Fixpoint sign X g) none t r = absurd (omega (arith, none))
  operand-plain scope n (Formula.Data x) none t r = absurd (omega (arith, none))
  operand-plain scope n (Formula.Not g) none t r = absurd (omega (arith, none))
  operand-plain scope n (Formula.And g h) none t r = absurd (omega (arith, none))
  operand-plain scope n (Formula.Or g h) none t r = absurd (omega (arith, none))
  operand-plain scope n (Formula.Implies g h) none t r = absurd (omega (arith, none))
  operand-plain scope n (Formula.Box A g) none t r = absurd (omega (arith, none))
  operand-plain scope n (Formula.Diamond A g) none t r = absurd (omega (arith, none))

  whole-truth : (g : Formula) → equation_count g ≡ 0 → (scope : FixpointScope) (n : ℕ) (t : Environment Instance) (s : State) →
      truth_by m names scope n g t s ≡ satisfying m (sets_in m names scope t) g s
  whole-truth (Formula.Truth b) none scope n t s = refl
  whole-truth (Formula.Data x) none scope n t s = refl
  whole-truth (Formula.Named X) none scope n t s = refl
  whole-truth (Formula.Not g) none scope n t s = ap not (whole-truth g none scope n t s)
  whole-truth (Formula.And g h) none scope n t s =
      two (λ x y. x && y) _ _ _ _ (whole-truth g (omega (arith, none)) scope n t s) (whole-truth h (omega (arith, none)) scope (n + equation_count g) t s)
  whole-truth (Formula.Or g h) none scope n t s =
      two (λ x y. x || y) _ _ _ _ (whole-truth g (omega (arith, none)) scope n t s) (whole-truth h (omega (arith, none)) scope (n + equation_count g) t s)
  whole-truth (Formula.Implies g h) none scope n t s =
      two (λ x y. not x || y) _ _ _ _ (whole-truth g (omega (arith, none)) scope n t s) (whole-truth h (omega (arith, none)) scope (n + equation_count g) t s)
  whole-truth (Formula.Box A g) none scope n t s = all-same m _ _ (operand-plain scope n g none t) (successors m A s)
  whole-truth (Formula.Diamond A g) none scope n t s = any-same m _ _ (operand-plain scope n g none t) (successors m A s)
  whole-truth (Formula.Fixpoint sign X g) none scope n t s = absurd (omega (arith, none))

  -- the states that a call may reach
  abbrev callee_set : Callee → Environment Instance → States
  callee_set (Constant b) t = λ s. b
  callee_set (Numbered n) t = λ s. t (instance_of names n s)

  abbrev callee_default : Callee → Bool
  callee_default (Constant b) = b
  callee_default (Numbered n) = false

  callee-seen : (c : Callee) (t : Environment Instance) (s : State) → callee_truth m names c t s ≡ seen m (callee_set c t) (callee_default c) s
  callee-seen (Constant b) t s = by_test (is_state m s) b b b (λ e. refl) (λ e. refl)
  callee-seen (Numbered n) t s =
      by_test (is_state m s) (is_state m s && t (instance_of names n s)) (t (instance_of names n s)) false
      (λ e. ap (λ b. b && t (instance_of names n s)) e) (λ e. ap (λ b. b && t (instance_of names n s)) e)

module _ (m : Model) (names : ℕ → Name) (f : State → State) (states : (s : State) → is_state m (f s) ≡ is_state m s)
    (t u : Environment Instance) (tu : Matches (is_at_state m) (carried f) t u) where
  callee-kept : (c : Callee) (s : State) → callee_truth m names c t (f s) ≡ callee_truth m names c u s
  callee-kept (Constant b) s = refl
  callee-kept (Numbered n) s =
      ap (λ b. b && t (instance_of names n (f s))) (states s) ∙
      and_same (is_state m s) (t (instance_of names n (f s))) (u (instance_of names n s)) (λ e. sym (tu (instance_of names n s) e))

  truth-kept : (g : Formula) → KeepsFormula m f g → (scope : FixpointScope) (n : ℕ) (s : State) → is_state m s ≡ true →
      truth_by m names scope n g t (f s) ≡ truth_by m names scope n g u s
  truth-kept _ (OfWhole g k) scope n s e =
      whole-truth m names g k.alone scope n t (f s) ∙
      (k.same (sets_in m names scope u) (sets_in m names scope t) (λ X r h. callee-kept (callee_of scope X) r) s e ∙
      sym (whole-truth m names g k.alone scope n u s))
  truth-kept _ (OfNot g k) scope n s e = ap not (truth-kept g k scope n s e)
  truth-kept _ (OfAnd g h k l) scope n s e =
      two (λ x y. x && y) _ _ _ _ (truth-kept g k scope n s e) (truth-kept h l scope (n + equation_count g) s e)
  truth-kept _ (OfOr g h k l) scope n s e =
      two (λ x y. x || y) _ _ _ _ (truth-kept g k scope n s e) (truth-kept h l scope (n + equation_count g) s e)
  truth-kept _ (OfImplies g h k l) scope n s e =
      two (λ x y. not x || y) _ _ _ _ (truth-kept g k scope n s e) (truth-kept h l scope (n + equation_count g) s e)
  truth-kept _ (OfBox A g k l) scope n s e =
      let c = operand_callee scope n g in
      all-carried m f states A k (callee_set m names c t) (callee_default m names c) _ _ (callee-seen m names c t) (callee-kept c) s e
  truth-kept _ (OfDiamond A g k l) scope n s e =
      let c = operand_callee scope n g in
      any-carried m f states A k (callee_set m names c t) (callee_default m names c) _ _ (callee-seen m names c t) (callee-kept c) s e
  truth-kept _ (OfFixpoint sign X g k) scope n s e = callee-kept (Numbered n) s

module _ (m : Model) (names : ℕ → Name) (f : State → State) (states : (s : State) → is_state m (f s) ≡ is_state m s)
    (D : List Equation) (x0 : Name) (es : Terms) (N : ℕ) (over : AreOverStates m names N (text_of m D x0 es)) (apart : HasNamesApart m) where
  abbrev spec : Spec
  spec = other (data_of m) D x0 es

  abbrev AreKept : List Equation → Type 0
  AreKept E = AreSame (is_at_state m) (carried f) (map (equation_of spec) E) (map (equation_of spec) E)

  within : (s : State) → is_within (carriers_of spec m.variables) s ≡ is_state m s
  within s = ap (λ (cs : List Carrier). is_within cs s) (carriers-same (data_of m) D x0 es m.variables)

  equation-kept : (g : Formula) → KeepsFormula m f g → (scope : FixpointScope) → ScopeIsBelow N scope → (n : ℕ) → n + equation_count g ≤ N → (sign : Sign) (j : ℕ) →
      IsSame (is_at_state m) (carried f) (equation_of spec (equation m names sign j (right_side m names scope n g))) (equation_of spec (equation m names sign j (right_side m names scope n g)))
  equation-kept g k scope below n le sign j = record {
    sign = refl;
    size = refl;
    owns = λ i e. ap (λ b. same_name (names j) i.name && b) (within i.values ∙ (sym (states i.values) ∙ sym (within (f i.values))));
    holds = λ t u tu i e.
        right-truth m names D x0 es N over apart g scope below n le u i.values e ∙
        (sym (truth-kept m names f states t u tu g k scope n i.values e) ∙
        sym (right-truth m names D x0 es N over apart g scope below n le t (f i.values) (states i.values ∙ e)));
  }

  with-kept : (b : Bool) (X : Equation) (E : List Equation) → IsSame (is_at_state m) (carried f) (equation_of spec X) (equation_of spec X) → AreKept E → AreKept (with_equation m names b X E)
  with-kept true X E h rest = (h, rest)
  with-kept false X E h rest = rest

  -- a modality's operand without equations is a truth value or a variable
  operand-none : (g : Formula) → next_if (has_equation g) (equation_count g) ≡ 0 → (scope : FixpointScope) (sign : Sign) (n : ℕ) (E : List Equation) →
      with_equation m names (has_equation g) (equation m names sign n (right_side m names scope (next_if (has_equation g) n) g)) (equations m names scope sign (next_if (has_equation g) n) g E) ≡ E
  operand-none (Formula.Truth b) none scope sign n E = refl
  operand-none (Formula.Named X) none scope sign n E = refl
  operand-none (Formula.Fixpoint inner X g) none scope sign n E = absurd (omega (arith, none))
  operand-none (Formula.Data x) none scope sign n E = absurd (omega (arith, none))
  operand-none (Formula.Not g) none scope sign n E = absurd (omega (arith, none))
  operand-none (Formula.And g h) none scope sign n E = absurd (omega (arith, none))
  operand-none (Formula.Or g h) none scope sign n E = absurd (omega (arith, none))
  operand-none (Formula.Implies g h) none scope sign n E = absurd (omega (arith, none))
  operand-none (Formula.Box A g) none scope sign n E = absurd (omega (arith, none))
  operand-none (Formula.Diamond A g) none scope sign n E = absurd (omega (arith, none))

  -- a formula without equations adds none
  none-kept : (g : Formula) → equation_count g ≡ 0 → (scope : FixpointScope) (sign : Sign) (n : ℕ) (E : List Equation) → equations m names scope sign n g E ≡ E
  none-kept (Formula.Truth b) none scope sign n E = refl
  none-kept (Formula.Data x) none scope sign n E = refl
  none-kept (Formula.Named X) none scope sign n E = refl
  none-kept (Formula.Not g) none scope sign n E = none-kept g none scope sign n E
  none-kept (Formula.And g h) none scope sign n E =
      none-kept g (omega (arith, none)) scope sign n _ ∙ none-kept h (omega (arith, none)) scope sign (n + equation_count g) E
  none-kept (Formula.Or g h) none scope sign n E =
      none-kept g (omega (arith, none)) scope sign n _ ∙ none-kept h (omega (arith, none)) scope sign (n + equation_count g) E
  none-kept (Formula.Implies g h) none scope sign n E =
      none-kept g (omega (arith, none)) scope sign n _ ∙ none-kept h (omega (arith, none)) scope sign (n + equation_count g) E
  none-kept (Formula.Box A g) none scope sign n E = operand-none g none scope sign n E
  none-kept (Formula.Diamond A g) none scope sign n E = operand-none g none scope sign n E
  none-kept (Formula.Fixpoint inner X g) none scope sign n E = absurd (omega (arith, none))

  equations-kept : (g : Formula) → KeepsFormula m f g → (scope : FixpointScope) → ScopeIsBelow N scope → (sign : Sign) (n : ℕ) (E : List Equation) → n + equation_count g ≤ N →
      AreKept E → AreKept (equations m names scope sign n g E)
  equations-kept _ (OfWhole g k) scope below sign n E le h = subst AreKept (sym (none-kept g k.alone scope sign n E)) h
  equations-kept _ (OfNot g k) scope below sign n E le h = equations-kept g k scope below sign n E le h
  equations-kept _ (OfAnd g i k l) scope below sign n E le h =
      equations-kept g k scope below sign n _ (omega arith) (equations-kept i l scope below sign (n + equation_count g) E (omega arith) h)
  equations-kept _ (OfOr g i k l) scope below sign n E le h =
      equations-kept g k scope below sign n _ (omega arith) (equations-kept i l scope below sign (n + equation_count g) E (omega arith) h)
  equations-kept _ (OfImplies g i k l) scope below sign n E le h =
      equations-kept g k scope below sign n _ (omega arith) (equations-kept i l scope below sign (n + equation_count g) E (omega arith) h)
  equations-kept _ (OfBox A g keeps k) scope below sign n E le h =
      let j = next_if (has_equation g) n in
      let fits = next-le (has_equation g) n (equation_count g) N le in
      with-kept (has_equation g) (equation m names sign n (right_side m names scope j g)) (equations m names scope sign j g E)
      (equation-kept g k scope below j fits sign n) (equations-kept g k scope below sign j E fits h)
  equations-kept _ (OfDiamond A g keeps k) scope below sign n E le h =
      let j = next_if (has_equation g) n in
      let fits = next-le (has_equation g) n (equation_count g) N le in
      with-kept (has_equation g) (equation m names sign n (right_side m names scope j g)) (equations m names scope sign j g E)
      (equation-kept g k scope below j fits sign n) (equations-kept g k scope below sign j E fits h)
  equations-kept _ (OfFixpoint inner X g k) scope below sign n E le h = (
    equation-kept g k ((X, n) ∷ scope) (omega arith, below) (suc n) (omega arith) inner n,
    equations-kept g k ((X, n) ∷ scope) (omega arith, below) inner (suc n) E (omega arith) h,
  )

  pub all-kept : (g : Formula) → KeepsFormula m f g → total_count g ≤ N → AreKept (all_equations m names g)
  all-kept g k le = by (is_fixpoint g) le
    where
      by : (b : Bool) → next_if (not b) (equation_count g) ≤ N → AreKept (if b then equations m names [] Nu 0 g [] else
          (equation m names Nu 0 (right_side m names [] 1 g) ∷ equations m names [] Nu 1 g []))
      by true le = equations-kept g k [] tt Nu 0 [] (omega arith) tt
      by false le = (equation-kept g k [] tt 1 (omega arith) Nu 0, equations-kept g k [] tt Nu 1 [] (omega arith) tt)

pub symmetric : TranslationsAreSymmetric
symmetric m names g f apart sym-of =
    all-kept m names f sym-of.states (all_equations m names g) (names 0) m.initial (total_count g) (all-over-states m names g) apart g sym-of.formula (omega arith)
