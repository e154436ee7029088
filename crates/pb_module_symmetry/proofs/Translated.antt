-- The text of a formula is over the model's states, and its calls are of instances alone.
use Rattle.std.proofs.Common.{◌≡◌, ℕ, suc, ◌+◌, Bool, true, false, true≢false, not, ◌&&◌, ◌||◌, cond, if◌then◌else◌, List, [], ◌∷◌, map, Option, Some, None, refl, sym, ap, ◌∙◌}
use Rattle.std.specs.Prelude.{⊤}
use Rattle.std.proofs.Math.Path.{fun_ext}
use Rattle.pb_base_values.specs.Carrier.{Carrier, is_within}
use Rattle.pb_fixpoint.specs.declared.Sign.{Sign}
use Rattle.pb_fixpoint.specs.declared.Sign.TheVariants.{Nu}
use Rattle.pb_fixpoint.specs.Solution.{Environment}
use Rattle.pb_fixpoint_symmetry.specs.Symmetry.{AreClosed, IsSymmetry}
use Rattle.pb_fixpoint_symmetry.proofs.Renamed.{of-fewer}
use Rattle.pb_text_meaning.specs.Syntax.{Name, same_name, Variable, Equation, Spec}
use Rattle.pb_text_meaning.specs.Syntax as text
use Rattle.pb_text_meaning.specs.Value.{Assignment, values, quantified}
use Rattle.pb_text_meaning.specs.Formula.{Instance, carriers_of, equation_named, fits, is_instance, truth}
use Rattle.pb_text_meaning.specs.Meaning.{equation_of, equations_of, assigned}
use Rattle.pb_model_meaning.specs.Syntax.{Formula, Model}
use Rattle.pb_model_meaning.specs.Steps.{State, data_of, is_state}
use Rattle.pb_model_translation.specs.Translation.{has_equation, next_if, equation_count, FixpointScope, right_side, is_fixpoint, equation, with_equation, equations, all_equations, translation_by}
use Rattle.pb_model_translation.proofs.Data.{carriers-same}
use Rattle.pb_model_symmetry.specs.Symmetry.{is_at_state, carried}
use Rattle.pb_module_symmetry.specs.Numbers.{KeepsEquations}

-- ---- a text calls instances alone

guarded : (b x y : Bool) → (b ≡ true → x ≡ y) → (b && x) ≡ (b && y)
guarded true x y h = h refl
guarded false x y h = refl

module _ (spec : Spec) (t u : Environment Instance) (agree : (i : Instance) → is_instance spec i ≡ true → u i ≡ t i) where
  closed-truth : (f : text.Formula) (a : Assignment) → truth spec a u f ≡ truth spec a t f
  closed-truth (text.Formula.Truth b) a = refl
  closed-truth (text.Formula.Val x) a = refl
  closed-truth (text.Formula.Not f) a = ap not (closed-truth f a)
  closed-truth (text.Formula.And f g) a = ap (λ b. b && truth spec a u g) (closed-truth f a) ∙ ap (λ b. truth spec a t f && b) (closed-truth g a)
  closed-truth (text.Formula.Or f g) a = ap (λ b. b || truth spec a u g) (closed-truth f a) ∙ ap (λ b. truth spec a t f || b) (closed-truth g a)
  closed-truth (text.Formula.Implies f g) a =
      ap (λ b. not b || truth spec a u g) (closed-truth f a) ∙ ap (λ b. not (truth spec a t f) || b) (closed-truth g a)
  closed-truth (text.Formula.Quantified q xs f) a =
      ap (λ (p : Assignment → Bool). quantified spec q xs p a) (fun_ext (λ (b : Assignment). closed-truth f b))
  closed-truth (text.Formula.Call X es) a =
      let i : Instance = record { name = X; values = values spec a es } in
      guarded (is_instance spec i) (u i) (t i) (agree i)

pub texts-closed : (spec : Spec) (E : List Equation) → AreClosed (is_instance spec) (map (equation_of spec) E)
texts-closed spec [] = tt
texts-closed spec (X ∷ E) = (
  record {
    sign = refl;
    size = refl;
    owns = λ i k. refl;
    holds = λ t u tu i k. closed-truth spec t u tu X.right (assigned X.parameters i.values []);
  },
  texts-closed spec E,
)

-- ---- the equations of a formula are over the state

module _ (m : Model) (names : ℕ → Name) where
  abbrev pub AreOver : List Equation → Type 0
  AreOver [] = ⊤
  AreOver (X ∷ E) = (X.parameters ≡ m.variables) × AreOver E

  over-with : (b : Bool) (sign : Sign) (n : ℕ) (right : text.Formula) (E : List Equation) → AreOver E → AreOver (with_equation m names b (equation m names sign n right) E)
  over-with true sign n right E h = (refl, h)
  over-with false sign n right E h = h

  over : (f : Formula) (scope : FixpointScope) (sign : Sign) (n : ℕ) (E : List Equation) → AreOver E → AreOver (equations m names scope sign n f E)
  over (Formula.Truth b) scope sign n E h = h
  over (Formula.Data x) scope sign n E h = h
  over (Formula.Named X) scope sign n E h = h
  over (Formula.Not f) scope sign n E h = over f scope sign n E h
  over (Formula.And f g) scope sign n E h = over f scope sign n _ (over g scope sign (n + equation_count f) E h)
  over (Formula.Or f g) scope sign n E h = over f scope sign n _ (over g scope sign (n + equation_count f) E h)
  over (Formula.Implies f g) scope sign n E h = over f scope sign n _ (over g scope sign (n + equation_count f) E h)
  over (Formula.Box A f) scope sign n E h =
      let i = next_if (has_equation f) n in
      over-with (has_equation f) sign n (right_side m names scope i f) _ (over f scope sign i E h)
  over (Formula.Diamond A f) scope sign n E h =
      let i = next_if (has_equation f) n in
      over-with (has_equation f) sign n (right_side m names scope i f) _ (over f scope sign i E h)
  over (Formula.Fixpoint inner X f) scope sign n E h = (refl, over f ((X, n) ∷ scope) inner (suc n) E h)

  pub all-over : (g : Formula) → AreOver (all_equations m names g)
  all-over g = by (is_fixpoint g)
    where
      by : (b : Bool) → AreOver (if b then equations m names [] Nu 0 g [] else (equation m names Nu 0 (right_side m names [] 1 g) ∷ equations m names [] Nu 1 g []))
      by true = over g [] Nu 0 [] tt
      by false = (refl, over g [] Nu 1 [] tt)

  found-over : (E : List Equation) (x : Name) (X : Equation) → AreOver E → equation_named E x ≡ Some X → X.parameters ≡ m.variables
  found-over [] x X h e = cc
  found-over (Y ∷ E) x X h e = by (same_name Y.name x) e (λ k. found-over E x X h.1 k)
    where
      by : (b : Bool) → cond b (Some Y) (equation_named E x) ≡ Some X → (equation_named E x ≡ Some X → X.parameters ≡ m.variables) → X.parameters ≡ m.variables
      by true e later = let same : Y ≡ X = cc in ap (λ (Z : Equation). Z.parameters) (sym same) ∙ h.0
      by false e later = later e

  module _ (g : Formula) (f : State → State) (states : (s : State) → is_state m (f s) ≡ is_state m s) where
    abbrev spec : Spec
    spec = translation_by m names g

    -- the values of an instance are a state
    at-state : (o : Option Equation) (x : Name) → equation_named spec.equations x ≡ o → (s : State) → fits spec o s ≡ true
        → (X : Equation) × (o ≡ Some X) × (is_within (carriers_of spec X.parameters) s ≡ is_state m s)
    at-state None x e s k = absurd (true≢false (sym k))
    at-state (Some X) x e s k = (
      X,
      refl,
      ap (λ (xs : List Variable). is_within (carriers_of spec xs) s) (found-over spec.equations x X (all-over g) e)
          ∙ ap (λ (cs : List Carrier). is_within cs s) (carriers-same (data_of m) (all_equations m names g) (names 0) m.initial m.variables),
    )

    pub within : (i : Instance) → is_instance spec i ≡ true → is_at_state m i ≡ true
    within i k =
        let q = at-state (equation_named spec.equations i.name) i.name refl i.values k in
        sym q.2 ∙ ap (λ (o : Option Equation). fits spec o i.values) (sym q.1) ∙ k

    pub keeps-equations : KeepsEquations spec (carried f)
    keeps-equations = record {
      names = λ i. refl;
      known = λ i k.
          let o = equation_named spec.equations i.name in
          let q = at-state o i.name refl i.values k in
          let same = ap (λ (xs : List Variable). is_within (carriers_of spec xs) (f i.values)) (found-over spec.equations i.name q.0 (all-over g) q.1)
          ∙ ap (λ (cs : List Carrier). is_within cs (f i.values)) (carriers-same (data_of m) (all_equations m names g) (names 0) m.initial m.variables) in
          ap (λ (p : Option Equation). fits spec p (f i.values)) q.1 ∙ (same ∙ (states i.values ∙ within i k));
    }

    pub of-instances : IsSymmetry (is_at_state m) (equations_of spec) (carried f) → IsSymmetry (is_instance spec) (equations_of spec) (carried f)
    of-instances s = of-fewer Instance (is_at_state m) (is_instance spec) within (carried f) (equations_of spec) (texts-closed spec spec.equations) s
