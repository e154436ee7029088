-- Two models whose values and successors agree satisfy the same formulas.
use Rattle.std.proofs.Common.{◌≡◌, ℕ, zero, suc, Bool, true, false, true≢false, not, ◌&&◌, ◌||◌, if◌then◌else◌, List, [], ◌∷◌, refl, sym, ap, ◌∙◌}
use Rattle.std.specs.List.{list_any, list_all}
use Rattle.std.proofs.lemmas.Bool.{and_parts}
use Rattle.pb_fixpoint.specs.declared.Sign.{Sign}
use Rattle.pb_fixpoint.specs.declared.Sign.TheVariants.{Mu, Nu}
use Rattle.pb_fixpoint.specs.Solution.{iterate, start}
use Rattle.pb_text_meaning.specs.Syntax.{Name, same_name, Term}
use Rattle.pb_text_meaning.specs.Value.{is_true, value}
use Rattle.pb_text_meaning.specs.Meaning.{assigned}
use Rattle.pb_model_meaning.specs.Syntax.{StepSet, Formula, Model}
use Rattle.pb_model_meaning.specs.Steps.{State, data_of, is_state, state_count, successors}
use Rattle.pb_model_meaning.specs.Satisfaction.{States, Valuation, with_set, is_truth, holds_at, satisfying}
use Rattle.pb_protocol_packing.specs.Said.{said}
use Rattle.pb_protocol_packing.specs.Packing.{Group, with_groups, packed_formula}
use Rattle.pb_protocol_packing.specs.Apart.{is_apart, is_apart_formula}
use Rattle.pb_protocol_packing.specs.Unpacked.{StandsFor, AllStandFor}

chosen-same : (b c x y z w : Bool) → b ≡ c → (b ≡ true → x ≡ y) → z ≡ w → (if b then x else z) ≡ (if c then y else w)
chosen-same true true x y z w e h k = h refl
chosen-same false false x y z w e h k = k
chosen-same true false x y z w e h k = absurd (true≢false e)
chosen-same false true x y z w e h k = absurd (true≢false (sym e))

is_truth-same : (gs : List Group) (f : Formula) → is_truth (packed_formula gs f) ≡ is_truth f
is_truth-same gs (Formula.Truth b) = refl
is_truth-same gs (Formula.Data x) = refl
is_truth-same gs (Formula.Named X) = refl
is_truth-same gs (Formula.Not f) = refl
is_truth-same gs (Formula.And f g) = refl
is_truth-same gs (Formula.Or f g) = refl
is_truth-same gs (Formula.Implies f g) = refl
is_truth-same gs (Formula.Box A f) = refl
is_truth-same gs (Formula.Diamond A f) = refl
is_truth-same gs (Formula.Fixpoint sign X f) = refl

-- a data term holds at a state of n where it does at the state of m
abbrev pub DataIsSame : Model → Model → (State → State) → List Group → Type 0
DataIsSame m n decode gs =
    (x : Term) (t : State) → is_apart gs x ≡ true → is_state n t ≡ true →
    is_true (value (data_of n) (assigned n.variables t []) (said (with_groups gs []) x)) ≡ is_true (value (data_of m) (assigned m.variables (decode t) []) x)

abbrev pub StepsAreSame : Model → Model → (State → State) → Type 0
StepsAreSame m n decode = (A : StepSet) (t : State) → is_state n t ≡ true → AllStandFor m n decode (successors m A (decode t)) (successors n A t)

module _ (m n : Model) (decode : State → State) (gs : List Group) (count : state_count n ≡ state_count m) (data_same : DataIsSame m n decode gs) (steps_same : StepsAreSame m n decode) where
  -- T has the states of n whose states of m are in S
  abbrev Match : States → States → Type 0
  Match S T = (t : State) → is_state n t ≡ true → T t ≡ S (decode t)

  holds_at-same : (f : Formula) (S T : States) → Match S T → (s t : State) → StandsFor m n decode s t → holds_at n (packed_formula gs f) T t ≡ holds_at m f S s
  holds_at-same f S T match s t same =
      chosen-same (is_state n t) (is_state m s) (T t) (S s) (is_truth (packed_formula gs f)) (is_truth f) same.0 (λ e. match t e ∙ ap S (same.1 e)) (is_truth-same gs f)

  all-same : (p q : State → Bool) → ((s t : State) → StandsFor m n decode s t → q t ≡ p s) → (ss ts : List State) → AllStandFor m n decode ss ts → list_all q ts ≡ list_all p ss
  all-same p q h [] [] same = refl
  all-same p q h (s ∷ ss) (t ∷ ts) same = ap (λ b. b && list_all q ts) (h s t same.0) ∙ ap (λ b. p s && b) (all-same p q h ss ts same.1)
  all-same p q h [] (t ∷ ts) same = absurd same
  all-same p q h (s ∷ ss) [] same = absurd same

  any-same : (p q : State → Bool) → ((s t : State) → StandsFor m n decode s t → q t ≡ p s) → (ss ts : List State) → AllStandFor m n decode ss ts → list_any q ts ≡ list_any p ss
  any-same p q h [] [] same = refl
  any-same p q h (s ∷ ss) (t ∷ ts) same = ap (λ b. b || list_any q ts) (h s t same.0) ∙ ap (λ b. p s || b) (any-same p q h ss ts same.1)
  any-same p q h [] (t ∷ ts) same = absurd same
  any-same p q h (s ∷ ss) [] same = absurd same

  iterate-same : (g h : States → States) → ((S T : States) → Match S T → Match (g S) (h T)) → (k : ℕ) (S T : States) → Match S T → Match (iterate k g S) (iterate k h T)
  iterate-same g h step zero S T match = match
  iterate-same g h step (suc k) S T match = step _ _ (iterate-same g h step k S T match)

  start-same : (sign : Sign) → Match (start sign) (start sign)
  start-same Mu t e = refl
  start-same Nu t e = refl

  set-same : (b : Bool) (S T U V : States) → Match S T → Match U V → Match (if b then S else U) (if b then T else V)
  set-same true S T U V ST UV = ST
  set-same false S T U V ST UV = UV

  pub satisfying-same : (f : Formula) → is_apart_formula gs f ≡ true → (ρ τ : Valuation) → ((X : Name) → Match (ρ X) (τ X)) → Match (satisfying m ρ f) (satisfying n τ (packed_formula gs f))
  satisfying-same (Formula.Truth b) apart ρ τ h = λ t e. refl
  satisfying-same (Formula.Data x) apart ρ τ h = λ t e. data_same x t apart e
  satisfying-same (Formula.Named X) apart ρ τ h = h X
  satisfying-same (Formula.Not f) apart ρ τ h = λ t e. ap not (satisfying-same f apart ρ τ h t e)
  satisfying-same (Formula.And f g) apart ρ τ h =
      let parts = and_parts (is_apart_formula gs f) (is_apart_formula gs g) apart in
      λ t e. ap (λ b. b && satisfying n τ (packed_formula gs g) t) (satisfying-same f parts.0 ρ τ h t e) ∙ ap (λ b. satisfying m ρ f (decode t) && b) (satisfying-same g parts.1 ρ τ h t e)
  satisfying-same (Formula.Or f g) apart ρ τ h =
      let parts = and_parts (is_apart_formula gs f) (is_apart_formula gs g) apart in
      λ t e. ap (λ b. b || satisfying n τ (packed_formula gs g) t) (satisfying-same f parts.0 ρ τ h t e) ∙ ap (λ b. satisfying m ρ f (decode t) || b) (satisfying-same g parts.1 ρ τ h t e)
  satisfying-same (Formula.Implies f g) apart ρ τ h =
      let parts = and_parts (is_apart_formula gs f) (is_apart_formula gs g) apart in
      λ t e. ap (λ b. not b || satisfying n τ (packed_formula gs g) t) (satisfying-same f parts.0 ρ τ h t e) ∙ ap (λ b. not (satisfying m ρ f (decode t)) || b) (satisfying-same g parts.1 ρ τ h t e)
  satisfying-same (Formula.Box A f) apart ρ τ h =
      λ t e. all-same _ _ (holds_at-same f (satisfying m ρ f) (satisfying n τ (packed_formula gs f)) (satisfying-same f apart ρ τ h)) (successors m A (decode t)) (successors n A t) (steps_same A t e)
  satisfying-same (Formula.Diamond A f) apart ρ τ h =
      λ t e. any-same _ _ (holds_at-same f (satisfying m ρ f) (satisfying n τ (packed_formula gs f)) (satisfying-same f apart ρ τ h)) (successors m A (decode t)) (successors n A t) (steps_same A t e)
  satisfying-same (Formula.Fixpoint sign X f) apart ρ τ h =
      λ t e. ap (λ k. iterate k (λ S. satisfying n (with_set τ X S) (packed_formula gs f)) (start sign) t) count
      ∙ iterate-same (λ S. satisfying m (with_set ρ X S) f) (λ S. satisfying n (with_set τ X S) (packed_formula gs f))
      (λ S T ST. satisfying-same f apart (with_set ρ X S) (with_set τ X T) (λ Y. set-same (same_name X Y) S T (ρ Y) (τ Y) ST (h Y)))
      (state_count m) (start sign) (start sign) (start-same sign) t e
