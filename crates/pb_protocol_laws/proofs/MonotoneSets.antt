-- Larger sets for the variables that are positive in a formula of a protocol make more states satisfy it.
use Rattle.std.proofs.Common.{◌≡◌, ℕ, zero, suc, Bool, true, false, not, ◌&&◌, ◌||◌, ◌⊎◌, inl, inr, if◌then◌else◌, List, [], ◌∷◌, refl, sym, ◌∙◌, subst, true≢false}
use Rattle.std.proofs.lemmas.Bool.{and_parts, and_from, or_cases, or_left, or_right}
use Rattle.std.specs.Cmp.Lexicographic.{same_text}
use Rattle.std.proofs.lemmas.Slice.Eq.{bytes_eq-Decides}
use Rattle.pb_fixpoint.specs.Solution.{iterate, start}
use Rattle.pb_base_values.specs.Carrier.{Value, Carrier}
use Rattle.pb_text_tree.specs.declared.operator.Quantifier.{Quantifier}
use Rattle.pb_text_tree.specs.declared.operator.Quantifier.TheVariants.{Forall, Exists}
use Rattle.pb_text_meaning.specs.Syntax.{Name, same_name, Variable}
use Rattle.pb_text_meaning.specs.Sorts.{carrier_of}
use Rattle.pb_text_meaning.specs.Value.{Assignment, of_values, quantified}
use Rattle.pb_model_meaning.specs.Steps.{State}
use Rattle.pb_model_meaning.specs.Satisfaction.{States, Valuation, with_set}
use Rattle.pb_model_translation.proofs.Lists.{of_list}
use Rattle.pb_protocol_meaning.specs.Syntax.{Formula, Protocol}
use Rattle.pb_protocol_meaning.specs.Steps.{data_of, is_state, successors}
use Rattle.pb_protocol_meaning.specs.Satisfaction.{state_count, is_truth, holds_at, satisfying}
use Rattle.pb_protocol_laws.specs.PositiveFormulas.{IsPositiveIn, IsPositive}
use Rattle.pb_protocol_laws.specs.Fixpoints.{WithinProtocol}

-- where p has an element, so has r
pub of_list-within : {A : Type 0} (q : Quantifier) (p r : A → Bool) → ((x : A) → p x ≡ true → r x ≡ true) → (xs : List A) → of_list q p xs ≡ true → of_list q r xs ≡ true
of_list-within Forall p r h [] e = e
of_list-within Exists p r h [] e = e
of_list-within Forall p r h (x ∷ xs) e =
    let parts = and_parts (p x) (of_list Forall p xs) e in and_from (r x) (of_list Forall r xs) (h x parts.0) (of_list-within Forall p r h xs parts.1)
of_list-within Exists p r h (x ∷ xs) e =
    elim (or_cases (p x) (of_list Exists p xs) e) [
      | inl here ↦ or_left (r x) (of_list Exists r xs) (h x here)
      | inr later ↦ or_right (r x) (of_list Exists r xs) (of_list-within Exists p r h xs later)
    ]

of_values-within : (q : Quantifier) (p r : Value → Bool) → ((v : Value) → p v ≡ true → r v ≡ true) → (vs : Carrier) → of_values q p vs ≡ true → of_values q r vs ≡ true
of_values-within Forall p r h vs e = of_list-within Forall p r h vs e
of_values-within Exists p r h vs e = of_list-within Exists p r h vs e

module _ (m : Protocol) where
  pub quantified-within : (q : Quantifier) (xs : List Variable) (p r : Assignment → Bool) → ((d : Assignment) → p d ≡ true → r d ≡ true) → (c : Assignment)
      → quantified (data_of m) q xs p c ≡ true → quantified (data_of m) q xs r c ≡ true
  quantified-within q [] p r h c = h c
  quantified-within q (x ∷ xs) p r h c = of_values-within q _ _ (λ v. quantified-within q xs p r h ((x.name, v) ∷ c)) (carrier_of (data_of m) x.sort)

  pub and-within : (S T U V : States) → WithinProtocol m S U → WithinProtocol m T V → WithinProtocol m (λ s. S s && T s) (λ s. U s && V s)
  and-within S T U V SU TV s e x =
      let parts = and_parts (S s) (T s) x in and_from (U s) (V s) (SU s e parts.0) (TV s e parts.1)

  pub or-within : (S T U V : States) → WithinProtocol m S U → WithinProtocol m T V → WithinProtocol m (λ s. S s || T s) (λ s. U s || V s)
  or-within S T U V SU TV s e x =
      elim (or_cases (S s) (T s) x) [ inl l ↦ or_left (U s) (V s) (SU s e l) | inr r ↦ or_right (U s) (V s) (TV s e r) ]

  pub not-within : (S T : States) → WithinProtocol m T S → WithinProtocol m (λ s. not (S s)) (λ s. not (T s))
  not-within S T TS s e x = by (T s) refl
    where
      by : (b : Bool) → T s ≡ b → not b ≡ true
      by true there = absurd (true≢false (sym x ∙ subst (λ (b : Bool). not b ≡ false) (sym (TS s e there)) refl))
      by false there = refl

  holds-within : (f : Formula) (S T : States) → WithinProtocol m S T → (s : State) → holds_at m f S s ≡ true → holds_at m f T s ≡ true
  holds-within f S T ST s = by (is_state m s) refl
    where
      by : (b : Bool) → is_state m s ≡ b → (if b then S s else is_truth f) ≡ true → (if b then T s else is_truth f) ≡ true
      by true e x = ST s e x
      by false e x = x

  iterate-within : (g h : States → States) → ((S T : States) → WithinProtocol m S T → WithinProtocol m (g S) (h T)) →
      (n : ℕ) (S : States) → WithinProtocol m (iterate n g S) (iterate n h S)
  iterate-within g h step zero S = λ s e x. x
  iterate-within g h step (suc n) S = step _ _ (iterate-within g h step n S)

  -- S is at most T, or the other way round
  abbrev Ordered : Bool → States → States → Type 0
  Ordered true S T = WithinProtocol m S T
  Ordered false S T = WithinProtocol m T S

  -- two sets for X, either equal or ordered as X stands in f
  abbrev pub Related : Formula → Name → States → States → Type 0
  Related f X S T = (WithinProtocol m S T × WithinProtocol m T S) ⊎ ((even : Bool) × IsPositiveIn X even f × Ordered even S T)

  part : (f g : Formula) (X : Name) → ((even : Bool) → IsPositiveIn X even f → IsPositiveIn X even g) →
      (S T : States) → Related f X S T → Related g X S T
  part f g X h S T (inl w) = inl w
  part f g X h S T (inr (even, positive, w)) = inr (even, h even positive, w)

  turned : (f g : Formula) (X : Name) → ((even : Bool) → IsPositiveIn X even f → IsPositiveIn X (not even) g) →
      (S T : States) → Related f X S T → Related g X T S
  turned f g X h S T (inl w) = inl (w.1, w.0)
  turned f g X h S T (inr (true, positive, w)) = inr (false, h true positive, w)
  turned f g X h S T (inr (false, positive, w)) = inr (true, h false positive, w)

  named : (X : Name) (S T : States) → Related (Formula.Named X) X S T → WithinProtocol m S T
  named X S T (inl w) = w.0
  named X S T (inr (true, positive, w)) = w
  named X S T (inr (false, positive, w)) = absurd (true≢false (sym (positive ((bytes_eq-Decides X X).1 refl))))

  set-related : (b : Bool) (f : Formula) (Y : Name) (S T U V : States) → (b ≡ true → Related f Y S T) → (b ≡ false → Related f Y U V) →
      Related f Y (if b then S else U) (if b then T else V)
  set-related true f Y S T U V h k = h refl
  set-related false f Y S T U V h k = k refl

  -- S is within T, and the variable of which they are the sets is positive
  ordered-set : (f : Formula) (X Y : Name) (S T : States) → IsPositiveIn X true f → WithinProtocol m S T → same_name X Y ≡ true → Related f Y S T
  ordered-set f X Y S T positive w e = inr (true, subst (λ (Z : Name). IsPositiveIn Z true f) (same_text X Y (sym e)) positive, w)

  satisfying-within : (f : Formula) → IsPositive f → (c : Assignment) (V W : Valuation) → ((X : Name) → Related f X (V X) (W X)) → WithinProtocol m (satisfying m V c f) (satisfying m W c f)
  satisfying-within (Formula.Truth b) p c V W h = λ s e x. x
  satisfying-within (Formula.Data x) p c V W h = λ s e y. y
  satisfying-within (Formula.Named X) p c V W h = named X (V X) (W X) (h X)
  satisfying-within (Formula.Not f) p c V W h =
      not-within (satisfying m V c f) (satisfying m W c f) (satisfying-within f p c W V (λ X. turned (Formula.Not f) f X (λ even r. r) (V X) (W X) (h X)))
  satisfying-within (Formula.And f g) p c V W h =
      let left = satisfying-within f p.0 c V W (λ X. part (Formula.And f g) f X (λ even r. r.0) (V X) (W X) (h X)) in
      let right = satisfying-within g p.1 c V W (λ X. part (Formula.And f g) g X (λ even r. r.1) (V X) (W X) (h X)) in
      and-within (satisfying m V c f) (satisfying m V c g) (satisfying m W c f) (satisfying m W c g) left right
  satisfying-within (Formula.Or f g) p c V W h =
      let left = satisfying-within f p.0 c V W (λ X. part (Formula.Or f g) f X (λ even r. r.0) (V X) (W X) (h X)) in
      let right = satisfying-within g p.1 c V W (λ X. part (Formula.Or f g) g X (λ even r. r.1) (V X) (W X) (h X)) in
      or-within (satisfying m V c f) (satisfying m V c g) (satisfying m W c f) (satisfying m W c g) left right
  satisfying-within (Formula.Implies f g) p c V W h =
      let left = satisfying-within f p.0 c W V (λ X. turned (Formula.Implies f g) f X (λ even r. r.0) (V X) (W X) (h X)) in
      let right = satisfying-within g p.1 c V W (λ X. part (Formula.Implies f g) g X (λ even r. r.1) (V X) (W X) (h X)) in
      or-within (λ s. not (satisfying m V c f s)) (satisfying m V c g) (λ s. not (satisfying m W c f s)) (satisfying m W c g)
      (not-within (satisfying m V c f) (satisfying m W c f) left) right
  satisfying-within (Formula.Box A f) p c V W h =
      let below = satisfying-within f p c V W (λ X. part (Formula.Box A f) f X (λ even r. r) (V X) (W X) (h X)) in
      λ s e. of_list-within Forall _ _ (holds-within f (satisfying m V c f) (satisfying m W c f) below) (successors m c A s)
  satisfying-within (Formula.Diamond A f) p c V W h =
      let below = satisfying-within f p c V W (λ X. part (Formula.Diamond A f) f X (λ even r. r) (V X) (W X) (h X)) in
      λ s e. of_list-within Exists _ _ (holds-within f (satisfying m V c f) (satisfying m W c f) below) (successors m c A s)
  satisfying-within (Formula.Fixpoint sign X f) p c V W h =
      iterate-within (λ S. satisfying m (with_set V X S) c f) (λ S. satisfying m (with_set W X S) c f)
      (λ S T w. satisfying-within f p.1 c (with_set V X S) (with_set W X T)
      (λ Y. set-related (same_name X Y) f Y S T (V Y) (W Y) (ordered-set f X Y S T p.0 w)
      (λ apart. part (Formula.Fixpoint sign X f) f Y (λ even r. r apart) (V Y) (W Y) (h Y))))
      (state_count m) (start sign)
  satisfying-within (Formula.Quantified q xs f) p c V W h =
      λ s e. quantified-within q xs (λ d. satisfying m V d f s) (λ d. satisfying m W d f s)
      (λ d. satisfying-within f p d V W (λ X. part (Formula.Quantified q xs f) f X (λ even r. r) (V X) (W X) (h X)) s e) c

  -- the operator of which a fixpoint is meant is monotone
  pub operator-within : (V : Valuation) (c : Assignment) (X : Name) (f : Formula) → IsPositiveIn X true f → IsPositive f → (S T : States) → WithinProtocol m S T
      → WithinProtocol m (satisfying m (with_set V X S) c f) (satisfying m (with_set V X T) c f)
  operator-within V c X f own p S T w =
      satisfying-within f p c (with_set V X S) (with_set V X T)
      (λ Y. set-related (same_name X Y) f Y S T (V Y) (V Y) (ordered-set f X Y S T own w) (λ apart. inl ((λ s e x. x), (λ s e x. x))))
