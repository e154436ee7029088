-- A permutation of elements keeps what holds of all or of some elements of the sort.
use Rattle.std.proofs.Common.{◌≡◌, Bool, true, false, true≢false, not, ◌&&◌, ◌||◌, [], ◌∷◌, refl, sym, ap, ◌∙◌}
use Rattle.std.specs.Ordering.{int_eq}
use Rattle.std.specs.List.{list_any, list_all}
use Rattle.std.proofs.lemmas.Bool.Decides.{Decides-int_eq}
use Rattle.pb_base_values.specs.Carrier.{Value, Carrier, contains}
use Rattle.pb_text_tree.specs.declared.operator.Quantifier.{Quantifier}
use Rattle.pb_text_tree.specs.declared.operator.Quantifier.TheVariants.{Forall, Exists}
use Rattle.pb_text_meaning.specs.Value.{of_values}
use Rattle.pb_protocol_symmetry.specs.Permutation.{IsPermutation, AreElements}

-- truth values that imply one another
pub same_by : (a b : Bool) → (a ≡ true → b ≡ true) → (b ≡ true → a ≡ true) → a ≡ b
same_by true true h k = refl
same_by false false h k = refl
same_by true false h k = absurd (true≢false (sym (h refl)))
same_by false true h k = absurd (true≢false (sym (k refl)))

pub by_value : (P : Type 0) (b : Bool) → (b ≡ true → P) → (b ≡ false → P) → P
by_value P true h k = h refl
by_value P false h k = k refl

-- ---- lists

all_from : (Q : Value → Bool) (c : Carrier) → ((v : Value) → contains c v ≡ true → Q v ≡ true) → list_all Q c ≡ true
all_from Q [] h = refl
all_from Q (u ∷ c) h =
    both (Q u) (list_all Q c) (h u (first (int_eq u u) (contains c u) ((Decides-int_eq u u).1 refl)))
    (all_from Q c (λ v e. h v (second (int_eq u v) (contains c v) e)))
  where
    first : (x y : Bool) → x ≡ true → (x || y) ≡ true
    first true y e = refl
    first false y e = absurd (true≢false (sym e))

    second : (x y : Bool) → y ≡ true → (x || y) ≡ true
    second true y e = refl
    second false y e = e

    both : (x y : Bool) → x ≡ true → y ≡ true → (x && y) ≡ true
    both true y e f = f
    both false y e f = absurd (true≢false (sym e))

pub all_at : (Q : Value → Bool) (c : Carrier) → list_all Q c ≡ true → (v : Value) → contains c v ≡ true → Q v ≡ true
all_at Q [] h v e = absurd (true≢false (sym e))
all_at Q (u ∷ c) h v e = by (int_eq u v) (Q u) (list_all Q c) refl refl refl (λ i. all_at Q c i v) h e
  where
    by : (x y z : Bool) → int_eq u v ≡ x → Q u ≡ y → list_all Q c ≡ z → (list_all Q c ≡ true → contains c v ≡ true → Q v ≡ true) → (y && z) ≡ true → (x || contains c v) ≡ true → Q v ≡ true
    by x false z e1 e2 e3 later h e = absurd (true≢false (sym h))
    by true true z e1 e2 e3 later h e = ap Q (sym ((Decides-int_eq u v).0 e1)) ∙ e2
    by false true z e1 e2 e3 later h e = later (e3 ∙ h) e

pub all-same : (Q R : Value → Bool) (c : Carrier) → ((v : Value) → contains c v ≡ true → Q v ≡ R v) → list_all Q c ≡ list_all R c
all-same Q R c h =
    same_by (list_all Q c) (list_all R c)
    (λ e. all_from R c (λ v k. sym (h v k) ∙ all_at Q c e v k))
    (λ e. all_from Q c (λ v k. h v k ∙ all_at R c e v k))

any-not : (Q : Value → Bool) (c : Carrier) → list_any Q c ≡ not (list_all (λ v. not (Q v)) c)
any-not Q [] = refl
any-not Q (u ∷ c) = by (Q u) (list_any Q c) (list_all (λ v. not (Q v)) c) (any-not Q c)
  where
    by : (x y z : Bool) → y ≡ not z → (x || y) ≡ not (not x && z)
    by true y z e = refl
    by false y z e = e

-- ---- permutations

module _ (carrier M : Carrier) (p back : Value → Value) (permutes : IsPermutation M p back) (elements : AreElements carrier M) where
  pub same_when_moved : (v w : Value) → int_eq (p v) (p w) ≡ int_eq v w
  same_when_moved v w =
      same_by (int_eq (p v) (p w)) (int_eq v w)
      (λ e. (Decides-int_eq v w).1 (sym (permutes.here v) ∙ (ap back ((Decides-int_eq (p v) (p w)).0 e) ∙ permutes.here w)))
      (λ e. (Decides-int_eq (p v) (p w)).1 (ap p ((Decides-int_eq v w).0 e)))

  -- what is moved is moved to what is moved
  moves_there : (v : Value) → contains M v ≡ true → contains M (p v) ≡ true
  moves_there v e =
      by_value (contains M (p v) ≡ true) (contains M (p v)) (λ h. h)
      (λ h. ap (contains M) (sym (permutes.here (p v)) ∙ (ap back (permutes.fixes (p v) h) ∙ permutes.here v)) ∙ e)

  pub within : (v : Value) → contains carrier v ≡ true → contains carrier (p v) ≡ true
  within v e =
      by_value (contains carrier (p v) ≡ true) (contains M v)
      (λ h. elements (p v) (moves_there v h))
      (λ h. ap (contains carrier) (permutes.fixes v h) ∙ e)

  pub back-fixes : (v : Value) → contains M v ≡ false → back v ≡ v
  back-fixes v h = ap back (sym (permutes.fixes v h)) ∙ permutes.here v

  back_there : (v : Value) → contains M v ≡ true → contains M (back v) ≡ true
  back_there v e =
      by_value (contains M (back v) ≡ true) (contains M (back v)) (λ h. h)
      (λ h. ap (contains M) (sym (permutes.fixes (back v) h) ∙ permutes.there v) ∙ e)

  pub back-within : (v : Value) → contains carrier v ≡ true → contains carrier (back v) ≡ true
  back-within v e =
      by_value (contains carrier (back v) ≡ true) (contains M v)
      (λ h. elements (back v) (back_there v h))
      (λ h. ap (contains carrier) (back-fixes v h) ∙ e)

  all-moved : (Q : Value → Bool) → list_all Q carrier ≡ list_all (λ v. Q (p v)) carrier
  all-moved Q =
      same_by (list_all Q carrier) (list_all (λ v. Q (p v)) carrier)
      (λ e. all_from (λ v. Q (p v)) carrier (λ v k. all_at Q carrier e (p v) (within v k)))
      (λ e. all_from Q carrier (λ v k. ap Q (sym (permutes.there v)) ∙ all_at (λ w. Q (p w)) carrier e (back v) (back-within v k)))

  -- of all or some elements holds after what held before of those that were moved to them
  pub values-moved : (q : Quantifier) (Q R : Value → Bool) → ((v : Value) → contains carrier v ≡ true → Q (p v) ≡ R v) → of_values q Q carrier ≡ of_values q R carrier
  values-moved Forall Q R h = all-moved Q ∙ all-same (λ v. Q (p v)) R carrier h
  values-moved Exists Q R h =
      any-not Q carrier ∙
      (ap not (all-moved (λ v. not (Q v)) ∙ all-same (λ v. not (Q (p v))) (λ v. not (R v)) carrier (λ v k. ap not (h v k))) ∙
      sym (any-not R carrier))

pub values-same : (q : Quantifier) (Q R : Value → Bool) (c : Carrier) → ((v : Value) → Q v ≡ R v) → of_values q Q c ≡ of_values q R c
values-same Forall Q R c h = all-same Q R c (λ v k. h v)
values-same Exists Q R c h =
    any-not Q c ∙ (ap not (all-same (λ v. not (Q v)) (λ v. not (R v)) c (λ v k. ap not (h v))) ∙ sym (any-not R c))
