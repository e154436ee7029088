-- Written values have their values.
use Rattle.std.proofs.Common.{◌≡◌, ℕ, zero, suc, Bool, true, false, true≢false, if◌then◌else◌, List, [], ◌∷◌, ◌++◌, map, length, refl, sym, ap, ◌∙◌, subst, arith}
use Rattle.std.specs.Prelude.{ℤ, pos, ◌+ℤ◌, ◌-ℤ◌, nat_eq, Option, Some, None, unwrap_or, codes}
use Rattle.std.proofs.lemmas.Int.{ints}
use Rattle.std.specs.Ordering.{int_eq}
use Rattle.std.proofs.lemmas.Bool.Decides.{Decides-int_eq, Decides-eqb}
use Rattle.pb_base_values.specs.Carrier.{Value, Carrier, numbers_from, at_least_none, interval}
use Rattle.pb_text_meaning.specs.Syntax.{Name, same_name, Term, Enumerator, Sort, Struct, Alias, SortDeclaration, Range, Spec}
use Rattle.pb_text_meaning.specs.Sorts.{carrier_of, carrier_by, carrier_within, declared, range_of, place_from, or_else, place_within, place_in}
use Rattle.pb_text_meaning.specs.Value.{Assignment, named_value, value}
use Rattle.pb_protocol_folding.specs.Folding.{number}
use Rattle.pb_protocol_folding.specs.Names.{IsNot, AreDistinct, names_in, enumerators_in, HidesNoEnumerator}
use Rattle.pb_protocol_folding.proofs.FoldedModels.{same-names, same-self}
use Rattle.pb_protocol_folding.proofs.FoldingLaws.{number-value}
use Rattle.pb_protocol_unfolding.specs.Written.{written_by, written_within, same_negative, same_written}
use Rattle.pb_protocol_unfolding.specs.TermLaws.{KeepsWrittenValues}

numbers-values : (spec : Spec) (a : Assignment) (vs : Carrier) → map (value spec a) (map number vs) ≡ vs
numbers-values spec a [] = refl
numbers-values spec a (v ∷ vs) = ap (λ u. u ∷ map (value spec a) (map number vs)) (number-value spec a v) ∙ ap (λ us. v ∷ us) (numbers-values spec a vs)

-- ---- places of enumerators

-- the place of an enumerator in these sorts, and in this sort
abbrev place_of : List SortDeclaration → Name → Option ℕ
place_of ds x = place_in (λ e. same_name e.name x) ds

abbrev place_here : ℕ → List Enumerator → Name → Option ℕ
place_here n es x = place_from n (λ e. same_name e.name x) es

-- their places are n, n + 1, ..
abbrev Placed : (Name → Option ℕ) → ℕ → List Enumerator → Type 0
Placed f n [] = Unit {0}
Placed f n (e ∷ es) = (f e.name ≡ Some n) × Placed f (suc n) es

placed-through : (f g : Name → Option ℕ) → ((x : Name) (k : ℕ) → f x ≡ Some k → g x ≡ Some k) → (n : ℕ) (es : List Enumerator) → Placed f n es → Placed g n es
placed-through f g h n [] p = tt
placed-through f g h n (e ∷ es) p = (h e.name n p.0, placed-through f g h (suc n) es p.1)

not-here : (n : ℕ) (es : List Enumerator) (x : Name) → IsNot x (map (λ (e : Enumerator). e.name) es) → place_here n es x ≡ None
not-here n [] x new = refl
not-here n (e ∷ es) x new = by (same_name e.name x) new.0 ∙ not-here (suc n) es x new.1
  where
    by : (b : Bool) → b ≡ false → (if b then Some n else place_here (suc n) es x) ≡ place_here (suc n) es x
    by true h = absurd (true≢false h)
    by false h = refl

is-not-left : (x : Name) (xs ys : List Name) → IsNot x (xs ++ ys) → IsNot x xs
is-not-left x [] ys h = tt
is-not-left x (y ∷ xs) ys h = (h.0, is-not-left x xs ys h.1)

is-not-right : (x : Name) (xs ys : List Name) → IsNot x (xs ++ ys) → IsNot x ys
is-not-right x [] ys h = h
is-not-right x (y ∷ xs) ys h = is-not-right x xs ys h.1

distinct-right : (xs ys : List Name) → AreDistinct (xs ++ ys) → AreDistinct ys
distinct-right [] ys h = h
distinct-right (x ∷ xs) ys h = distinct-right xs ys h.1

abbrev names : List Enumerator → List Name
names es = map (λ (e : Enumerator). e.name) es

placed-here : (n : ℕ) (es : List Enumerator) (others : List Name) → AreDistinct (names es ++ others) → Placed (place_here n es) n es
placed-here n [] others apart = tt
placed-here n (e ∷ es) others apart = (
  ap (λ b. if b then Some n else place_here (suc n) es e.name) (same-self e.name),
  placed-through (place_here (suc n) es) (place_here n (e ∷ es)) (λ x k at. by x k (same_name e.name x) refl at) (suc n) es (placed-here (suc n) es others apart.1),
)
  where
    by : (x : Name) (k : ℕ) (b : Bool) → same_name e.name x ≡ b → place_here (suc n) es x ≡ Some k → (if b then Some n else place_here (suc n) es x) ≡ Some k
    by x k false h at = at
    by x k true h at =
        let none : place_here (suc n) es e.name ≡ None = not-here (suc n) es e.name (is-not-left e.name (names es) others apart.0) in
        let here : place_here (suc n) es e.name ≡ Some k = ap (place_here (suc n) es) (same-names e.name x h) ∙ at in
        absurd (cc)

-- what is found here isn't among names that are apart from these
found-here : (n : ℕ) (es : List Enumerator) (others : List Name) (x : Name) (k : ℕ) → AreDistinct (names es ++ others) → place_here n es x ≡ Some k → IsNot x others
found-here n [] others x k apart at = absurd (cc)
found-here n (e ∷ es) others x k apart at = by (same_name e.name x) refl at (λ later. found-here (suc n) es others x k apart.1 later)
  where
    by : (b : Bool) → same_name e.name x ≡ b → (if b then Some n else place_here (suc n) es x) ≡ Some k → (place_here (suc n) es x ≡ Some k → IsNot x others) → IsNot x others
    by true h at later = subst (λ y. IsNot y others) (same-names e.name x h) (is-not-right e.name (names es) others apart.0)
    by false h at later = later at

not-within : (x : Name) (ds : List SortDeclaration) → IsNot x (enumerators_in ds) → place_of ds x ≡ None
not-within x [] new = refl
not-within x (d ∷ ds) new =
    by d.sort (is-not-left x (names_in d.sort) (enumerators_in ds) new) ∙ not-within x ds (is-not-right x (names_in d.sort) (enumerators_in ds) new)
  where
    by : (s : Sort) → IsNot x (names_in s) → or_else (place_within (λ e. same_name e.name x) s) (place_of ds x) ≡ place_of ds x
    by (Struct es) h = ap (λ o. or_else o (place_of ds x)) (not-here 0 es x h)
    by (Alias s) h = refl

-- the enumerators of a declared sort have their places
placed-declared : (ds : List SortDeclaration) (s : Name) (es : List Enumerator) → AreDistinct (enumerators_in ds) → declared ds s ≡ Some (Struct es) → Placed (place_of ds) 0 es
placed-declared [] s es apart at = absurd (cc)
placed-declared (d ∷ ds) s es apart at =
    by (same_name d.name s) d.sort refl apart at (λ behind. placed-declared ds s es (distinct-right (names_in d.sort) (enumerators_in ds) apart) behind)
  where
    first : (x : Name) (k : ℕ) (o : Option ℕ) → o ≡ Some k → or_else o (place_of ds x) ≡ Some k
    first x k (Some n) h = h
    first x k None h = absurd (cc)

    later : (sort : Sort) → AreDistinct (names_in sort ++ enumerators_in ds) → (x : Name) (k : ℕ) → place_of ds x ≡ Some k →
        or_else (place_within (λ e. same_name e.name x) sort) (place_of ds x) ≡ Some k
    later (Alias t) apart x k h = h
    later (Struct fs) apart x k h = which (place_here 0 fs x) refl
      where
        which : (o : Option ℕ) → place_here 0 fs x ≡ o → or_else o (place_of ds x) ≡ Some k
        which None e = h
        which (Some n) e =
            let none : place_of ds x ≡ None = not-within x ds (found-here 0 fs (enumerators_in ds) x n apart e) in
            absurd (cc)

    by : (b : Bool) (sort : Sort) → d.sort ≡ sort → AreDistinct (names_in sort ++ enumerators_in ds) → (if b then Some sort else declared ds s) ≡ Some (Struct es) →
        (declared ds s ≡ Some (Struct es) → Placed (place_of ds) 0 es) → Placed (λ x. or_else (place_within (λ e. same_name e.name x) sort) (place_of ds x)) 0 es
    by true (Struct fs) same apart at rest =
        let inside : fs ≡ es = cc at in
        subst (λ gs. Placed (λ x. or_else (place_within (λ e. same_name e.name x) (Struct fs)) (place_of ds x)) 0 gs) inside
        (placed-through (place_here 0 fs) (λ x. or_else (place_here 0 fs x) (place_of ds x)) (λ x k h. first x k (place_here 0 fs x) h) 0 fs
        (placed-here 0 fs (enumerators_in ds) apart))
    by true (Alias t) same apart at rest = absurd (cc at)
    by false sort same apart at rest =
        placed-through (place_of ds) (λ x. or_else (place_within (λ e. same_name e.name x) sort) (place_of ds x)) (later sort apart) 0 es (rest at)

-- ---- values

placed-values : (spec : Spec) (a : Assignment) → HidesNoEnumerator spec a → (n : ℕ) (es : List Enumerator) → Placed (place_of spec.sorts) n es →
    map (value spec a) (map (λ (e : Enumerator). Term.Named e.name) es) ≡ numbers_from (pos n) (length es)
placed-values spec a hides n [] p = refl
placed-values spec a hides n (e ∷ es) p =
    ap (λ v. v ∷ map (value spec a) (map (λ (e : Enumerator). Term.Named e.name) es)) (ap (λ o. named_value spec o e.name) (hides e.name n p.0) ∙ ap (λ o. pos (unwrap_or o 0)) p.0) ∙
    (ap (λ vs. pos n ∷ vs) (placed-values spec a hides (suc n) es p.1) ∙
    ap (λ k. pos n ∷ numbers_from (pos k) (length es)) (omega arith))

written-within : (spec : Spec) (a : Assignment) → AreDistinct (enumerators_in spec.sorts) → HidesNoEnumerator spec a → (n : ℕ) (s : Name) →
    map (value spec a) (written_within n spec s) ≡ carrier_within n spec s
written-within spec a apart hides zero s = refl
written-within spec a apart hides (suc n) s =
    by (range_of spec.ranges s) (same_name s (codes "Bool")) (declared spec.sorts s) refl (λ t. written-within spec a apart hides n t)
  where
    by : (r : Option Range) (b : Bool) (o : Option Sort) → declared spec.sorts s ≡ o → ((t : Name) → map (value spec a) (written_within n spec t) ≡ carrier_within n spec t) →
        map (value spec a) (written_by r b o (written_within n spec)) ≡ carrier_by r b o (carrier_within n spec)
    by (Some r) b o at target = numbers-values spec a (interval r.low r.high)
    by None true o at target = refl
    by None false (Some (Struct es)) at target = placed-values spec a hides 0 es (placed-declared spec.sorts s es apart at)
    by None false (Some (Alias t)) at target = target t
    by None false None at target = refl

pub written_values_are_kept : (spec : Spec) (a : Assignment) → AreDistinct (enumerators_in spec.sorts) → HidesNoEnumerator spec a → KeepsWrittenValues spec a
written_values_are_kept spec a apart hides s = written-within spec a apart hides (suc (length spec.sorts)) s

-- ---- the values of a carrier are apart

pub same-value : (v w : Value) → int_eq v w ≡ true → v ≡ w
same-value v w e = (Decides-int_eq v w).0 e

pub value-self : (v : Value) → int_eq v v ≡ true
value-self v = (Decides-int_eq v v).1 refl

pub value-not : (v w : Value) → int_eq v w ≡ false → int_eq w v ≡ false
value-not v w h = by (int_eq w v) refl
  where
    by : (b : Bool) → int_eq w v ≡ b → b ≡ false
    by false e = refl
    by true e = absurd (true≢false (sym ((Decides-int_eq v w).1 (sym (same-value w v e))) ∙ h))

-- v is none of these values
abbrev pub Differs : Value → Carrier → Type 0
Differs v [] = Unit {0}
Differs v (w ∷ ws) = (int_eq v w ≡ false) × Differs v ws

-- no two of these values are one
abbrev pub Differ : Carrier → Type 0
Differ [] = Unit {0}
Differ (v ∷ vs) = Differs v vs × Differ vs

above : (low : ℤ) (j : ℕ) → int_eq low (low +ℤ pos (suc j)) ≡ false
above low j = by (int_eq low (low +ℤ pos (suc j))) refl
  where
    by : (b : Bool) → int_eq low (low +ℤ pos (suc j)) ≡ b → b ≡ false
    by false e = refl
    by true e = let same : low ≡ low +ℤ pos (suc j) = same-value low (low +ℤ pos (suc j)) e in absurd (omega (arith, ints, same))

numbers-above : (low : ℤ) (j n : ℕ) → Differs low (numbers_from (low +ℤ pos (suc j)) n)
numbers-above low j zero = tt
numbers-above low j (suc n) = (
  above low j,
  subst (λ z. Differs low (numbers_from z n)) (next low j) (numbers-above low (suc j) n),
)
  where
    next : (low : ℤ) (j : ℕ) → (low +ℤ pos (suc (suc j))) ≡ ((low +ℤ pos (suc j)) +ℤ pos 1)
    next low j = omega (arith, ints)

numbers-differ : (low : ℤ) (n : ℕ) → Differ (numbers_from low n)
numbers-differ low zero = tt
numbers-differ low (suc n) = (numbers-above low 0 n, numbers-differ (low +ℤ pos 1) n)

differ-within : (n : ℕ) (spec : Spec) (s : Name) → Differ (carrier_within n spec s)
differ-within zero spec s = tt
differ-within (suc n) spec s =
    by (range_of spec.ranges s) (same_name s (codes "Bool")) (declared spec.sorts s) (λ t. differ-within n spec t)
  where
    by : (r : Option Range) (b : Bool) (o : Option Sort) → ((t : Name) → Differ (carrier_within n spec t)) → Differ (carrier_by r b o (carrier_within n spec))
    by (Some r) b o target = numbers-differ r.low (at_least_none (r.high -ℤ r.low +ℤ pos 1))
    by None true o target = ((refl, tt), (tt, tt))
    by None false (Some (Struct es)) target = numbers-differ (pos 0) (length es)
    by None false (Some (Alias t)) target = target t
    by None false None target = tt

pub values-differ : (spec : Spec) (s : Name) → Differ (carrier_of spec s)
values-differ spec s = differ-within (suc (length spec.sorts)) spec s

-- ---- a term that is written as one of these values is it

same-numbers : (m n : ℕ) → nat_eq m n ≡ true → m ≡ n
same-numbers m n e = (Decides-eqb m n).0 e

same-negatives : (x y : Term) → same_negative x y ≡ true → x ≡ y
same-negatives (Term.Number m) (Term.Number n) e = ap Term.Number (same-numbers m n e)
same-negatives (Term.Number m) y e = absurd (true≢false (sym e))
same-negatives x y e = absurd (true≢false (sym e))

pub same-terms : (x y : Term) → same_written x y ≡ true → x ≡ y
same-terms (Term.Truth true) (Term.Truth true) e = refl
same-terms (Term.Truth false) (Term.Truth false) e = refl
same-terms (Term.Number m) (Term.Number n) e = ap Term.Number (same-numbers m n e)
same-terms (Term.Negative x) (Term.Negative y) e = ap Term.Negative (same-negatives x y e)
same-terms (Term.Named x) (Term.Named y) e = ap Term.Named (same-names x y e)
same-terms x y e = absurd (true≢false (sym e))
