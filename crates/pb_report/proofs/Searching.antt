-- Searching in rising numbers tells what is among them.
use Rattle.std.proofs.Common.{◌≡◌, ℕ, ◌<◌, ◌==◌, Bool, true, false, List, length, get_or, inl, inr, not, if◌then◌else◌, refl, sym, subst, ap, ◌∙◌, nat_cmp, arith}
use Rattle.std.specs.Prelude.{Contains, Result, Ok, Err}
use Rattle.std.specs.Bool.{beq}
use Rattle.std.specs.Result.{is_ok}
use Rattle.std.specs.List.Sorted.{IsSorted, IsBinarySearchResult}
use Rattle.std.proofs.lemmas.Bool.{eq-eqb, cases_lt, false≢true}
use Rattle.std.proofs.lemmas.Bool.Decides.{eqb_tells}
use Rattle.std.proofs.lemmas.List.{get_or_default}
use Rattle.std.proofs.lemmas.List.Folds.{list_any_at, list_any_none}
use Rattle.std.proofs.lemmas.List.Sorted.{searched, IsNonDecreasingBy-from_sort}
use Rattle.pb_game.specs.Adjacency.{is_among}
use Rattle.pb_evidence.specs.ProofGraphs.{exactly}
use Rattle.pb_report.specs.Rising.{IsRising}

pub rising_sorted : (ns : List ℕ) → IsSorted nat_cmp ns → IsRising ns
rising_sorted ns sorted i j le less = IsNonDecreasingBy-from_sort (λ (n : ℕ). n) ns sorted i j 0 le less

pub search_tells : (ns : List ℕ) (n : ℕ) (r : Result ℕ ℕ) → IsRising ns → IsBinarySearchResult (λ y. nat_cmp y n) ns r → is_ok r ≡ is_among ns n
search_tells ns n (Ok i) rising is =
    let found = searched ns n (Ok i) is rising in
    sym (list_any_at (λ (y : ℕ). y == n) ns i 0 found.0 (eq-eqb (get_or ns i 0) n found.1))
search_tells ns n (Err i) rising is =
    sym (list_any_none (λ (y : ℕ). y == n) ns (λ k d less. elim (eqb_tells (get_or ns k d) n) [
      | inl e ↦ absurd (apart k d less e.1)
      | inr ne ↦ ne.0
    ]))
  where
    apart : (k d : ℕ) → k < length ns → get_or ns k d ≡ n → ⊥
    apart k d less e =
        let parts = searched ns n (Err i) is rising in
        let there : get_or ns k 0 ≡ n = get_or_default ns k 0 d less ∙ e in
        elim (cases_lt k i) [
          | inl before ↦ omega (arith, there, parts.1 k before)
          | inr behind ↦ omega (arith, there, parts.2 k behind less)
        ]

-- found where it has the value, and not where it has the other
has_value : (found value : Bool) → beq found value ≡ (if found then value else not value)
has_value true true = refl
has_value true false = refl
has_value false true = refl
has_value false false = refl

pub search_has_value : (ns ms : List ℕ) (n : ℕ) (r : Result ℕ ℕ) (found value : Bool) → IsRising ns → ms ≡ ns → IsBinarySearchResult (λ y. nat_cmp y n) ms r
    → found ≡ is_ok r → beq found value ≡ exactly value ns n
search_has_value ns ms n r found value rising same is told =
    let at = subst (λ (xs : List ℕ). IsBinarySearchResult (λ y. nat_cmp y n) xs r) same is in
    ap (λ (x : Bool). beq x value) (told ∙ search_tells ns n r rising at) ∙ has_value (is_among ns n) value

-- what is listed is found
pub is_found : (ns : List ℕ) (n : ℕ) (r : Result ℕ ℕ) (i : ℕ) → IsRising ns → Contains ns n → IsBinarySearchResult (λ y. nat_cmp y n) ns r
    → r ≡ Err i → ⊥
is_found ns n r i rising listed is none =
    let told = search_tells ns n (Err i) rising (subst (λ (x : Result ℕ ℕ). IsBinarySearchResult (λ y. nat_cmp y n) ns x) none is) in
    let there = list_any_at (λ (y : ℕ). y == n) ns listed.0 0 listed.1 (eq-eqb (get_or ns listed.0 0) n (get_or_default ns listed.0 0 n listed.1 ∙ listed.2)) in
    false≢true (told ∙ there)
