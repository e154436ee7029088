-- Lists that are pushed element by element.
use Rattle.std.proofs.Common.{◌≡◌, ℕ, zero, suc, ◌+◌, ◌-◌, ◌<◌, List, [], ◌∷◌, ◌++◌, length}
use Rattle.std.proofs.Common.{get_or, map, drop, refl, sym, ◌∙◌, ap, arith, append_assoc}
use Rattle.std.specs.List.{range_with_len}
use Rattle.pb_typing_tree.specs.Meaning.{Slots}

-- one more of a list's elements
pub pushed : {X : Type 0} (done more all : List X) (x : X) (k : ℕ)
    → drop k all ≡ x ∷ drop (k + 1) all → more ≡ done ++ x ∷ [] → done ++ drop k all ≡ all
    → more ++ drop (k + 1) all ≡ all
pushed done more all x k front is h =
    ap (λ xs. xs ++ drop (k + 1) all) is
    ∙ (append_assoc done (x ∷ []) (drop (k + 1) all)
    ∙ (ap (λ xs. done ++ xs) (sym front) ∙ h))

-- one more of a range's numbers
pub pushed-number : (done more all : List ℕ) (s e : ℕ) → s < e → more ≡ done ++ s ∷ []
    → done ++ range_with_len s (e - s) ≡ all → more ++ range_with_len (s + 1) (e - (s + 1)) ≡ all
pushed-number done more all s e lt is h =
    let rest = range_with_len (s + 1) (e - (s + 1)) in
    let count : suc (e - (s + 1)) ≡ e - s = omega (arith, lt) in
    ap (λ xs. xs ++ rest) is
    ∙ (append_assoc done (s ∷ []) rest
    ∙ (ap (λ n. done ++ range_with_len s n) count ∙ h))

-- ---- slots

pub held-at : (a : Slots) (own : List ℕ) (k : ℕ) → k < length own
    → drop k (map a own) ≡ a (get_or own k 0) ∷ drop (k + 1) (map a own)
held-at a [] k lt = absurd (omega (arith, lt))
held-at a (s ∷ own) zero lt = refl
held-at a (s ∷ own) (suc k) lt =
    let next : suc k + 1 ≡ suc (k + 1) = omega arith in
    held-at a own k (omega (arith, lt))
    ∙ ap (λ n. a (get_or own k 0) ∷ drop n (a s ∷ map a own)) (sym next)
