-- Texts put one behind the other.
use Rattle.std.proofs.Common.{◌≡◌, ℕ, zero, suc, ◌+◌, List, [], ◌∷◌, ◌++◌, flat_map, arith, ◌<◌, length, take, get_or, sym, ap, ◌∙◌, append_assoc, append-nil}
use Rattle.std.specs.List.{range_with_len}
use Rattle.std.proofs.lemmas.Grind.{flat_map-append}
use Rattle.std.proofs.lemmas.List.{take_more}
use Rattle.std.proofs.lemmas.List.Concat.{flat_map-cons}
use Rattle.std.specs.Prelude.{Result, Ok, Err, OnOk, is_ok, if◌then◌else◌}
use Rattle.pb_bytecode.proofs.Appending.{append_both}

-- the last of two pieces may be refused
pub and_then : {T E : Type 0} (r : Result T E) (s0 s1 s2 x y : List ℕ) → s1 ≡ s0 ++ x → OnOk r (s2 ≡ s1 ++ y)
    → OnOk r (s2 ≡ s0 ++ (x ++ y))
and_then (Ok v) s0 s1 s2 x y first last = append_both s0 s1 s2 x y first last
and_then (Err e) s0 s1 s2 x y first last = tt

-- what `push_str` says
pub pushed : {T E : Type 0} (r : Result T E) (new text more : List ℕ) → new ≡ (if is_ok r then text ++ more else text)
    → OnOk r (new ≡ text ++ more)
pushed (Ok v) new text more is = is
pushed (Err e) new text more is = tt

-- the same text by another name
pub said_as : {T E : Type 0} (r : Result T E) (s0 s1 x y : List ℕ) → x ≡ y → OnOk r (s1 ≡ s0 ++ x) → OnOk r (s1 ≡ s0 ++ y)
said_as (Ok v) s0 s1 x y same is = is ∙ ap (λ (z : List ℕ). s0 ++ z) same
said_as (Err e) s0 s1 x y same is = tt

-- the pieces of numbers from one on, with one more
pub pieces-more : (F : ℕ → List ℕ) (n a j : ℕ) → a + n ≡ j
    → flat_map F (range_with_len a (n + 1)) ≡ flat_map F (range_with_len a n) ++ F j
pieces-more F zero a j is =
    let one : zero + 1 ≡ suc zero = omega arith in
    let same : a ≡ j = omega (arith, is) in
    ap (λ (n : ℕ). flat_map F (range_with_len a n)) one
    ∙ (flat_map-cons F a [] ∙ (append-nil (F a) ∙ ap F same))
pieces-more F (suc n) a j is =
    let next : suc n + 1 ≡ suc (n + 1) = omega arith in
    ap (λ (m : ℕ). flat_map F (range_with_len a m)) next
    ∙ (flat_map-cons F a (range_with_len (a + 1) (n + 1))
    ∙ (ap (λ (xs : List ℕ). F a ++ xs) (pieces-more F n (a + 1) j (omega (arith, is)))
    ∙ (sym (append_assoc (F a) (flat_map F (range_with_len (a + 1) n)) (F j))
    ∙ ap (λ (xs : List ℕ). xs ++ F j) (sym (flat_map-cons F a (range_with_len (a + 1) n))))))

-- the pieces of the first elements, with one more
pub elements-more : (F : ℕ → List ℕ) (xs : List ℕ) (i : ℕ) (s0 s1 s2 : List ℕ) → i < length xs
    → s1 ≡ s0 ++ flat_map F (take i xs) → s2 ≡ s1 ++ F (get_or xs i 0)
    → s2 ≡ s0 ++ flat_map F (take (i + 1) xs)
elements-more F xs i s0 s1 s2 less before last =
    let x = get_or xs i 0 in
    let alone : flat_map F (x ∷ []) ≡ F x = flat_map-cons F x [] ∙ append-nil (F x) in
    let more : flat_map F (take (i + 1) xs) ≡ flat_map F (take i xs) ++ F x =
    ap (flat_map F) (take_more xs i 0 less)
    ∙ (flat_map-append F (take i xs) (x ∷ []) ∙ ap (λ (y : List ℕ). flat_map F (take i xs) ++ y) alone) in
    last ∙ (ap (λ (s : List ℕ). s ++ F x) before
    ∙ (append_assoc s0 (flat_map F (take i xs)) (F x) ∙ ap (λ (y : List ℕ). s0 ++ y) (sym more)))
