-- The operands of a run, which are the first of the machine's places for them.
use Rattle.std.proofs.Common.{◌≡◌, ℕ, zero, suc, ◌+◌, ◌-◌, ◌<◌, ◌≤◌, List, [], ◌∷◌, ◌++◌, length, take, drop, Some, refl, sym, ap, ◌∙◌, arith, slice_set}
use Rattle.std.specs.Prelude.{ℤ, slice_get}
use Rattle.std.proofs.Math.Seq.{take-append_seam, drop-append_seam}
use Rattle.std.proofs.lemmas.List.{drop-take, take-take}

-- the topmost one
pub last_taken : (xs ys : List ℤ) (y : ℤ) → take (suc (length ys)) xs ≡ ys ++ y ∷ [] → slice_get xs (length ys) ≡ Some y
last_taken [] [] y e = cc
last_taken (x ∷ xs) [] y e = let h : x ≡ y = cc in ap Some h
last_taken [] (z ∷ ys) y e = cc
last_taken (x ∷ xs) (z ∷ ys) y e = let t : take (suc (length ys)) xs ≡ ys ++ y ∷ [] = cc in last_taken xs ys y t

-- those below it
pub rest_taken : (xs ys : List ℤ) (y : ℤ) → take (suc (length ys)) xs ≡ ys ++ y ∷ [] → take (length ys) xs ≡ ys
rest_taken [] [] y e = refl
rest_taken (x ∷ xs) [] y e = refl
rest_taken [] (z ∷ ys) y e = cc
rest_taken (x ∷ xs) (z ∷ ys) y e =
    let h : x ≡ z = cc in
    let t : take (suc (length ys)) xs ≡ ys ++ y ∷ [] = cc in
    let i = rest_taken xs ys y t in
    cc

-- one that is written behind the first n
pub taken_more : (xs : List ℤ) (n : ℕ) (x : ℤ) → n < length xs → take (suc n) (slice_set xs n x) ≡ take n xs ++ x ∷ []
taken_more [] n x h = absurd (omega arith)
taken_more (y ∷ ys) zero x h = refl
taken_more (y ∷ ys) (suc n) x h = ap (λ (zs : List ℤ). y ∷ zs) (taken_more ys n x (omega arith))

-- those that are arguments, and those below
module _ (xs ys zs : List ℤ) (n d : ℕ) (all : take d zs ≡ xs ++ ys) (at : n ≡ length xs) (count : d ≡ n + length ys) where
  whole : take (n + length ys) zs ≡ xs ++ ys
  whole = ap (λ k. take k zs) (sym count) ∙ all

  pub last_part : take (d - n) (drop n zs) ≡ ys
  last_part =
      let rest : d - n ≡ length ys = omega arith in
      ap (λ k. take k (drop n zs)) rest ∙ sym (drop-take n (length ys) zs) ∙ ap (drop n) whole ∙ ap (λ k. drop k (xs ++ ys)) at ∙ drop-append_seam xs ys

  pub first_part : take n zs ≡ xs
  first_part =
      let fewer : n ≤ d = omega arith in
      sym (take-take n d zs fewer) ∙ ap (take n) all ∙ ap (λ k. take k (xs ++ ys)) at ∙ take-append_seam xs ys
