-- Lists of slots in which a quantifier's variables get their values.
use Rattle.std.proofs.Common.{◌≡◌, ℕ, zero, suc, ◌+◌, ◌<◌, ◌≤◌, Bool, true, false, [], ◌∷◌, ◌++◌, length, map, take, drop, refl, sym, ◌∙◌, ap, arith, pos, if◌then◌else◌}
use Rattle.std.specs.Prelude.{slice_set, ◌==◌}
use Rattle.std.proofs.lemmas.Bool.{eq-eqb, ne_eqb, eqb-true, eqb-false}
use Rattle.std.proofs.Math.Path.{fun_ext}
use Rattle.std.proofs.Math.Seq.{drop-append_seam, take-append_seam}
use Rattle.std.proofs.lemmas.List.{take-append-drop, length-set}
use Rattle.pb_base_values.specs.Carrier.{Value, Tuple}
use Rattle.pb_typing_tree.specs.Meaning.{Slots, set}
use Rattle.pb_typing_values.specs.Slots.{slots_of}

-- the slots from s on get the values of a tuple, in order
abbrev pub placed : Slots → ℕ → Tuple → Slots
placed a s [] = a
placed a s (v ∷ vs) = placed (set a s v) (suc s) vs

-- the same in a list
abbrev pub put : Tuple → ℕ → Tuple → Tuple
put xs s vs = take s xs ++ (vs ++ drop (length vs) (drop s xs))

same-suc : (i s : ℕ) → (i == s) ≡ (suc i == suc s)
same-suc i s = by-test (i == s) refl
  where
    by-test : (b : Bool) → (i == s) ≡ b → b ≡ (suc i == suc s)
    by-test true e = sym (eq-eqb (suc i) (suc s) (ap suc (eqb-true i s e)))
    by-test false e = sym (ne_eqb (suc i) (suc s) (λ h. eqb-false i s e (omega (arith, h))))

set-at : (xs : Tuple) (s : ℕ) (v : Value) → s < length xs → (i : ℕ) → slots_of (slice_set xs s v) i ≡ set (slots_of xs) s v i
set-at [] s v lt i = absurd (omega arith)
set-at (x ∷ xs) zero v lt zero = refl
set-at (x ∷ xs) zero v lt (suc i) = sym (ap (λ (b : Bool). if b then v else slots_of xs i) (ne_eqb (suc i) 0 (λ e. omega (arith, e))))
set-at (x ∷ xs) (suc s) v lt zero = sym (ap (λ (b : Bool). if b then v else x) (ne_eqb 0 (suc s) (λ e. omega (arith, e))))
set-at (x ∷ xs) (suc s) v lt (suc i) = set-at xs s v (omega arith) i ∙ ap (λ (b : Bool). if b then v else slots_of xs i) (same-suc i s)

set-slots : (xs : Tuple) (s : ℕ) (v : Value) → s < length xs → slots_of (slice_set xs s v) ≡ set (slots_of xs) s v
set-slots xs s v lt = fun_ext (set-at xs s v lt)

put-more : (xs : Tuple) (s : ℕ) (v : Value) (vs : Tuple) → s < length xs → put (slice_set xs s v) (suc s) vs ≡ put xs s (v ∷ vs)
put-more [] s v vs lt = absurd (omega arith)
put-more (x ∷ xs) zero v vs lt = refl
put-more (x ∷ xs) (suc s) v vs lt = ap (λ (ys : Tuple). x ∷ ys) (put-more xs s v vs (omega arith))

pub put-slots : (xs : Tuple) (s : ℕ) (vs : Tuple) → s + length vs ≤ length xs → slots_of (put xs s vs) ≡ placed (slots_of xs) s vs
put-slots xs s [] le = ap slots_of (take-append-drop s xs)
put-slots xs s (v ∷ vs) le =
    let lt : s < length xs = omega arith in
    let long : length (slice_set xs s v) ≡ length xs = length-set xs s v in
    ap slots_of (sym (put-more xs s v vs lt))
    ∙ (put-slots (slice_set xs s v) (suc s) vs (omega (arith, long, le))
    ∙ ap (λ (a : Slots). placed a (suc s) vs) (set-slots xs s v lt))

-- what was put is there
pub read-put : (xs : Tuple) (s : ℕ) (vs : Tuple) → s ≤ length xs → take (length vs) (drop s (put xs s vs)) ≡ vs
read-put xs zero vs le = take-append_seam vs (drop (length vs) xs)
read-put [] (suc s) vs le = absurd (omega arith)
read-put (x ∷ xs) (suc s) vs le = read-put xs s vs (omega arith)

pub length-put : (xs : Tuple) (s : ℕ) (vs : Tuple) → s + length vs ≤ length xs → length (put xs s vs) ≡ length xs
length-put xs s [] le = ap length (take-append-drop s xs)
length-put xs s (v ∷ vs) le =
    let lt : s < length xs = omega arith in
    let long : length (slice_set xs s v) ≡ length xs = length-set xs s v in
    ap length (sym (put-more xs s v vs lt)) ∙ (length-put (slice_set xs s v) (suc s) vs (omega (arith, long, le)) ∙ long)

-- a second tuple of the same length replaces the first
pub put-put : (xs : Tuple) (s : ℕ) (vs ws : Tuple) → s ≤ length xs → length vs ≡ length ws → put (put xs s vs) s ws ≡ put xs s ws
put-put xs zero vs ws le same =
    ap (λ (ys : Tuple). ws ++ ys)
    (ap (λ (n : ℕ). drop n (vs ++ drop (length vs) xs)) (sym same)
    ∙ (drop-append_seam vs (drop (length vs) xs) ∙ ap (λ (n : ℕ). drop n xs) same))
put-put [] (suc s) vs ws le same = absurd (omega arith)
put-put (x ∷ xs) (suc s) vs ws le same = ap (λ (ys : Tuple). x ∷ ys) (put-put xs s vs ws (omega arith) same)

moved : (x : Value) (xs : Tuple) (i j : ℕ) → suc i ≡ j → slots_of xs i ≡ slots_of (x ∷ xs) j
moved x xs i j e = ap (slots_of (x ∷ xs)) e

-- zeros where zeros were change nothing
pub put-clear : (xs : Tuple) (s : ℕ) (vs : Tuple) → s + length vs ≤ length xs → ((i : ℕ) → i < length vs → slots_of xs (s + i) ≡ pos 0) → put xs s (map (λ v. pos 0) vs) ≡ xs
put-clear xs s [] le clear = take-append-drop s xs
put-clear [] s (v ∷ vs) le clear = absurd (omega arith)
put-clear (x ∷ xs) zero (v ∷ vs) le clear =
    ap (λ (y : Value). y ∷ put xs 0 (map (λ w. pos 0) vs)) (sym (clear 0 (omega arith)))
    ∙ ap (λ (ys : Tuple). x ∷ ys) (put-clear xs 0 vs (omega arith) (λ i lt. moved x xs (0 + i) (0 + suc i) (omega arith) ∙ clear (suc i) (omega arith)))
put-clear (x ∷ xs) (suc s) (v ∷ vs) le clear =
    ap (λ (ys : Tuple). x ∷ ys) (put-clear xs s (v ∷ vs) (omega arith) (λ i lt. moved x xs (s + i) (suc s + i) (omega arith) ∙ clear i (omega arith)))
