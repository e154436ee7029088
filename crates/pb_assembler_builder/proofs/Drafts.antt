-- What is known of a builder's labels.
use Rattle.std.proofs.Common.{◌≡◌, ℕ, zero, suc, ◌<◌, ◌≤◌, Bool, true, false, List, [], ◌∷◌, ◌++◌, length, length-append, get_or, Option, Some, None, refl, sym, ap, ◌∙◌, arith, true≢false}
use Rattle.std.specs.List.{slice_set, list_all}
use Rattle.std.proofs.lemmas.Bool.{and_parts, and_from, lt-ltb, le-leb, ltb-true, leb-true}
use Rattle.std.proofs.lemmas.List.Folds.{list_all-append, list_all_at}
use Rattle.pb_assembler_builder.specs.Draft.{is_at_or_behind, is_labelled, are_labelled, are_within}
use Rattle.pb_assembler_builder.specs.declared.instruction.Instruction.{Instruction}
use Rattle.pb_assembler_builder.specs.declared.instruction.Instruction.TheVariants as instruction

pub append_one : {X : Type 0} (p : X → Bool) → (xs : List X) (y : X) → list_all p xs ≡ true → p y ≡ true → list_all p (xs ++ y ∷ []) ≡ true
append_one p xs y h k = list_all-append p xs (y ∷ []) ∙ and_from _ _ h (and_from _ _ k refl)

pub longer_by_one : {X : Type 0} (xs ys : List X) (y : X) → ys ≡ xs ++ y ∷ [] → length xs ≤ length ys
longer_by_one xs ys y e = let l = ap length e in omega (arith, l, length-append xs (y ∷ []))

implied : {X : Type 0} (p q : X → Bool) → ((x : X) → p x ≡ true → q x ≡ true) → (xs : List X) → list_all p xs ≡ true → list_all q xs ≡ true
implied p q f [] h = refl
implied p q f (x ∷ xs) h = let two = and_parts (p x) (list_all p xs) h in and_from _ _ (f x two.0) (implied p q f xs two.1)

label_more : (n m : ℕ) → n ≤ m → (i : Instruction) → is_labelled n i ≡ true → is_labelled m i ≡ true
label_more n m le (instruction.Plain o) h = h
label_more n m le (instruction.Jump j l) h = let a = ltb-true l n h in lt-ltb l m (omega arith)

within_more : (n m : ℕ) → n ≤ m → (o : Option ℕ) → is_at_or_behind n o ≡ true → is_at_or_behind m o ≡ true
within_more n m le None h = refl
within_more n m le (Some q) h = let a = leb-true q n h in le-leb q m (omega arith)

pub labelled_more : (n m : ℕ) (ops : List Instruction) → n ≤ m → are_labelled n ops ≡ true → are_labelled m ops ≡ true
labelled_more n m ops le h = implied (is_labelled n) (is_labelled m) (label_more n m le) ops h

pub are_within_more : (n m : ℕ) (places : List (Option ℕ)) → n ≤ m → are_within n places ≡ true → are_within m places ≡ true
are_within_more n m places le h = implied (is_at_or_behind n) (is_at_or_behind m) (λ o k. within_more n m le o k) places h

pub set_within : (n : ℕ) (places : List (Option ℕ)) (i : ℕ) → are_within n places ≡ true → are_within n (slice_set places i (Some n)) ≡ true
set_within n [] i h = refl
set_within n (x ∷ xs) zero h = let two = and_parts (is_at_or_behind n x) (are_within n xs) h in and_from _ _ (le-leb n n (omega arith)) two.1
set_within n (x ∷ xs) (suc i) h = let two = and_parts (is_at_or_behind n x) (are_within n xs) h in and_from _ _ two.0 (set_within n xs i two.1)

pub set_length : (places : List (Option ℕ)) (i : ℕ) (o : Option ℕ) → length (slice_set places i o) ≡ length places
set_length [] i o = refl
set_length (x ∷ xs) zero o = refl
set_length (x ∷ xs) (suc i) o = ap suc (set_length xs i o)

-- ---- one of them

pub one_of : {X : Type 0} (p : X → Bool) → (xs : List X) (i : ℕ) (d : X) → i < length xs → list_all p xs ≡ true → p (get_or xs i d) ≡ true
one_of p xs i d below h = by (p (get_or xs i d)) refl
  where
    by : (b : Bool) → p (get_or xs i d) ≡ b → b ≡ true
    by true e = refl
    by false e = absurd (true≢false (sym h ∙ list_all_at p xs i d below e))
