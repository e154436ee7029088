-- The machine's test for equality, and truth values as numbers.
use Rattle.std.proofs.Common.{◌≡◌, ℕ, Bool, true, false, cond, not, ◌&&◌, ◌||◌, refl, sym, ap, arith}
use Rattle.std.specs.Prelude.{ℤ, pos, int_le, ◌==◌}
use Rattle.std.specs.Cmp.{both_ways}
use Rattle.std.specs.Ordering.{int_eq}
use Rattle.std.proofs.lemmas.Bool.{eqb-true, eq-eqb, and_parts, and_from}
use Rattle.std.proofs.lemmas.Bool.Decides.{Decides-int_eq}
use Rattle.std.proofs.lemmas.Int.{ints}
use Rattle.pb_base_values.specs.Carrier.{of_bool}
use Rattle.pb_bytecode_program.proofs.Ints.{le_true, from_le}

pub same_bools : (a b : Bool) → ((a && b) || (not a && not b)) ≡ int_eq (of_bool a) (of_bool b)
same_bools true true = refl
same_bools true false = refl
same_bools false true = refl
same_bools false false = refl

pub same_places : (i j : ℕ) → (i == j) ≡ int_eq (pos i) (pos j)
same_places i j = both_ways (i == j) (int_eq (pos i) (pos j))
    (λ h. (Decides-int_eq (pos i) (pos j)).1 (ap pos (eqb-true i j h)))
    (λ h. let e = (Decides-int_eq (pos i) (pos j)).0 h in eq-eqb i j (omega (arith, ints)))

pub same_numbers : (a b : ℤ) → (int_le a b && int_le b a) ≡ int_eq a b
same_numbers a b = both_ways (int_le a b && int_le b a) (int_eq a b)
    (λ h.
    let two = and_parts (int_le a b) (int_le b a) h in
    let x = le_true a b two.0 in
    let y = le_true b a two.1 in
    (Decides-int_eq a b).1 (omega (arith, ints)))
    (λ h. let e = (Decides-int_eq a b).0 h in and_from _ _ (from_le a b (omega (arith, ints))) (from_le b a (omega (arith, ints))))

pub chosen_then : (b : Bool) (x y : ℤ) → b ≡ true → x ≡ cond b x y
chosen_then b x y e = ap (λ c. cond c x y) (sym e)

pub chosen_else : (b : Bool) (x y : ℤ) → b ≡ false → y ≡ cond b x y
chosen_else b x y e = ap (λ c. cond c x y) (sym e)
