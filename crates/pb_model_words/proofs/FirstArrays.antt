-- The first array of variables, and what is left without it; equal elements; marks between words of two lists.
use Rattle.std.proofs.Common.{◌≡◌, ℕ, zero, suc, ◌+◌, ◌<◌, ◌≤◌, min, cond, ℤ, Bool, true, false, List, [], ◌∷◌, ◌++◌, length, take, drop, map, refl, sym, ap, ◌∙◌, append_assoc, arith}
use Rattle.std.specs.Prelude.{if◌then◌else◌}
use Rattle.std.specs.List.{prefix_len}
use Rattle.std.proofs.lemmas.List.Sums.{prefix_len-le-length}
use Rattle.std.proofs.lemmas.Slice.Eq.{bytes_eq-Decides}
use Rattle.pb_base_values.specs.Carrier.{Tuple}
use Rattle.pb_text_tree.specs.Form.{VariableForm}
use Rattle.pb_text_meaning.specs.Syntax.{Name}
use Rattle.pb_model_words.specs.Arrays.{VariableValue, variable_values, array_name, is_element_of, first_array_length, in_front, by_arrays, are_equal, merged_array}
use Rattle.pb_model_words.specs.Words.{marked}

-- ---- by arrays

-- variables of which each has a value
pub values-of : (xs : List VariableForm) (vs : Tuple) → length xs ≡ length vs → map (λ (e : VariableValue). e.value) (variable_values xs vs) ≡ vs
values-of [] [] e = refl
values-of [] (v ∷ vs) e = absurd (omega arith)
values-of (x ∷ xs) [] e = absurd (omega arith)
values-of (x ∷ xs) (v ∷ vs) e = ap (λ ws. v ∷ ws) (values-of xs vs (omega arith))

-- only as many as there are of both are of use
pub values-cut : (xs : List VariableForm) (vs : Tuple) (n : ℕ) → min (length xs) (length vs) ≤ n → variable_values (take n xs) (take n vs) ≡ variable_values xs vs
values-cut [] vs zero h = refl
values-cut [] vs (suc n) h = refl
values-cut (x ∷ xs) [] zero h = refl
values-cut (x ∷ xs) [] (suc n) h = refl
values-cut (x ∷ xs) (v ∷ vs) zero h = absurd (omega arith)
values-cut (x ∷ xs) (v ∷ vs) (suc n) h = ap (λ es. record { name = x.name.text; sort = x.sort.text; value = v } ∷ es) (values-cut xs vs n (omega arith))

-- the variables without an array of so many, and those of it
abbrev pub parted : List VariableForm → Tuple → ℕ → List (List VariableValue)
parted xs vs n = variable_values (take n xs) (take n vs) ∷ by_arrays (variable_values (drop n xs) (drop n vs))

-- the first array, and the others
pub first-array : (xs : List VariableForm) (vs : Tuple) → length xs ≡ length vs → 0 < length xs → by_arrays (variable_values xs vs) ≡ parted xs vs (first_array_length xs)
first-array [] vs e h = absurd (omega arith)
first-array (x ∷ xs) [] e h = absurd (omega arith)
first-array (x ∷ []) (v ∷ []) e h = refl
first-array (x ∷ []) (v ∷ w ∷ vs) e h = absurd (omega arith)
first-array (x ∷ y ∷ xs) (v ∷ []) e h = absurd (omega arith)
first-array (x ∷ y ∷ xs) (v ∷ w ∷ vs) e h =
    let rest = first-array (y ∷ xs) (w ∷ vs) (omega arith) (omega arith) in
    ap (in_front one) rest ∙ by rest (is_element_of array y.name.text) refl
  where
    array : Name
    array = array_name x.name.text

    one : VariableValue
    one = record { name = x.name.text; sort = x.sort.text; value = v }

    other : VariableValue
    other = record { name = y.name.text; sort = y.sort.text; value = w }

    length_in : Name → ℕ
    length_in a = prefix_len (λ (z : VariableForm). is_element_of a z.name.text) xs

    n : ℕ
    n = length_in (array_name y.name.text)

    fs : List VariableValue
    fs = variable_values (take n xs) (take n vs)

    others : List (List VariableValue)
    others = by_arrays (variable_values (drop n xs) (drop n vs))

    choice : Bool → List (List VariableValue)
    choice b = if b then (one ∷ other ∷ fs) ∷ others else (one ∷ []) ∷ (other ∷ fs) ∷ others

    by : by_arrays (variable_values (y ∷ xs) (w ∷ vs)) ≡ (other ∷ fs) ∷ others → (b : Bool) → is_element_of array y.name.text ≡ b
        → choice b ≡ parted (x ∷ y ∷ xs) (v ∷ w ∷ vs) (suc (cond b (1 + length_in array) 0))
    by rest true is =
        let same : n ≡ length_in array = ap length_in (sym ((bytes_eq-Decides array (array_name y.name.text)).0 is)) in
        let next : suc n ≡ 1 + length_in array = omega (arith, same) in
        ap (λ m. parted (x ∷ y ∷ xs) (v ∷ w ∷ vs) (suc m)) next
    by rest false is = ap (λ es. (one ∷ []) ∷ es) (sym rest)

-- it has a variable, and no more than there are
pub first-array-within : (xs : List VariableForm) → 0 < length xs → (0 < first_array_length xs) × (first_array_length xs ≤ length xs)
first-array-within [] h = absurd (omega arith)
first-array-within (x ∷ xs) h = (omega arith, omega (arith, prefix_len-le-length (λ (y : VariableForm). is_element_of (array_name x.name.text) y.name.text) xs))

-- ---- equal elements

pub merged-each : (xs : List VariableForm) (vs : Tuple) → length xs ≡ length vs → are_equal vs ≡ false → merged_array (variable_values xs vs) ≡ variable_values xs vs
merged-each [] vs e other = refl
merged-each (x ∷ xs) [] e other = refl
merged-each (x ∷ xs) (v ∷ vs) e other =
    let all = variable_values (x ∷ xs) (v ∷ vs) in
    let one : VariableValue = record { name = array_name x.name.text; sort = x.sort.text; value = v } in
    ap (λ b. if b then one ∷ [] else all) (ap are_equal (values-of (x ∷ xs) (v ∷ vs) e) ∙ other)

pub merged-none : (xs : List VariableForm) (vs : Tuple) → length xs ≡ 0 → merged_array (variable_values xs vs) ≡ variable_values xs vs
merged-none [] vs e = refl
merged-none (x ∷ xs) vs e = absurd (omega arith)

pub merged-one : (x : VariableForm) (v : ℤ) (xs : List VariableForm) (vs : Tuple) → length (x ∷ xs) ≡ length (v ∷ vs) → are_equal (v ∷ vs) ≡ true
    → merged_array (variable_values (x ∷ xs) (v ∷ vs)) ≡ record { name = array_name x.name.text; sort = x.sort.text; value = v } ∷ []
merged-one x v xs vs e same =
    let all = variable_values (x ∷ xs) (v ∷ vs) in
    let one : VariableValue = record { name = array_name x.name.text; sort = x.sort.text; value = v } in
    ap (λ b. if b then one ∷ [] else all) (ap are_equal (values-of (x ∷ xs) (v ∷ vs) e) ∙ same)

-- something is written of each array
pub merged-some : (xs : List VariableForm) (vs : Tuple) → length xs ≡ length vs → 0 < length xs → 0 < length (merged_array (variable_values xs vs))
merged-some [] vs e h = absurd (omega arith)
merged-some (x ∷ xs) [] e h = absurd (omega arith)
merged-some (x ∷ xs) (v ∷ vs) e h = by (are_equal (map (λ (f : VariableValue). f.value) (variable_values (x ∷ xs) (v ∷ vs))))
  where
    one : VariableValue
    one = record { name = array_name x.name.text; sort = x.sort.text; value = v }

    by : (b : Bool) → 0 < length (if b then one ∷ [] else variable_values (x ∷ xs) (v ∷ vs))
    by true = omega arith
    by false = omega arith

-- ---- marks

regrouped : (a b c d : List ℕ) → a ++ (b ++ (c ++ d)) ≡ (a ++ (b ++ c)) ++ d
regrouped a b c d = simp append_assoc

others-append : (next : List ℕ) (vs us : List (List ℕ)) → marked next next (vs ++ us) ≡ marked next next vs ++ marked next next us
others-append next [] us = refl
others-append next (v ∷ vs) us = ap (λ x. next ++ (v ++ x)) (others-append next vs us) ∙ regrouped next v (marked next next vs) (marked next next us)

-- words behind others, of which there are some
pub marked-append : (first next : List ℕ) (ws us : List (List ℕ)) → 0 < length ws → marked first next (ws ++ us) ≡ marked first next ws ++ marked next next us
marked-append first next [] us h = absurd (omega arith)
marked-append first next (w ∷ ws) us h = ap (λ x. first ++ (w ++ x)) (others-append next ws us) ∙ regrouped first w (marked next next ws) (marked next next us)
