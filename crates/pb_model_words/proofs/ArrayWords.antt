-- The words of one array, and those of arrays one after another.
use Rattle.std.proofs.Common.{◌≡◌, ℕ, zero, suc, ◌==◌, ◌<◌, ◌≤◌, min, ℤ, pos, Bool, true, false, true≢false, List, [], ◌∷◌, ◌++◌, length, get_or, take, drop, map, refl, sym, ap, ◌∙◌, subst, append_assoc, append-nil, arith}
use Rattle.std.specs.Prelude.{codes, flat_map, OnOk, Result, Ok, Err}
use Rattle.std.specs.List.{take-map, drop-map}
use Rattle.std.proofs.lemmas.List.{length-map, length-take, map-append}
use Rattle.std.proofs.lemmas.List.Concat.{flat_map-cons}
use Rattle.pb_base_values.specs.Carrier.{Tuple}
use Rattle.pb_text_tree.specs.Form.{VariableForm}
use Rattle.pb_text_meaning.specs.Syntax.{SortDeclaration}
use Rattle.pb_model_words.specs.Arrays.{VariableValue, variable_values, array_name, first_array_length, by_arrays, are_equal, merged_array}
use Rattle.pb_model_words.specs.Words.{equation_text, equations, value_text, marked}
use Rattle.pb_model_words.specs.View.{variable_said}
use Rattle.pb_model_words.specs.declared.variables.Variable as declared_variable
use Rattle.pb_model_words.proofs.FirstArrays.{first-array, first-array-within, marked-append, merged-one, merged-some, values-cut}

-- the equations of one array
abbrev pub array_words : List SortDeclaration → List VariableForm → Tuple → List (List ℕ)
array_words sorts xs vs = map (equation_text sorts) (merged_array (variable_values xs vs))

-- the one of equal elements
pub one-word : (sorts : List SortDeclaration) (xs : List declared_variable.Variable) (vs : Tuple) (x : declared_variable.Variable) (v : ℤ) (name : List ℕ)
    → length xs ≡ length vs → 0 < length xs → x ≡ get_or xs 0 x → v ≡ get_or vs 0 (pos 0) → are_equal vs ≡ true → name ≡ array_name (variable_said x).name.text
    → array_words sorts (map variable_said xs) vs ≡ (name ++ (codes " = " ++ value_text sorts (variable_said x).sort.text v)) ∷ []
one-word sorts [] vs x v name e h at there same named = absurd (omega arith)
one-word sorts (y ∷ xs) [] x v name e h at there same named = absurd (omega arith)
one-word sorts (y ∷ xs) (w ∷ vs) x v name e h at there same named =
    let long : length (map variable_said (y ∷ xs)) ≡ length (w ∷ vs) = length-map (y ∷ xs) variable_said ∙ e in
    ap (map (equation_text sorts)) (merged-one (variable_said y) w (map variable_said xs) vs long same)
    ∙ ap (λ (z : declared_variable.Variable). (array_name (variable_said z).name.text ++ (codes " = " ++ value_text sorts (variable_said z).sort.text w)) ∷ []) (sym at)
    ∙ ap (λ (u : ℤ). (array_name (variable_said x).name.text ++ (codes " = " ++ value_text sorts (variable_said x).sort.text u)) ∷ []) (sym there)
    ∙ ap (λ (n : List ℕ). (n ++ (codes " = " ++ value_text sorts (variable_said x).sort.text v)) ∷ []) (sym named)

-- one word behind its mark
pub word-put : {T E : Type 0} (r : Result T E) (s0 s1 s2 mark next word : List ℕ) (ws : List (List ℕ)) → ws ≡ word ∷ [] → s1 ≡ s0 ++ mark
    → OnOk r (s2 ≡ s1 ++ word) → OnOk r (s2 ≡ s0 ++ marked mark next ws)
word-put (Ok x) s0 s1 s2 mark next word ws is marking wording =
    wording ∙ ap (λ s. s ++ word) marking ∙ append_assoc s0 mark word
    ∙ ap (λ w. s0 ++ (mark ++ w)) (sym (append-nil word)) ∙ ap (λ us. s0 ++ marked mark next us) (sym is)
word-put (Err e) s0 s1 s2 mark next word ws is marking wording = tt

-- other words, where they are the same
pub same-words : {T E : Type 0} (sorts : List SortDeclaration) (r : Result T E) (s0 s1 mark next : List ℕ) (es fs : List VariableValue) → es ≡ fs
    → OnOk r (s1 ≡ s0 ++ marked mark next (map (equation_text sorts) fs)) → OnOk r (s1 ≡ s0 ++ marked mark next (map (equation_text sorts) es))
same-words sorts r s0 s1 mark next es fs is put =
    subst (λ (gs : List VariableValue). OnOk r (s1 ≡ s0 ++ marked mark next (map (equation_text sorts) gs))) (sym is) put

-- ---- all arrays

-- the first array's words, and those of the others
pub equations-parted : (sorts : List SortDeclaration) (xs : List VariableForm) (vs : Tuple) → length xs ≡ length vs → 0 < length xs
    → equations sorts xs vs ≡ array_words sorts (take (first_array_length xs) xs) (take (first_array_length xs) vs)
    ++ equations sorts (drop (first_array_length xs) xs) (drop (first_array_length xs) vs)
equations-parted sorts xs vs e h =
    let n = first_array_length xs in
    let first = variable_values (take n xs) (take n vs) in
    let others = by_arrays (variable_values (drop n xs) (drop n vs)) in
    ap (λ (gs : List (List VariableValue)). map (equation_text sorts) (flat_map merged_array gs)) (first-array xs vs e h)
    ∙ (ap (map (equation_text sorts)) (flat_map-cons merged_array first others)
    ∙ map-append (equation_text sorts) (merged_array first) (flat_map merged_array others))

-- the first array's words are put behind a text, and those of the others are left
pub array-put : (sorts : List SortDeclaration) (D E F : List declared_variable.Variable) (V W U : Tuple) (n : ℕ) (old new R mark next : List ℕ)
    → length D ≡ length V → 0 < length D → n ≡ first_array_length (map variable_said D)
    → E ≡ take n D → F ≡ drop n D → W ≡ take n V → U ≡ drop n V
    → new ≡ old ++ marked mark next (array_words sorts (map variable_said E) W)
    → old ++ marked mark next (equations sorts (map variable_said D) V) ≡ R
    → new ++ marked next next (equations sorts (map variable_said F) U) ≡ R
array-put sorts D E F V W U n old new R mark next e h counted E-is F-is W-is U-is put whole =
    let xs = map variable_said D in
    let first = array_words sorts (take n xs) (take n V) in
    let rest = equations sorts (drop n xs) (drop n V) in
    let long : length xs ≡ length D = length-map D variable_said in
    let parted : equations sorts xs V ≡ first ++ rest = equations-parted sorts xs V (long ∙ e) (omega (arith, long, h))
    ∙ ap (λ (m : ℕ). array_words sorts (take m xs) (take m V) ++ equations sorts (drop m xs) (drop m V)) (sym counted) in
    let within = first-array-within xs (omega (arith, long, h)) in
    let lengths : length (take n xs) ≡ length (take n V) = omega (arith, length-take n xs, length-take n V, long, e) in
    let some : 0 < length first = omega (
      arith,
      length-map (merged_array (variable_values (take n xs) (take n V))) (equation_text sorts),
      merged-some (take n xs) (take n V) lengths (omega (arith, length-take n xs, within.0, within.1, counted)),
    ) in
    let first-is : array_words sorts (map variable_said E) W ≡ first = ap (λ (ds : List declared_variable.Variable). array_words sorts (map variable_said ds) W) E-is
    ∙ (ap (λ (ys : List VariableForm). array_words sorts ys W) (sym (take-map variable_said n D)) ∙ ap (array_words sorts (take n xs)) W-is) in
    let rest-is : equations sorts (map variable_said F) U ≡ rest = ap (λ (ds : List declared_variable.Variable). equations sorts (map variable_said ds) U) F-is
    ∙ (ap (λ (ys : List VariableForm). equations sorts ys U) (sym (drop-map variable_said n D)) ∙ ap (equations sorts (drop n xs)) U-is) in
    ap (λ us. new ++ marked next next us) rest-is
    ∙ (ap (λ s. s ++ marked next next rest) (put ∙ ap (λ us. old ++ marked mark next us) first-is)
    ∙ (append_assoc old (marked mark next first) (marked next next rest)
    ∙ (ap (λ s. old ++ s) (sym (marked-append mark next first rest some))
    ∙ (ap (λ us. old ++ marked mark next us) (sym parted) ∙ whole))))

-- nothing is left, and the variables that have no value, or values that have no variable, are of no use
pub equations-none : (sorts : List SortDeclaration) (D : List declared_variable.Variable) (V : Tuple) → length D ≡ 0 → equations sorts (map variable_said D) V ≡ []
equations-none sorts [] V none = refl
equations-none sorts (x ∷ D) V none = absurd (omega arith)

pub equations-cut : (sorts : List SortDeclaration) (D : List declared_variable.Variable) (V : Tuple) (n : ℕ) → min (length D) (length V) ≤ n
    → equations sorts (map variable_said (take n D)) (take n V) ≡ equations sorts (map variable_said D) V
equations-cut sorts D V n h =
    ap (λ (ys : List VariableForm). equations sorts ys (take n V)) (sym (take-map variable_said n D))
    ∙ ap (λ (es : List VariableValue). map (equation_text sorts) (flat_map merged_array (by_arrays es)))
    (values-cut (map variable_said D) V n (omega (arith, length-map D variable_said, h)))

-- ---- bounds

pub not-none : (n : ℕ) (b : Bool) → b ≡ (n == 0) → b ≡ false → 0 < n
not-none zero b is other = absurd (true≢false (sym is ∙ other))
not-none (suc n) b is other = omega arith

-- the first array is within the variables
pub array-within : (D : List declared_variable.Variable) (n : ℕ) → 0 < length D → n ≡ first_array_length (map variable_said D) → n ≤ length D
array-within D n h counted =
    let long = length-map D variable_said in
    let within = first-array-within (map variable_said D) (omega (arith, long, h)) in
    omega (arith, within.1, long, counted)
