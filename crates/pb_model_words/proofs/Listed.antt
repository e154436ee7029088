-- Of words in a list, those of the variables from k on: the first one and the others, and that none
-- is left where there are no more variables or values.
use Rattle.std.proofs.Common.{◌≡◌, ℕ, zero, suc, ◌+◌, ◌<◌, ◌≤◌, min, ℤ, pos, Bool, true, false, List, [], ◌∷◌, ◌++◌, length, get_or, drop, map, refl, sym, ap, ◌∙◌, append_assoc, arith, SFits, w64, to_z, of_z, to_z-of_z, Result, Ok, Err}
use Rattle.std.proofs.Math.Seq.{drop-cons}
use Rattle.std.proofs.lemmas.List.{append-nil}
use Rattle.std.proofs.lemmas.Bool.Decides.{Decides-int_eq}
use Rattle.std.specs.Ordering.{int_eq}
use Rattle.std.specs.Prelude.{codes, if◌then◌else◌, OnOk, is_ok}
use Rattle.pb_base_values.specs.Carrier.{Tuple}
use Rattle.pb_text_tree.specs.Form.{VariableForm}
use Rattle.pb_text_meaning.specs.Syntax.{SortDeclaration}
use Rattle.pb_model_words.specs.declared.variables.Variable as declared_variable
use Rattle.pb_model_words.specs.Arrays.{variable_values}
use Rattle.pb_model_words.specs.Words.{binding_text, equation_text, value_text, changes, value_texts, marked, in_brackets}
use Rattle.pb_model_words.specs.View.{variable_said}

-- what is left of a list from k on
pub drop-at : {A : Type 0} (xs : List A) (k : ℕ) (x d : A) → k < length xs → x ≡ get_or xs k d → drop k xs ≡ x ∷ drop (k + 1) xs
drop-at xs k x d within is =
    let next : suc k ≡ k + 1 = omega arith in
    drop-cons xs k d within ∙ ap (λ (n : ℕ). get_or xs k d ∷ drop n xs) next ∙ ap (λ y. y ∷ drop (k + 1) xs) (sym is)

-- an equation for each variable
abbrev pub each_equation : List SortDeclaration → List declared_variable.Variable → Tuple → List (List ℕ)
each_equation sorts xs vs = map (equation_text sorts) (variable_values (map variable_said xs) vs)

pub equations-at : (sorts : List SortDeclaration) (xs : List declared_variable.Variable) (vs : Tuple) (k : ℕ) (x : declared_variable.Variable) (v : ℤ)
    → k < length xs → k < length vs → x ≡ get_or xs k x → v ≡ get_or vs k (pos 0)
    → each_equation sorts (drop k xs) (drop k vs) ≡ binding_text sorts (variable_said x) (codes " = ") v ∷ each_equation sorts (drop (k + 1) xs) (drop (k + 1) vs)
equations-at sorts xs vs k x v h h' e e' =
    ap (λ (ys : List declared_variable.Variable). each_equation sorts ys (drop k vs)) (drop-at xs k x x h e)
    ∙ ap (λ (ws : Tuple). each_equation sorts (x ∷ drop (k + 1) xs) ws) (drop-at vs k v (pos 0) h' e')

pub value_texts-at : (sorts : List SortDeclaration) (xs : List declared_variable.Variable) (vs : Tuple) (k : ℕ) (x : declared_variable.Variable) (v : ℤ)
    → k < length xs → k < length vs → x ≡ get_or xs k x → v ≡ get_or vs k (pos 0)
    → value_texts sorts (map variable_said (drop k xs)) (drop k vs) ≡ value_text sorts (variable_said x).sort.text v ∷ value_texts sorts (map variable_said (drop (k + 1) xs)) (drop (k + 1) vs)
value_texts-at sorts xs vs k x v h h' e e' =
    ap (λ (ys : List declared_variable.Variable). value_texts sorts (map variable_said ys) (drop k vs)) (drop-at xs k x x h e)
    ∙ ap (λ (ws : Tuple). value_texts sorts (map variable_said (x ∷ drop (k + 1) xs)) ws) (drop-at vs k v (pos 0) h' e')

pub changes-at : (sorts : List SortDeclaration) (xs : List declared_variable.Variable) (vs ws : Tuple) (k : ℕ) (x : declared_variable.Variable) (v w : ℤ)
    → k < length xs → k < length vs → k < length ws → x ≡ get_or xs k x → v ≡ get_or vs k (pos 0) → w ≡ get_or ws k (pos 0)
    → changes sorts (map variable_said (drop k xs)) (drop k vs) (drop k ws) ≡ changes sorts (variable_said x ∷ map variable_said (drop (k + 1) xs)) (v ∷ drop (k + 1) vs) (w ∷ drop (k + 1) ws)
changes-at sorts xs vs ws k x v w h h' h'' e e' e'' =
    ap (λ (ys : List declared_variable.Variable). changes sorts (map variable_said ys) (drop k vs) (drop k ws)) (drop-at xs k x x h e)
    ∙ ap (λ (us : Tuple). changes sorts (map variable_said (x ∷ drop (k + 1) xs)) us (drop k ws)) (drop-at vs k v (pos 0) h' e')
    ∙ ap (λ (us : Tuple). changes sorts (map variable_said (x ∷ drop (k + 1) xs)) (v ∷ drop (k + 1) vs) us) (drop-at ws k w (pos 0) h'' e'')

-- where the values are the same, and where not
pub changes-same : (sorts : List SortDeclaration) (xs : List declared_variable.Variable) (vs ws : Tuple) (k : ℕ) (v w : ℤ)
    → k < length xs → k < length vs → k < length ws → v ≡ get_or vs k (pos 0) → w ≡ get_or ws k (pos 0) → v ≡ w
    → changes sorts (map variable_said (drop k xs)) (drop k vs) (drop k ws) ≡ changes sorts (map variable_said (drop (k + 1) xs)) (drop (k + 1) vs) (drop (k + 1) ws)
changes-same sorts [] vs ws k v w h h' h'' e' e'' same = absurd (omega arith)
changes-same sorts (x ∷ xs) vs ws k v w h h' h'' e' e'' same =
    let y = get_or (x ∷ xs) k x in
    let rest = changes sorts (map variable_said (drop (k + 1) (x ∷ xs))) (drop (k + 1) vs) (drop (k + 1) ws) in
    ap (λ (ys : List declared_variable.Variable). changes sorts (map variable_said ys) (drop k vs) (drop k ws)) (drop-at (x ∷ xs) k y x h refl)
    ∙ ap (λ (us : Tuple). changes sorts (map variable_said (y ∷ drop (k + 1) (x ∷ xs))) us (drop k ws)) (drop-at vs k v (pos 0) h' e')
    ∙ ap (λ (us : Tuple). changes sorts (map variable_said (y ∷ drop (k + 1) (x ∷ xs))) (v ∷ drop (k + 1) vs) us) (drop-at ws k w (pos 0) h'' e'')
    ∙ ap (λ b. if b then rest else binding_text sorts (variable_said y) (codes " := ") w ∷ rest) ((Decides-int_eq v w).1 same)

pub changes-other : (sorts : List SortDeclaration) (xs : List declared_variable.Variable) (vs ws : Tuple) (k : ℕ) (x : declared_variable.Variable) (v w : ℤ)
    → k < length xs → k < length vs → k < length ws → x ≡ get_or xs k x → v ≡ get_or vs k (pos 0) → w ≡ get_or ws k (pos 0) → (v ≡ w → ⊥)
    → changes sorts (map variable_said (drop k xs)) (drop k vs) (drop k ws)
    ≡ binding_text sorts (variable_said x) (codes " := ") w ∷ changes sorts (map variable_said (drop (k + 1) xs))
    (drop (k + 1) vs) (drop (k + 1) ws)
changes-other sorts xs vs ws k x v w h h' h'' e e' e'' differs =
    let rest = changes sorts (map variable_said (drop (k + 1) xs)) (drop (k + 1) vs) (drop (k + 1) ws) in
    changes-at sorts xs vs ws k x v w h h' h'' e e' e''
    ∙ ap (λ b. if b then rest else binding_text sorts (variable_said x) (codes " := ") w ∷ rest) (not-true (int_eq v w) (λ t. differs ((Decides-int_eq v w).0 t)))
  where
    not-true : (b : Bool) → (b ≡ true → ⊥) → b ≡ false
    not-true true h = absurd (h refl)
    not-true false h = refl

-- ---- none are left

pub equations-end : (sorts : List SortDeclaration) (xs : List declared_variable.Variable) (vs : Tuple) (k : ℕ)
    → min (length xs) (length vs) ≤ k → each_equation sorts (drop k xs) (drop k vs) ≡ []
equations-end sorts [] vs zero h = refl
equations-end sorts [] vs (suc k) h = refl
equations-end sorts (x ∷ xs) [] zero h = refl
equations-end sorts (x ∷ xs) [] (suc k) h = none (map variable_said (drop k xs))
  where
    none : (ys : List VariableForm) → map (equation_text sorts) (variable_values ys []) ≡ []
    none [] = refl
    none (y ∷ ys) = refl
equations-end sorts (x ∷ xs) (v ∷ vs) zero h = absurd (omega arith)
equations-end sorts (x ∷ xs) (v ∷ vs) (suc k) h = equations-end sorts xs vs k (omega arith)

pub value_texts-end : (sorts : List SortDeclaration) (xs : List declared_variable.Variable) (vs : Tuple) (k : ℕ)
    → min (length xs) (length vs) ≤ k → value_texts sorts (map variable_said (drop k xs)) (drop k vs) ≡ []
value_texts-end sorts [] vs zero h = refl
value_texts-end sorts [] vs (suc k) h = refl
value_texts-end sorts (x ∷ xs) [] zero h = refl
value_texts-end sorts (x ∷ xs) [] (suc k) h = none (map variable_said (drop k xs))
  where
    none : (ys : List VariableForm) → value_texts sorts ys [] ≡ []
    none [] = refl
    none (y ∷ ys) = refl
value_texts-end sorts (x ∷ xs) (v ∷ vs) zero h = absurd (omega arith)
value_texts-end sorts (x ∷ xs) (v ∷ vs) (suc k) h = value_texts-end sorts xs vs k (omega arith)

pub changes-end : (sorts : List SortDeclaration) (xs : List declared_variable.Variable) (vs ws : Tuple) (k : ℕ)
    → min (min (length xs) (length vs)) (length ws) ≤ k → changes sorts (map variable_said (drop k xs)) (drop k vs) (drop k ws) ≡ []
changes-end sorts [] vs ws zero h = refl
changes-end sorts [] vs ws (suc k) h = refl
changes-end sorts (x ∷ xs) [] ws zero h = refl
changes-end sorts (x ∷ xs) [] ws (suc k) h = none (map variable_said (drop k xs)) (drop (suc k) ws)
  where
    none : (ys : List VariableForm) (us : Tuple) → changes sorts ys [] us ≡ []
    none [] us = refl
    none (y ∷ ys) us = refl
changes-end sorts (x ∷ xs) (v ∷ vs) [] zero h = refl
changes-end sorts (x ∷ xs) (v ∷ vs) [] (suc k) h = none (map variable_said (drop k xs)) (drop k vs)
  where
    none : (ys : List VariableForm) (us : Tuple) → changes sorts ys us [] ≡ []
    none [] us = refl
    none (y ∷ ys) [] = refl
    none (y ∷ ys) (u ∷ us) = refl
changes-end sorts (x ∷ xs) (v ∷ vs) (w ∷ ws) zero h = absurd (omega arith)
changes-end sorts (x ∷ xs) (v ∷ vs) (w ∷ ws) (suc k) h = changes-end sorts xs vs ws k (omega arith)

-- ---- a text so far, with the words that are left

-- with the next word behind its mark
pub went-on : (before mid after mark next word R : List ℕ) (ws rest : List (List ℕ))
    → before ++ marked mark next ws ≡ R → ws ≡ word ∷ rest → mid ≡ before ++ mark → after ≡ mid ++ word → after ++ marked next next rest ≡ R
went-on before mid after mark next word R ws rest whole at marking wording =
    ap (λ x. x ++ marked next next rest) (wording ∙ ap (λ x. x ++ word) marking)
    ∙ regrouped before mark word (marked next next rest)
    ∙ ap (λ us. before ++ marked mark next us) (sym at)
    ∙ whole
  where
    regrouped : (a b c d : List ℕ) → ((a ++ b) ++ c) ++ d ≡ a ++ (b ++ (c ++ d))
    regrouped a b c d = simp append_assoc

-- with no word left
pub ended : (text mark next R : List ℕ) (ws : List (List ℕ)) → text ++ marked mark next ws ≡ R → ws ≡ [] → text ≡ R
ended text mark next R ws whole none = sym (append-nil text) ∙ ap (λ us. text ++ marked mark next us) (sym none) ∙ whole

-- words in brackets: the last one behind all others, and none where there are no words
pub bracketed : (text after R : List ℕ) (ws : List (List ℕ)) (n : ℕ) → length ws ≡ n → (n ≡ 0 → ⊥)
    → text ≡ R ++ marked (codes "(") (codes ",") ws → after ≡ text ++ codes ")" → after ≡ R ++ in_brackets ws
bracketed text after R [] n is some whole behind = absurd (some (sym is))
bracketed text after R (w ∷ ws) n is some whole behind =
    behind ∙ ap (λ x. x ++ codes ")") whole ∙ append_assoc R (marked (codes "(") (codes ",") (w ∷ ws)) (codes ")")

-- a text behind another, where there was memory for it
pub on_ok : {T E : Type 0} (r : Result T E) (new text behind : List ℕ) (P : Type 0)
    → new ≡ (if is_ok r then text ++ behind else text) → (new ≡ text ++ behind → P) → OnOk r P
on_ok (Ok x) new text behind P is so = so is
on_ok (Err e) new text behind P is so = tt

-- values that are the same word are the same, and those that aren't are others
pub same-word : (v w : ℤ) → SFits w64 v → SFits w64 w → of_z w64 v ≡ of_z w64 w → v ≡ w
same-word v w f g e = sym (to_z-of_z f) ∙ (ap (to_z w64) e ∙ to_z-of_z g)

pub value_texts-length : (sorts : List SortDeclaration) (xs : List declared_variable.Variable) (vs : Tuple)
    → length (value_texts sorts (map variable_said xs) vs) ≡ min (length xs) (length vs)
value_texts-length sorts [] vs = omega arith
value_texts-length sorts (x ∷ xs) [] = omega arith
value_texts-length sorts (x ∷ xs) (v ∷ vs) = omega (arith, value_texts-length sorts xs vs)
