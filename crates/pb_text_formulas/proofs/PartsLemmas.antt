-- Sort parts that are read by a loop: what the loop has still to read, behind the declarations that it has.
use Rattle.std.proofs.Common.{◌≡◌, ℕ, suc, Bool, true, false, cond, List, [], ◌++◌, length, refl, sym, ap, ◌∙◌, append_assoc, Ok, Err}
use Rattle.std.proofs.lemmas.List.{append-nil, map-append}
use Rattle.pb_text_tree.specs.Form.{SortDeclarationForm, sort_declaration_form}
use Rattle.pb_text_tree.specs.declared.sort.SortDeclaration.{SortDeclaration}
use Rattle.std.specs.Prelude.{map}
use Rattle.pb_text_lexer.specs.declared.fault.Refusal.{Refusal}
use Rattle.pb_text_lexer.specs.declared.fault.ReadingRule.TheVariants.{Unexpected}
use Rattle.pb_text_lexer.specs.Grammar.{State}
use Rattle.pb_text_lexer.specs.Steps.{Step, Outcome, and_then, ◌>>=◌, pure, kind, refusal, series, extended, nothing_between}
use Rattle.pb_text_formulas.specs.Reading.{is_name_kind, is_sort, sort_part, some_sort_parts, sort_parts}

abbrev parts_from : ℕ → Step (List SortDeclarationForm)
parts_from = series sort_part is_sort nothing_between (λ sorts. sorts) (λ sorts u rest. sorts ++ rest)

abbrev still : ℕ → Step (List SortDeclarationForm)
still n = extended is_sort (pure []) (λ none. parts_from n)

abbrev pub kept : List SortDeclarationForm → ℕ → Step (List SortDeclarationForm)
kept xs n = still n >>= (λ rest. pure (xs ++ rest))

none-in-front : (r : Outcome (List SortDeclarationForm)) → r ≡ and_then r (λ rest. pure ([] ++ rest))
none-in-front (Ok r) = refl
none-in-front (Err bad) = refl

same-at : (s : State) (b : Bool) → cond b some_sort_parts (pure []) s ≡ cond b (parts_from (suc (length s.tokens))) (pure []) s
same-at s true = refl
same-at s false = refl

pub kept-none : (s : State) → is_name_kind (kind s) ≡ false → sort_parts s ≡ kept [] (suc (length s.tokens)) s
kept-none s other = rw other (same-at s (is_sort (kind s)) ∙ none-in-front (still (suc (length s.tokens)) s))

-- a declaration without a part
pub parts-refused : (s : State) → is_name_kind (kind s) ≡ true → sort_parts s ≡ Err (refusal Unexpected s.tokens)
parts-refused s same = rw same refl

-- no part more
pub kept-end : (xs : List SortDeclarationForm) (n : ℕ) (s : State) → is_sort (kind s) ≡ false → kept xs n s ≡ Ok (xs, s)
kept-end xs n s other = rw other (ap (λ v. Ok (v, s)) (append-nil xs))

in-front : (xs x : List SortDeclarationForm) (r : Outcome (List SortDeclarationForm))
    → and_then (and_then r (λ rest. pure (x ++ rest))) (λ rest. pure (xs ++ rest)) ≡ and_then r (λ rest. pure ((xs ++ x) ++ rest))
in-front xs x (Ok r) = ap (λ v. Ok (v, r.1)) (sym (append_assoc xs x r.0))
in-front xs x (Err bad) = refl

more-at : (xs x : List SortDeclarationForm) (n : ℕ) (s1 : State) (b : Bool)
    → and_then (cond b (parts_from n >>= (λ rest. pure (x ++ rest))) (pure x) s1) (λ rest. pure (xs ++ rest))
    ≡ and_then (cond b (parts_from n) (pure []) s1) (λ rest. pure ((xs ++ x) ++ rest))
more-at xs x n s1 true = in-front xs x (parts_from n s1)
more-at xs x n s1 false = ap (λ v. Ok (v, s1)) (sym (append-nil (xs ++ x)))

-- one part more
pub kept-more : (xs x : List SortDeclarationForm) (n : ℕ) (s s1 : State) → is_sort (kind s) ≡ true → sort_part s ≡ Ok (x, s1) → kept xs (suc n) s ≡ kept (xs ++ x) n s1
unfolding series
kept-more xs x n s s1 same reads = rw same (rw reads (more-at xs x n s1 (is_sort (kind s1))))

pub kept-fails : (xs : List SortDeclarationForm) (n : ℕ) (s : State) (bad : Refusal) → is_sort (kind s) ≡ true → sort_part s ≡ Err bad → kept xs (suc n) s ≡ Err bad
unfolding series
kept-fails xs n s bad same reads = rw same (rw reads refl)

pub declarations-append : (xs ys : List SortDeclaration) → map sort_declaration_form (xs ++ ys) ≡ map sort_declaration_form xs ++ map sort_declaration_form ys
declarations-append xs ys = map-append _ xs ys
