-- Sorts that are read by loops: what a loop has still to read, behind what it has, and sorts apart from their bounds.
use Rattle.std.proofs.Common.{◌≡◌, ◌≢◌, Some, None, ℕ, suc, Bool, true, false, cond, List, [], ◌∷◌, ◌++◌, length, map, refl, sym, ap, ◌∙◌, append_assoc, Ok, Err}
use Rattle.std.specs.Prelude.{flat_map}
use Rattle.std.proofs.lemmas.List.{append-nil, map-append}
use Rattle.pb_text_tree.specs.declared.place.Place.{Place}
use Rattle.pb_text_tree.specs.Form.{Named, TermForm, alias, SortDeclarationForm, sort_declaration_form}
use Rattle.pb_text_lexer.specs.declared.fault.Refusal.{Refusal}
use Rattle.pb_text_lexer.specs.declared.fault.ReadingRule.TheVariants.{Unexpected}
use Rattle.pb_text_lexer.specs.declared.kind.Kind.{Kind}
use Rattle.pb_text_lexer.specs.declared.kind.Kind.TheVariants as k
use Rattle.pb_text_lexer.specs.Tokens.{Tok}
use Rattle.pb_text_lexer.specs.Grammar.{State}
use Rattle.pb_text_lexer.specs.Steps.{Step, Outcome, and_then, ◌>>=◌, pure, kind, refusal, refuse, take_token, series, extended, nothing_between}
use Rattle.pb_text_formulas.specs.Reading.{is_name_kind, is_sort}
use Rattle.pb_protocol_tree.specs.Form.{BoundsForm}
use Rattle.pb_model_text.specs.declared.sort.DeclaredSort as declared
use Rattle.pb_model_text.specs.Models.{DeclaredSort, declared_as, name_alone, declaration_in, bounds_in, listed_bounds}
use Rattle.pb_model_text.specs.Links.{bounds_said, declared_sort_form}
use Rattle.pb_model_text.specs.ModelReading.{sort_named, sort_behind, sort_by, sort_part, some_sorts, sorts}

-- ---- parts

module _ (depth : ℕ) where
  abbrev parts_from : ℕ → Step (List DeclaredSort)
  parts_from = series (sort_part depth) is_sort nothing_between (λ sorts. sorts) (λ sorts u rest. sorts ++ rest)

  abbrev still : ℕ → Step (List DeclaredSort)
  still n = extended is_sort (pure []) (λ none. parts_from n)

  abbrev pub kept : List DeclaredSort → ℕ → Step (List DeclaredSort)
  kept xs n = still n >>= (λ rest. pure (xs ++ rest))

  none-in-front : (r : Outcome (List DeclaredSort)) → r ≡ and_then r (λ rest. pure ([] ++ rest))
  none-in-front (Ok r) = refl
  none-in-front (Err bad) = refl

  same-at : (s : State) (b : Bool) → cond b (some_sorts depth) (pure []) s ≡ cond b (parts_from (suc (length s.tokens))) (pure []) s
  same-at s true = refl
  same-at s false = refl

  pub kept-none : (s : State) → is_name_kind (kind s) ≡ false → sorts depth s ≡ kept [] (suc (length s.tokens)) s
  kept-none s other = rw other (same-at s (is_sort (kind s)) ∙ none-in-front (still (suc (length s.tokens)) s))

  -- a declaration without a part
  pub parts-refused : (s : State) → is_name_kind (kind s) ≡ true → sorts depth s ≡ Err (refusal Unexpected s.tokens)
  parts-refused s same = rw same refl

  -- no part more
  pub kept-end : (xs : List DeclaredSort) (n : ℕ) (s : State) → is_sort (kind s) ≡ false → kept xs n s ≡ Ok (xs, s)
  kept-end xs n s other = rw other (ap (λ v. Ok (v, s)) (append-nil xs))

  in-front : (xs x : List DeclaredSort) (r : Outcome (List DeclaredSort))
      → and_then (and_then r (λ rest. pure (x ++ rest))) (λ rest. pure (xs ++ rest)) ≡ and_then r (λ rest. pure ((xs ++ x) ++ rest))
  in-front xs x (Ok r) = ap (λ v. Ok (v, r.1)) (sym (append_assoc xs x r.0))
  in-front xs x (Err bad) = refl

  more-at : (xs x : List DeclaredSort) (n : ℕ) (s1 : State) (b : Bool)
      → and_then (cond b (parts_from n >>= (λ rest. pure (x ++ rest))) (pure x) s1) (λ rest. pure (xs ++ rest))
      ≡ and_then (cond b (parts_from n) (pure []) s1) (λ rest. pure ((xs ++ x) ++ rest))
  more-at xs x n s1 true = in-front xs x (parts_from n s1)
  more-at xs x n s1 false = ap (λ v. Ok (v, s1)) (sym (append-nil (xs ++ x)))

  -- one part more
  pub kept-more : (xs x : List DeclaredSort) (n : ℕ) (s s1 : State) → is_sort (kind s) ≡ true → sort_part depth s ≡ Ok (x, s1) → kept xs (suc n) s ≡ kept (xs ++ x) n s1
  unfolding series
  kept-more xs x n s s1 same reads = rw same (rw reads (more-at xs x n s1 (is_sort (kind s1))))

  pub kept-fails : (xs : List DeclaredSort) (n : ℕ) (s : State) (bad : Refusal) → is_sort (kind s) ≡ true → sort_part depth s ≡ Err bad → kept xs (suc n) s ≡ Err bad
  unfolding series
  kept-fails xs n s bad same reads = rw same (rw reads refl)

pub sorts-append : (xs ys : List declared.DeclaredSort) → map declared_sort_form (xs ++ ys) ≡ map declared_sort_form xs ++ map declared_sort_form ys
sorts-append xs ys = map-append _ xs ys

-- ---- what stands behind `=`

pub named-taken : (found n : Named) (x : TermForm) (s z : State) (t : Tok) → Some n ≡ name_alone x → take_token s ≡ Ok (t, z) → sort_named found x s ≡ Ok (declared_as found (alias n), z)
named-taken found n (TermForm.name m) s z t e taken = let same : n ≡ m = cc in rw taken (ap (λ v. Ok (declared_as found (alias v), z)) (sym same))
named-taken found n _ s z t e taken = cc

pub named-refused : (found : Named) (x : TermForm) (s : State) → None ≡ name_alone x → sort_named found x s ≡ Err (refusal Unexpected s.tokens)
named-refused found (TermForm.name m) s e = cc
named-refused found _ s e = refl

pub behind-other : (depth : ℕ) (found : Named) (low : Place × TermForm) (kind : Kind) → kind ≢ k.Semicolon → kind ≢ k.Period → sort_behind depth found low kind ≡ refuse Unexpected
behind-other depth found low k.Semicolon a b = absurd (a refl)
behind-other depth found low k.Period a b = absurd (b refl)
behind-other depth found low _ a b = refl

pub by-other : (depth : ℕ) (found : Named) (kind : Kind) → kind ≢ k.Struct → kind ≢ k.Name → kind ≢ k.Number → kind ≢ k.Minus → kind ≢ k.Open → sort_by depth found kind ≡ refuse Unexpected
by-other depth found k.Struct a b c d e = absurd (a refl)
by-other depth found k.Name a b c d e = absurd (b refl)
by-other depth found k.Number a b c d e = absurd (c refl)
by-other depth found k.Minus a b c d e = absurd (d refl)
by-other depth found k.Open a b c d e = absurd (e refl)
by-other depth found _ a b c d e = refl

-- ---- apart from bounds

pub declarations-last : (xs : List declared.DeclaredSort) (x : declared.DeclaredSort)
    → map declaration_in (map declared_sort_form xs) ++ sort_declaration_form x.declaration ∷ [] ≡ map declaration_in (map declared_sort_form (xs ++ x ∷ []))
declarations-last [] x = refl
declarations-last (y ∷ xs) x = ap (λ (v : List SortDeclarationForm). sort_declaration_form y.declaration ∷ v) (declarations-last xs x)

pub bounds-last : (xs : List declared.DeclaredSort) (x : declared.DeclaredSort)
    → flat_map bounds_in (map declared_sort_form xs) ++ listed_bounds (bounds_said x.bounds) ≡ flat_map bounds_in (map declared_sort_form (xs ++ x ∷ []))
bounds-last [] x = sym (append-nil (listed_bounds (bounds_said x.bounds)))
bounds-last (y ∷ xs) x =
    append_assoc (listed_bounds (bounds_said y.bounds)) (flat_map bounds_in (map declared_sort_form xs)) (listed_bounds (bounds_said x.bounds))
    ∙ ap (λ (v : List BoundsForm). listed_bounds (bounds_said y.bounds) ++ v) (bounds-last xs x)
