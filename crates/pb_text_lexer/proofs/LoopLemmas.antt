-- Loops of the code: what a loop has still to read, behind the items that it has.
use Rattle.std.proofs.Common.{◌≡◌, ℕ, suc, ◌-◌, ◌<◌, Bool, true, false, if◌then◌else◌, List, [], ◌∷◌, ◌++◌, refl, sym, ap, ◌∙◌, arith, append_assoc, Ok, Err}
use Rattle.pb_text_tree.specs.declared.place.Place.{Place}
use Rattle.pb_text_tree.specs.Form.{chained}
use Rattle.pb_text_lexer.specs.declared.kind.Kind.{Kind}
use Rattle.pb_text_lexer.specs.declared.fault.Refusal.{Refusal}
use Rattle.pb_text_lexer.specs.Grammar.{State}
use Rattle.pb_text_lexer.specs.Kinds.{same_kind}
use Rattle.pb_text_lexer.specs.Steps.{Step, Outcome, and_then, ◌>>=◌, pure, peek, kind, take_operator, series, chain, listed}
use Rattle.pb_text_lexer.specs.Tokens.{Tok}

-- ---- lists

module _ {X T : Type 0} (item : Step X) (test : Kind → Bool) (between : Step T) where
  -- behind items that are read
  abbrev pub gathered : List X → ℕ → Step (List X)
  gathered xs n = listed item test between n >>= (λ rest. pure (xs ++ rest))

  none-in-front : (r : Outcome (List X)) → r ≡ and_then r (λ rest. pure ([] ++ rest))
  none-in-front (Ok r) = refl
  none-in-front (Err bad) = refl

  one-in-front : (xs : List X) (x : X) (r : Outcome (List X)) →
      and_then (and_then r (λ rest. pure (x ∷ rest))) (λ rest. pure (xs ++ rest)) ≡ and_then r (λ rest. pure ((xs ++ x ∷ []) ++ rest))
  one-in-front xs x (Ok r) = ap (λ v. Ok (v, r.1)) (sym (append_assoc xs (x ∷ []) r.0))
  one-in-front xs x (Err f) = refl

  pub gathered-none : (n : ℕ) (s : State) → listed item test between n s ≡ gathered [] (n - 0) s
  gathered-none n s =
      let m : n - 0 ≡ n = omega arith in
      none-in-front (listed item test between n s) ∙ ap (λ k. gathered [] k s) (sym m)

  more-suc : (xs : List X) (n : ℕ) (s s1 s2 : State) (x : X) (t : T) → item s ≡ Ok (x, s1) → test (kind s1) ≡ true → between s1 ≡ Ok (t, s2)
      → gathered xs (suc n) s ≡ gathered (xs ++ x ∷ []) n s2
  unfolding series
  more-suc xs n s s1 s2 x t reads goes stands = rw reads (rw goes (rw stands (one-in-front xs x (listed item test between n s2))))

  -- one item more
  pub gathered-more : (xs : List X) (n m : ℕ) (s s1 s2 : State) (x : X) (t : T) → n ≡ suc m → item s ≡ Ok (x, s1) → test (kind s1) ≡ true → between s1 ≡ Ok (t, s2)
      → gathered xs n s ≡ gathered (xs ++ x ∷ []) m s2
  gathered-more xs n m s s1 s2 x t count reads goes stands = ap (λ k. gathered xs k s) count ∙ more-suc xs m s s1 s2 x t reads goes stands

  end-suc : (xs : List X) (n : ℕ) (s s1 : State) (x : X) → item s ≡ Ok (x, s1) → test (kind s1) ≡ false → gathered xs (suc n) s ≡ Ok (xs ++ x ∷ [], s1)
  unfolding series
  end-suc xs n s s1 x reads stops = rw reads (rw stops refl)

  -- the last item
  pub gathered-end : (xs : List X) (n m : ℕ) (s s1 : State) (x : X) → n ≡ suc m → item s ≡ Ok (x, s1) → test (kind s1) ≡ false → gathered xs n s ≡ Ok (xs ++ x ∷ [], s1)
  gathered-end xs n m s s1 x count reads stops = ap (λ k. gathered xs k s) count ∙ end-suc xs m s s1 x reads stops

  item-fails-suc : (xs : List X) (n : ℕ) (s : State) (bad : Refusal) → item s ≡ Err bad → gathered xs (suc n) s ≡ Err bad
  unfolding series
  item-fails-suc xs n s bad reads = rw reads refl

  pub gathered-item-fails : (xs : List X) (n m : ℕ) (s : State) (bad : Refusal) → n ≡ suc m → item s ≡ Err bad → gathered xs n s ≡ Err bad
  gathered-item-fails xs n m s bad count reads = ap (λ k. gathered xs k s) count ∙ item-fails-suc xs m s bad reads

-- ---- chains that are read to the right

module _ {X : Type 0} (c : Kind) (join : Place → X → X → X) (op : Step X) where
  abbrev pub placed : X → Tok → X → X
  placed x t y = join t.place x y

  -- behind an operand
  abbrev pub behind : ℕ → X → Step X
  behind n x = do
    kind ← peek
    if same_kind kind c then (do
      t ← take_operator
      y ← chain c placed op n
      pure (join t.place x y)) else pure x

  -- behind a first operand and links
  abbrev pub resumed : ℕ → X → List (Place × X) → Step X
  resumed n first [] = behind n first
  resumed n first (link ∷ links) = resumed n link.1 links >>= (λ y. pure (join link.0 first y))

  -- the first operand
  pub resumed-first : (n : ℕ) (s s1 : State) (x : X) → op s ≡ Ok (x, s1) → chain c placed op (suc n) s ≡ resumed (n - 0) x [] s1
  unfolding series
  resumed-first n s s1 x reads =
      let m : n - 0 ≡ n = omega arith in
      rw reads (ap (λ k. behind k x s1) (sym m))

  pub resumed-first-fails : (n : ℕ) (s : State) (bad : Refusal) → op s ≡ Err bad → chain c placed op (suc n) s ≡ Err bad
  unfolding series
  resumed-first-fails n s bad reads = rw reads refl

  -- no link more
  pub resumed-end : (n : ℕ) (first : X) (links : List (Place × X)) (s : State) → same_kind (kind s) c ≡ false → resumed n first links s ≡ Ok (chained join first links, s)
  resumed-end n first [] s other = rw other refl
  resumed-end n first (link ∷ links) s other = ap (λ o. and_then o (λ y. pure (join link.0 first y))) (resumed-end n link.1 links s other)

  more-links : (n : ℕ) (first : X) (links : List (Place × X)) (s s1 s2 : State) (t : Tok) (x : X)
      → same_kind (kind s) c ≡ true → take_operator s ≡ Ok (t, s1) → op s1 ≡ Ok (x, s2)
      → resumed (suc n) first links s ≡ resumed n first (links ++ (t.place, x) ∷ []) s2
  unfolding series
  more-links n first [] s s1 s2 t x same taken reads = rw same (rw taken (rw reads refl))
  more-links n first (link ∷ links) s s1 s2 t x same taken reads =
      ap (λ o. and_then o (λ y. pure (join link.0 first y))) (more-links n link.1 links s s1 s2 t x same taken reads)

  -- one link more
  pub resumed-more : (n m : ℕ) (first : X) (links : List (Place × X)) (s s1 s2 : State) (t : Tok) (x : X)
      → n ≡ suc m → same_kind (kind s) c ≡ true → take_operator s ≡ Ok (t, s1) → op s1 ≡ Ok (x, s2)
      → resumed n first links s ≡ resumed m first (links ++ (t.place, x) ∷ []) s2
  resumed-more n m first links s s1 s2 t x count same taken reads =
      ap (λ k. resumed k first links s) count ∙ more-links m first links s s1 s2 t x same taken reads

  -- an operator that is refused, and an operand that is
  pub resumed-operator-fails : (n : ℕ) (first : X) (links : List (Place × X)) (s : State) (bad : Refusal)
      → same_kind (kind s) c ≡ true → take_operator s ≡ Err bad → resumed n first links s ≡ Err bad
  resumed-operator-fails n first [] s bad same taken = rw same (rw taken refl)
  resumed-operator-fails n first (link ∷ links) s bad same taken =
      ap (λ o. and_then o (λ y. pure (join link.0 first y))) (resumed-operator-fails n link.1 links s bad same taken)

  operand-fails-suc : (n : ℕ) (first : X) (links : List (Place × X)) (s s1 : State) (t : Tok) (bad : Refusal)
      → same_kind (kind s) c ≡ true → take_operator s ≡ Ok (t, s1) → op s1 ≡ Err bad → resumed (suc n) first links s ≡ Err bad
  unfolding series
  operand-fails-suc n first [] s s1 t bad same taken reads = rw same (rw taken (rw reads refl))
  operand-fails-suc n first (link ∷ links) s s1 t bad same taken reads =
      ap (λ o. and_then o (λ y. pure (join link.0 first y))) (operand-fails-suc n link.1 links s s1 t bad same taken reads)

  pub resumed-operand-fails : (n : ℕ) (first : X) (links : List (Place × X)) (s s1 : State) (t : Tok) (bad : Refusal)
      → 0 < n → same_kind (kind s) c ≡ true → take_operator s ≡ Ok (t, s1) → op s1 ≡ Err bad → resumed n first links s ≡ Err bad
  resumed-operand-fails n first links s s1 t bad some same taken reads =
      let m : n ≡ suc (n - 1) = omega arith in
      ap (λ k. resumed k first links s) m ∙ operand-fails-suc (n - 1) first links s s1 t bad same taken reads
