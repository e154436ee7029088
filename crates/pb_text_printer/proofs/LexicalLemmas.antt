-- The tokens that a text is cut into have names that are names, and numbers within their limit.
use Rattle.std.proofs.Common.{◌≡◌, ℕ, suc, ◌+◌, Bool, true, false, cond, ◌==◌, ◌&&◌, List, [], ◌∷◌, ◌++◌, length, take, drop, refl, sym, ap, ◌∙◌, subst, arith, nat_lt, Some, None, eq-eqb}
use Rattle.std.specs.List.{prefix_len, take_while}
use Rattle.std.proofs.lemmas.List.Folds.{length-prefix_len}
use Rattle.std.specs.Char.{is_ascii_digit}
use Rattle.std.specs.Str.{bytes_eq}
use Rattle.std.specs.Str.Parse.{digits_value}
use Rattle.std.proofs.lemmas.Bool.{and_from}
use Rattle.pb_text_tree.specs.declared.place.Place.{Place}
use Rattle.pb_text_tree.specs.Form.{RangeForm}
use Rattle.pb_text_lexer.specs.declared.kind.Kind.{Kind}
use Rattle.pb_text_lexer.specs.declared.kind.Kind.TheVariants as k
use Rattle.pb_text_lexer.specs.declared.piece.Piece.{Piece}
use Rattle.pb_text_lexer.specs.declared.piece.Piece.TheVariants.{Token}
use Rattle.pb_text_lexer.specs.Kinds.{same_kind}
use Rattle.pb_text_lexer.specs.Bytes.{is_blank, line, is_letter, is_name_byte, name_bytes, digits, kind_among, reserved, word_kind, is_name}
use Rattle.pb_text_lexer.specs.RangeLines.{behind_range, is_wrong}
use Rattle.pb_text_lexer.specs.Lexing.{Cuts, none, blank, token, piece, number, number_of, largest_number, symbol, one_byte_among, one_byte_symbols, two_bytes_among, two_byte_symbols, first_byte, start, past, IsCut}
use Rattle.pb_text_lexer.specs.Tokens.{Tok, token_at}
use Rattle.pb_text_lexer.proofs.TokenLemmas.{same-kind}
use Rattle.pb_text_lexer.proofs.PieceLemmas.{pick, none-first, none-rest, token-takes}
use Rattle.pb_text_printer.proofs.SaidLemmas.{AreLexical}

-- ---- a name at the front

while-stays : (p : ℕ → Bool) (bs : List ℕ) → prefix_len p (take_while p bs) ≡ length (take_while p bs)
while-stays p [] = refl
while-stays p (b ∷ bs) = go (p b) refl (while-stays p bs)
  where
    go : (v : Bool) → p b ≡ v → prefix_len p (take_while p bs) ≡ length (take_while p bs)
        → prefix_len p (take (cond v (1 + prefix_len p bs) 0) (b ∷ bs)) ≡ length (take (cond v (1 + prefix_len p bs) 0) (b ∷ bs))
    go false e h = refl
    go true e h =
        let more : suc (prefix_len p bs) ≡ 1 + prefix_len p bs = omega arith in
        let here : prefix_len p (b ∷ take_while p bs) ≡ 1 + prefix_len p (take_while p bs) = ap (λ v. cond v (1 + prefix_len p (take_while p bs)) 0) e in
        let last : prefix_len p (b ∷ take_while p bs) ≡ length (b ∷ take_while p bs) = omega arith in
        subst (λ (n : ℕ). prefix_len p (take n (b ∷ bs)) ≡ length (take n (b ∷ bs))) more last

name-whole : (b : ℕ) (ws : List ℕ) → is_letter b ≡ true → length (name_bytes ws) ≡ length ws → word_kind (b ∷ ws) ≡ k.Name → is_name (b ∷ ws) ≡ true
name-whole b ws h g e =
    and_from (is_letter b && length (name_bytes ws) == length ws) (same_kind (word_kind (b ∷ ws)) k.Name)
    (and_from (is_letter b) (length (name_bytes ws) == length ws) h (eq-eqb (length (name_bytes ws)) (length ws) g))
    (subst (λ (v : Kind). same_kind v k.Name ≡ true) (sym e) (same-kind k.Name))

name-front : (b : ℕ) (bs : List ℕ) → is_letter b ≡ true → word_kind (take (1 + length (name_bytes bs)) (b ∷ bs)) ≡ k.Name → is_name (take (1 + length (name_bytes bs)) (b ∷ bs)) ≡ true
name-front b bs h =
    let count = length-prefix_len is_name_byte bs in
    let more : suc (prefix_len is_name_byte bs) ≡ 1 + length (name_bytes bs) = omega arith in
    let whole : length (name_bytes (name_bytes bs)) ≡ length (name_bytes bs) = length-prefix_len is_name_byte (name_bytes bs) ∙ while-stays is_name_byte bs in
    subst (λ (n : ℕ). word_kind (take n (b ∷ bs)) ≡ k.Name → is_name (take n (b ∷ bs)) ≡ true) more (name-whole b (name_bytes bs) h whole)

-- ---- all pieces

abbrev NamesOf : Piece → List ℕ → Type 0
NamesOf (Token kind n) bs = kind ≡ k.Name → is_name (take n bs) ≡ true
NamesOf _ bs = Unit {0}

record Names (v : Piece) (bs : List ℕ) : Type 0 where
  is : NamesOf v bs

choose : (bs : List ℕ) (b : Bool) (x y : Piece) → (b ≡ true → Names x bs) → (b ≡ false → Names y bs) → Names (cond b x y) bs
choose bs b x y p q = pick (λ v. Names v bs) b x y p q

abbrev is_named : Kind → Bool
is_named k.Name = true
is_named _ = false

abbrev none_named : List (ℕ × Kind) → Bool
none_named [] = true
none_named (entry ∷ entries) = cond (is_named entry.1) false (none_named entries)

abbrev no_pair_named : List (ℕ × ℕ × Kind) → Bool
no_pair_named [] = true
no_pair_named (entry ∷ entries) = cond (is_named entry.2) false (no_pair_named entries)

not-named : (kind : Kind) → is_named kind ≡ false → kind ≡ k.Name → ⊥
not-named kind h e = let p : is_named kind ≡ true = ap is_named e in cc

one-names : (table : List (ℕ × Kind)) (a : ℕ) (bs : List ℕ) → none_named table ≡ true → Names (one_byte_among table a) bs
one-names [] a bs h = record { is = tt }
one-names (entry ∷ entries) a bs h =
    choose bs (a == entry.0) (Token entry.1 1) (one_byte_among entries a)
    (λ e. record { is = λ q. absurd (not-named entry.1 (none-first (is_named entry.1) (none_named entries) h) q) })
    (λ e. one-names entries a bs (none-rest (is_named entry.1) (none_named entries) h))

two-names : (table : List (ℕ × ℕ × Kind)) (a b : ℕ) (bs : List ℕ) → no_pair_named table ≡ true → Names (two_bytes_among table a b) bs
two-names [] a b bs h = one-names one_byte_symbols a bs refl
two-names (entry ∷ entries) a b bs h =
    choose bs (a == entry.0 && b == entry.1) (Token entry.2 2) (two_bytes_among entries a b)
    (λ e. record { is = λ q. absurd (not-named entry.2 (none-first (is_named entry.2) (no_pair_named entries) h) q) })
    (λ e. two-names entries a b bs (none-rest (is_named entry.2) (no_pair_named entries) h))

symbol-names : (a : ℕ) (bs cs : List ℕ) → Names (symbol a (first_byte bs)) cs
unfolding symbol
symbol-names a [] cs = one-names one_byte_symbols a cs refl
symbol-names a (b ∷ bs) cs = two-names two_byte_symbols a b cs refl

number-names : (ds bs : List ℕ) → Names (number ds) bs
unfolding number
number-names ds bs =
    pick (λ v. Names (number_of (length ds) v) bs) (nat_lt largest_number (digits_value 10 ds)) None (Some (digits_value 10 ds))
    (λ e. record { is = tt }) (λ e. record { is = λ q. cc })

piece-names : (p : Place) (bs : List ℕ) → Names (piece p bs) bs
unfolding piece
piece-names p [] = record { is = tt }
piece-names p (b ∷ bs) =
    choose (b ∷ bs) (is_blank b) _ _ (λ e. record { is = tt }) (λ e.
    choose (b ∷ bs) (b == 37) _ _ (λ e. choose (b ∷ bs) (p.column == 1 && is_wrong (behind_range (line bs))) _ _ (λ e. record { is = tt }) (λ e. record { is = tt })) (λ e.
    choose (b ∷ bs) (is_letter b) _ _ (λ e. record { is = name-front b bs e }) (λ e.
    choose (b ∷ bs) (b == 48) _ _ (λ e. record { is = λ q. cc }) (λ e.
    choose (b ∷ bs) (is_ascii_digit b) _ _ (λ e. number-names (take (1 + length (digits bs)) (b ∷ bs)) (b ∷ bs)) (λ e. symbol-names b bs (b ∷ bs))))))

token-names : (p : Place) (bs : List ℕ) (kind : Kind) (n : ℕ) → piece p bs ≡ Token kind n → kind ≡ k.Name → is_name (take n bs) ≡ true
token-names p bs kind n e = (subst (λ (v : Piece). Names v bs) e (piece-names p bs)).is

-- ---- no piece counts

abbrev is_count : Kind → Bool
is_count k.Count = true
is_count _ = false

not-count : (kind : Kind) → is_count kind ≡ false → kind ≡ k.Count → ⊥
not-count kind h e = let p : is_count kind ≡ true = ap is_count e in cc

abbrev PlainOf : Piece → Type 0
PlainOf (Token kind n) = is_count kind ≡ false
PlainOf _ = Unit {0}

record Plain (v : Piece) : Type 0 where
  is : PlainOf v

record PlainKind (kind : Kind) : Type 0 where
  is : is_count kind ≡ false

abbrev none_count : List (ℕ × Kind) → Bool
none_count [] = true
none_count (entry ∷ entries) = cond (is_count entry.1) false (none_count entries)

abbrev no_pair_count : List (ℕ × ℕ × Kind) → Bool
no_pair_count [] = true
no_pair_count (entry ∷ entries) = cond (is_count entry.2) false (no_pair_count entries)

abbrev no_word_count : List (List ℕ × Kind) → Bool
no_word_count [] = true
no_word_count (entry ∷ entries) = cond (is_count entry.1) false (no_word_count entries)

among-plain : (table : List (List ℕ × Kind)) (word : List ℕ) → no_word_count table ≡ true → PlainKind (kind_among table word)
among-plain [] word h = record { is = refl }
among-plain (entry ∷ entries) word h =
    pick PlainKind (bytes_eq entry.0 word) entry.1 (kind_among entries word) (λ e. record { is = none-first (is_count entry.1) (no_word_count entries) h })
    (λ e. among-plain entries word (none-rest (is_count entry.1) (no_word_count entries) h))

word-plain : (word : List ℕ) → is_count (word_kind word) ≡ false
unfolding word_kind
word-plain word = (among-plain reserved word refl).is

one-plain : (table : List (ℕ × Kind)) (a : ℕ) → none_count table ≡ true → Plain (one_byte_among table a)
one-plain [] a h = record { is = tt }
one-plain (entry ∷ entries) a h =
    pick Plain (a == entry.0) (Token entry.1 1) (one_byte_among entries a) (λ e. record { is = none-first (is_count entry.1) (none_count entries) h })
    (λ e. one-plain entries a (none-rest (is_count entry.1) (none_count entries) h))

two-plain : (table : List (ℕ × ℕ × Kind)) (a b : ℕ) → no_pair_count table ≡ true → Plain (two_bytes_among table a b)
two-plain [] a b h = one-plain one_byte_symbols a refl
two-plain (entry ∷ entries) a b h =
    pick Plain (a == entry.0 && b == entry.1) (Token entry.2 2) (two_bytes_among entries a b) (λ e. record { is = none-first (is_count entry.2) (no_pair_count entries) h })
    (λ e. two-plain entries a b (none-rest (is_count entry.2) (no_pair_count entries) h))

symbol-plain : (a : ℕ) (bs : List ℕ) → Plain (symbol a (first_byte bs))
unfolding symbol
symbol-plain a [] = one-plain one_byte_symbols a refl
symbol-plain a (b ∷ bs) = two-plain two_byte_symbols a b refl

number-plain : (ds : List ℕ) → Plain (number ds)
unfolding number
number-plain ds =
    pick (λ v. Plain (number_of (length ds) v)) (nat_lt largest_number (digits_value 10 ds)) None (Some (digits_value 10 ds)) (λ e. record { is = tt }) (λ e. record { is = refl })

piece-plain : (p : Place) (bs : List ℕ) → Plain (piece p bs)
unfolding piece
piece-plain p [] = record { is = tt }
piece-plain p (b ∷ bs) =
    pick Plain (is_blank b) _ _ (λ e. record { is = tt }) (λ e.
    pick Plain (b == 37) _ _ (λ e. pick Plain (p.column == 1 && is_wrong (behind_range (line bs))) _ _ (λ e. record { is = tt }) (λ e. record { is = tt })) (λ e.
    pick Plain (is_letter b) _ _ (λ e. record { is = word-plain (take (1 + length (name_bytes bs)) (b ∷ bs)) }) (λ e.
    pick Plain (b == 48) _ _ (λ e. record { is = refl }) (λ e.
    pick Plain (is_ascii_digit b) _ _ (λ e. number-plain (take (1 + length (digits bs)) (b ∷ bs))) (λ e. symbol-plain b bs)))))

token-plain : (p : Place) (bs : List ℕ) (kind : Kind) (n : ℕ) → piece p bs ≡ Token kind n → kind ≡ k.Count → ⊥
token-plain p bs kind n e = not-count kind (subst Plain e (piece-plain p bs)).is

cuts-lexical : (p q : Place) (bs rest : List ℕ) (ts us : List Tok) (rs : List RangeForm) → Cuts p bs ts rs q rest → AreLexical us → AreLexical (ts ++ us)
cuts-lexical p q bs rest ts us rs none h = h
cuts-lexical p q bs rest ts us rs (blank {rs = ss} {n = n} f c) h = cuts-lexical (past p (take n bs)) q (drop n bs) rest ts us ss c h
cuts-lexical p q bs rest ts us rs (token {ts = vs} {kind = kind} {n = n} f c) h =
    let takes = token-takes p bs kind n (sym f) in
    (record { name = token-names p bs kind n f; number = takes.4; plain = token-plain p bs kind n f }, cuts-lexical (past p (take n bs)) q (drop n bs) rest vs us rs c h)

-- the tokens of a text
pub cut-lexical : (bytes : List ℕ) (tokens : List Tok) (ranges : List RangeForm) → IsCut bytes tokens ranges → AreLexical tokens
cut-lexical bytes tokens ranges (ts, q, c, e) =
    subst (λ (v : List Tok). AreLexical v) (sym e) (cuts-lexical start q bytes [] ts (token_at q k.End [] ∷ []) ranges c (record { name = λ h. cc; number = λ h. cc; plain = λ h. cc }, tt))
