-- The tokens of a text of either language that are names are spelled as names.
use Rattle.std.proofs.Common.{◌≡◌, ℕ, suc, ◌+◌, Bool, true, false, cond, ◌==◌, ◌&&◌, List, [], ◌∷◌, length, take, drop, refl, sym, ap, ◌∙◌, arith, subst, Option, Some, None}
use Rattle.std.specs.Prelude.{codes}
use Rattle.std.specs.Str.{bytes_eq}
use Rattle.std.specs.List.{prefix_len, list_all}
use Rattle.std.specs.Char.{is_ascii_digit}
use Rattle.std.proofs.lemmas.List.Folds.{length-prefix_len}
use Rattle.std.proofs.lemmas.Bool.{and_from}
use Rattle.pb_base.specs.Names.{is_spelled}
use Rattle.pb_text_tree.specs.declared.place.Place.{Place}
use Rattle.pb_text_lexer.specs.declared.kind.Kind.{Kind}
use Rattle.pb_text_lexer.specs.declared.kind.Kind.TheVariants as k
use Rattle.pb_text_lexer.specs.declared.language.Language.{Language}
use Rattle.pb_text_lexer.specs.declared.language.Language.TheVariants.{Text, Model}
use Rattle.pb_text_lexer.specs.declared.piece.Piece.{Piece}
use Rattle.pb_text_lexer.specs.declared.piece.Piece.TheVariants.{Blank, Token, Stop}
use Rattle.pb_text_lexer.specs.Kinds.{same_kind}
use Rattle.pb_text_lexer.specs.Bytes.{first_byte, is_blank, line, is_letter, is_name_byte, name_bytes, digits, value_within, kind_among}
use Rattle.pb_text_lexer.specs.RangeLines.{behind_range, is_wrong}
use Rattle.pb_text_lexer.specs.Lexing.{piece, piece_in, or_piece, number, number_of, largest_number, symbol, one_byte_among, one_byte_symbols, two_bytes_among, two_byte_symbols}
use Rattle.pb_text_lexer.specs.ModelPieces.{model_words, model_piece, model_word, model_pair, reserved_word, counts, word_piece}
use Rattle.pb_text_lexer.proofs.PieceLemmas.{pick, none-first, none-rest}

-- what a piece says of the bytes that it takes
abbrev SpellsOf : Piece → List ℕ → Type 0
SpellsOf (Token kind n) bs = kind ≡ k.Name → is_spelled (take n bs) ≡ true
SpellsOf _ bs = Unit {0}

record Spells (p : Piece) (bs : List ℕ) : Type 0 where
  is : SpellsOf p bs

-- one of two pieces, by a test
choose : (bs : List ℕ) (b : Bool) (x y : Piece) → (b ≡ true → Spells x bs) → (b ≡ false → Spells y bs) → Spells (cond b x y) bs
choose bs = pick (λ v. Spells v bs)

-- ---- words

while-more : (p : ℕ → Bool) (b : ℕ) (bs : List ℕ) → list_all p (take (prefix_len p bs) bs) ≡ true → (v : Bool) → p b ≡ v → list_all p (take (cond v (1 + prefix_len p bs) 0) (b ∷ bs)) ≡ true
while-more p b bs rest true e =
    let more : suc (prefix_len p bs) ≡ 1 + prefix_len p bs = omega arith in
    subst (λ (n : ℕ). list_all p (take n (b ∷ bs)) ≡ true) more (and_from (p b) _ e rest)
while-more p b bs rest false e = refl

all-while : (p : ℕ → Bool) (bs : List ℕ) → list_all p (take (prefix_len p bs) bs) ≡ true
all-while p [] = refl
all-while p (b ∷ bs) = while-more p b bs (all-while p bs) (p b) refl

word-spelled : (b : ℕ) (bs : List ℕ) → is_letter b ≡ true → is_spelled (take (1 + length (name_bytes bs)) (b ∷ bs)) ≡ true
word-spelled b bs h =
    let same = length-prefix_len is_name_byte bs in
    let more : suc (prefix_len is_name_byte bs) ≡ 1 + length (name_bytes bs) = omega arith in
    subst (λ (n : ℕ). is_spelled (take n (b ∷ bs)) ≡ true) more (and_from (is_letter b) _ h (all-while is_name_byte bs))

-- ---- symbols and numbers

abbrev names_none : List (ℕ × Kind) → Bool
names_none [] = true
names_none (entry ∷ entries) = cond (same_kind entry.1 k.Name) false (names_none entries)

abbrev pairs_none : List (ℕ × ℕ × Kind) → Bool
pairs_none [] = true
pairs_none (entry ∷ entries) = cond (same_kind entry.2 k.Name) false (pairs_none entries)

other-kind : {A : Type 0} (kind : Kind) → same_kind kind k.Name ≡ false → kind ≡ k.Name → A
unfolding same_kind
other-kind kind h e = let p : same_kind kind k.Name ≡ same_kind k.Name k.Name = ap (λ x. same_kind x k.Name) e in absurd (let q : false ≡ true = sym h ∙ p in cc)

one-spells : (table : List (ℕ × Kind)) (a : ℕ) (bs : List ℕ) → names_none table ≡ true → Spells (one_byte_among table a) bs
one-spells [] a bs h = record { is = tt }
one-spells (entry ∷ entries) a bs h =
    choose bs (a == entry.0) (Token entry.1 1) (one_byte_among entries a)
    (λ e. record { is = other-kind entry.1 (none-first (same_kind entry.1 k.Name) _ h) })
    (λ e. one-spells entries a bs (none-rest (same_kind entry.1 k.Name) _ h))

two-spells : (table : List (ℕ × ℕ × Kind)) (a b : ℕ) (bs : List ℕ) → pairs_none table ≡ true → Spells (two_bytes_among table a b) bs
unfolding same_kind
two-spells [] a b bs h = one-spells one_byte_symbols a bs refl
two-spells (entry ∷ entries) a b bs h =
    choose bs (a == entry.0 && b == entry.1) (Token entry.2 2) (two_bytes_among entries a b)
    (λ e. record { is = other-kind entry.2 (none-first (same_kind entry.2 k.Name) _ h) })
    (λ e. two-spells entries a b bs (none-rest (same_kind entry.2 k.Name) _ h))

symbol-spells : (a : ℕ) (behind bs : List ℕ) → Spells (symbol a (first_byte behind)) bs
unfolding symbol same_kind
symbol-spells a [] bs = one-spells one_byte_symbols a bs refl
symbol-spells a (b ∷ behind) bs = two-spells two_byte_symbols a b bs refl

number-spells : (ds bs : List ℕ) → Spells (number ds) bs
unfolding number same_kind
number-spells ds bs = from (value_within largest_number ds)
  where
    from : (v : Option ℕ) → Spells (number_of (length ds) v) bs
    from None = record { is = tt }
    from (Some v) = record { is = λ e. other-kind k.Number refl e }

-- ---- pieces of texts

piece-spells : (p : Place) (bs : List ℕ) → Spells (piece p bs) bs
unfolding piece same_kind
piece-spells p [] = record { is = tt }
piece-spells p (b ∷ bs) =
    choose (b ∷ bs) (is_blank b) _ _ (λ e. record { is = tt }) (λ e.
    choose (b ∷ bs) (b == 37) _ _ (λ e. choose (b ∷ bs) (p.column == 1 && is_wrong (behind_range (line bs))) _ _ (λ e. record { is = tt }) (λ e. record { is = tt })) (λ e.
    choose (b ∷ bs) (is_letter b) _ _ (λ e. record { is = λ n. word-spelled b bs e }) (λ e.
    choose (b ∷ bs) (b == 48) _ _ (λ e. record { is = λ n. other-kind k.Number refl n }) (λ e.
    choose (b ∷ bs) (is_ascii_digit b) _ _ (λ e. number-spells (take (1 + length (digits bs)) (b ∷ bs)) (b ∷ bs)) (λ e. symbol-spells b bs (b ∷ bs))))))

-- ---- what models alone have is no name

abbrev IsNoName : Piece → Type 0
IsNoName (Token kind n) = kind ≡ k.Name → ⊥
IsNoName _ = Unit {0}

abbrev NoName : Option Piece → Type 0
NoName None = Unit {0}
NoName (Some v) = IsNoName v

record HasNoName (v : Option Piece) : Type 0 where
  is : NoName v

reserved-no-name : (n : ℕ) (kind : Kind) → HasNoName (reserved_word n kind)
reserved-no-name n k.Name = record { is = tt }
reserved-no-name n _ = record { is = λ e. cc }

model-no-name : (word : List ℕ) → HasNoName (model_word word)
unfolding model_word
model-no-name word = reserved-no-name (length word) (kind_among model_words word)

word-no-name : (word behind : List ℕ) → HasNoName (word_piece word behind)
unfolding word_piece
word-no-name word behind =
    pick HasNoName (bytes_eq word (codes "count") && counts behind) _ _ (λ e. record { is = λ q. cc }) (λ e. model-no-name word)

pair-no-name : (a : ℕ) (b : Option ℕ) → HasNoName (model_pair a b)
pair-no-name a None = record { is = tt }
pair-no-name a (Some b) =
    pick HasNoName (a == 45 && b == 62) _ _ (λ e. record { is = λ q. cc }) (λ e.
    pick HasNoName (a == 58 && b == 61) _ _ (λ f. record { is = λ q. cc }) (λ f. record { is = tt }))

piece-no-name : (bs : List ℕ) → HasNoName (model_piece bs)
unfolding model_piece
piece-no-name [] = record { is = tt }
piece-no-name (b ∷ bs) =
    pick HasNoName (b == 91) _ _ (λ e. record { is = λ q. cc }) (λ e.
    pick HasNoName (b == 93) _ _ (λ f. record { is = λ q. cc }) (λ f.
    pick HasNoName (is_letter b) _ _ (λ g. word-no-name (take (1 + length (name_bytes bs)) (b ∷ bs)) (drop (1 + length (name_bytes bs)) (b ∷ bs))) (λ g. pair-no-name b (first_byte bs))))

of-texts : (v : Option Piece) (w : Piece) (kind : Kind) (n : ℕ) → NoName v → or_piece v w ≡ Token kind n → kind ≡ k.Name → w ≡ Token kind n
of-texts None w kind n other e is = e
of-texts (Some (Token own m)) w kind n other e is = let same : own ≡ kind = cc e in absurd (other (same ∙ is))
of-texts (Some (Blank m)) w kind n other e is = absurd (cc e)
of-texts (Some (Stop own)) w kind n other e is = absurd (cc e)

-- ---- names

-- a name of either language is one that texts have
pub name-of-texts : (l : Language) (p : Place) (bs : List ℕ) (kind : Kind) (n : ℕ) → piece_in l p bs ≡ Token kind n → kind ≡ k.Name → piece p bs ≡ Token kind n
name-of-texts Text p bs kind n e is = e
name-of-texts Model p bs kind n e is = of-texts (model_piece bs) (piece p bs) kind n (piece-no-name bs).is e is

pub token-spelled : (l : Language) (p : Place) (bs : List ℕ) (kind : Kind) (n : ℕ) → piece_in l p bs ≡ Token kind n → kind ≡ k.Name → is_spelled (take n bs) ≡ true
token-spelled l p bs kind n e is = (subst (λ (v : Piece). Spells v bs) (name-of-texts l p bs kind n e is) (piece-spells p bs)).is is
