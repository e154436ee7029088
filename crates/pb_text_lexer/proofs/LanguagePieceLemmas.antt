-- What a piece of a text of either language takes: some of the bytes that there are, which are ASCII
-- and on one line where they are a token.
use Rattle.std.proofs.Common.{◌≡◌, ℕ, ◌+◌, ◌<◌, ◌≤◌, Bool, true, false, cond, ◌==◌, ◌&&◌, List, [], ◌∷◌, length, take, drop, refl, sym, ap, ◌∙◌, arith, subst, Option, Some, None}
use Rattle.std.specs.Prelude.{codes}
use Rattle.std.specs.Str.{bytes_eq}
use Rattle.std.proofs.lemmas.List.{length-take-le}
use Rattle.std.proofs.lemmas.Bool.{and_parts}
use Rattle.std.specs.Str.{IsAscii}
use Rattle.pb_text_tree.specs.declared.place.Place.{Place}
use Rattle.pb_text_lexer.specs.declared.kind.Kind.{Kind}
use Rattle.pb_text_lexer.specs.declared.kind.Kind.TheVariants as k
use Rattle.pb_text_lexer.specs.declared.language.Language.{Language}
use Rattle.pb_text_lexer.specs.declared.language.Language.TheVariants.{Text, Model}
use Rattle.pb_text_lexer.specs.declared.piece.Piece.{Piece}
use Rattle.pb_text_lexer.specs.declared.piece.Piece.TheVariants.{Blank, Token, Stop}
use Rattle.pb_text_lexer.specs.Bytes.{first_byte, is_letter, is_name_byte, name_bytes, kind_among}
use Rattle.pb_text_lexer.specs.Lexing.{past, piece, piece_in, or_piece}
use Rattle.pb_text_lexer.specs.ModelPieces.{model_words, reserved_word, model_word, model_pair, model_piece, counts, word_piece}
use Rattle.pb_text_lexer.proofs.PieceLemmas.{TakesOf, Takes, IsPlain, pick, plain-ascii, plain-past, letter-plain, name-plain, front-plain, front-fits, is_special, is_plain, special-last, special-number, NotLast, among-not-last, plain-is, piece-takes}

-- so does a piece that there may be
abbrev TakesIf : Option Piece → List ℕ → Type 0
TakesIf None bs = Unit {0}
TakesIf (Some v) bs = Takes v bs

record TakesSome (v : Option Piece) (bs : List ℕ) : Type 0 where
  is : TakesIf v bs

-- a token of one byte
one-byte : (kind : Kind) (a b : ℕ) (bs : List ℕ) → is_special kind ≡ false → (b == a) ≡ true → is_plain a ≡ true → Takes (Token kind 1) (b ∷ bs)
one-byte kind a b bs plain e good = record {
  is = (omega arith, (let p : 1 ≤ length (b ∷ bs) = omega arith in p), special-last kind plain, (plain-is b a e good, tt), (λ q. absurd (special-number kind plain q)));
}

two-bytes : (kind : Kind) (c d a b : ℕ) (bs : List ℕ) → is_special kind ≡ false → (a == c && b == d) ≡ true → is_plain c ≡ true → is_plain d ≡ true
    → Takes (Token kind 2) (a ∷ b ∷ bs)
two-bytes kind c d a b bs plain e good fine =
    let both = and_parts (a == c) (b == d) e in record {
      is = (
        omega arith,
        (let p : 2 ≤ length (a ∷ b ∷ bs) = omega arith in p),
        special-last kind plain,
        (plain-is a c both.0 good, (plain-is b d both.1 fine, tt)),
        (λ q. absurd (special-number kind plain q)),
      );
    }

pair-takes : (a : ℕ) (bs : List ℕ) → TakesSome (model_pair a (first_byte bs)) (a ∷ bs)
pair-takes a [] = record { is = tt }
pair-takes a (b ∷ bs) =
    pick (λ v. TakesSome v (a ∷ b ∷ bs)) (a == 45 && b == 62) _ _ (λ e. record { is = two-bytes k.Arrow 45 62 a b bs refl e refl refl }) (λ e.
    pick (λ v. TakesSome v (a ∷ b ∷ bs)) (a == 58 && b == 61) _ _ (λ e. record { is = two-bytes k.Assign 58 61 a b bs refl e refl refl }) (λ e. record { is = tt }))

-- a word that is no name
reserved-takes : (kind : Kind) (n : ℕ) (bs : List ℕ) → is_special kind ≡ false → 0 < n → n ≤ length bs → IsPlain (take n bs) → TakesSome (reserved_word n kind) bs
reserved-takes k.Name n bs plain some le text = record { is = tt }
reserved-takes kind n bs plain some le text = record { is = record { is = (some, le, special-last kind plain, text, (λ q. absurd (special-number kind plain q))) } }

model-word-takes : (n : ℕ) (bs : List ℕ) → 0 < n → n ≤ length bs → IsPlain (take n bs) → TakesSome (model_word (take n bs)) bs
unfolding model_word
model-word-takes n bs some le text =
    subst (λ (m : ℕ). TakesSome (reserved_word m (kind_among model_words (take n bs))) bs) (sym (length-take-le n bs le))
    (reserved-takes (kind_among model_words (take n bs)) n bs (among-not-last model_words (take n bs) refl).is some le text)

-- `count` is a token as those words are
count-takes : (n : ℕ) (bs : List ℕ) → 0 < n → n ≤ length bs → IsPlain (take n bs) → TakesSome (Some (Token k.Count (length (take n bs)))) bs
count-takes n bs some le text =
    subst (λ (m : ℕ). TakesSome (reserved_word m k.Count) bs) (sym (length-take-le n bs le)) (reserved-takes k.Count n bs refl some le text)

word-takes : (n : ℕ) (bs behind : List ℕ) → 0 < n → n ≤ length bs → IsPlain (take n bs) → TakesSome (word_piece (take n bs) behind) bs
unfolding word_piece
word-takes n bs behind some le text =
    pick (λ v. TakesSome v bs) (bytes_eq (take n bs) (codes "count") && counts behind) _ _ (λ e. count-takes n bs some le text) (λ e. model-word-takes n bs some le text)

model-takes : (bs : List ℕ) → TakesSome (model_piece bs) bs
unfolding model_piece
model-takes [] = record { is = tt }
model-takes (b ∷ bs) =
    pick (λ v. TakesSome v (b ∷ bs)) (b == 91) _ _ (λ e. record { is = one-byte k.OpenSquare 91 b bs refl e refl }) (λ e.
    pick (λ v. TakesSome v (b ∷ bs)) (b == 93) _ _ (λ e. record { is = one-byte k.CloseSquare 93 b bs refl e refl }) (λ e.
    pick (λ v. TakesSome v (b ∷ bs)) (is_letter b) _ _
    (λ e. word-takes (1 + length (name_bytes bs)) (b ∷ bs) (drop (1 + length (name_bytes bs)) (b ∷ bs)) (let q : 0 < 1 + length (name_bytes bs) = omega arith in q)
    (front-fits is_name_byte b bs) (front-plain is_name_byte b bs name-plain (letter-plain b e)))
    (λ e. pair-takes b bs)))

either-takes : (v : Option Piece) (w : Piece) (bs : List ℕ) → TakesIf v bs → Takes w bs → Takes (or_piece v w) bs
either-takes (Some v) w bs h e = h
either-takes None w bs h e = e

pub piece_in-takes : (l : Language) (p : Place) (bs : List ℕ) → Takes (piece_in l p bs) bs
piece_in-takes Text p bs = piece-takes p bs
piece_in-takes Model p bs = either-takes (model_piece bs) (piece p bs) bs (model-takes bs).is (piece-takes p bs)

pub nothing-stops : (l : Language) (p : Place) → piece_in l p [] ≡ Stop k.End
unfolding piece model_piece
nothing-stops Text p = refl
nothing-stops Model p = refl

pub blank-takes : (l : Language) (p : Place) (bs : List ℕ) (n : ℕ) → Blank n ≡ piece_in l p bs → TakesOf (Blank n) bs
blank-takes l p bs n e = (subst (λ (v : Piece). Takes v bs) (sym e) (piece_in-takes l p bs)).is

pub token-takes : (l : Language) (p : Place) (bs : List ℕ) (kind : Kind) (n : ℕ) → Token kind n ≡ piece_in l p bs → TakesOf (Token kind n) bs
token-takes l p bs kind n e = (subst (λ (v : Piece). Takes v bs) (sym e) (piece_in-takes l p bs)).is

pub stop-takes : (l : Language) (p : Place) (bs : List ℕ) (kind : Kind) → Stop kind ≡ piece_in l p bs → TakesOf (Stop kind) bs
stop-takes l p bs kind e = (subst (λ (v : Piece). Takes v bs) (sym e) (piece_in-takes l p bs)).is

-- the bytes of a token as text, and the place behind them
pub token-ascii : (l : Language) (p : Place) (bs : List ℕ) (kind : Kind) (n : ℕ) → Token kind n ≡ piece_in l p bs → IsAscii (take n bs)
token-ascii l p bs kind n e = plain-ascii (take n bs) (token-takes l p bs kind n e).3

pub token-past : (l : Language) (p : Place) (bs : List ℕ) (kind : Kind) (n : ℕ) → Token kind n ≡ piece_in l p bs
    → past p (take n bs) ≡ record { line = p.line; column = p.column + n }
token-past l p bs kind n e =
    let takes = token-takes l p bs kind n e in
    let count = length-take-le n bs takes.1 in
    plain-past p (take n bs) takes.3 ∙ ap (λ (m : ℕ). record { line = p.line; column = p.column + m }) count
