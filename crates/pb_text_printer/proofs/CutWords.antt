-- Each word of a text is cut off as its token.
use Rattle.std.proofs.Common.{◌≡◌, ◌≤◌, ◌<◌, ◌^◌, ℕ, Bool, true, false, ◌&&◌, ◌==◌, List, [], ◌∷◌, ◌++◌, length, decimal, refl, ap, ◌∙◌, arith}
use Rattle.std.specs.Prelude.{codes}
use Rattle.std.proofs.lemmas.Bool.Decides.{nat_tests}
use Rattle.std.proofs.lemmas.Fmt.{decimal_is_IsNumeral}
use Rattle.std.proofs.lemmas.Bool.{and_parts}
use Rattle.pb_fixpoint.specs.declared.Sign.{Sign}
use Rattle.pb_fixpoint.specs.declared.Sign.TheVariants as sign
use Rattle.pb_text_tree.specs.declared.place.Place.{Place}
use Rattle.pb_text_tree.specs.declared.operator.Connective.{Connective}
use Rattle.pb_text_tree.specs.declared.operator.Connective.TheVariants as connective
use Rattle.pb_text_tree.specs.declared.operator.Comparison.{Comparison}
use Rattle.pb_text_tree.specs.declared.operator.Comparison.TheVariants as comparison
use Rattle.pb_text_tree.specs.declared.operator.Arithmetic.{Arithmetic}
use Rattle.pb_text_tree.specs.declared.operator.Arithmetic.TheVariants as arithmetic
use Rattle.pb_text_tree.specs.declared.operator.Quantifier.{Quantifier}
use Rattle.pb_text_tree.specs.declared.operator.Quantifier.TheVariants.{Forall, Exists}
use Rattle.pb_text_tree.specs.Form.{Named}
use Rattle.pb_text_lexer.specs.declared.kind.Kind.{Kind}
use Rattle.pb_text_lexer.specs.declared.kind.Kind.TheVariants as k
use Rattle.pb_text_lexer.specs.declared.piece.Piece.TheVariants.{Token}
use Rattle.pb_text_lexer.specs.Bytes.{is_letter, name_bytes, word_kind, is_name}
use Rattle.pb_text_lexer.specs.Kinds.{same_kind}
use Rattle.pb_text_lexer.specs.Lexing.{piece, largest_number}
use Rattle.pb_text_lexer.proofs.TokenLemmas.{kind-same}
use Rattle.pb_text_printer.specs.Words.{word, last_of_line, open_word, list_word, close_word, comma_word, colon_word, period_word, not_word, minus_word, truth_word, name_word, quantifier_word, connective_word, comparison_word, arithmetic_word, sign_word, is_word, semicolon_word}
use Rattle.pb_text_printer.specs.Sayable.{IsName}
use Rattle.pb_text_printer.proofs.CutLemmas.{Parts, IsCutAsToken, word-piece, number-piece, open-piece, close-piece, comma-piece, semicolon-piece, colon-piece, period-piece, plus-piece, minus-piece, times-piece, question-piece, equal-piece, not-equal-piece, implies-piece, less-equal-piece, greater-equal-piece, and-piece, or-piece, less-piece, greater-piece, bar-piece, is-piece, not-piece}

keyword-cut : (kind : Kind) (b : ℕ) (bs : List ℕ) → is_letter b ≡ true → length (name_bytes bs) ≡ length bs → word_kind (b ∷ bs) ≡ kind
    → (p : Place) (rest : List ℕ) → Parts rest → piece p ((b ∷ bs) ++ rest) ≡ Token kind (length (b ∷ bs))
keyword-cut kind b bs h all is p rest parts = word-piece p b bs rest h all parts ∙ ap (λ v. Token v (length (b ∷ bs))) is

pub open-cut : IsCutAsToken open_word
open-cut = record { cuts = λ p rest h. open-piece p rest; some = omega arith }

pub list-cut : IsCutAsToken list_word
list-cut = record { cuts = λ p rest h. open-piece p rest; some = omega arith }

pub close-cut : IsCutAsToken close_word
close-cut = record { cuts = λ p rest h. close-piece p rest; some = omega arith }

pub comma-cut : IsCutAsToken comma_word
comma-cut = record { cuts = λ p rest h. comma-piece p rest; some = omega arith }

pub colon-cut : IsCutAsToken colon_word
colon-cut = record { cuts = λ p rest h. colon-piece p rest; some = omega arith }

pub period-cut : IsCutAsToken period_word
period-cut = record { cuts = λ p rest h. period-piece p rest; some = omega arith }

pub not-cut : IsCutAsToken not_word
not-cut = record { cuts = λ p rest h. not-piece p rest h; some = omega arith }

pub minus-cut : IsCutAsToken minus_word
minus-cut = record { cuts = λ p rest h. minus-piece p rest; some = omega arith }

pub is-cut : IsCutAsToken is_word
is-cut = record { cuts = λ p rest h. is-piece p rest h; some = omega arith }

pub semicolon-cut : IsCutAsToken semicolon_word
semicolon-cut = record { cuts = λ p rest h. semicolon-piece p rest; some = omega arith }

pub question-cut : IsCutAsToken (word k.Question (codes "?"))
question-cut = record { cuts = λ p rest h. question-piece p rest; some = omega arith }

pub bar-cut : IsCutAsToken (word k.Bar (codes "|"))
bar-cut = record { cuts = λ p rest h. bar-piece p rest h; some = omega arith }

pub truth-cut : (value : Bool) → IsCutAsToken (truth_word value)
unfolding word_kind
truth-cut true = record { cuts = keyword-cut k.True 116 (codes "rue") refl refl refl; some = omega arith }
truth-cut false = record { cuts = keyword-cut k.False 102 (codes "alse") refl refl refl; some = omega arith }

pub quantifier-cut : (q : Quantifier) → IsCutAsToken (quantifier_word q)
unfolding word_kind
quantifier-cut Forall = record { cuts = keyword-cut k.Forall 102 (codes "orall") refl refl refl; some = omega arith }
quantifier-cut Exists = record { cuts = keyword-cut k.Exists 101 (codes "xists") refl refl refl; some = omega arith }

pub sign-cut : (x : Sign) → IsCutAsToken (sign_word x)
unfolding word_kind
sign-cut sign.Mu = record { cuts = keyword-cut k.Mu 109 (codes "u") refl refl refl; some = omega arith }
sign-cut sign.Nu = record { cuts = keyword-cut k.Nu 110 (codes "u") refl refl refl; some = omega arith }

pub connective-cut : (c : Connective) → IsCutAsToken (connective_word c)
connective-cut connective.And = record { cuts = λ p rest h. and-piece p rest; some = omega arith }
connective-cut connective.Or = record { cuts = λ p rest h. or-piece p rest; some = omega arith }
connective-cut connective.Implies = record { cuts = λ p rest h. implies-piece p rest; some = omega arith }

pub comparison-cut : (c : Comparison) → IsCutAsToken (comparison_word c)
comparison-cut comparison.Equal = record { cuts = λ p rest h. equal-piece p rest; some = omega arith }
comparison-cut comparison.NotEqual = record { cuts = λ p rest h. not-equal-piece p rest; some = omega arith }
comparison-cut comparison.Less = record { cuts = λ p rest h. less-piece p rest h; some = omega arith }
comparison-cut comparison.LessEqual = record { cuts = λ p rest h. less-equal-piece p rest; some = omega arith }
comparison-cut comparison.Greater = record { cuts = λ p rest h. greater-piece p rest h; some = omega arith }
comparison-cut comparison.GreaterEqual = record { cuts = λ p rest h. greater-equal-piece p rest; some = omega arith }

pub arithmetic-cut : (o : Arithmetic) → IsCutAsToken (arithmetic_word o)
unfolding word_kind
arithmetic-cut arithmetic.Plus = record { cuts = λ p rest h. plus-piece p rest; some = omega arith }
arithmetic-cut arithmetic.Minus = record { cuts = λ p rest h. minus-piece p rest; some = omega arith }
arithmetic-cut arithmetic.Times = record { cuts = λ p rest h. times-piece p rest; some = omega arith }
arithmetic-cut arithmetic.Div = record { cuts = keyword-cut k.Div 100 (codes "iv") refl refl refl; some = omega arith }
arithmetic-cut arithmetic.Mod = record { cuts = keyword-cut k.Mod 109 (codes "od") refl refl refl; some = omega arith }

pub val-cut : IsCutAsToken (word k.Val (codes "val"))
unfolding word_kind
val-cut = record { cuts = keyword-cut k.Val 118 (codes "al") refl refl refl; some = omega arith }

pub struct-cut : IsCutAsToken (word k.Struct (codes "struct"))
unfolding word_kind
struct-cut = record { cuts = keyword-cut k.Struct 115 (codes "truct") refl refl refl; some = omega arith }

pub init-cut : IsCutAsToken (word k.Init (codes "init"))
unfolding word_kind
init-cut = record { cuts = keyword-cut k.Init 105 (codes "nit") refl refl refl; some = omega arith }

pub sort-cut : IsCutAsToken (last_of_line (word k.Sort (codes "sort")))
unfolding word_kind
sort-cut = record { cuts = keyword-cut k.Sort 115 (codes "ort") refl refl refl; some = omega arith }

pub pbes-cut : IsCutAsToken (last_of_line (word k.Pbes (codes "pbes")))
unfolding word_kind
pbes-cut = record { cuts = keyword-cut k.Pbes 112 (codes "bes") refl refl refl; some = omega arith }

-- ---- names and numbers

record Lettered (b : ℕ) (bs : List ℕ) : Type 0 where
  letter : is_letter b ≡ true
  all : length (name_bytes bs) ≡ length bs
  kind : word_kind (b ∷ bs) ≡ k.Name

lettered : (b : ℕ) (bs : List ℕ) → is_name (b ∷ bs) ≡ true → Lettered b bs
lettered b bs h =
    let front = (and_parts (is_letter b && length (name_bytes bs) == length bs) (same_kind (word_kind (b ∷ bs)) k.Name) h).0 in
    record {
      letter = (and_parts (is_letter b) (length (name_bytes bs) == length bs) front).0;
      all = (let e = (and_parts (is_letter b) (length (name_bytes bs) == length bs) front).1 in grind (arith, nat_tests));
      kind = kind-same (word_kind (b ∷ bs)) k.Name ((and_parts (is_letter b && length (name_bytes bs) == length bs) (same_kind (word_kind (b ∷ bs)) k.Name) h).1);
    }

text-cut : (text : List ℕ) → is_name text ≡ true → IsCutAsToken (word k.Name text)
text-cut [] h = cc
text-cut (b ∷ bs) h =
    let is = lettered b bs h in
    record { cuts = keyword-cut k.Name b bs is.letter is.all is.kind; some = omega arith }

pub name-cut : (n : Named) → IsName n → IsCutAsToken (name_word n)
name-cut n h = text-cut n.text h

pub number-cut : (n : ℕ) → n ≤ largest_number → IsCutAsToken (word k.Number (decimal n))
number-cut n h =
    let large : n < 2 ^ 64 = omega arith in
    record { cuts = λ p rest parts. number-piece p n rest h parts; some = (decimal_is_IsNumeral n large).0.0 }
