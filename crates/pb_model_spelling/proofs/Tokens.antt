-- The tokens of a model have names that are names of the grammar, and numbers within their limit.
use Rattle.std.proofs.Common.{◌≡◌, ◌∙◌, ℕ, zero, suc, ◌+◌, true, List, [], ◌∷◌, ◌++◌, length, take, sym, subst}
use Rattle.pb_base.specs.Names.{is_spelled}
use Rattle.pb_text_tree.specs.declared.place.Place.{Place}
use Rattle.pb_text_tree.specs.Form.{RangeForm}
use Rattle.pb_text_lexer.specs.declared.kind.Kind.{Kind}
use Rattle.pb_text_lexer.specs.declared.kind.Kind.TheVariants as k
use Rattle.pb_text_lexer.specs.declared.language.Language.TheVariants.{Model}
use Rattle.pb_text_lexer.specs.declared.piece.Piece.TheVariants.{Token}
use Rattle.pb_text_lexer.specs.Bytes.{is_letter, name_bytes, is_name, word_kind}
use Rattle.pb_text_lexer.specs.Lexing.{piece, piece_in, CutsIn, none, blank, token, IsCutIn}
use Rattle.pb_text_lexer.specs.Tokens.{Tok}
use Rattle.pb_text_lexer.proofs.LanguagePieceLemmas.{token-takes}
use Rattle.pb_text_lexer.proofs.NameLemmas.{name-of-texts, token-spelled}
use Rattle.pb_text_printer.proofs.CutLemmas.{letter-piece}
use Rattle.pb_model_spelling.proofs.Gives.{IsLexical, AreLexical}
use Rattle.std.proofs.lemmas.Bool.{and_parts}
use Rattle.pb_model_spelling.proofs.Words.{spelled_word}

-- a piece that is a name is one of the grammar
kind_named : (p : Place) (bs : List ℕ) (kind : Kind) (n : ℕ) → piece p bs ≡ Token kind n → kind ≡ k.Name → is_spelled (take n bs) ≡ true → word_kind (take n bs) ≡ k.Name
kind_named p [] kind zero e is h = absurd (cc h)
kind_named p [] kind (suc n) e is h = absurd (cc h)
kind_named p (b ∷ bs) kind zero e is h = absurd (cc h)
kind_named p (b ∷ bs) kind (suc n) e is h =
    let letter = (and_parts (is_letter b) _ h).0 in
    let same : Token (word_kind (take (1 + length (name_bytes bs)) (b ∷ bs))) (1 + length (name_bytes bs)) ≡ Token kind (suc n) = sym (letter-piece p b bs letter) ∙ e in
    let kinds : word_kind (take (1 + length (name_bytes bs)) (b ∷ bs)) ≡ kind = cc same in
    let counts : 1 + length (name_bytes bs) ≡ suc n = cc same in
    subst (λ (m : ℕ). word_kind (take m (b ∷ bs)) ≡ k.Name) counts (kinds ∙ is)

token_named : (p : Place) (bs : List ℕ) (kind : Kind) (n : ℕ) → piece_in Model p bs ≡ Token kind n → kind ≡ k.Name → is_name (take n bs) ≡ true
token_named p bs kind n e is =
    let own = name-of-texts Model p bs kind n e is in
    let spelled = token-spelled Model p bs kind n e is in
    spelled_word (take n bs) spelled (kind_named p bs kind n own is spelled)

cut_lexical : {p q : Place} {bs rest : List ℕ} {ts : List Tok} {rs : List RangeForm} → CutsIn Model p bs ts rs q rest → AreLexical ts
cut_lexical none = tt
cut_lexical (blank e c) = cut_lexical c
cut_lexical {p} {q} {bs} (token {kind = kind} {n = n} e c) =
    let takes = token-takes Model p bs kind n (sym e) in
    (record { name = token_named p bs kind n e; number = takes.4 }, cut_lexical c)

ended : (ts : List Tok) (t : Tok) → AreLexical ts → IsLexical t → AreLexical (ts ++ t ∷ [])
ended [] t h is = (is, tt)
ended (u ∷ ts) t h is = (h.0, ended ts t h.1 is)

pub tokens_of_models_are_lexical : (bytes : List ℕ) (tokens : List Tok) (ranges : List RangeForm) → IsCutIn Model bytes tokens ranges → AreLexical tokens
tokens_of_models_are_lexical bytes tokens ranges c = subst AreLexical (sym c.3) (ended c.0 _ (cut_lexical c.2) (record { name = λ e. cc; number = λ e. cc }))
