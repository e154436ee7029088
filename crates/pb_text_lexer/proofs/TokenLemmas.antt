-- Kinds of tokens, and lists of tokens that end rightly.
use Rattle.std.proofs.Common.{◌≡◌, ℕ, Bool, true, false, cond, List, [], ◌∷◌, sym, ap, ◌∙◌, rules, Ok, Err}
use denote.Enum.Bare.{same_true}
use Rattle.pb_text_lexer.specs.contracts.kind.Kind.{the_type}
use Rattle.pb_text_lexer.specs.declared.kind.Kind.{Kind}
use Rattle.pb_text_lexer.specs.declared.kind.Kind.TheVariants.{Name}
use Rattle.pb_text_lexer.specs.Grammar.{State}
use Rattle.pb_text_lexer.specs.Kinds.{same_kind, is_last}
use Rattle.pb_text_lexer.specs.Tokens.{Tok, token_at}
use Rattle.pb_text_lexer.specs.Steps.{Outcome, ends, head_kind, head_text, behind, take_from}

pub kind-same : (a b : Kind) → same_kind a b ≡ true → a ≡ b
unfolding same_kind
kind-same a b h = same_true the_type (search rules) a b h

pub same-kind : (a : Kind) → same_kind a a ≡ true
unfolding same_kind
same-kind a = search rules

-- behind a token that isn't the last stand tokens that end rightly
pub ends-behind : (ts : List Tok) → ends ts ≡ true → is_last (head_kind ts) ≡ false → ends (behind ts) ≡ true
ends-behind [] h ne = cc
ends-behind (t ∷ []) h ne = cc
ends-behind (t ∷ u ∷ ts) h ne = go (is_last t.kind) h
  where
    go : (b : Bool) → cond b false (ends (u ∷ ts)) ≡ true → ends (u ∷ ts) ≡ true
    go true e = cc
    go false e = e

abbrev token_or : Tok → Outcome Tok → Tok
token_or t (Ok r) = r.0
token_or t (Err bad) = t

-- a name that is taken is the next token's text at its place
pub name-taken : (ts : List Tok) (n : ℕ) (s1 : State) (t : Tok) (text : List ℕ) → take_from ts n ≡ Ok (t, s1) → same_kind (head_kind ts) Name ≡ true → text ≡ head_text ts
    → t ≡ token_at t.place Name text
name-taken [] n s1 t text taken same is = cc
name-taken (u ∷ ts) n s1 t text taken same is =
    let first : u ≡ t = ap (λ r. token_or u r) taken in
    let kind : t.kind ≡ Name = ap (λ (v : Tok). v.kind) (sym first) ∙ kind-same u.kind Name same in
    let words : t.text ≡ text = ap (λ (v : Tok). v.text) (sym first) ∙ sym is in
    ap (λ (v : Kind). token_at t.place v t.text) kind ∙ ap (λ (v : List ℕ). token_at t.place Name v) words
