-- Each token of a text stands at a place of its own.
use Rattle.std.proofs.Common.{◌≡◌, ◌⊎◌, ℕ, ◌+◌, ◌≤◌, ◌<◌, Bool, true, false, true≢false, not, ◌==◌, if◌then◌else◌, List, [], ◌∷◌, ◌++◌, take, drop, refl, sym, ◌∙◌, subst, inl, inr, arith}
use Rattle.std.specs.Prelude.{Contains}
use Rattle.std.proofs.lemmas.Bool.{and_parts}
use Rattle.std.proofs.lemmas.Bool.Decides.{Decides-eqb}
use Rattle.pb_text_tree.specs.declared.place.Place.{Place}
use Rattle.pb_text_tree.specs.Form.{RangeForm}
use Rattle.pb_text_lexer.specs.declared.kind.Kind.TheVariants as k
use Rattle.pb_text_lexer.specs.declared.language.Language.{Language}
use Rattle.pb_text_lexer.specs.Lexing.{CutsIn, none, blank, token, IsCutIn, next_place, past, start}
use Rattle.pb_text_lexer.specs.Tokens.{Tok, token_at}
use Rattle.pb_text_lexer.proofs.LanguagePieceLemmas.{token-takes, token-past}
use Rattle.pb_typing_calls.specs.Calls.{same_place}
use Rattle.pb_model_runs.proofs.Elements.{both-true, either_of, some_of, any-of, in-left, in-right}
use Rattle.pb_model_runs.specs.Exact.{is_among, are_apart}
use Rattle.pb_model_places.proofs.Keeping.{places_of}

-- one place stands before another, or is it
abbrev UpTo : Place → Place → Type 0
UpTo p q = (p.line < q.line) ⊎ ((p.line ≡ q.line) × (p.column ≤ q.column))

up-to-itself : (p : Place) → UpTo p p
up-to-itself p = inr (refl, omega arith)

up-to-then : (p q r : Place) → UpTo p q → UpTo q r → UpTo p r
up-to-then p q r (inl a) (inl b) = inl (omega (arith, a, b))
up-to-then p q r (inl a) (inr b) = inl (omega (arith, a, b.0))
up-to-then p q r (inr a) (inl b) = inl (omega (arith, a.0, b))
up-to-then p q r (inr a) (inr b) = let x = a.0 in let y = b.0 in let u = a.1 in let v = b.1 in inr (x ∙ y, omega (arith, u, v))

next-up : (p : Place) (b : ℕ) → UpTo p (next_place p b)
next-up p b = by (b == 10)
  where
    by : (t : Bool) → UpTo p (if t then record { line = p.line + 1; column = 1 } else record p { column = p.column + 1 })
    by true = inl (omega arith)
    by false = inr (refl, omega arith)

past-up : (p : Place) (bs : List ℕ) → UpTo p (past p bs)
past-up p [] = up-to-itself p
past-up p (b ∷ bs) = up-to-then p (next_place p b) (past (next_place p b) bs) (next-up p b) (past-up (next_place p b) bs)

-- all stand from a place on
abbrev AllFrom : Place → List Place → Type 0
AllFrom p qs = (q : Place) → Contains qs q → UpTo p q

from-later : (p r : Place) (qs : List Place) → UpTo p r → AllFrom r qs → AllFrom p qs
from-later p r qs up all q h = up-to-then p r q up (all q h)

not-same : (p q : Place) (n : ℕ) → 0 < n → UpTo (record { line = p.line; column = p.column + n }) q → same_place q p ≡ true → ⊥
not-same p q n some (inl less) e =
    let line = (Decides-eqb q.line p.line).0 (and_parts (q.line == p.line) (q.column == p.column) e).0 in omega (arith, less, line)
not-same p q n some (inr at) e =
    let column = (Decides-eqb q.column p.column).0 (and_parts (q.line == p.line) (q.column == p.column) e).1 in
    let less = at.1 in omega (arith, less, column, some)

pub false-of : (b : Bool) → (b ≡ true → ⊥) → not b ≡ true
false-of true never = absurd (never refl)
false-of false never = refl

-- a place with others, all behind it, and these apart
apart-first : (p : Place) (n : ℕ) (qs : List Place) → 0 < n → AllFrom (record { line = p.line; column = p.column + n }) qs → are_apart qs ≡ true → are_apart (p ∷ qs) ≡ true
apart-first p n qs some all apart =
    both-true (not (is_among qs p)) (are_apart qs) (false-of (is_among qs p) (λ e.
    let found = some_of (λ q. same_place q p) qs e in not-same p found.0 n some (all found.0 found.1) found.2)) apart

pub record AreApartFrom (p : Place) (ts : List Tok) : Type 0 where
  pub from : AllFrom p (places_of ts)
  pub apart : are_apart (places_of ts) ≡ true

cut-apart : (l : Language) (p q : Place) (bs rest : List ℕ) (ts : List Tok) (rs : List RangeForm) → CutsIn l p bs ts rs q rest → AreApartFrom p ts
cut-apart l p q bs rest ts rs none = record {
  from = λ r h. absurd (omega (arith, h.1));
  apart = refl;
}
cut-apart l p q bs rest ts rs (blank {n = n} f c) =
    let inner = cut-apart l (past p (take n bs)) q (drop n bs) rest ts _ c in
    let up = past-up p (take n bs) in
    record {
      from = from-later p (past p (take n bs)) (places_of ts) up inner.from;
      apart = inner.apart;
    }
cut-apart l p q bs rest ts rs (token {ts = us} {kind = kind} {n = n} f c) =
    let inner = cut-apart l (past p (take n bs)) q (drop n bs) rest us _ c in
    let behind : Place = record { line = p.line; column = p.column + n } in
    let at = token-past l p bs kind n (sym f) in
    let some = (token-takes l p bs kind n (sym f)).0 in
    let all : AllFrom behind (places_of us) = subst (λ (r : Place). AllFrom r (places_of us)) at inner.from in
    let up = past-up p (take n bs) in
    record {
      from = λ r h. elim (either_of p (places_of us) r h) [
        | inl same ↦ subst (λ (v : Place). UpTo p v) same (up-to-itself p)
        | inr later ↦ up-to-then p (past p (take n bs)) r up (inner.from r later)
      ];
      apart = apart-first p n (places_of us) some all inner.apart;
    }

-- ---- places in two parts of what is apart

pub parts-apart : (ps qs : List Place) (p q : Place) → are_apart (ps ++ qs) ≡ true → Contains ps p → Contains qs q → same_place q p ≡ true → ⊥
parts-apart [] qs p q apart h k e = omega (arith, h.1)
parts-apart (r ∷ ps) qs p q apart h k e =
    let parts = and_parts (not (is_among (ps ++ qs) r)) (are_apart (ps ++ qs)) apart in
    elim (either_of r ps p h) [
      | inl same ↦ never (is_among (ps ++ qs) r) parts.0 (any-of (λ v. same_place v r) (ps ++ qs) q (in-right ps qs q k) (subst (λ (v : Place). same_place q v ≡ true) (sym same) e))
      | inr later ↦ parts-apart ps qs p q parts.1 later k e
    ]
  where
    never : (b : Bool) → not b ≡ true → b ≡ true → ⊥
    never true e h = true≢false (sym e)
    never false e h = true≢false (sym h)

pub second-apart : (ps qs : List Place) → are_apart (ps ++ qs) ≡ true → are_apart qs ≡ true
second-apart [] qs apart = apart
second-apart (p ∷ ps) qs apart = second-apart ps qs (and_parts (not (is_among (ps ++ qs) p)) (are_apart (ps ++ qs)) apart).1

pub first-apart : (ps qs : List Place) → are_apart (ps ++ qs) ≡ true → are_apart ps ≡ true
first-apart [] qs apart = refl
first-apart (p ∷ ps) qs apart =
    let parts = and_parts (not (is_among (ps ++ qs) p)) (are_apart (ps ++ qs)) apart in
    both-true (not (is_among ps p)) (are_apart ps)
    (false-of (is_among ps p) (λ found.
    let q = some_of (λ v. same_place v p) ps found in
    contradiction (is_among (ps ++ qs) p) parts.0 (any-of (λ v. same_place v p) (ps ++ qs) q.0 (in-left ps qs q.0 q.1) q.2)))
    (first-apart ps qs parts.1)
  where
    contradiction : (b : Bool) → not b ≡ true → b ≡ true → ⊥
    contradiction true e h = true≢false (sym e)
    contradiction false e h = true≢false (sym h)

pub same-turned : (p q : Place) → same_place p q ≡ true → same_place q p ≡ true
same-turned p q e =
    let parts = and_parts (p.line == q.line) (p.column == q.column) e in
    both-true (q.line == p.line) (q.column == p.column)
    ((Decides-eqb q.line p.line).1 (sym ((Decides-eqb p.line q.line).0 parts.0))) ((Decides-eqb q.column p.column).1 (sym ((Decides-eqb p.column q.column).0 parts.1)))

-- all tokens of a text but its end, and so those in front of it
pub tokens-apart : (l : Language) (bytes : List ℕ) (tokens : List Tok) (ranges : List RangeForm) → IsCutIn l bytes tokens ranges
    → (ts : List Tok) × (end : Tok) × (tokens ≡ ts ++ end ∷ []) × (are_apart (places_of ts) ≡ true)
tokens-apart l bytes tokens ranges c =
    (c.0, token_at c.1 k.End [], c.3, (cut-apart l start c.1 bytes [] c.0 ranges c.2).apart)

-- ---- columns count from 1

next-column : (p : Place) (b : ℕ) → 0 < p.column → 0 < (next_place p b).column
next-column p b some = by (b == 10)
  where
    by : (t : Bool) → 0 < (if t then record { line = p.line + 1; column = 1 } else record p { column = p.column + 1 }).column
    by true = omega arith
    by false = omega arith

past-column : (p : Place) (bs : List ℕ) → 0 < p.column → 0 < (past p bs).column
past-column p [] some = some
past-column p (b ∷ bs) some = past-column (next_place p b) bs (next-column p b some)

cut-columns : (l : Language) (p q : Place) (bs rest : List ℕ) (ts : List Tok) (rs : List RangeForm) → CutsIn l p bs ts rs q rest → 0 < p.column → (r : Place) → Contains (places_of ts) r → 0 < r.column
cut-columns l p q bs rest ts rs none some r h = absurd (omega (arith, h.1))
cut-columns l p q bs rest ts rs (blank {n = n} f c) some r h = cut-columns l (past p (take n bs)) q (drop n bs) rest ts _ c (past-column p (take n bs) some) r h
cut-columns l p q bs rest ts rs (token {ts = us} {kind = kind} {n = n} f c) some r h = elim (either_of p (places_of us) r h) [
  | inl same ↦ subst (λ (v : Place). 0 < v.column) same some
  | inr later ↦ cut-columns l (past p (take n bs)) q (drop n bs) rest us _ c (past-column p (take n bs) some) r later
]

-- all tokens of a text but its end
pub token-columns : (l : Language) (bytes : List ℕ) (tokens : List Tok) (ranges : List RangeForm) → IsCutIn l bytes tokens ranges
    → (ts : List Tok) × (end : Tok) × (tokens ≡ ts ++ end ∷ []) × ((r : Place) → Contains (places_of ts) r → 0 < r.column)
token-columns l bytes tokens ranges c =
    (c.0, token_at c.1 k.End [], c.3, cut-columns l start c.1 bytes [] c.0 ranges c.2 (omega arith))
