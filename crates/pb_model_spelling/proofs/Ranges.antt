-- The range lines of a model can be said: they are those that a text of the same lines has.
use Rattle.std.proofs.Common.{◌≡◌, ◌∙◌, ◌≤◌, ℕ, ◌+◌, ◌==◌, ◌&&◌, Bool, true, false, not, cond, List, [], ◌∷◌, ◌++◌, length, take, drop, refl, sym, ap, subst, arith, Option, Some, None}
use Rattle.std.specs.Prelude.{take_while, is_none}
use Rattle.std.proofs.lemmas.List.{drop_all}
use Rattle.std.proofs.lemmas.List.Sums.{take_while-cons}
use Rattle.pb_text_tree.specs.declared.place.Place.{Place}
use Rattle.pb_text_tree.specs.Form.{RangeForm}
use Rattle.pb_text_lexer.specs.declared.kind.Kind.TheVariants as k
use Rattle.pb_text_lexer.specs.declared.language.Language.TheVariants.{Text, Model}
use Rattle.pb_text_lexer.specs.declared.piece.Piece.TheVariants.{Blank, Stop}
use Rattle.pb_text_lexer.specs.Bytes.{line}
use Rattle.pb_text_lexer.specs.Lexing.{piece, CutsIn, none, blank, token, past, start, IsCut, IsCutIn}
use Rattle.pb_text_lexer.specs.RangeLines.{Bounded, behind_range, without_return, words_bound, said, is_wrong, placed, ranges_at}
use Rattle.pb_text_lexer.specs.Tokens.{Tok, token_at}
use Rattle.pb_text_printer.specs.Sayable.{Each, RangeSayable}
use Rattle.pb_text_printer.proofs.SaidRanges.{ranges-said}

-- ---- a line alone

passing_again : (p : ℕ → Bool) (bs : List ℕ) → take_while p (take_while p bs) ≡ take_while p bs
passing_again p [] = refl
passing_again p (b ∷ bs) =
    subst (λ (cs : List ℕ). take_while p cs ≡ cs) (sym (take_while-cons p b bs)) (go (p b) refl (passing_again p bs))
  where
    go : (v : Bool) → p b ≡ v → take_while p (take_while p bs) ≡ take_while p bs → take_while p (cond v (b ∷ take_while p bs) []) ≡ cond v (b ∷ take_while p bs) []
    go false e rest = refl
    go true e rest =
        take_while-cons p b (take_while p bs) ∙ ap (λ v. cond v (b ∷ take_while p (take_while p bs)) []) e ∙ ap (λ (cs : List ℕ). b ∷ cs) rest

-- a comment that is no wrong range line is white space
comment_piece : (cs : List ℕ) → is_wrong (behind_range (line cs)) ≡ false → piece start (37 ∷ cs) ≡ Blank (1 + length (line cs))
unfolding piece
comment_piece cs e = ap (λ v. cond v (Stop k.RangeLine) (Blank (1 + length (line cs)))) e

anywhere : (p : Place) (v : Option Bounded) → Each RangeSayable (placed start v ++ []) → Each RangeSayable (placed p v)
anywhere p None h = tt
anywhere p (Some r) h = (record { name = h.0.name; low = h.0.low; high = h.0.high; order = h.0.order }, tt)

wrong_said : (p : Place) (v : Option (List ℕ)) → is_wrong v ≡ true → Each RangeSayable (placed p (said v))
wrong_said p None e = tt
wrong_said p (Some bs) e = go (words_bound (without_return bs)) e
  where
    go : (v : Option Bounded) → is_none v ≡ true → Each RangeSayable (placed p v)
    go None h = tt
    go (Some r) h = cc

alone_said : (p : Place) (cs : List ℕ) → line cs ≡ cs → is_wrong (behind_range (line cs)) ≡ false → Each RangeSayable (placed p (said (behind_range (line cs))))
unfolding ranges_at
alone_said p cs same right =
    let n = 1 + length (line cs) in
    let behind = past start (take n (37 ∷ cs)) in
    let long : length (line cs) ≡ length cs = ap length same in
    let nothing : drop n (37 ∷ cs) ≡ [] = drop_all n (37 ∷ cs) (let fits : length (37 ∷ cs) ≤ n = omega arith in fits) in
    let rest : CutsIn Text behind (drop n (37 ∷ cs)) [] [] behind [] = subst (λ (bs : List ℕ). CutsIn Text behind (drop n (37 ∷ cs)) [] [] behind bs) nothing none in
    let cut : IsCut (37 ∷ cs) (token_at behind k.End [] ∷ []) (ranges_at start (37 ∷ cs) ++ []) = ([], behind, blank (comment_piece cs right) rest, refl) in
    anywhere p (said (behind_range (line cs))) (ranges-said (37 ∷ cs) (token_at behind k.End [] ∷ []) (ranges_at start (37 ∷ cs) ++ []) cut)

-- whether it says a range or not
line_said : (p : Place) (bs : List ℕ) → Each RangeSayable (placed p (said (behind_range (line bs))))
line_said p bs = go (is_wrong (behind_range (line bs))) refl
  where
    again : line (line bs) ≡ line bs
    again = passing_again (λ b. not (b == 10)) bs

    go : (v : Bool) → is_wrong (behind_range (line bs)) ≡ v → Each RangeSayable (placed p (said (behind_range (line bs))))
    go true e = wrong_said p (behind_range (line bs)) e
    go false e =
        subst (λ (cs : List ℕ). Each RangeSayable (placed p (said (behind_range cs)))) again
        (alone_said p (line bs) again (subst (λ (cs : List ℕ). is_wrong (behind_range cs) ≡ false) (sym again) e))

-- ---- whole models

placed_said : (p : Place) (v : Option Bounded) (rs : List RangeForm) → Each RangeSayable (placed p v) → Each RangeSayable rs → Each RangeSayable (placed p v ++ rs)
placed_said p None rs h g = g
placed_said p (Some r) rs h g = (h.0, g)

blank_said : (p : Place) (bs : List ℕ) (rs : List RangeForm) → Each RangeSayable rs → Each RangeSayable (ranges_at p bs ++ rs)
unfolding ranges_at
blank_said p [] rs h = h
blank_said p (b ∷ bs) rs h = go (b == 37 && p.column == 1)
  where
    go : (v : Bool) → Each RangeSayable (cond v (placed p (said (behind_range (line bs)))) [] ++ rs)
    go true = placed_said p (said (behind_range (line bs))) rs (line_said p bs) h
    go false = h

cut_said : {p q : Place} {bs rest : List ℕ} {ts : List Tok} {rs : List RangeForm} → CutsIn Model p bs ts rs q rest → Each RangeSayable rs
cut_said none = tt
cut_said {p} {q} {bs} (blank {rs = ss} e c) = blank_said p bs ss (cut_said c)
cut_said (token e c) = cut_said c

pub ranges_of_models_are_said : (bytes : List ℕ) (tokens : List Tok) (ranges : List RangeForm) → IsCutIn Model bytes tokens ranges → Each RangeSayable ranges
ranges_of_models_are_said bytes tokens ranges c = cut_said c.2
