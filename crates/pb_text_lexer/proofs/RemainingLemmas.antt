-- What a lexer still gives is how the bytes are cut.
use Rattle.std.proofs.Common.{◌≡◌, ℕ, zero, suc, ◌+◌, ◌-◌, ◌<◌, ◌≤◌, ◌==◌, Bool, not, true, false, cond, List, [], ◌∷◌, ◌++◌, length, take, drop, refl, sym, ap, ◌∙◌, arith, subst, length-drop, None}
use Rattle.std.proofs.lemmas.Bool.Decides.{nat_tests}
use Rattle.pb_text_lexer.specs.Bytes.{line}
use Rattle.pb_text_tree.specs.declared.place.Place.{Place}
use Rattle.pb_text_lexer.specs.declared.kind.Kind.{Kind}
use Rattle.pb_text_lexer.specs.declared.kind.Kind.TheVariants.{End}
use Rattle.pb_text_lexer.specs.declared.language.Language.{Language}
use Rattle.pb_text_lexer.specs.declared.piece.Piece.{Piece}
use Rattle.pb_text_lexer.specs.declared.piece.Piece.TheVariants.{Blank, Token, Stop}
use Rattle.pb_text_lexer.specs.Kinds.{is_last}
use Rattle.pb_text_tree.specs.Form.{RangeForm}
use Rattle.pb_text_lexer.specs.RangeLines.{ranges_at, behind_range, is_mark, placed, said}
use Rattle.pb_text_lexer.specs.Lexing.{piece_in, past, next_place, CutsIn, none, blank, token}
use Rattle.pb_text_lexer.specs.Remaining.{tokens_from, tokens_of, ranges_from, ranges_of}
use Rattle.pb_text_lexer.specs.Steps.{ends}
use Rattle.pb_text_lexer.specs.Tokens.{Tok, token_at}
use Rattle.pb_text_lexer.proofs.PieceLemmas.{TakesOf}
use Rattle.pb_text_lexer.proofs.LanguagePieceLemmas.{piece_in-takes, nothing-stops, token-takes, stop-takes}

skip : (l : Language) (bs : List ℕ) (n : ℕ) (p : Place) → n ≤ length bs → tokens_from l bs n p ≡ tokens_from l (drop n bs) 0 (past p (take n bs))
unfolding tokens_from
skip l [] zero p le = refl
skip l [] (suc n) p le = absurd (omega arith)
skip l (b ∷ bs) zero p le = refl
skip l (b ∷ bs) (suc n) p le = skip l bs n (next_place p b) (omega arith)

-- the tokens after a piece
passed : (l : Language) (b : ℕ) (bs : List ℕ) (n : ℕ) (p : Place) → 0 < n → n ≤ length (b ∷ bs)
    → tokens_from l bs (n - 1) (next_place p b) ≡ tokens_from l (drop n (b ∷ bs)) 0 (past p (take n (b ∷ bs)))
passed l b bs zero p some le = absurd (omega arith)
passed l b bs (suc n) p some le =
    let same : suc n - 1 ≡ n = omega arith in
    ap (λ m. tokens_from l bs m (next_place p b)) same ∙ skip l bs n (next_place p b) (omega arith)

pub blank-step : (l : Language) (bs : List ℕ) (n : ℕ) (p : Place) → piece_in l p bs ≡ Blank n → 0 < n → n ≤ length bs
    → tokens_from l bs 0 p ≡ tokens_from l (drop n bs) 0 (past p (take n bs))
unfolding tokens_from
blank-step l [] n p e some le = absurd (omega arith)
blank-step l (b ∷ bs) n p e some le = ap (λ v. tokens_of v p (b ∷ bs) (λ m. tokens_from l bs m (next_place p b))) e ∙ passed l b bs n p some le

pub token-step : (l : Language) (bs : List ℕ) (kind : Kind) (n : ℕ) (p : Place) → piece_in l p bs ≡ Token kind n → 0 < n → n ≤ length bs
    → tokens_from l bs 0 p ≡ token_at p kind (take n bs) ∷ tokens_from l (drop n bs) 0 (past p (take n bs))
unfolding tokens_from
token-step l [] kind n p e some le = absurd (omega arith)
token-step l (b ∷ bs) kind n p e some le =
    ap (λ v. tokens_of v p (b ∷ bs) (λ m. tokens_from l bs m (next_place p b))) e ∙ ap (λ v. token_at p kind (take n (b ∷ bs)) ∷ v) (passed l b bs n p some le)

pub stop-step : (l : Language) (bs : List ℕ) (kind : Kind) (p : Place) → piece_in l p bs ≡ Stop kind → tokens_from l bs 0 p ≡ token_at p kind [] ∷ []
unfolding tokens_from
stop-step l [] kind p e = let stop : Stop End ≡ Stop kind = sym (nothing-stops l p) ∙ e in let same : End ≡ kind = cc in ap (λ v. token_at p v [] ∷ []) same
stop-step l (b ∷ bs) kind p e = ap (λ v. tokens_of v p (b ∷ bs) (λ m. tokens_from l bs m (next_place p b))) e

-- ---- range lines

skip-ranges : (l : Language) (bs : List ℕ) (n : ℕ) (p : Place) → n ≤ length bs → ranges_from l bs n p ≡ ranges_from l (drop n bs) 0 (past p (take n bs))
unfolding ranges_from
skip-ranges l [] zero p le = refl
skip-ranges l [] (suc n) p le = absurd (omega arith)
skip-ranges l (b ∷ bs) zero p le = refl
skip-ranges l (b ∷ bs) (suc n) p le = skip-ranges l bs n (next_place p b) (omega arith)

-- the range lines after a piece
passed-ranges : (l : Language) (b : ℕ) (bs : List ℕ) (n : ℕ) (p : Place) → 0 < n → n ≤ length (b ∷ bs)
    → ranges_from l bs (n - 1) (next_place p b) ≡ ranges_from l (drop n (b ∷ bs)) 0 (past p (take n (b ∷ bs)))
passed-ranges l b bs zero p some le = absurd (omega arith)
passed-ranges l b bs (suc n) p some le =
    let same : suc n - 1 ≡ n = omega arith in
    ap (λ m. ranges_from l bs m (next_place p b)) same ∙ skip-ranges l bs n (next_place p b) (omega arith)

pub blank-ranges : (l : Language) (bs : List ℕ) (n : ℕ) (p : Place) → piece_in l p bs ≡ Blank n → 0 < n → n ≤ length bs
    → ranges_from l bs 0 p ≡ ranges_at p bs ++ ranges_from l (drop n bs) 0 (past p (take n bs))
unfolding ranges_from
blank-ranges l [] n p e some le = absurd (omega arith)
blank-ranges l (b ∷ bs) n p e some le =
    ap (λ v. ranges_of v (ranges_at p (b ∷ bs)) (λ m. ranges_from l bs m (next_place p b))) e ∙ ap (λ v. ranges_at p (b ∷ bs) ++ v) (passed-ranges l b bs n p some le)

pub token-ranges : (l : Language) (bs : List ℕ) (kind : Kind) (n : ℕ) (p : Place) → piece_in l p bs ≡ Token kind n → 0 < n → n ≤ length bs
    → ranges_from l bs 0 p ≡ ranges_from l (drop n bs) 0 (past p (take n bs))
unfolding ranges_from
token-ranges l [] kind n p e some le = absurd (omega arith)
token-ranges l (b ∷ bs) kind n p e some le =
    ap (λ v. ranges_of v (ranges_at p (b ∷ bs)) (λ m. ranges_from l bs m (next_place p b))) e ∙ passed-ranges l b bs n p some le

pub stop-ranges : (l : Language) (bs : List ℕ) (kind : Kind) (p : Place) → piece_in l p bs ≡ Stop kind → ranges_from l bs 0 p ≡ []
unfolding ranges_from
stop-ranges l [] kind p e = refl
stop-ranges l (b ∷ bs) kind p e = ap (λ v. ranges_of v (ranges_at p (b ∷ bs)) (λ m. ranges_from l bs m (next_place p b))) e

-- ---- no range line without its mark

unnamed : (c : ℕ) (cs : List ℕ) → (c == 114) ≡ false → behind_range (c ∷ cs) ≡ None
unfolding behind_range
unnamed c [] other = refl
unnamed c (d ∷ []) other = refl
unnamed c (d ∷ e ∷ []) other = refl
unnamed c (d ∷ e ∷ f ∷ []) other = refl
unnamed c (d ∷ e ∷ f ∷ g ∷ cs) other = rw other refl

unnamed-front : (c : ℕ) (cs : List ℕ) (n : ℕ) → (c == 114) ≡ false → (v : Bool) → behind_range (take (cond v (1 + n) 0) (c ∷ cs)) ≡ None
unfolding behind_range
unnamed-front c cs n other true =
    let more : 1 + n ≡ suc n = omega arith in
    ap (λ m. behind_range (take m (c ∷ cs))) more ∙ unnamed c (take n cs) other
unnamed-front c cs n other false = refl

unmarked-line : (bs : List ℕ) → is_mark (37 ∷ bs) ≡ false → behind_range (line bs) ≡ None
unfolding behind_range
unmarked-line [] bare = refl
unmarked-line (c ∷ cs) bare = unnamed-front c cs _ bare (not (c == 10))

unmarked : (p : Place) (b : ℕ) (bs : List ℕ) → is_mark (b ∷ bs) ≡ false → (v : Bool) → (b == 37) ≡ v → ranges_at p (b ∷ bs) ≡ []
unfolding ranges_at
unmarked p b bs bare true is =
    let same : b ≡ 37 = grind (arith, nat_tests) in
    let unsaid = unmarked-line bs (subst (λ (v : ℕ). is_mark (v ∷ bs) ≡ false) same bare) in
    rw (is, unsaid) (none-placed p (p.column == 1))
  where
    none-placed : (p : Place) (v : Bool) → cond v (placed p (said None)) [] ≡ []
    none-placed p true = refl
    none-placed p false = refl
unmarked p b bs bare false is = rw is refl

no-ranges : (l : Language) (b : ℕ) (bs : List ℕ) → is_mark (b ∷ bs) ≡ false → ((n : ℕ) (p : Place) → ranges_from l bs n p ≡ []) → (n : ℕ) (p : Place) → ranges_from l (b ∷ bs) n p ≡ []
unfolding ranges_from
no-ranges l b bs bare rest (suc n) p = rest n (next_place p b)
no-ranges l b bs bare rest zero p = by-piece (piece_in l p (b ∷ bs))
  where
    by-piece : (v : Piece) → ranges_of v (ranges_at p (b ∷ bs)) (λ m. ranges_from l bs m (next_place p b)) ≡ []
    by-piece (Blank n) = rw (unmarked p b bs bare (b == 37) refl) (rest (n - 1) (next_place p b))
    by-piece (Token kind n) = rest (n - 1) (next_place p b)
    by-piece (Stop kind) = refl

pub no_ranges_before : (l : Language) (bs : List ℕ) → 0 < length bs → is_mark bs ≡ false → ((n : ℕ) (p : Place) → ranges_from l (drop 1 bs) n p ≡ []) → (n : ℕ) (p : Place) → ranges_from l bs n p ≡ []
no_ranges_before l [] some bare rest n p = absurd (omega arith)
no_ranges_before l (b ∷ bs) some bare rest n p = no-ranges l b bs bare rest n p

pub no_ranges_at_end : (l : Language) (bs : List ℕ) → length bs ≡ 0 → (n : ℕ) (p : Place) → ranges_from l bs n p ≡ []
unfolding ranges_from
no_ranges_at_end l [] bare n p = refl
no_ranges_at_end l (b ∷ bs) bare n p = absurd (omega arith)

-- The tokens and range lines: the bytes are cut into them up to where no token stands, and the last token says why.
pub record IsLexed (l : Language) (p : Place) (bs : List ℕ) (tokens : List Tok) (found : List RangeForm) : Type 0 where
  pub front : List Tok
  pub ranges : List RangeForm
  pub place : Place
  pub rest : List ℕ
  pub kind : Kind
  pub cut : CutsIn l p bs front ranges place rest
  pub stops : piece_in l place rest ≡ Stop kind
  pub is : tokens ≡ front ++ token_at place kind [] ∷ []
  pub same : found ≡ ranges

lexed-by : (l : Language) (p : Place) (bs : List ℕ) → ((q : Place) (cs : List ℕ) → length cs < length bs → IsLexed l q cs (tokens_from l cs 0 q) (ranges_from l cs 0 q))
    → (v : Piece) → piece_in l p bs ≡ v → TakesOf v bs → IsLexed l p bs (tokens_from l bs 0 p) (ranges_from l bs 0 p)
lexed-by l p bs again (Blank n) e takes =
    let some = takes.0 in
    let le = takes.1 in
    let a = again (past p (take n bs)) (drop n bs) (omega (arith, length-drop n bs)) in
    record {
      front = a.front;
      ranges = ranges_at p bs ++ a.ranges;
      place = a.place;
      rest = a.rest;
      kind = a.kind;
      cut = blank e a.cut;
      stops = a.stops;
      is = blank-step l bs n p e some le ∙ a.is;
      same = blank-ranges l bs n p e some le ∙ ap (λ v. ranges_at p bs ++ v) a.same;
    }
lexed-by l p bs again (Token kind n) e takes =
    let some = takes.0 in
    let le = takes.1 in
    let a = again (past p (take n bs)) (drop n bs) (omega (arith, length-drop n bs)) in
    let t = token_at p kind (take n bs) in
    record {
      front = t ∷ a.front;
      ranges = a.ranges;
      place = a.place;
      rest = a.rest;
      kind = a.kind;
      cut = token e a.cut;
      stops = a.stops;
      is = token-step l bs kind n p e some le ∙ ap (λ v. t ∷ v) a.is;
      same = token-ranges l bs kind n p e some le ∙ a.same;
    }
lexed-by l p bs again (Stop kind) e takes =
    record { front = []; ranges = []; place = p; rest = bs; kind = kind; cut = none; stops = e; is = stop-step l bs kind p e; same = stop-ranges l bs kind p e }

lexed-within : (l : Language) (n : ℕ) (p : Place) (bs : List ℕ) → length bs ≤ n → IsLexed l p bs (tokens_from l bs 0 p) (ranges_from l bs 0 p)
lexed-within l zero p bs le = lexed-by l p bs (λ q cs h. absurd (omega arith)) (piece_in l p bs) refl (piece_in-takes l p bs).is
lexed-within l (suc n) p bs le = lexed-by l p bs (λ q cs h. lexed-within l n q cs (omega arith)) (piece_in l p bs) refl (piece_in-takes l p bs).is

pub lexed : (l : Language) (p : Place) (bs : List ℕ) → IsLexed l p bs (tokens_from l bs 0 p) (ranges_from l bs 0 p)
lexed l p bs = lexed-within l (length bs) p bs (omega arith)

-- ---- the last token, and no other, is one behind which none stands

ends-cons : (t e : Tok) (ts : List Tok) → is_last t.kind ≡ false → ends (ts ++ e ∷ []) ≡ true → ends (t ∷ (ts ++ e ∷ [])) ≡ true
ends-cons t e [] other h = ap (λ v. cond v false (is_last e.kind)) other ∙ h
ends-cons t e (u ∷ ts) other h = ap (λ v. cond v false (ends (u ∷ (ts ++ e ∷ [])))) other ∙ h

cuts-ends : (l : Language) (p q : Place) (bs rest : List ℕ) (ts : List Tok) (rs : List RangeForm) (e : Tok) → CutsIn l p bs ts rs q rest → is_last e.kind ≡ true → ends (ts ++ e ∷ []) ≡ true
cuts-ends l p q bs rest ts rs e none h = h
cuts-ends l p q bs rest ts rs e (blank f c) h = cuts-ends l _ q _ rest _ _ e c h
cuts-ends l p q bs rest ts rs e (token {kind = kind} {n = n} f c) h =
    ends-cons (token_at p kind (take n bs)) e _ (token-takes l p bs kind n (sym f)).2 (cuts-ends l _ q _ rest _ _ e c h)

pub tokens-end : (l : Language) (p : Place) (bs : List ℕ) → ends (tokens_from l bs 0 p) ≡ true
tokens-end l p bs =
    let c = lexed l p bs in
    subst (λ (v : List Tok). ends v ≡ true) (sym c.is)
    (cuts-ends l p c.place bs c.rest c.front c.ranges (token_at c.place c.kind []) c.cut (stop-takes l c.place c.rest c.kind (sym c.stops)).0)
