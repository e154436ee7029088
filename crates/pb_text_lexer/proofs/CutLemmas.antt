-- A text is cut in one way, and each of its tokens stands where it is cut.
use Rattle.std.proofs.Common.{◌≡◌, ℕ, ◌<◌, Bool, true, false, cond, inl, inr, List, [], ◌∷◌, ◌++◌, length, take, drop, refl, sym, ap, ◌∙◌, subst, arith}
use Rattle.std.proofs.lemmas.List.{same_from_push}
use Rattle.pb_text_tree.specs.declared.place.Place.{Place}
use Rattle.pb_text_tree.specs.Form.{RangeForm}
use Rattle.pb_text_lexer.specs.declared.kind.Kind.{Kind}
use Rattle.pb_text_lexer.specs.declared.kind.Kind.TheVariants.{End, Unknown, LargeNumber, RangeLine}
use Rattle.pb_text_lexer.specs.declared.language.Language.{Language}
use Rattle.pb_text_lexer.specs.declared.piece.Piece.TheVariants.{Stop}
use Rattle.pb_text_lexer.specs.Kinds.{is_last, is_defect}
use Rattle.pb_text_lexer.specs.Lexing.{CutsIn, none, blank, token, piece_in, past, start, IsCutIn, IsDefectIn, BeginsIn}
use Rattle.pb_text_lexer.specs.RangeLines.{ranges_at}
use Rattle.pb_text_lexer.specs.Remaining.{tokens_from, ranges_from}
use Rattle.pb_text_lexer.specs.Steps.{ends}
use Rattle.pb_text_lexer.specs.Tokens.{Tok, token_at}
use Rattle.pb_text_lexer.proofs.LanguagePieceLemmas.{nothing-stops, stop-takes}
use Rattle.pb_text_lexer.proofs.RemainingLemmas.{IsLexed, lexed, tokens-end}

-- ---- two cuts that both end are one

abbrev Ends : Language → Place → List ℕ → Type 0
Ends l q rest = (kind : Kind) × (piece_in l q rest ≡ Stop kind)

nothing-ends : (l : Language) (q : Place) → Ends l q []
nothing-ends l q = (End, nothing-stops l q)

one-cut : (l : Language) (p q r : Place) (bs us vs : List ℕ) (ts ws : List Tok) (rs ss : List RangeForm) → CutsIn l p bs ts rs q us → CutsIn l p bs ws ss r vs → Ends l q us → Ends l r vs
    → (ts ≡ ws) × (q ≡ r) × (us ≡ vs) × (rs ≡ ss)
one-cut l p q r bs us vs ts ws rs ss none none e f = (refl, refl, refl, refl)
one-cut l p q r bs us vs ts ws rs ss none (blank g c) e f = let h = e.1 in cc
one-cut l p q r bs us vs ts ws rs ss none (token g c) e f = let h = e.1 in cc
one-cut l p q r bs us vs ts ws rs ss (blank g c) none e f = let h = f.1 in cc
one-cut l p q r bs us vs ts ws rs ss (token g c) none e f = let h = f.1 in cc
one-cut l p q r bs us vs ts ws rs ss (blank {rs = rs'} {n = n} g c) (blank {rs = ss'} {n = m} h d) e f =
    let same : m ≡ n = cc in
    let found = one-cut l _ q r _ us vs ts ws rs' ss' c (subst (λ (k : ℕ). CutsIn l (past p (take k bs)) (drop k bs) ws ss' r vs) same d) e f in
    (found.0, found.1, found.2, ap (λ v. ranges_at p bs ++ v) found.3)
one-cut l p q r bs us vs ts ws rs ss (blank g c) (token h d) e f = cc
one-cut l p q r bs us vs ts ws rs ss (token g c) (blank h d) e f = cc
one-cut l p q r bs us vs ts ws rs ss (token {ts = ts'} {kind = kind} {n = n} g c) (token {ts = ws'} {kind = other} {n = m} h d) e f =
    let same : m ≡ n = cc in let alike : kind ≡ other = cc in
    let found = one-cut l _ q r _ us vs ts' ws' rs ss c (subst (λ (k : ℕ). CutsIn l (past p (take k bs)) (drop k bs) ws' ss r vs) same d) e f in
    let first : token_at p kind (take n bs) ≡ token_at p other (take m bs) = cc in
    let rest = found.0 in
    (cc, found.1, found.2, found.3)

-- a text that is cut wholly has these tokens and range lines, and ends where they do
pub record IsSame (l : Language) (bytes : List ℕ) (us : List Tok) (ranges : List RangeForm) : Type 0 where
  pub tokens : us ≡ tokens_from l bytes 0 start
  pub ranges_too : ranges ≡ ranges_from l bytes 0 start

pub same-cut : (l : Language) (bytes : List ℕ) (us : List Tok) (ranges : List RangeForm) → IsCutIn l bytes us ranges → IsSame l bytes us ranges
same-cut l bytes us ranges b =
    let whole = lexed l start bytes in
    let found = one-cut l start whole.place b.1 bytes whole.rest [] whole.front b.0 whole.ranges ranges whole.cut b.2 (whole.kind, whole.stops) (nothing-ends l b.1) in
    let at : piece_in l whole.place [] ≡ Stop whole.kind = subst (λ (v : List ℕ). piece_in l whole.place v ≡ Stop whole.kind) found.2 whole.stops in
    let stop : Stop End ≡ Stop whole.kind = sym (nothing-stops l whole.place) ∙ at in
    let kind : whole.kind ≡ End = cc in
    record {
      tokens = b.3 ∙ ap (λ v. v ++ token_at b.1 End [] ∷ []) (sym found.0) ∙ ap (λ v. whole.front ++ token_at v End [] ∷ []) (sym found.1)
          ∙ ap (λ v. whole.front ++ token_at whole.place v [] ∷ []) (sym kind) ∙ sym whole.is;
      ranges_too = sym (whole.same ∙ found.3);
    }

-- ---- what stands before a token

-- the tokens up to one of them, and it, are cut
pub record CutUpTo (l : Language) (p : Place) (bs : List ℕ) (us : List Tok) : Type 0 where
  pub place : Place
  pub rest : List ℕ
  pub ranges : List RangeForm
  pub cut : CutsIn l p bs us ranges place rest

cut-front : (l : Language) (p q : Place) (bs rest : List ℕ) (us vs ts : List Tok) (rs : List RangeForm) → CutsIn l p bs ts rs q rest → ts ≡ us ++ vs → CutUpTo l p bs us
cut-front l p q bs rest [] vs ts rs c e = record { place = p; rest = bs; ranges = []; cut = none }
cut-front l p q bs rest (u ∷ us) vs ts rs none e = cc
cut-front l p q bs rest (u ∷ us) vs ts rs (blank {rs = rs'} {n = n} f c) e =
    let found = cut-front l (past p (take n bs)) q (drop n bs) rest (u ∷ us) vs ts rs' c e in
    record { place = found.place; rest = found.rest; ranges = ranges_at p bs ++ found.ranges; cut = blank f found.cut }
cut-front l p q bs rest (u ∷ us) vs ts rs (token {ts = ts'} {kind = kind} {n = n} f c) e =
    let tail : ts' ≡ us ++ vs = cc in
    let head : token_at p kind (take n bs) ≡ u = cc in
    let found = cut-front l (past p (take n bs)) q (drop n bs) rest us vs ts' rs c tail in
    record {
      place = found.place;
      rest = found.rest;
      ranges = found.ranges;
      cut = subst (λ (v : Tok). CutsIn l p bs (v ∷ us) found.ranges found.place found.rest) head (token f found.cut);
    }

-- a list with one more at its end, cut in two elsewhere
before-end : (ts front more : List Tok) (e next m : Tok) → ts ++ e ∷ [] ≡ front ++ next ∷ m ∷ more → (vs : List Tok) × (ts ≡ (front ++ next ∷ []) ++ vs)
before-end [] [] more e next m h = cc
before-end [] (f ∷ []) more e next m h = cc
before-end [] (f ∷ g ∷ front) more e next m h = cc
before-end (t ∷ ts) [] more e next m h = let p : t ≡ next = cc in (ts, ap (λ v. v ∷ ts) p)
before-end (t ∷ ts) (f ∷ front) more e next m h =
    let p : t ≡ f = cc in let q : ts ++ e ∷ [] ≡ front ++ next ∷ m ∷ more = cc in
    let found = before-end ts front more e next m q in
    (found.0, ap (λ v. v ∷ ts) p ∙ ap (λ v. f ∷ v) found.1)

-- behind the last token stands none
none-behind : (front : List Tok) (next m : Tok) (more : List Tok) → is_last next.kind ≡ true → ends (front ++ next ∷ m ∷ more) ≡ true → ⊥
none-behind [] next m more last h = let e : cond (is_last next.kind) false (ends (m ∷ more)) ≡ false = ap (λ v. cond v false (ends (m ∷ more))) last in cc
none-behind (f ∷ []) next m more last h = none-behind [] next m more last (pass (is_last f.kind) h)
  where
    pass : (b : Bool) → cond b false (ends (next ∷ m ∷ more)) ≡ true → ends (next ∷ m ∷ more) ≡ true
    pass true e = cc
    pass false e = e
none-behind (f ∷ g ∷ front) next m more last h = none-behind (g ∷ front) next m more last (pass (is_last f.kind) h)
  where
    pass : (b : Bool) → cond b false (ends (g ∷ front ++ next ∷ m ∷ more)) ≡ true → ends (g ∷ front ++ next ∷ m ∷ more) ≡ true
    pass true e = cc
    pass false e = e

defect-last : (kind : Kind) → is_defect kind ≡ true → is_last kind ≡ true
defect-last Unknown h = refl
defect-last LargeNumber h = refl
defect-last RangeLine h = refl
defect-last _ h = cc

last-end : (kind : Kind) → is_last kind ≡ true → is_defect kind ≡ false → kind ≡ End
last-end End h d = refl
last-end Unknown h d = cc
last-end LargeNumber h d = cc
last-end RangeLine h d = cc
last-end _ h d = cc

rest-some : (l : Language) (p : Place) (bs : List ℕ) (kind : Kind) → piece_in l p bs ≡ Stop kind → is_defect kind ≡ true → 0 < length bs
rest-some l p [] kind e h = let stop : Stop End ≡ Stop kind = sym (nothing-stops l p) ∙ e in let same : kind ≡ End =
    cc in let d : is_defect End ≡ true = subst (λ (v : Kind). is_defect v ≡ true) same h in cc
rest-some l p (b ∷ bs) kind e h = omega arith

-- How a token stands in a text: one that is no token stands where one should, and any other begins no later than the first of those.
pub record Standing (l : Language) (bytes : List ℕ) (front : List Tok) (next : Tok) : Type 0 where
  pub defect : is_defect next.kind ≡ true → IsDefectIn l bytes front next.place next.kind
  pub sound : is_defect next.kind ≡ false → BeginsIn l bytes (front ++ next ∷ [])

last-stands : (l : Language) (bytes : List ℕ) (front : List Tok) (next : Tok)
    → tokens_from l bytes 0 start ≡ front ++ next ∷ [] → IsLexed l start bytes (tokens_from l bytes 0 start) (ranges_from l bytes 0 start)
    → Standing l bytes front next
last-stands l bytes front next e whole =
    let found = same_from_push whole.front front (token_at whole.place whole.kind []) next (sym whole.is ∙ e) in
    let kind : whole.kind ≡ next.kind = ap (λ v. v.kind) found.1 in
    let place : whole.place ≡ next.place = ap (λ v. v.place) found.1 in
    record {
      defect = λ h. record {
        rest = whole.rest;
        ranges = whole.ranges;
        cut = subst (λ (v : Place). CutsIn l start bytes front whole.ranges v whole.rest) place
            (subst (λ (v : List Tok). CutsIn l start bytes v whole.ranges whole.place whole.rest) found.0 whole.cut);
        some = rest-some l whole.place whole.rest whole.kind whole.stops (ap is_defect kind ∙ h);
        stops = subst (λ (v : Place). piece_in l v whole.rest ≡ Stop next.kind) place (whole.stops ∙ ap (λ v. Stop v) kind);
      };
      sound = λ h.
          let takes = stop-takes l whole.place whole.rest whole.kind (sym whole.stops) in
          let at_end : whole.kind ≡ End = last-end whole.kind takes.0 (ap is_defect kind ∙ h) in
          inr (
            whole.ranges,
            (
              whole.front,
              whole.place,
              subst (λ (v : List ℕ). CutsIn l start bytes whole.front whole.ranges whole.place v) (takes.1 at_end) whole.cut,
              sym e ∙ whole.is ∙ ap (λ v. whole.front ++ token_at whole.place v [] ∷ []) at_end,
            ),
          );
    }

pub stands : (l : Language) (bytes : List ℕ) (front more : List Tok) (next : Tok) → tokens_from l bytes 0 start ≡ front ++ next ∷ more → Standing l bytes front next
stands l bytes front [] next e = last-stands l bytes front next e (lexed l start bytes)
stands l bytes front (m ∷ more) next e = record {
  defect = λ h. absurd (none-behind front next m more (defect-last next.kind h) (subst (λ (v : List Tok). ends v ≡ true) e (tokens-end l start bytes)));
  sound = λ h.
      let whole = lexed l start bytes in
      let found = before-end whole.front front more (token_at whole.place whole.kind []) next m (sym whole.is ∙ e) in
      let upto = cut-front l start whole.place bytes whole.rest (front ++ next ∷ []) found.0 whole.front whole.ranges whole.cut found.1 in
      inl (upto.place, upto.rest, upto.ranges, upto.cut);
}

-- tokens that end in the end of the text are a cut of the whole
pub whole-cut : (l : Language) (bytes : List ℕ) (front : List Tok) (end : Tok)
    → tokens_from l bytes 0 start ≡ front ++ end ∷ [] → end.kind ≡ End
    → IsCutIn l bytes (tokens_from l bytes 0 start) (ranges_from l bytes 0 start)
whole-cut l bytes front end e is =
    let whole = lexed l start bytes in
    let found = same_from_push whole.front front (token_at whole.place whole.kind []) end (sym whole.is ∙ e) in
    let at_end : whole.kind ≡ End = ap (λ v. v.kind) found.1 ∙ is in
    let takes = stop-takes l whole.place whole.rest whole.kind (sym whole.stops) in (
      whole.front,
      whole.place,
      subst (λ (v : List RangeForm). CutsIn l start bytes whole.front v whole.place []) (sym whole.same)
          (subst (λ (v : List ℕ). CutsIn l start bytes whole.front whole.ranges whole.place v) (takes.1 at_end) whole.cut),
      whole.is ∙ ap (λ v. whole.front ++ token_at whole.place v [] ∷ []) at_end,
    )
