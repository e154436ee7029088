-- Range lines as they are written are range lines.
use Rattle.std.proofs.Common.{◌≡◌, ℕ, zero, suc, ◌+◌, ◌-◌, ◌<◌, Bool, true, false, cond, not, ◌&&◌, ◌==◌, List, [], ◌∷◌, ◌++◌, length, take, drop, get_or, map, refl, sym, ap, ◌∙◌, subst, arith, append_assoc, Some, is_none, eq-eqb}
use Rattle.std.specs.Prelude.{flat_map, codes}
use Rattle.std.specs.Fmt.{signed_decimal}
use Rattle.std.proofs.Math.Seq.{take-append_seam, drop-append_seam}
use Rattle.std.proofs.lemmas.List.{append-nil}
use Rattle.std.proofs.lemmas.Bool.Decides.{nat_tests}
use Rattle.pb_text_tree.specs.declared.place.Place.{Place}
use Rattle.pb_text_tree.specs.Form.{RangeForm}
use Rattle.pb_text_lexer.specs.declared.piece.Piece.{Piece}
use Rattle.pb_text_lexer.specs.declared.piece.Piece.TheVariants.{Blank, Stop}
use Rattle.pb_text_lexer.specs.declared.kind.Kind.TheVariants as k
use Rattle.pb_text_lexer.specs.Bytes.{line, is_name_byte}
use Rattle.pb_text_lexer.specs.Lexing.{Cuts, blank, piece, past}
use Rattle.pb_text_lexer.specs.RangeLines.{behind_range, without_return, words_bound, is_wrong, said, placed, ranges_at, range_at_place, Bounded}
use Rattle.pb_text_lexer.specs.Tokens.{Tok}
use Rattle.pb_text_printer.specs.Unplaced.{unplaced_range}
use Rattle.pb_text_printer.specs.Words.{Word, Spells, range_bytes}
use Rattle.pb_text_printer.specs.Sayable.{Each, RangeSayable}
use Rattle.pb_text_printer.proofs.WrittenLemmas.{IsCutInto}
use Rattle.pb_text_printer.proofs.RangeWords.{Passing, passing-both, passing-weaker, while-front, no_end, name-inside, name-bytes, signed-text, words-found}

-- what stands behind the word `range`
abbrev tail_of : RangeForm → List ℕ
tail_of r = 32 ∷ r.name ++ (32 ∷ signed_decimal r.low ++ (32 ∷ signed_decimal r.high))

abbrev content_of : RangeForm → List ℕ
content_of r = codes "range" ++ tail_of r

abbrev bounds_of : RangeForm → Bounded
bounds_of r = record { name = r.name; low = r.low; high = r.high }

-- ---- the line has no end in it

tail-inside : (r : RangeForm) → RangeSayable r → Passing no_end (tail_of r)
tail-inside r h =
    let name = name-bytes r.name h.name in
    let low = signed-text r.low h.low in let high = signed-text r.high h.high in (
      refl,
      passing-both no_end r.name (32 ∷ signed_decimal r.low ++ (32 ∷ signed_decimal r.high)) (passing-weaker is_name_byte no_end name-inside r.name name.1)
          (refl, passing-both no_end (signed_decimal r.low) (32 ∷ signed_decimal r.high) low.inside (refl, high.inside)),
    )

content-inside : (r : RangeForm) → RangeSayable r → Passing no_end (content_of r)
content-inside r h = (refl, (refl, (refl, (refl, (refl, tail-inside r h)))))

inside-line : (b : ℕ) → no_end b ≡ true → not (b == 10) ≡ true
inside-line b h = grind (arith, nat_tests)

inside-return : (b : ℕ) → no_end b ≡ true → (b == 13) ≡ false
inside-return b h = grind (arith, nat_tests)

line-is : (r : RangeForm) (rest : List ℕ) → RangeSayable r → line (content_of r ++ 10 ∷ rest) ≡ content_of r
line-is r rest h = while-front (λ b. not (b == 10)) (content_of r) (10 ∷ rest) (passing-weaker no_end (λ b. not (b == 10)) inside-line (content_of r) (content-inside r h)) refl

passing-at : (p : ℕ → Bool) (bs : List ℕ) (i : ℕ) → i < length bs → Passing p bs → p (get_or bs i 0) ≡ true
passing-at p [] i at h = absurd (omega arith)
passing-at p (b ∷ bs) zero at h = h.0
passing-at p (b ∷ bs) (suc i) at h = passing-at p bs i (omega arith) h.1

no-return : (r : RangeForm) → RangeSayable r → without_return (tail_of r) ≡ tail_of r
no-return r h =
    let last = passing-at no_end (tail_of r) (length (tail_of r) - 1) (omega arith) (tail-inside r h) in
    ap (λ v. cond v (take (length (tail_of r) - 1) (tail_of r)) (tail_of r)) (inside-return (get_or (tail_of r) (length (tail_of r) - 1) 0) last)

-- ---- what the line says

says-bounds : (r : RangeForm) → RangeSayable r → words_bound (tail_of r) ≡ Some (bounds_of r)
says-bounds r h =
    subst (λ (v : List ℕ). words_bound (32 ∷ r.name ++ (32 ∷ signed_decimal r.low ++ (32 ∷ v))) ≡ Some (bounds_of r)) (append-nil (signed_decimal r.high))
    (words-found r.name r.low r.high h.name h.low h.high h.order)

behind-is : (r : RangeForm) → behind_range (content_of r) ≡ Some (tail_of r)
unfolding behind_range
behind-is r = refl

line-piece : (p : Place) (r : RangeForm) (rest : List ℕ) → RangeSayable r → piece p (37 ∷ content_of r ++ 10 ∷ rest) ≡ Blank (length (37 ∷ content_of r))
unfolding piece
line-piece p r rest h =
    let whole = line-is r rest h in
    let right : is_wrong (behind_range (line (content_of r ++ 10 ∷ rest))) ≡ false =
    ap (λ v. is_wrong (behind_range v)) whole ∙ ap is_wrong (behind-is r) ∙ ap (λ v. is_none (words_bound v)) (no-return r h) ∙ ap (λ v. is_none v) (says-bounds r h) in
    let count : 1 + length (line (content_of r ++ 10 ∷ rest)) ≡ length (37 ∷ content_of r) = let e = ap length whole in omega arith in
    ap (λ v. cond (p.column == 1 && v) (Stop k.RangeLine) (Blank (1 + length (line (content_of r ++ 10 ∷ rest))))) right
    ∙ never (p.column == 1) (Stop k.RangeLine) (Blank (1 + length (line (content_of r ++ 10 ∷ rest)))) ∙ ap (λ n. Blank n) count
  where
    never : (b : Bool) (x y : Piece) → cond (b && false) x y ≡ y
    never true x y = refl
    never false x y = refl

line-range : (p : Place) (r : RangeForm) (rest : List ℕ) → p.column ≡ 1 → RangeSayable r → ranges_at p (37 ∷ content_of r ++ 10 ∷ rest) ≡ range_at_place p (bounds_of r) ∷ []
unfolding ranges_at
line-range p r rest first h =
    let whole = line-is r rest h in
    ap (λ v. cond v (placed p (said (behind_range (line (content_of r ++ 10 ∷ rest))))) []) (eq-eqb p.column 1 first)
    ∙ ap (λ v. placed p (said (behind_range v))) whole ∙ ap (λ v. placed p (said v)) (behind-is r) ∙ ap (λ v. placed p (words_bound v)) (no-return r h) ∙ ap (λ v. placed p v) (says-bounds r h)

-- ---- range lines and what stands behind them

pub record RangesCut (p : Place) (bs : List ℕ) (ws : List Word) (rs : List RangeForm) : Type 0 where
  pub tokens : List Tok
  pub ranges : List RangeForm
  pub place : Place
  pub cut : Cuts p bs tokens ranges place []
  pub spells : (us : List Tok) → Spells ws (tokens ++ us) us
  pub same : map unplaced_range ranges ≡ map unplaced_range rs

pub newline-before : (p : Place) (bs : List ℕ) (ws : List Word) (rs : List RangeForm) → ((q : Place) → q.column ≡ 1 → RangesCut q bs ws rs) → RangesCut p (10 ∷ bs) ws rs
unfolding piece ranges_at
newline-before p bs ws rs behind =
    let c = behind (past p (10 ∷ [])) refl in
    record { tokens = c.tokens; ranges = c.ranges; place = c.place; cut = blank {n = 1} refl c.cut; spells = c.spells; same = c.same }

range-before : (p : Place) (r : RangeForm) (rest : List ℕ) (ws : List Word) (rs : List RangeForm) → p.column ≡ 1 → RangeSayable r → ((q : Place) → RangesCut q (10 ∷ rest) ws rs)
    → RangesCut p (37 ∷ content_of r ++ 10 ∷ rest) ws (r ∷ rs)
range-before p r rest ws rs first h behind =
    let text : List ℕ = 37 ∷ content_of r in
    let c = behind (past p text) in
    let front = take-append_seam text (10 ∷ rest) in
    let back = drop-append_seam text (10 ∷ rest) in
    let placed : Cuts (past p (take (length text) (text ++ 10 ∷ rest))) (drop (length text) (text ++ 10 ∷ rest)) c.tokens c.ranges c.place [] =
    subst (λ (v : List ℕ). Cuts (past p v) (drop (length text) (text ++ 10 ∷ rest)) c.tokens c.ranges c.place []) (sym front)
    (subst (λ (v : List ℕ). Cuts (past p text) v c.tokens c.ranges c.place []) (sym back) c.cut) in
    record {
      tokens = c.tokens;
      ranges = range_at_place p (bounds_of r) ∷ c.ranges;
      place = c.place;
      cut = subst (λ (v : List RangeForm). Cuts p (text ++ 10 ∷ rest) c.tokens (v ++ c.ranges) c.place []) (line-range p r rest first h) (blank {n = length text} (line-piece p r rest h) placed);
      spells = c.spells;
      same = let e = c.same in cc;
    }

abbrev lines : List RangeForm → List ℕ
lines rs = flat_map (λ r. range_bytes r ++ 10 ∷ []) rs

-- range lines, and then words
pub ranges-cut : (rs : List RangeForm) (bs : List ℕ) (ws : List Word) → Each RangeSayable rs → ((q : Place) → IsCutInto q bs ws) → (p : Place) → p.column ≡ 1 → RangesCut p (lines rs ++ bs) ws rs
ranges-cut [] bs ws h behind p first =
    let c = behind p in record { tokens = c.tokens; ranges = []; place = c.place; cut = c.cut; spells = c.spells; same = refl }
ranges-cut (r ∷ rs) bs ws h behind p first =
    let one : range_bytes r ++ 10 ∷ (lines rs ++ bs) ≡ ((range_bytes r ++ 10 ∷ []) ++ lines rs) ++ bs =
    sym (append_assoc (range_bytes r) (10 ∷ []) (lines rs ++ bs)) ∙ sym (append_assoc (range_bytes r ++ 10 ∷ []) (lines rs) bs) in
    subst (λ (v : List ℕ). RangesCut p v ws (r ∷ rs)) one
    (range-before p r (lines rs ++ bs) ws rs first h.0 (λ q. newline-before q (lines rs ++ bs) ws rs (λ o column. ranges-cut rs bs ws h.1 behind o column)))
