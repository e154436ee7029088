-- A comment above a text is passed over.
use Rattle.std.proofs.Common.{◌≡◌, ℕ, suc, ◌+◌, Bool, true, false, cond, not, ◌&&◌, ◌==◌, List, [], ◌∷◌, ◌++◌, length, take, drop, refl, sym, ap, ◌∙◌, subst, arith, append_assoc, None}
use Rattle.std.proofs.Math.Seq.{take-append_seam, drop-append_seam}
use Rattle.std.proofs.lemmas.Bool.Decides.{nat_tests}
use Rattle.pb_text_tree.specs.declared.place.Place.{Place}
use Rattle.pb_text_tree.specs.Form.{RangeForm}
use Rattle.pb_text_lexer.specs.declared.piece.Piece.{Piece}
use Rattle.pb_text_lexer.specs.declared.piece.Piece.TheVariants.{Blank, Stop}
use Rattle.pb_text_lexer.specs.declared.kind.Kind.TheVariants as k
use Rattle.pb_text_lexer.specs.Bytes.{line}
use Rattle.pb_text_lexer.specs.Lexing.{Cuts, blank, piece, past}
use Rattle.pb_text_lexer.specs.RangeLines.{behind_range, is_wrong, said, placed, ranges_at}
use Rattle.pb_text_printer.specs.Comments.{comment_from, comment_bytes}
use Rattle.pb_text_printer.specs.Words.{Word}
use Rattle.pb_text_printer.proofs.RangeWords.{Passing, passing-both, while-front}
use Rattle.pb_text_printer.proofs.RangeCut.{RangesCut, newline-before}

-- ---- one line

abbrev within_line : ℕ → Bool
within_line b = not (b == 10)

-- what begins with a space is no range line
no-range : (bs : List ℕ) → behind_range (32 ∷ bs) ≡ None
unfolding behind_range
no-range [] = refl
no-range (a ∷ []) = refl
no-range (a ∷ b ∷ []) = refl
no-range (a ∷ b ∷ c ∷ []) = refl
no-range (a ∷ b ∷ c ∷ d ∷ rest) = refl

line-is : (inside rest : List ℕ) → Passing within_line inside → line (32 ∷ inside ++ 10 ∷ rest) ≡ 32 ∷ inside
line-is inside rest h = while-front within_line (32 ∷ inside) (10 ∷ rest) (refl, h) refl

comment-piece : (p : Place) (inside rest : List ℕ) → Passing within_line inside → piece p (37 ∷ 32 ∷ inside ++ 10 ∷ rest) ≡ Blank (length (37 ∷ 32 ∷ inside))
unfolding piece
comment-piece p inside rest h =
    let whole = line-is inside rest h in
    let right : is_wrong (behind_range (line (32 ∷ inside ++ 10 ∷ rest))) ≡ false = ap (λ v. is_wrong (behind_range v)) whole ∙ ap is_wrong (no-range inside) in
    let count : 1 + length (line (32 ∷ inside ++ 10 ∷ rest)) ≡ length (37 ∷ 32 ∷ inside) = let e = ap length whole in omega arith in
    ap (λ v. cond (p.column == 1 && v) (Stop k.RangeLine) (Blank (1 + length (line (32 ∷ inside ++ 10 ∷ rest))))) right
    ∙ never (p.column == 1) (Stop k.RangeLine) (Blank (1 + length (line (32 ∷ inside ++ 10 ∷ rest)))) ∙ ap (λ n. Blank n) count
  where
    never : (b : Bool) (x y : Piece) → cond (b && false) x y ≡ y
    never true x y = refl
    never false x y = refl

comment-range : (p : Place) (inside rest : List ℕ) → Passing within_line inside → ranges_at p (37 ∷ 32 ∷ inside ++ 10 ∷ rest) ≡ []
unfolding ranges_at
comment-range p inside rest h =
    ap (λ v. cond (p.column == 1) (placed p (said (behind_range v))) []) (line-is inside rest h)
    ∙ ap (λ v. cond (p.column == 1) (placed p (said v)) []) (no-range inside) ∙ both (p.column == 1)
  where
    both : (b : Bool) → cond b (placed p (said None)) [] ≡ []
    both true = refl
    both false = refl

-- a comment's line, and what begins the next one
line-before : (p : Place) (inside rest : List ℕ) (ws : List Word) (rs : List RangeForm) → Passing within_line inside → ((q : Place) → q.column ≡ 1 → RangesCut q rest ws rs)
    → RangesCut p (37 ∷ 32 ∷ inside ++ 10 ∷ rest) ws rs
line-before p inside rest ws rs h behind =
    let text : List ℕ = 37 ∷ 32 ∷ inside in
    let c = newline-before (past p text) rest ws rs behind in
    let placed : Cuts (past p (take (length text) (text ++ 10 ∷ rest))) (drop (length text) (text ++ 10 ∷ rest)) c.tokens c.ranges c.place [] =
    subst (λ (v : List ℕ). Cuts (past p v) (drop (length text) (text ++ 10 ∷ rest)) c.tokens c.ranges c.place []) (sym (take-append_seam text (10 ∷ rest)))
    (subst (λ (v : List ℕ). Cuts (past p text) v c.tokens c.ranges c.place []) (sym (drop-append_seam text (10 ∷ rest))) c.cut) in
    record {
      tokens = c.tokens;
      ranges = c.ranges;
      place = c.place;
      cut = subst (λ (v : List RangeForm). Cuts p (text ++ 10 ∷ rest) c.tokens (v ++ c.ranges) c.place [])
          (comment-range p inside rest h) (blank {n = length text} (comment-piece p inside rest h) placed);
      spells = c.spells;
      same = c.same;
    }

-- ---- all lines

-- what is left of a comment is passed over, where a line begins and within one
record Above (comment bs : List ℕ) (ws : List Word) (rs : List RangeForm) : Type 0 where
  begins : (p : Place) → p.column ≡ 1 → RangesCut p (comment_from true comment ++ bs) ws rs
  within : (p : Place) (inside : List ℕ) → Passing within_line inside → RangesCut p (37 ∷ 32 ∷ inside ++ (comment_from false comment ++ bs)) ws rs

byte-before : (b : ℕ) (comment bs : List ℕ) (ws : List Word) (rs : List RangeForm) → Above comment bs ws rs → (p : Place) (inside : List ℕ) → Passing within_line inside
    → RangesCut p (37 ∷ 32 ∷ inside ++ (b ∷ comment_from (b == 10) comment ++ bs)) ws rs
byte-before b comment bs ws rs above p inside h = go (b == 10) refl
  where
    go : (v : Bool) → (b == 10) ≡ v → RangesCut p (37 ∷ 32 ∷ inside ++ (b ∷ comment_from v comment ++ bs)) ws rs
    go true e =
        let is : 10 ≡ b = grind (arith, nat_tests) in
        subst (λ (x : ℕ). RangesCut p (37 ∷ 32 ∷ inside ++ (x ∷ comment_from true comment ++ bs)) ws rs) is (line-before p inside (comment_from true comment ++ bs) ws rs h above.begins)
    go false e =
        subst (λ (v : List ℕ). RangesCut p v ws rs) (append_assoc (37 ∷ 32 ∷ inside) (b ∷ []) (comment_from false comment ++ bs))
        (above.within p (inside ++ b ∷ []) (passing-both within_line inside (b ∷ []) h (ap not e, tt)))

all-above : (comment bs : List ℕ) (ws : List Word) (rs : List RangeForm) → ((q : Place) → q.column ≡ 1 → RangesCut q bs ws rs) → Above comment bs ws rs
all-above [] bs ws rs behind = record { begins = behind; within = λ p inside h. line-before p inside bs ws rs h behind }
all-above (b ∷ comment) bs ws rs behind =
    let rest = all-above comment bs ws rs behind in
    record { begins = λ p first. byte-before b comment bs ws rs rest p [] tt; within = λ p inside h. byte-before b comment bs ws rs rest p inside h }

-- a comment, and then what begins a line
pub comment-cut : (comment bs : List ℕ) (ws : List Word) (rs : List RangeForm)
    → ((q : Place) → q.column ≡ 1 → RangesCut q bs ws rs) → (p : Place) → p.column ≡ 1 → RangesCut p (comment_bytes comment ++ bs) ws rs
comment-cut comment bs ws rs behind p first = (all-above comment bs ws rs behind).begins p first
