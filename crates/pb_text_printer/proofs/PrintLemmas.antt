-- What is printed of a text that was read is read back as that text.
use Rattle.std.proofs.Common.{◌≡◌, ℕ, false, List, [], ◌∷◌, ◌++◌, refl, sym, subst}
use Rattle.pb_text_tree.specs.declared.place.Place.{Place}
use Rattle.pb_text_tree.specs.Form.{RangeForm, SpecForm}
use Rattle.pb_text_lexer.specs.declared.kind.Kind.TheVariants.{End}
use Rattle.pb_text_lexer.specs.Lexing.{start}
use Rattle.pb_text_lexer.specs.Tokens.{token_at}
use Rattle.pb_text.specs.Parsing.{IsReading, depth_limit, operator_limit}
use Rattle.pb_text_printer.specs.Comments.{comment_bytes}
use Rattle.pb_text_printer.specs.Words.{written, text_words, text_bytes}
use Rattle.pb_text_printer.specs.Sayable.{Each, RangeSayable, TextSayable}
use Rattle.pb_text_printer.specs.Printing.{ReadsAs, ReadsWithin, IsPrinted, IsSayable}
use Rattle.pb_text_printer.proofs.LexicalLemmas.{cut-lexical}
use Rattle.pb_text_printer.proofs.SaidText.{text-said, text-ranges}
use Rattle.pb_text_printer.proofs.BackText.{text-back}
use Rattle.pb_text_printer.proofs.WellText.{text-well}
use Rattle.pb_text_printer.proofs.WrittenLemmas.{written-cut}
use Rattle.pb_text_printer.proofs.SaidRanges.{ranges-said}
use Rattle.pb_text_printer.proofs.RangeCut.{RangesCut, ranges-cut}
use Rattle.pb_text_printer.proofs.CommentCut.{comment-cut}

sayable : (bytes : List ℕ) (x : SpecForm) → IsReading bytes x → TextSayable depth_limit operator_limit x
sayable bytes x r = text-said depth_limit operator_limit r.tokens r.ranges x (cut-lexical bytes r.tokens r.ranges r.cut) r.says

-- whatever is cut into the words of a text that can be said
said-reads : (depth limit : ℕ) (printed : List ℕ) (x : SpecForm) → TextSayable depth limit x → IsPrinted printed x → ReadsWithin depth limit printed x
said-reads depth limit printed x h p =
    let back = text-back depth limit x p.ranges h p.lines p.tokens p.end p.ends p.words in
    record { says = back.says; reading = record { tokens = p.tokens; ranges = p.ranges; cut = p.cut; says = back.reads }; same = sym back.same }

-- so are bytes that are cut into its range lines and words
cut-reads : (depth limit : ℕ) (printed : List ℕ) (x : SpecForm) → TextSayable depth limit x → RangesCut start printed (text_words x) x.ranges → ReadsWithin depth limit printed x
cut-reads depth limit printed x h c =
    said-reads depth limit printed x h (record {
      tokens = c.tokens ++ token_at c.place End [] ∷ [];
      ranges = c.ranges;
      end = token_at c.place End [];
      cut = (c.tokens, c.place, c.cut, refl);
      words = c.spells (token_at c.place End [] ∷ []);
      ends = refl;
      lines = c.same;
    })

-- where a line begins
text-cut : (depth limit : ℕ) (x : SpecForm) → IsSayable depth limit x → (p : Place) → p.column ≡ 1 → RangesCut p (text_bytes x) (text_words x) x.ranges
text-cut depth limit x h p first =
    let well = text-well depth limit x h.text in
    ranges-cut x.ranges (written false (text_words x)) (text_words x) h.ranges (λ q. written-cut false (text_words x) q well) p first

-- the bytes of a text that can be said
pub sayable-reads : (depth limit : ℕ) (x : SpecForm) → IsSayable depth limit x → ReadsWithin depth limit (text_bytes x) x
sayable-reads depth limit x h = cut-reads depth limit (text_bytes x) x h.text (text-cut depth limit x h start refl)

-- and below a comment
pub commented-reads : (depth limit : ℕ) (comment : List ℕ) (x : SpecForm) → IsSayable depth limit x → ReadsWithin depth limit (comment_bytes comment ++ text_bytes x) x
commented-reads depth limit comment x h =
    cut-reads depth limit (comment_bytes comment ++ text_bytes x) x h.text
    (comment-cut comment (text_bytes x) (text_words x) x.ranges (text-cut depth limit x h) start refl)

-- ---- the same of a text that was read

pub printed-reads : (bytes printed : List ℕ) (x : SpecForm) → IsReading bytes x → IsPrinted printed x → ReadsAs printed x
printed-reads bytes printed x r p = said-reads depth_limit operator_limit printed x (sayable bytes x r) p

pub written-reads : (bytes : List ℕ) (x : SpecForm) → IsReading bytes x → ReadsAs (text_bytes x) x
written-reads bytes x r = sayable-reads depth_limit operator_limit x (record {
  text = sayable bytes x r;
  ranges = subst (λ (v : List RangeForm). Each RangeSayable v) (sym (text-ranges depth_limit operator_limit r.tokens r.ranges x r.says)) (ranges-said bytes r.tokens r.ranges r.cut);
})
