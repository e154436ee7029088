-- What the code has read of a comparison or a name with arguments, and what one step more makes of it.
use Rattle.std.proofs.Common.{◌≡◌, ℕ, ◌-◌, ◌<◌, Bool, true, false, cond, List, sym, ap, ◌∙◌, Ok, Err}
use Rattle.pb_text_tree.specs.declared.place.Place.{Place}
use Rattle.pb_text_tree.specs.Form.{Named, TermForm}
use Rattle.pb_text_lexer.specs.declared.fault.ReadingRule.TheVariants.{Unexpected}
use Rattle.pb_text_lexer.specs.declared.fault.Refusal.{Refusal}
use Rattle.pb_text_lexer.specs.declared.kind.Kind.TheVariants as k
use Rattle.pb_text_lexer.specs.Grammar.{State}
use Rattle.pb_text_lexer.specs.Steps.{Step, Outcome, enter, expect, kind, refusal, take_operator}
use Rattle.pb_text_lexer.specs.Tokens.{Tok}
use Rattle.pb_text_terms.specs.declared.level.Level.{Level}
use Rattle.pb_text_terms.specs.declared.level.Operator.TheVariants as o
use Rattle.pb_text_terms.specs.declared.level.Relation.{Relation}
use Rattle.pb_text_terms.specs.Levels.{level_of, operand_level, is_related}
use Rattle.pb_text_terms.specs.Operators.{compared_by}
use Rattle.pb_text_terms.specs.Grammar.{arguments_of}
use Rattle.pb_text_terms.specs.Reading.{at, argument_list, instance, is_open, name, term}
use Rattle.pb_text_terms.proofs.ReadLemmas.{sign-fails, right-fails, right-goes-on, both-read, arguments-fail, arguments-again, arguments-read}
use Rattle.pb_text_terms.proofs.LevelLemmas.{relation-is}

-- a level by which the code reads is that of an operator's operands
pub read-at : {r : Outcome TermForm} (m n : Level) (depth : ℕ) (s : State) → m ≡ n → at m depth s ≡ r → at n depth s ≡ r
read-at m n depth s same reads = ap (λ (v : Level). at v depth s) (sym same) ∙ reads

-- ---- comparisons

abbrev operand_of : Relation → ℕ → Step TermForm
operand_of r depth = at (operand_level (o.Relation r)) depth

-- a relation stands behind its left side
module _ (r : Relation) (depth : ℕ) (s s1 : State) (x : TermForm) (left : operand_of r depth s ≡ Ok (x, s1)) (stands : is_related r (kind s1) ≡ true) where
  pub relation-sign-fails : (bad : Refusal) → take_operator s1 ≡ Err bad → at (level_of (o.Relation r)) depth s ≡ Err bad
  relation-sign-fails bad taken = relation-is r depth s ∙ sign-fails (is_related r) compared_by (operand_of r depth) s s1 x bad left stands taken

  module _ (m : Level) (same : m ≡ operand_level (o.Relation r)) {s2 : State} {t : Tok} (taken : take_operator s1 ≡ Ok (t, s2)) where
    pub relation-right-fails : (bad : Refusal) → at m depth s2 ≡ Err bad → at (level_of (o.Relation r)) depth s ≡ Err bad
    relation-right-fails bad fails =
        relation-is r depth s ∙ right-fails (is_related r) compared_by (operand_of r depth) s s1 s2 x t bad left stands taken (read-at m (operand_level (o.Relation r)) depth s2 same fails)

    pub relation-goes-on : {y : TermForm} {s3 : State} → at m depth s2 ≡ Ok (y, s3) → is_related r (kind s3) ≡ true
        → at (level_of (o.Relation r)) depth s ≡ Err (refusal Unexpected s3.tokens)
    relation-goes-on {y} {s3} reads again =
        relation-is r depth s ∙ right-goes-on (is_related r) compared_by (operand_of r depth) s s1 s2 s3 x y t left stands taken (read-at m (operand_level (o.Relation r)) depth s2 same reads) again

    pub relation-read : {y : TermForm} {s3 : State} → at m depth s2 ≡ Ok (y, s3) → is_related r (kind s3) ≡ false
        → at (level_of (o.Relation r)) depth s ≡ Ok (compared_by x t y, s3)
    relation-read {y} {s3} reads other =
        relation-is r depth s ∙ both-read (is_related r) compared_by (operand_of r depth) s s1 s2 s3 x y t left stands taken (read-at m (operand_level (o.Relation r)) depth s2 same reads) other

-- ---- names with arguments

-- a name and the bracket behind it are read
pub record IsOpened (depth : ℕ) (s s2 : State) (found : Named) : Type 0 where
  pub some : 0 < depth
  pub between : State
  pub bracket : Tok
  pub named : name s ≡ Ok (found, between)
  pub opens : is_open (kind between) ≡ true
  pub entered : enter depth between ≡ Ok (bracket, s2)

module _ {depth : ℕ} {s s2 : State} {found : Named} (h : IsOpened depth s s2 found) where
  pub opened-fails : (bad : Refusal) → argument_list (term (depth - 1)) s2 ≡ Err bad → instance depth s ≡ Err bad
  opened-fails bad fails = arguments-fail depth h.some s h.between s2 found h.bracket h.named h.opens h.entered bad fails

  -- no bracket may open behind the arguments
  pub opened-closes : {s3 s4 : State} {c : Tok} {arguments : List (Place × TermForm)} (again : Bool)
      → argument_list (term (depth - 1)) s2 ≡ Ok (arguments, s3) → expect k.Close s3 ≡ Ok (c, s4) → is_open (kind s4) ≡ again
      → instance depth s ≡ cond again (Err (refusal Unexpected s4.tokens)) (Ok (record { name = found; arguments = arguments_of arguments }, s4))
  opened-closes {s3} {s4} {c} {arguments} true reads closes is =
      arguments-again depth h.some s h.between s2 found h.bracket h.named h.opens h.entered s3 s4 c arguments reads closes is
  opened-closes {s3} {s4} {c} {arguments} false reads closes is =
      arguments-read depth h.some s h.between s2 found h.bracket h.named h.opens h.entered s3 s4 c arguments reads closes is
