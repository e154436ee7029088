-- Terms that are written out: truth values, numbers, and names that stand alone.
use Rattle.std.specs.Prelude.{ℕ, Bool, true, false, ◌&&◌, ◌==◌, not}
use Rattle.pb_text_tree.specs.Form.{Named, TermForm}
use Rattle.pb_text_meaning.specs.Syntax.{same_name}

-- a number stands with whether a minus stands in front of it
pub data Written : Type 0 where
  Boolean : Bool → Written
  Number : Bool → ℕ → Written
  Alone : Named → Written
  Other : Written

abbrev pub negated : TermForm → Written
negated (TermForm.number p n) = Number true n
negated _ = Other

abbrev pub written : TermForm → Written
written (TermForm.constant p b) = Boolean b
written (TermForm.number p n) = Number false n
written (TermForm.negative p x) = negated x
written (TermForm.name x) = Alone x
written _ = Other

abbrev pub same_truth : Bool → Bool → Bool
same_truth true b = b
same_truth false b = not b

-- plainly the same
abbrev pub is_same : Written → Written → Bool
is_same (Boolean b) (Boolean c) = same_truth b c
is_same (Number b n) (Number c m) = same_truth b c && n == m
is_same (Alone x) (Alone y) = same_name x.text y.text
is_same _ _ = false
