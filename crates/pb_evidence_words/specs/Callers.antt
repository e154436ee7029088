-- What lines are told by, and from which line another comes.
use Rattle.std.specs.Prelude.{◌≡◌}
use Rattle.pb_evidence_words.specs.declared.line.Line.{Line}
use Rattle.pb_evidence_words.specs.declared.caller.Caller.{Caller}
use Rattle.pb_evidence_words.specs.Order.{parent_at}
use Rattle.pb_evidence_words.specs.Ready.{told_of}
use Rattle.pb_evidence_words.specs.WhyText.{Told}

-- what a line is one of
abbrev pub told_by : Line → Told
told_by line = told_of line.telling.now.shown.now

-- the caller is the line that this one comes from
pub record IsParent (caller : Caller) (line : Line) : Type 0 where
  pub told : told_by caller.line ≡ told_by line
  pub place : caller.line.number ≡ parent_at (told_by line).graph line.number
