use Rattle.std.proofs.Common.{◌≡◌, true, ◌++◌, drop}
use Rattle.pb_text_printer.specs.Comments.{comment_from}
use Rattle.pb_text_printer.proofs.comment.push_comment.Given as goal

-- what is there with what is left is the whole
abbrev pub invariant-loop-byte : goal.invariant-loop-byte
invariant-loop-byte l = l.text.items ++ comment_from l.begins_line (drop l.byte-index l.byte-items) ≡ l.initial.text.items ++ comment_from true l.byte-items
