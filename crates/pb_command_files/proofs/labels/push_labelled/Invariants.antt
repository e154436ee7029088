use Rattle.std.proofs.Common.{◌≡◌, ◌++◌, true, drop}
use Rattle.pb_command_files.specs.Labels.{labelled}
use Rattle.pb_command_files.proofs.labels.push_labelled.Given as goal

-- what was put there so far, and what the bytes that are left come to
abbrev pub invariant-loop-byte : goal.invariant-loop-byte
invariant-loop-byte l = l.lines.items ++ labelled l.label l.begins (drop l.byte-index l.text) ≡ l.initial.lines.items ++ labelled l.label true l.text
