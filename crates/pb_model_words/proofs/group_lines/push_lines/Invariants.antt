use Rattle.std.proofs.Common.{◌≡◌, ◌++◌, map, drop, string_bytes}
use Rattle.pb_protocol_packer.specs.Groups.{groups_in}
use Rattle.pb_model_words.specs.GroupLines.{lines_of}
use Rattle.pb_model_words.specs.View.{variable_said}
use Rattle.pb_model_words.proofs.group_lines.push_lines.Given as goal

-- the lines so far, and those of the groups that are left
abbrev pub invariant-loop-group : goal.invariant-loop-group
invariant-loop-group l =
    string_bytes l.text ++ lines_of (groups_in (drop l.group-index l.groups)) (map variable_said l.variables)
    ≡ string_bytes l.initial.text ++ lines_of (groups_in l.groups) (map variable_said l.initial.variables)
