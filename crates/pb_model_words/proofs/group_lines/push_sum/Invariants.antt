use Rattle.std.proofs.Common.{◌≡◌, ◌++◌, [], map, drop, codes, string_bytes, true}
use Rattle.std.specs.Prelude.{if◌then◌else◌}
use Rattle.pb_protocol_packer.specs.Members.{are_weighted, members_said}
use Rattle.pb_model_words.specs.GroupLines.{summands}
use Rattle.pb_model_words.specs.View.{variable_said}
use Rattle.pb_model_words.specs.Words.{marked}
use Rattle.pb_model_words.proofs.group_lines.push_sum.Given as goal

-- what is there with what is left is the whole
abbrev pub invariant-loop-k : goal.invariant-loop-k
invariant-loop-k l =
    (string_bytes l.text ++ marked (if l.is_first then [] else codes " + ") (codes " + ") (summands (map variable_said (drop l.k l.variables)) (members_said (drop l.k l.members)))
    ≡ string_bytes l.initial.text ++ marked [] (codes " + ") (summands (map variable_said l.variables) (members_said l.members)))
    × (are_weighted (drop l.k l.members) ≡ true)
