use Rattle.std.proofs.Common.{◌≡◌, ◌++◌, map, flat_map, take, string_bytes}
use Rattle.pb_model_properties.specs.Verdicts.{unreached_line}
use Rattle.pb_command_models.proofs.step_lines.push_impossible.Given as goal

-- the lines so far
abbrev pub invariant-loop-name : goal.invariant-loop-name
invariant-loop-name l =
    string_bytes l.lines ≡ string_bytes l.initial.lines ++ flat_map unreached_line (map string_bytes (take l.name-index l.names))
