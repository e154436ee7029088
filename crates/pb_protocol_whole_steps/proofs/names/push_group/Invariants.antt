use Rattle.std.proofs.Common.{◌≡◌, ◌++◌, drop, map}
use Rattle.pb_protocol_whole_steps.specs.View.{name_bytes, name_in, names_in}
use Rattle.pb_protocol_whole_steps.proofs.names.push_group.Given as goal

-- the names so far, and those that are left
abbrev pub invariant-loop-name : goal.invariant-loop-name
invariant-loop-name l = map name_in l.names.items ++ map name_bytes (drop l.name-index l.group.names.items) ≡ map name_in l.initial.names.items ++ names_in l.group
