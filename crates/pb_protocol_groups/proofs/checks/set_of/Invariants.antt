use Rattle.std.proofs.Common.{drop}
use Rattle.pb_protocol_packer.specs.Initial.{names_by}
use Rattle.pb_protocol_groups.proofs.NameSets.{IsFilled}
use Rattle.pb_protocol_groups.proofs.checks.set_of.Given as goal

-- the names in the set, and those that are left
abbrev pub invariant-loop-name : goal.invariant-loop-name
invariant-loop-name l = IsFilled (names_by l.names) l.set (names_by (drop l.name-index l.names))
