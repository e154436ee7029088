use Rattle.std.proofs.Common.{◌≡◌, ◌++◌, drop, flat_map}
use Rattle.pb_protocol_packing.specs.Groups.{formula_names}
use Rattle.pb_protocol_packer.specs.Formulas.{operands_of}
use Rattle.pb_protocol_packer.specs.Initial.{names_by}
use Rattle.pb_protocol_groups.proofs.formula_names.+formulas.Given as goal

abbrev pub invariant-push_operands-loop-link : goal.invariant-push_operands-loop-link
invariant-push_operands-loop-link l =
    names_by l.names.items ++ flat_map formula_names (operands_of (drop l.link-index l.links)) ≡ names_by l.initial.names.items ++ flat_map formula_names (operands_of l.links)
