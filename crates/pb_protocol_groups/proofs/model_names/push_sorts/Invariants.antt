use Rattle.std.proofs.Common.{◌≡◌, ◌++◌, drop, flat_map}
use Rattle.pb_protocol_packing.specs.Groups.{sort_names}
use Rattle.pb_protocol_packer.specs.Declarations.{declarations_in}
use Rattle.pb_protocol_packer.specs.Initial.{names_by}
use Rattle.pb_protocol_groups.proofs.model_names.push_sorts.Given as goal

abbrev pub invariant-loop-declaration : goal.invariant-loop-declaration
invariant-loop-declaration l =
    names_by l.names.items ++ flat_map sort_names (declarations_in (drop l.declaration-index l.sorts))
    ≡ names_by l.initial.names.items ++ flat_map sort_names (declarations_in l.sorts)
