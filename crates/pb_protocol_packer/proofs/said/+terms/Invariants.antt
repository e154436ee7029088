use Rattle.std.proofs.Common.{◌≡◌, ◌++◌, drop, map}
use Rattle.pb_protocol_packing.specs.Said.{said, all_said}
use Rattle.pb_protocol_packer.specs.View.{operands_of, operations_of, terms_of}
use Rattle.pb_protocol_packer.specs.Scopes.{operation_said, scope_in}
use Rattle.pb_protocol_packer.proofs.SaidNodes.{terms_behind}
use Rattle.pb_protocol_packer.proofs.said.+terms.Given as goal

-- what the links so far say, and the links that are left
abbrev pub invariant-said_links-loop-link : goal.invariant-said_links-loop-link
invariant-said_links-loop-link l =
    let σ = scope_in l.packing l.hiding in
    operands_of l.said_links.items ++ map (said σ) (operands_of (drop l.link-index l.links)) ≡ map (said σ) (operands_of l.links)

abbrev pub invariant-said_operations-loop-link : goal.invariant-said_operations-loop-link
invariant-said_operations-loop-link l =
    let σ = scope_in l.packing l.hiding in
    operations_of l.said_links.items ++ map (operation_said σ) (operations_of (drop l.link-index l.links)) ≡ map (operation_said σ) (operations_of l.links)

abbrev pub invariant-said_arguments-loop-argument : goal.invariant-said_arguments-loop-argument
invariant-said_arguments-loop-argument l =
    let σ = scope_in l.packing l.hiding in
    terms_behind l.said_arguments.items (all_said σ (terms_of (drop l.argument-index l.arguments))) ≡ all_said σ (terms_of l.arguments)
