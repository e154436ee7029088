use Rattle.std.proofs.Common.{◌≡◌, ◌++◌, drop, map}
use Rattle.pb_protocol_packing.specs.Packing.{formula_said}
use Rattle.pb_protocol_packer.specs.Formulas.{operands_of, link_shapes}
use Rattle.pb_protocol_packer.specs.Scopes.{table_of}
use Rattle.pb_protocol_packer.proofs.formula.+formulas.Given as goal

abbrev pub invariant-said_links-loop-link : goal.invariant-said_links-loop-link
invariant-said_links-loop-link l =
    let σ = table_of l.packing.table.now in
    (operands_of l.said_links.items ++ map (formula_said σ) (operands_of (drop l.link-index l.links)) ≡ map (formula_said σ) (operands_of l.links))
    × (link_shapes l.said_links.items ++ link_shapes (drop l.link-index l.links) ≡ link_shapes l.links)
