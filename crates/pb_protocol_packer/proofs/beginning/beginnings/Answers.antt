use Rattle.std.proofs.Common.{List, drop}
use Rattle.pb_text_tree.specs.Form.{argument_forms}
use Rattle.pb_text_tree.specs.declared.term.Argument.{Argument}
use Rattle.pb_protocol_packer.specs.Beginnings.{begun_in}
use Rattle.pb_protocol_packer.specs.Initial.{names_by}
use Rattle.pb_protocol_packer.specs.InitialPlaces.{begun_with}
use Rattle.pb_protocol_packer.proofs.InitialRows.{begun-none}
use Rattle.pb_protocol_packer.proofs.LoopRows.{row-ends}
use Rattle.pb_protocol_packer.proofs.beginning.beginnings.Goals as goal

pub returns-in_default : goal.returns-in_default
returns-in_default c =
    let names = names_by (drop c.loop-index.index c.args.names.now) in
    row-ends (λ (vs : List Argument). begun_with names (argument_forms vs)) (begun_in c.loop-index.beginnings.items) c.args.values.now c.loop-index.index _
    (begun-none names) c.in_default.ensures.lookup.3 c.loop-index.invariant
