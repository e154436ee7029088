use Rattle.std.proofs.Common.{List, ap, drop}
use Rattle.pb_text_tree.specs.declared.term.Argument.{Argument}
use Rattle.pb_protocol_packer.specs.View.{terms_of}
use Rattle.pb_protocol_packer.specs.Given.{given_in}
use Rattle.pb_protocol_packer.specs.Scopes.{table_of}
use Rattle.pb_protocol_packer.specs.Steps.{assignments_said}
use Rattle.pb_protocol_packer.specs.Initial.{assigned_names, names_by}
use Rattle.pb_protocol_packer.proofs.InitialRows.{assigned-none}
use Rattle.pb_protocol_packer.proofs.LoopRows.{row-ends}
use Rattle.pb_protocol_packer.proofs.model.initial_given.Goals as goal

pub returns-in_default : goal.returns-in_default
returns-in_default c =
    let σ = table_of c.args.packing.now.table.now in
    let names = names_by (drop c.loop-index.index c.args.names.now) in
    row-ends (λ (vs : List Argument). assignments_said σ (assigned_names names (terms_of vs))) (given_in c.loop-index.given.items) c.args.values.now c.loop-index.index _
    (ap (assignments_said σ) (assigned-none names)) c.in_default.ensures.lookup.3 c.loop-index.invariant
