use Rattle.std.proofs.Common.{◌≡◌, ◌++◌, drop}
use Rattle.pb_protocol_packer.specs.View.{terms_of}
use Rattle.pb_protocol_packer.specs.Given.{given_in}
use Rattle.pb_protocol_packer.specs.Scopes.{table_of}
use Rattle.pb_protocol_packer.specs.Steps.{assignments_said}
use Rattle.pb_protocol_packer.specs.Initial.{assigned_names, names_by}
use Rattle.pb_protocol_packer.proofs.model.initial_given.Given as goal

abbrev pub invariant-loop-index : goal.invariant-loop-index
invariant-loop-index l =
    let σ = table_of l.packing.table.now in
    given_in l.given.items ++ assignments_said σ (assigned_names (names_by (drop l.index l.names)) (terms_of (drop l.index l.values)))
    ≡ assignments_said σ (assigned_names (names_by l.names) (terms_of l.values))
