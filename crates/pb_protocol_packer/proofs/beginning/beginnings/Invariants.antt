use Rattle.std.proofs.Common.{◌≡◌, ◌++◌, drop}
use Rattle.pb_text_tree.specs.Form.{argument_forms}
use Rattle.pb_protocol_packer.specs.Beginnings.{begun_in}
use Rattle.pb_protocol_packer.specs.Initial.{names_by}
use Rattle.pb_protocol_packer.specs.InitialPlaces.{begun_with}
use Rattle.pb_protocol_packer.proofs.beginning.beginnings.Given as goal

abbrev pub invariant-loop-index : goal.invariant-loop-index
invariant-loop-index l =
    begun_in l.beginnings.items ++ begun_with (names_by (drop l.index l.names)) (argument_forms (drop l.index l.values))
    ≡ begun_with (names_by l.names) (argument_forms l.values)
