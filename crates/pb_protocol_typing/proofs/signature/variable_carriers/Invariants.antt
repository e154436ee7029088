use Rattle.std.proofs.Common.{◌≡◌, ◌++◌, drop, map}
use Rattle.pb_text_tree.specs.Form.{variable_forms}
use Rattle.pb_typing_declarations.specs.Entries.{carrier_shape}
use Rattle.pb_typing_declarations.specs.View.{spec_of}
use Rattle.pb_protocol_typing.specs.Signatures.{variable_shapes}
use Rattle.pb_protocol_typing.proofs.signature.variable_carriers.Given as goal

-- the shapes so far, and those of the groups that are left
abbrev pub invariant-loop-group : goal.invariant-loop-group
invariant-loop-group l =
    variable_shapes (spec_of l.declarations) (variable_forms l.groups)
    ≡ map carrier_shape l.carriers.items ++ variable_shapes (spec_of l.declarations) (variable_forms (drop l.group-index l.groups))
