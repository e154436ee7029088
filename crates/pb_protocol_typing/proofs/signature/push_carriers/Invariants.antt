use Rattle.std.proofs.Common.{◌≡◌, ◌++◌, drop, map}
use Rattle.pb_text_tree.specs.declared.name.Name.{Name}
use Rattle.pb_text_tree.specs.Form.{variables_form}
use Rattle.pb_typing_declarations.specs.Entries.{carrier_shape}
use Rattle.pb_typing_declarations.specs.View.{spec_of}
use Rattle.pb_protocol_typing.specs.Signatures.{variable_shapes}
use Rattle.pb_protocol_typing.proofs.signature.push_carriers.Given as goal

-- the shapes so far, and one for each name that is left
abbrev pub invariant-loop-name : goal.invariant-loop-name
invariant-loop-name l =
    map carrier_shape l.initial.carriers.items ++ variable_shapes (spec_of l.declarations) (variables_form l.group)
    ≡ map carrier_shape l.carriers.items ++ map (λ (n : Name). carrier_shape l.carrier) (drop l.name-index l.name-items)
