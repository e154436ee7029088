use Rattle.std.specs.Prelude.{IfSome}
use Rattle.pb_protocol_tree.specs.Form.{property_form, protocol_form}
use Rattle.pb_property_symmetry.specs.Permutable.{IsPermutable}
use Rattle.pb_property_symmetry.proofs.permutable.permutable_elements.Given as goal

-- what was found may be permuted
abbrev pub invariant-loop-declaration : goal.invariant-loop-declaration
invariant-loop-declaration l = IfSome l.most (λ x. IsPermutable (protocol_form l.protocol) (property_form l.property) x.sort.now x.elements.items)
