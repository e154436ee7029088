use Rattle.std.proofs.Common.{◌≡◌, drop, map}
use Rattle.pb_text_tree.specs.Form.{argument_forms}
use Rattle.pb_typing_declarations.specs.Entries.{carrier_shape}
use Rattle.pb_protocol_typing.specs.Links.{links_fault, operations_fault}
use Rattle.pb_protocol_typing.specs.Terms.{arguments_fault}
use Rattle.pb_protocol_typing.specs.View.{scope_of}
use Rattle.pb_protocol_typing.proofs.term.+terms.Given as goal

-- the first fault is that of the arguments that are left
abbrev pub invariant-arguments_fault-loop-index : goal.invariant-arguments_fault-loop-index
invariant-arguments_fault-loop-index l =
    arguments_fault (scope_of l.scope) 0 (map carrier_shape l.parameters) (argument_forms l.arguments)
    ≡ arguments_fault (scope_of l.scope) l.index (map carrier_shape l.parameters) (argument_forms (drop l.index l.arguments))

-- that of the links that are left
abbrev pub invariant-links_fault-loop-index : goal.invariant-links_fault-loop-index
invariant-links_fault-loop-index l = links_fault (scope_of l.scope) l.links ≡ links_fault (scope_of l.scope) (drop l.index l.links)

abbrev pub invariant-operations_fault-loop-link : goal.invariant-operations_fault-loop-link
invariant-operations_fault-loop-link l =
    operations_fault (scope_of l.scope) l.fn.first l.links ≡ operations_fault (scope_of l.scope) l.left (drop l.link-index l.links)
