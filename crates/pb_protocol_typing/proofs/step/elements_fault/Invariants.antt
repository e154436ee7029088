use Rattle.std.proofs.Common.{◌≡◌, drop}
use Rattle.pb_text_tree.specs.Form.{argument_forms}
use Rattle.pb_typing_declarations.specs.View.{spec_of}
use Rattle.pb_protocol_typing.specs.Steps.{elements_fault}
use Rattle.pb_protocol_typing.specs.View.{signatures_in, state_forms}
use Rattle.pb_protocol_typing.proofs.step.elements_fault.Given as goal

-- the first fault is that of the terms that are left
abbrev pub invariant-loop-index : goal.invariant-loop-index
invariant-loop-index l =
    elements_fault (spec_of l.declarations) (signatures_in l.known) 0 (state_forms l.entries) (argument_forms l.values)
    ≡ elements_fault (spec_of l.declarations) (signatures_in l.known) l.index (state_forms l.entries) (argument_forms (drop l.index l.values))
