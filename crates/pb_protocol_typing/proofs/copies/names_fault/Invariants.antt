use Rattle.std.proofs.Common.{◌≡◌, drop, map}
use Rattle.pb_text_tree.specs.Form.{argument_forms, named}
use Rattle.pb_protocol_typing.specs.Fault.{first_fault}
use Rattle.pb_protocol_typing.specs.Steps.{copied_fault}
use Rattle.pb_protocol_typing.specs.View.{scope_of}
use Rattle.pb_protocol_typing.proofs.copies.names_fault.Given as goal

-- the first fault is that of the names that are left
abbrev pub invariant-loop-name : goal.invariant-loop-name
invariant-loop-name l =
    let fault = copied_fault (scope_of l.scope) (argument_forms l.index) in first_fault fault (map named l.names) ≡ first_fault fault (map named (drop l.name-index l.names))
