use Rattle.std.proofs.Common.{◌≡◌, drop, map}
use Rattle.pb_typing_declarations.specs.View.{spec_of}
use Rattle.pb_protocol_tree.specs.Form.{definition_form}
use Rattle.pb_protocol_typing.specs.Signatures.{with_definitions}
use Rattle.pb_protocol_typing.specs.Steps.{definitions_fault}
use Rattle.pb_protocol_typing.specs.View.{signatures_in}
use Rattle.pb_protocol_typing.proofs.step.check_definitions.Given as goal

-- the first fault is that of the definitions that are left, over the table so far, and so is the table
abbrev pub invariant-loop-definition : goal.invariant-loop-definition
invariant-loop-definition l = record {
  fault :
      definitions_fault (spec_of l.declarations) (signatures_in l.fn.known) (map definition_form l.definitions)
      ≡ definitions_fault (spec_of l.declarations) (signatures_in l.known) (map definition_form (drop l.definition-index l.definitions));
  table :
      with_definitions (spec_of l.declarations) (signatures_in l.fn.known) (map definition_form l.definitions)
      ≡ with_definitions (spec_of l.declarations) (signatures_in l.known) (map definition_form (drop l.definition-index l.definitions));
}
