use Rattle.std.proofs.Common.{◌≡◌, ◌++◌, ◌&&◌, map, drop, List}
use Rattle.std.specs.Prelude.{reverse}
use Rattle.pb_protocol_tree.specs.declared.protocol.Definition as declared_definition
use Rattle.pb_protocol_tree.specs.Form.{definition_form}
use Rattle.pb_protocol_meaning.specs.Erase.{erased_definition}
use Rattle.pb_protocol_meaning.specs.Syntax.{Definition}
use Rattle.pb_protocol_scalar_sets.specs.Tested.{are_defined_in, tested_in}
use Rattle.pb_protocol_scalar_sets.specs.View.{signature_said}
use Rattle.pb_protocol_scalar_sets.proofs.declaration.definition_signatures.Given as goal

-- the definitions that are left, given those that are there
abbrev pub invariant-loop-definition : goal.invariant-loop-definition
invariant-loop-definition l =
    let all : List declared_definition.Definition → List Definition = λ ds. map erased_definition (map definition_form ds) in
    let base = map signature_said l.state in
    let known = reverse (map signature_said l.signatures.items) ++ base in
    let ds = l.set.protocol.now.definitions.items in
    record {
      tested : tested_in l.set known (all (drop l.definition-index ds)) ≡ tested_in l.set base (all ds);
      new : (l.are_new && are_defined_in l.set known (all (drop l.definition-index ds))) ≡ are_defined_in l.set base (all ds);
    }
