use Rattle.std.proofs.Common.{◌≡◌, ◌++◌, map, drop}
use Rattle.pb_protocol_tree.specs.Form.{definition_form}
use Rattle.pb_protocol_meaning.specs.Erase.{erased_definition}
use Rattle.pb_protocol_unfolder_terms.specs.Contexts.{definition_of}
use Rattle.pb_protocol_unfolder_terms.specs.Tells.{placed_term}
use Rattle.pb_protocol_unfolder_terms.specs.TermFaults.{term_of_definition}
use Rattle.pb_protocol_unfolder_terms.proofs.protocol.definitions.Given as goal

abbrev pub invariant-loop-definition : goal.invariant-loop-definition
invariant-loop-definition l =
    (map definition_of l.definitions.items ++ map erased_definition (map definition_form (drop l.definition-index l.declared))
    ≡ map erased_definition (map definition_form l.declared))
    × (map placed_term l.definitions.items ++ map term_of_definition (map definition_form (drop l.definition-index l.declared))
    ≡ map term_of_definition (map definition_form l.declared))
