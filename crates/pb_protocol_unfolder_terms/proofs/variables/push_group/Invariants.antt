use Rattle.std.proofs.Common.{◌≡◌, ◌++◌, map, drop, List}
use Rattle.pb_text_meaning.specs.Syntax.{Variable}
use Rattle.pb_text_meaning.specs.Erase.{erased_variable}
use Rattle.pb_text_tree.specs.Form.{named}
use Rattle.pb_text_tree.specs.declared.name.Name.{Name}
use Rattle.pb_protocol_unfolder_terms.specs.View.{variable_of}
use Rattle.pb_protocol_unfolder_terms.proofs.variables.push_group.Given as goal

abbrev pub invariant-loop-name : goal.invariant-loop-name
invariant-loop-name l =
    let said : List Name → List Variable = λ ns. map erased_variable (map (λ (n : Name). record { name = named n; sort = named l.group.sort }) ns) in
    map variable_of l.variables.items ++ said (drop l.name-index l.group.names.items) ≡ map variable_of l.initial.variables.items ++ said l.group.names.items
