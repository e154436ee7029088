use Rattle.std.proofs.Common.{◌≡◌, ◌++◌, map, drop, List}
use Rattle.pb_text_meaning.specs.Syntax.{Variable}
use Rattle.pb_text_meaning.specs.Erase.{erased_variable}
use Rattle.pb_text_tree.specs.Form.{named}
use Rattle.pb_text_tree.specs.declared.name.Name.{Name}
use Rattle.pb_protocol_scalar_sets.specs.View.{variable_said}
use Rattle.pb_protocol_scalar_sets.proofs.variable.push_group.Given as goal

abbrev pub invariant-loop-name : goal.invariant-loop-name
invariant-loop-name l =
    let known_kind : List Name → List Variable = λ ns. map erased_variable (map (λ (n : Name). record { name = named n; sort = named l.group.sort }) ns) in
    map variable_said l.variables.items ++ known_kind (drop l.name-index l.group.names.items) ≡ map variable_said l.initial.variables.items ++ known_kind l.group.names.items
