use Rattle.std.proofs.Common.{◌≡◌, ◌++◌, drop, map}
use Rattle.pb_text_tree.specs.Form.{named}
use Rattle.pb_typing_declarations.specs.Variables.{variables_of}
use Rattle.pb_typing_declarations.proofs.variables.push_group.Given as goal

-- the variables so far, and those that are left
abbrev pub invariant-loop-name : goal.invariant-loop-name
invariant-loop-name l =
    variables_of l.initial.variables.items ++ map (λ n. record { name = named n; sort = named l.group.sort }) l.group.names.items
    ≡ variables_of l.variables.items ++ map (λ n. record { name = named n; sort = named l.group.sort }) (drop l.name-index l.name-items)
