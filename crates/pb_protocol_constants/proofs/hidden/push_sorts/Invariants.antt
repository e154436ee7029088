use Rattle.std.proofs.Common.{◌≡◌, ◌++◌, drop, map}
use Rattle.pb_text_tree.specs.Form.{sort_declaration_form}
use Rattle.pb_protocol_typing.specs.View.{names_in}
use Rattle.pb_protocol_constants.specs.Hidden.{names_of_sorts}
use Rattle.pb_protocol_constants.proofs.hidden.push_sorts.Given as goal

-- the names so far, and those that are left
abbrev pub invariant-loop-declaration : goal.invariant-loop-declaration
invariant-loop-declaration l =
    names_in l.initial.names.items ++ names_of_sorts (map sort_declaration_form l.sorts)
    ≡ names_in l.names.items ++ names_of_sorts (map sort_declaration_form (drop l.declaration-index l.sorts))
