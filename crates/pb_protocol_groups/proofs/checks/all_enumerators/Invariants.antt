use Rattle.std.proofs.Common.{◌≡◌, ◌++◌, drop, flat_map, map}
use Rattle.pb_text_tree.specs.Form.{sort_declaration_form}
use Rattle.pb_protocol_typing.specs.View.{names_in}
use Rattle.pb_protocol_groups.specs.Checks.{sort_enumerators}
use Rattle.pb_protocol_groups.proofs.checks.all_enumerators.Given as goal

abbrev pub invariant-loop-declaration : goal.invariant-loop-declaration
invariant-loop-declaration l =
    flat_map sort_enumerators (map sort_declaration_form l.sorts)
    ≡ names_in l.names.items ++ flat_map sort_enumerators (map sort_declaration_form (drop l.declaration-index l.sorts))
