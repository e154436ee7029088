use Rattle.std.proofs.Common.{◌≡◌, drop}
use Rattle.std.specs.Prelude.{option_map, option_copied, None}
use Rattle.pb_text_tree.specs.Form.{named, variable_forms}
use Rattle.pb_text_printer.specs.Page.{after, page}
use Rattle.pb_text_printer.specs.Parts.{variables_behind}
use Rattle.pb_text_printer.proofs.variables.write_variables.Given as goal

-- what is left to write behind the groups so far is all of it
abbrev pub invariant-loop-group : goal.invariant-loop-group
invariant-loop-group l =
    after (variables_behind (option_map named (option_copied l.last)) (variable_forms (drop l.group-index l.groups)))
    (page l.out) ≡ after (variables_behind None (variable_forms l.groups)) (page l.initial.out)
