use Rattle.std.proofs.Common.{◌≡◌, ◌++◌, List, drop}
use Rattle.std.specs.Prelude.{option_map, option_copied}
use Rattle.pb_text_tree.specs.Form.{VariableForm, named}
use Rattle.pb_text_printer.specs.Page.{after, page}
use Rattle.pb_text_printer.specs.Parts.{variables_behind}
use Rattle.pb_text_printer.proofs.VariableParts.{sorted}
use Rattle.pb_text_printer.proofs.variables.write_group.Given as goal

-- what is left to write behind the variables so far is all of it
abbrev pub invariant-loop-name : goal.invariant-loop-name
invariant-loop-name l = (vs : List VariableForm)
    → after (variables_behind (option_map named (option_copied l.last)) (sorted l.group.sort (drop l.name-index l.name-items) ++ vs)) (page l.out)
    ≡ after (variables_behind (option_map named (option_copied l.initial.last)) (sorted l.group.sort l.name-items ++ vs)) (page l.initial.out)
