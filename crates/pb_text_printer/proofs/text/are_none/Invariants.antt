use Rattle.std.proofs.Common.{◌≡◌, drop}
use Rattle.pb_text_tree.specs.Form.{variable_forms}
use Rattle.pb_text_printer.specs.Parts.{are_none}
use Rattle.pb_text_printer.proofs.text.are_none.Given as goal

-- whether there is none is whether there is none among those that are left
abbrev pub invariant-loop-group : goal.invariant-loop-group
invariant-loop-group l = are_none (variable_forms (drop l.group-index l.groups)) ≡ are_none (variable_forms l.groups)
