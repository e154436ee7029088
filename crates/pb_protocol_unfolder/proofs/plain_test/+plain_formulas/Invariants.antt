use Rattle.std.proofs.Common.{◌≡◌, drop, map}
use Rattle.std.specs.List.{list_all}
use Rattle.pb_protocol_unfolder.specs.Plain.{is_plain_formula}
use Rattle.pb_protocol_unfolder.specs.View.{formula_operand}
use Rattle.pb_protocol_unfolder.proofs.plain_test.+plain_formulas.Given as goal

abbrev pub invariant-are_plain_formulas-loop-link : goal.invariant-are_plain_formulas-loop-link
invariant-are_plain_formulas-loop-link l = list_all is_plain_formula (map formula_operand (drop l.link-index l.links)) ≡ list_all is_plain_formula (map formula_operand l.links)
