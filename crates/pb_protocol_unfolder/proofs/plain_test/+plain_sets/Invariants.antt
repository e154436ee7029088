use Rattle.std.proofs.Common.{◌≡◌, drop, map}
use Rattle.std.specs.List.{list_all}
use Rattle.pb_protocol_unfolder.specs.Plain.{is_plain_set}
use Rattle.pb_protocol_unfolder.specs.View.{set_operand}
use Rattle.pb_protocol_unfolder.proofs.plain_test.+plain_sets.Given as goal

abbrev pub invariant-are_plain_sets-loop-link : goal.invariant-are_plain_sets-loop-link
invariant-are_plain_sets-loop-link l = list_all is_plain_set (map set_operand (drop l.link-index l.links)) ≡ list_all is_plain_set (map set_operand l.links)
