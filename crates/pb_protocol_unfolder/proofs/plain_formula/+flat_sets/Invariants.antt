use Rattle.std.proofs.Common.{◌≡◌, map}
use Rattle.pb_protocol_unfolder.specs.View.{flat_set_link, set_link_form, set_linked}
use Rattle.pb_protocol_unfolder.proofs.plain_formula.+flat_sets.Given as goal

abbrev pub invariant-flat_set_links-loop-link : goal.invariant-flat_set_links-loop-link
invariant-flat_set_links-loop-link l = map flat_set_link l.flat_links.items ≡ map set_linked (map set_link_form l.yielded)
