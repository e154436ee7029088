use Rattle.std.proofs.Common.{◌≡◌, map}
use Rattle.pb_protocol_unfolder.specs.View.{flat_link, link_form, linked}
use Rattle.pb_protocol_unfolder.proofs.plain_formula.+flat_formulas.Given as goal

abbrev pub invariant-flat_links-loop-link : goal.invariant-flat_links-loop-link
invariant-flat_links-loop-link l = map flat_link l.flat_links.items ≡ map linked (map link_form l.yielded)
