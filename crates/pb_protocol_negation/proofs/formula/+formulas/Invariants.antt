use Rattle.std.proofs.Common.{◌≡◌, map}
use Rattle.pb_protocol_negation.specs.Links.{link_form, negated_link}
use Rattle.pb_protocol_negation.proofs.formula.+formulas.Given as goal

abbrev pub invariant-negated_links-loop-link : goal.invariant-negated_links-loop-link
invariant-negated_links-loop-link l = map link_form l.negations.items ≡ map negated_link (map link_form l.yielded)
