use Rattle.std.proofs.Common.{◌≡◌, ◌++◌, drop, map}
use Rattle.pb_protocol_whole_steps.specs.View.{name_in, valued_in_links}
use Rattle.pb_protocol_whole_steps.proofs.valued.+valued_formulas.Given as goal

abbrev pub invariant-push_links-loop-link : goal.invariant-push_links-loop-link
invariant-push_links-loop-link l = map name_in l.names.items ++ valued_in_links (drop l.link-index l.links) ≡ map name_in l.initial.names.items ++ valued_in_links l.links
