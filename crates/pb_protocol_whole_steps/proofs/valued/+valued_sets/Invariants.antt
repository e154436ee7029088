use Rattle.std.proofs.Common.{◌≡◌, ◌++◌, drop, map}
use Rattle.pb_protocol_whole_steps.specs.View.{name_in, valued_in_set_links}
use Rattle.pb_protocol_whole_steps.proofs.valued.+valued_sets.Given as goal

abbrev pub invariant-push_set_links-loop-link : goal.invariant-push_set_links-loop-link
invariant-push_set_links-loop-link l = map name_in l.names.items ++ valued_in_set_links (drop l.link-index l.links) ≡ map name_in l.initial.names.items ++ valued_in_set_links l.links
