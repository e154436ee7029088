use Rattle.std.proofs.Common.{◌≡◌, ◌++◌, drop}
use Rattle.pb_protocol_tree.specs.Links.{step_set_links}
use Rattle.pb_protocol_tree.proofs.step_set_copy.+step_sets.Given as goal

abbrev pub invariant-copy_links-loop-link : goal.invariant-copy_links-loop-link
invariant-copy_links-loop-link l = step_set_links l.copies.items ++ step_set_links (drop l.link-index l.links) ≡ step_set_links l.links
