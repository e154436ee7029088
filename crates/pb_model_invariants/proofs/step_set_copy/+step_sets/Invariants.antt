use Rattle.std.proofs.Common.{◌≡◌, ◌++◌, drop}
use Rattle.pb_model_invariants.specs.Links.{set_links}
use Rattle.pb_model_invariants.proofs.step_set_copy.+step_sets.Given as goal

abbrev pub invariant-copy_set_links-loop-link : goal.invariant-copy_set_links-loop-link
invariant-copy_set_links-loop-link l = set_links l.copies.items ++ set_links (drop l.link-index l.links) ≡ set_links l.links
