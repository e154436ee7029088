use Rattle.std.proofs.Common.{◌≡◌, ◌++◌, drop}
use Rattle.pb_protocol_packer.specs.Formulas.{set_links}
use Rattle.pb_protocol_packer.proofs.step_sets.+step_sets.Given as goal

abbrev pub invariant-copy_set_links-loop-link : goal.invariant-copy_set_links-loop-link
invariant-copy_set_links-loop-link l = set_links l.copies.items ++ set_links (drop l.link-index l.links) ≡ set_links l.links
