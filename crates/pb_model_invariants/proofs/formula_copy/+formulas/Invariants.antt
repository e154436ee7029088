use Rattle.std.proofs.Common.{◌≡◌, ◌++◌, drop}
use Rattle.pb_model_invariants.specs.Links.{link_forms}
use Rattle.pb_model_invariants.proofs.formula_copy.+formulas.Given as goal

abbrev pub invariant-copy_links-loop-link : goal.invariant-copy_links-loop-link
invariant-copy_links-loop-link l = link_forms l.copies.items ++ link_forms (drop l.link-index l.links) ≡ link_forms l.links
