use Rattle.std.proofs.Common.{◌≡◌, drop}
use Rattle.std.specs.List.{list_all}
use Rattle.pb_model_invariants.specs.Links.{is_free_link}
use Rattle.pb_model_invariants.proofs.invariant.+formulas.Given as goal

abbrev pub invariant-are_fixpoint_free-loop-link : goal.invariant-are_fixpoint_free-loop-link
invariant-are_fixpoint_free-loop-link l = list_all is_free_link l.links ≡ list_all is_free_link (drop l.link-index l.links)
