use Rattle.pb_protocol_unfolder_terms.proofs.assigned.+unfold_after.Given as goal

abbrev pub decreases-unfold_after : goal.decreases-unfold_after
decreases-unfold_after l = l.level.depth
