use Rattle.pb_protocol_unfolder_terms.proofs.written.+values_within.Given as goal

abbrev pub decreases-values_within : goal.decreases-values_within
decreases-values_within l = l.aliases
