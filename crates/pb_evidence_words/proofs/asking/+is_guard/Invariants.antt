use Rattle.pb_evidence_words.proofs.asking.+is_guard.Given as goal

abbrev pub decreases-is_guard : goal.decreases-is_guard
decreases-is_guard l = goal.size-is_guard l
