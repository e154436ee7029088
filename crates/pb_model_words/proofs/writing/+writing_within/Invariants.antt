use Rattle.pb_model_words.proofs.writing.+writing_within.Given as goal

abbrev pub decreases-writing_within : goal.decreases-writing_within
decreases-writing_within l = l.aliases
