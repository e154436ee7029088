use Rattle.std.proofs.Common.{◌≡◌, ◌++◌, drop}
use Rattle.pb_model_words.proofs.GroupValues.{values_after}
use Rattle.pb_model_words.proofs.unpacking.unpacked_after.Given as goal

-- the values so far, and those of the groups that are left
abbrev pub invariant-loop-k : goal.invariant-loop-k
invariant-loop-k l = l.state.items ++ values_after (drop l.k l.groups) (drop l.k l.before) (drop l.k l.after) ≡ values_after l.groups l.before l.after
