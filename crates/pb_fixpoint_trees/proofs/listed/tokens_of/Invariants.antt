use Rattle.std.proofs.Common.{◌≡◌, map}
use Rattle.pb_fixpoint_trees.specs.Entries.{tokens_in}
use Rattle.pb_fixpoint_trees.proofs.listed.tokens_of.Given as goal

abbrev pub invariant-loop-parts : goal.invariant-loop-parts
invariant-loop-parts l = l.tokens.items ≡ map tokens_in l.yielded
