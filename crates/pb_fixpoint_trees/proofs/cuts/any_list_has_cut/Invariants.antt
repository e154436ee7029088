use Rattle.std.proofs.Common.{◌<◌, ℕ, List, get_or}
use Rattle.pb_fixpoint_trees.specs.declared.Token.{Token}
use Rattle.pb_fixpoint_trees.specs.Row.{ListHasNoCut}
use Rattle.pb_fixpoint_trees.proofs.cuts.any_list_has_cut.Given as goal

abbrev pub invariant-loop-tokens : goal.invariant-loop-tokens
invariant-loop-tokens l = (j : ℕ) (d : List Token) → j < l.tokens-index → ListHasNoCut (get_or l.lists j d)
