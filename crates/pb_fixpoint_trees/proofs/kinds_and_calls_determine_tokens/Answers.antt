use Rattle.pb_fixpoint_trees.proofs.Split.{kinds_and_calls_determine}
use Rattle.pb_fixpoint_trees.proofs.kinds_and_calls_determine_tokens.Goals as goal

pub returns : goal.returns
returns c = kinds_and_calls_determine
