use Rattle.pb_machine.proofs.Uniqueness.{answer_is_one, tree_is_one}
use Rattle.pb_machine.proofs.laws.meaning_is_unique.Goals as goal

pub returns-clause-trees : goal.returns-clause-trees
returns-clause-trees c m s t first second n inside = tree_is_one c.tokens_determine_tree.ensures m s t first second n inside

pub returns-clause-answer : goal.returns-clause-answer
returns-clause-answer c m s t first second = answer_is_one c.tokens_determine_tree.ensures m s t first second
