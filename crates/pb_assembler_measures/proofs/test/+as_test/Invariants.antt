use Rattle.pb_assembler_measures.proofs.FormulaWeight.{weight}
use Rattle.pb_assembler_measures.proofs.test.+as_test.Given as goal

abbrev pub decreases-as_test : goal.decreases-as_test
decreases-as_test l = weight l.formula.now
