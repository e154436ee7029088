use Rattle.std.proofs.Common.{arith}
use Rattle.pb_model_words.proofs.Called.{variables-end, whole-called}
use Rattle.pb_model_words.proofs.vocabulary.called_variables.Goals as goal

pub returns : goal.returns
returns c = whole-called _ _ _ c.loop-k.invariant (variables-end c.args.names.now c.args.variables.now c.loop-k.k (omega arith))
