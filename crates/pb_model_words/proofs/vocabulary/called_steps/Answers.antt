use Rattle.std.proofs.Common.{arith}
use Rattle.pb_model_words.proofs.Called.{steps-end, whole-called}
use Rattle.pb_model_words.proofs.vocabulary.called_steps.Goals as goal

pub returns : goal.returns
returns c = whole-called _ _ _ c.loop-k.invariant (steps-end c.args.names.now c.args.steps.now c.loop-k.k (omega arith))
