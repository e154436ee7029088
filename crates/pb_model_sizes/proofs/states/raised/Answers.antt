use Rattle.pb_model_sizes.specs.Numbers.{number_in}
use Rattle.pb_model_sizes.proofs.Factors.{power-in}
use Rattle.pb_model_sizes.proofs.states.raised.Goals as goal

pub loop-turn-preserved : goal.loop-turn-preserved
loop-turn-preserved c =
    power-in (number_in c.args.number) c.args.size c.loop-turn.turn (number_in c.loop-turn.product) (number_in c.in_ok-product.product)
    c.loop-turn.invariant c.in_ok-product.ensures
