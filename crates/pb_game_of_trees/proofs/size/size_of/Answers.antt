use Rattle.std.proofs.Common.{◌∙◌, arith}
use Rattle.pb_game_of_trees.proofs.Rows.{vertex_behind-more, next_fits}
use Rattle.pb_game_of_trees.proofs.size.size_of.Goals as goal

pub returns-then-vertices-limit-clause-size : goal.returns-then-vertices-limit-clause-size
returns-then-vertices-limit-clause-size c = λ plain hold. omega (
  arith,
  next_fits c.args.rows.now plain c.loop-k.k c.loop-k.vertices c.inner_of-inner.result hold (omega arith) c.inner_of-inner.ensures.inner,
  c.loop-k.invariant.counted plain hold,
)

pub loop-k-preserved : goal.loop-k-preserved
loop-k-preserved c =
    let l = c.loop-k in
    record {
      small = omega arith;
      counted = λ plain hold.
          vertex_behind-more c.args.rows.now plain l.k l.vertices c.inner_of-inner.result hold (omega arith) c.inner_of-inner.ensures.inner ∙ l.invariant.counted plain hold;
    }
