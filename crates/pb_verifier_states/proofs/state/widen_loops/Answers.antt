use Rattle.std.proofs.Common.{◌∙◌, arith, sym}
use Rattle.std.proofs.lemmas.Grind.{common_steps}
use Rattle.pb_verifier_states.proofs.Ordered.{widened_loop_ordered}
use Rattle.pb_verifier_states.proofs.Hulls.{loop_hulls_length}
use Rattle.pb_verifier_states.proofs.state.widen_loops.Goals as goal

pub returns-then-loops-others-clause-hulls : goal.returns-then-loops-others-clause-hulls
returns-then-loops-others-clause-hulls c = loop_hulls_length _ _ c.if-loops-others.true

pub loop-i-preserved : goal.loop-i-preserved
loop-i-preserved c = record {
  covered = grind (arith, common_steps);
  ordered = λ before others.
      widened_loop_ordered c.loop-i.loops c.args.others.now c.loop-i.i _ _ _ c.in-Some.wider (omega (arith, c.loop-i.auto.loops, c.loop-i-test.true))
      (omega (arith, c.if-loops-others.false, c.loop-i-test.true)) (sym c.in-Some.is ∙ c.hull.ensures) (c.loop-i.invariant.ordered before others) others;
}
