use Rattle.std.proofs.Common.{◌∙◌, arith, sym}
use Rattle.std.proofs.lemmas.Grind.{common_steps}
use Rattle.pb_verifier_states.proofs.Ordered.{widened_ordered}
use Rattle.pb_verifier_states.proofs.Hulls.{hulls_length}
use Rattle.pb_verifier_states.proofs.state.widen_all.Goals as goal

pub returns-then-values-others-clause-hulls : goal.returns-then-values-others-clause-hulls
returns-then-values-others-clause-hulls c = hulls_length _ _ c.if-values-others.true

pub loop-i-preserved : goal.loop-i-preserved
loop-i-preserved c = record {
  covered = grind (arith, common_steps);
  ordered = λ before others.
      widened_ordered c.loop-i.values c.args.others.now c.loop-i.i _ _ c.in-Some.wider (omega (arith, c.loop-i.auto.values, c.loop-i-test.true))
      (omega (arith, c.if-values-others.false, c.loop-i-test.true)) (sym c.in-Some.is ∙ c.hull.ensures) (c.loop-i.invariant.ordered before others) others;
}
