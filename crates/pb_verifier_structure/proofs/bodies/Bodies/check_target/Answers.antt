use Rattle.std.proofs.Common.{arith}
use Rattle.pb_verifier_structure.proofs.Targets.{target_found, outside_refused, elsewhere_refused}
use Rattle.pb_verifier_structure.proofs.bodies.Bodies.check_target.Goals as goal

pub returns-then-target-len-clause-err : goal.returns-then-target-len-clause-err
returns-then-target-len-clause-err c = λ code t. outside_refused code c.args.self.now.innermost.items c.args.place c.args.target t (omega (arith, c.args.self.now.innermost.ok.0))

pub returns-then-ne-clause-err : goal.returns-then-ne-clause-err
returns-then-ne-clause-err c =
    λ code t. elsewhere_refused code c.args.self.now.innermost.items c.args.place c.args.target c.index.result.now
    c.index-2.result.now t c.index.ensures c.index-2.ensures c.if-ne.ensures

pub returns-clause-ok : goal.returns-clause-ok
returns-clause-ok c =
    λ code w t. target_found code c.args.self.now.innermost.items c.args.place c.args.target c.index.result.now
    c.index-2.result.now t w (omega (arith, c.args.self.now.innermost.ok.0)) c.if-target-place.false c.index.ensures
    c.index-2.ensures c.if-ne.ensures
