use Rattle.std.proofs.Common.{arith}
use Rattle.std.proofs.lemmas.Grind.{common_steps}
use Rattle.pb_machine.proofs.ModuleInstances.{instance_at}
use Rattle.pb_machine.proofs.machine.Machine.load.Goals as goal

pub returns : goal.returns
returns c =
    instance_at c.args.layout.now c.equation_of-owner.result c.args.number c.first.result c.carriers-carriers.result.now _
    c.equation_of-owner.ensures.owner c.first.ensures c.carriers-carriers.ensures.list (grind (arith, common_steps))
