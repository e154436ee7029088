use Rattle.std.proofs.Common.{Vec, Global}
use Rattle.std.proofs.lemmas.Result.{IfOk-weaker}
use Rattle.pb_model_tree.specs.declared.step_set.StepSetLink.{StepSetLink}
use Rattle.pb_protocol_folding.proofs.Chains.{longer-set}
use Rattle.pb_protocol_folding.proofs.step_set.union_links.Goals as goal

pub returns-in-Union : goal.returns-in-Union
returns-in-Union c =
    IfOk-weaker c.with_first.result _ _
    (λ (more : Vec StepSetLink Global) here. longer-set c.args.place c.in-Union.first c.in-Union.links more.items c.into_inner-operand.result
    c.args.set c.in-Union.is c.into_inner-operand.ensures here)
    c.with_first.ensures
