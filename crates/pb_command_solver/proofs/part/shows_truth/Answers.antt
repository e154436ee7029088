use Rattle.std.proofs.Common.{◌≡◌, List, Some, subst, arith}
use Rattle.std.specs.List.{slice_get}
use Rattle.pb_sorts.specs.Instance.{instance_of, instances}
use Rattle.pb_sorts.specs.Layout.{carriers_of}
use Rattle.pb_sorts.specs.declared.carrier.Carrier.{Carrier}
use Rattle.pb_machine.proofs.ModuleInstances.{equation_there}
use Rattle.pb_command_solver.proofs.part.shows_truth.Goals as goal

pub index-equation-requires : goal.index-equation-requires
index-equation-requires c =
    let number = c.initial.result in
    let at = subst (λ (x : List (List Carrier)). slice_get (instances (carriers_of x)) number ≡ Some (instance_of c.instance-instance.result)) c.layout-layout.ensures c.instance-instance.ensures in
    let there = equation_there c.args.verified.now c.module.result.now number (instance_of c.instance-instance.result) c.module.ensures at in
    omega (arith, c.module.result.now.equations.ok.0)
