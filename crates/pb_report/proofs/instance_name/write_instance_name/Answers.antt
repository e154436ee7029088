use Rattle.std.proofs.Common.{◌≡◌, List, Some, length, refl, sym, ap, ◌∙◌, subst, arith}
use Rattle.std.specs.List.{slice_get}
use Rattle.pb_sorts.specs.Instance.{instance_of, instances}
use Rattle.pb_sorts.specs.Layout.{carriers_of}
use Rattle.pb_sorts.specs.declared.carrier.Carrier.{Carrier}
use Rattle.pb_bytecode.specs.Meaning.{parameters}
use Rattle.pb_report.proofs.Sending.{sends_then, sends_err, sends_as}
use Rattle.pb_report.proofs.Names.{there, lengths, name_is}
use Rattle.pb_report.proofs.instance_name.write_instance_name.Given.{Over}
use Rattle.pb_report.proofs.instance_name.write_instance_name.Goals.{After-instance-instance}
use Rattle.pb_report.proofs.instance_name.write_instance_name.Goals as goal

-- the instance has the number
found : (g : Over) (c : After-instance-instance g)
    → slice_get (instances (carriers_of (parameters c.args.verified.now))) c.args.number ≡ Some (instance_of c.instance-instance.result)
found g c = subst (λ (x : List (List Carrier)). slice_get (instances (carriers_of x)) c.args.number ≡ Some (instance_of c.instance-instance.result)) c.layout.ensures c.instance-instance.ensures

pub index-equation-requires : goal.index-equation-requires
index-equation-requires g c =
    let at = found g (goal.at.index-equation-requires g c).After-instance-instance in
    omega (arith, there c.module-module.result.now c.module-module.ensures _ at, c.module-module.result.now.equations.ok.0)

pub returns-in_err-write : goal.returns-in_err-write
returns-in_err-write g c =
    let at = found g (goal.at.returns-in_err-write g c).After-instance-instance in
    sends_as (name_is c.module-module.result.now c.module-module.ensures _ at _ c.index-equation.ensures _ _ _ _ c.as_bytes.ensures.value refl refl refl)
    (sends_err _ c.from_residual.ensures.0 c.in_err-write.ensures)

pub write_arguments-requires : goal.write_arguments-requires
write_arguments-requires g c =
    let at = found g (goal.at.write_arguments-requires g c).After-instance-instance in
    ap length c.deref-3.ensures ∙ (lengths c.module-module.result.now c.module-module.ensures _ at _ c.index-equation.ensures ∙ sym (ap length c.deref-2.ensures.value))

pub returns : goal.returns
returns g c =
    let at = found g (goal.at.returns g c).After-instance-instance in
    sends_as
    (name_is c.module-module.result.now c.module-module.ensures _ at _ c.index-equation.ensures _ _ _ _ c.as_bytes.ensures.value c.deref.ensures.value c.deref-2.ensures.value c.deref-3.ensures)
    (sends_then c.in_ok-write.ensures c.write_arguments.ensures)
