use Rattle.std.proofs.Common.{◌≡◌, false, true}
use Rattle.std.proofs.lemmas.Result.{err_from_is_err_and}
use Rattle.pb_bytecode.specs.Decoded.{module_contents}
use Rattle.pb_sorts.specs.Instance.{instance_of}
use Rattle.pb_base.proofs.Faults.{if_fault}
use Rattle.pb_verifier.proofs.Modules.{IsOf, accepted_by_tables, each_within_limits, is_of, tables_of_accepted}
use Rattle.pb_verifier.proofs.Initials.{initial_is_instance, initial_number_is}
use Rattle.pb_verifier.proofs.verification.check.Goals as goal
use Rattle.pb_verifier.proofs.verification.check.Goals.{After-deref-3}

-- what the check has at hand
of_module : (c : After-deref-3) → IsOf c.args.module.now c.deref-2.result.now c.args.layout.now c.deref-3.result.now
of_module c =
    is_of c.args.module.now c.deref.result.now c.deref-3.result.now c.in_ok-sorts.sorts.items c.deref-2.result.now c.args.layout.now
    c.deref.ensures.value c.in_ok-sorts.ensures c.deref-2.ensures.value c.requires c.deref-3.ensures.value

pub check_equations-requires : goal.check_equations-requires
check_equations-requires c =
    each_within_limits c.args.module.now c.deref-2.result.now c.args.layout.now c.deref-3.result.now
    (of_module (goal.at.check_equations-requires c).After-deref-3) c.args.module.now.within_limits

pub returns-in_err-check_equations-clause-refused : goal.returns-in_err-check_equations-clause-refused
returns-in_err-check_equations-clause-refused c =
    let o = of_module (goal.at.returns-in_err-check_equations-clause-refused c).After-deref-3 in
    let p = err_from_is_err_and c.from_residual-in_err-check_equations.result c.from_residual-in_err-check_equations.ensures.1 in
    rw (p.1, p.2)
    (if_fault c.in_err-check_equations.field-0.0
    (λ fault none accepted. none (tables_of_accepted c.args.module.now c.deref-2.result.now c.args.layout.now c.deref-3.result.now o accepted))
    c.in_err-check_equations.ensures.refused)

pub returns-clause-accepted : goal.returns-clause-accepted
returns-clause-accepted c =
    accepted_by_tables c.args.module.now c.deref-2.result.now c.args.layout.now c.deref-3.result.now
    (of_module (goal.at.returns-clause-accepted c).After-deref-3) c.in_ok-check_equations.ensures.accepted

pub unreachable-requires : goal.unreachable-requires
unreachable-requires c =
    let m = module_contents c.args.module.now in
    let is = initial_is_instance m c.args.layout.now (instance_of c.in_ok-instance.instance) c.requires c.in_ok-instance.ensures c.args.module.now.within_limits in
    let none : false ≡ true = c.in-None.ensures.exists.1 is in
    absurd cc

pub returns-clause-initial : goal.returns-clause-initial
returns-clause-initial c =
    let m = module_contents c.args.module.now in
    initial_number_is m c.args.layout.now (instance_of c.in_ok-instance.instance) c.requires c.in_ok-instance.ensures c.in-Some.number c.in-Some.ensures.place
