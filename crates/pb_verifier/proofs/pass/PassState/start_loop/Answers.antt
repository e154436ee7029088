use Rattle.std.proofs.Common.{sym, refl}
use Rattle.std.proofs.lemmas.Result.{err_from_is_err_and}
use Rattle.pb_bytecode_program.specs.declared.instruction.Op.TheVariants as op
use Rattle.pb_verifier.specs.Pass.{innermost}
use Rattle.pb_verifier.specs.Programs.{program_in}
use Rattle.pb_base.proofs.Faults.{if_fault}
use Rattle.pb_verifier.proofs.Steps.{known_flows}
use Rattle.pb_verifier.proofs.pass.PassState.start_loop.Goals as goal

pub returns-in_err-visit_loop-in-Some-clause-refused :
    goal.returns-in_err-visit_loop-in-Some-clause-refused
returns-in_err-visit_loop-in-Some-clause-refused c =
    let p = err_from_is_err_and c.from_residual.result c.from_residual.ensures.1 in
    rw (p.1, p.2)
    (if_fault c.in_err-visit_loop-in-Some.field-0.0
    (λ fault h sorts callees. known_flows (program_in sorts callees c.args.equation.now) c.args.place
    (op.Loop c.args.slot) c.args.known c.in-Some.state (innermost c.args.self.now.open_loops)
    c.args.self.now.open_loops c.args.self.now.table.items _ c.in-Some.is refl
    (h (program_in sorts callees c.args.equation.now) (innermost c.args.self.now.open_loops)
    (sym (c.loop_carrier-carrier.ensures sorts callees))))
    c.in_err-visit_loop-in-Some.ensures.refused)

pub returns-in_ok-enter-in-Some-clause-flows : goal.returns-in_ok-enter-in-Some-clause-flows
returns-in_ok-enter-in-Some-clause-flows c sorts callees =
    known_flows (program_in sorts callees c.args.equation.now) c.args.place (op.Loop c.args.slot) c.args.known
    c.in-Some.state (innermost c.args.self.now.open_loops) c.args.self.now.open_loops c.args.self.now.table.items _ c.in-Some.is refl
    (c.in_ok-visit_loop-in-Some.ensures.ok (program_in sorts callees c.args.equation.now) (innermost c.args.self.now.open_loops) (sym (c.loop_carrier-carrier.ensures sorts callees)))
