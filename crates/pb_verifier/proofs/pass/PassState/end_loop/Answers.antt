use Rattle.pb_bytecode_program.specs.declared.instruction.Op.TheVariants as op
use Rattle.pb_verifier.proofs.Steps.{known_flows, where_ok, where_err}
use Rattle.pb_verifier.proofs.pass.PassState.end_loop.Goals as goal

pub returns-in-Some-clause-flows : goal.returns-in-Some-clause-flows
returns-in-Some-clause-flows c =
    where_ok c.visit_next.result
    (λ h p. known_flows p c.args.place op.Next c.args.known c.in-Some.state c.leave-start.result
    c.args.self.now.open_loops c.args.self.now.table.items _ c.in-Some.is c.leave-start.ensures.start (h p))
    c.visit_next.ensures.ok

pub returns-in-Some-clause-open_loops : goal.returns-in-Some-clause-open_loops
returns-in-Some-clause-open_loops c = where_ok c.visit_next.result (λ h. c.leave-start.ensures.left c.args.known) c.visit_next.ensures.ok

pub returns-in-Some-clause-err : goal.returns-in-Some-clause-err
returns-in-Some-clause-err c =
    where_err c.visit_next.result
    (λ h p. known_flows p c.args.place op.Next c.args.known c.in-Some.state c.leave-start.result
    c.args.self.now.open_loops c.args.self.now.table.items _ c.in-Some.is c.leave-start.ensures.start (h p))
    c.visit_next.ensures.err

pub returns-in-None-clause-open_loops : goal.returns-in-None-clause-open_loops
returns-in-None-clause-open_loops c = c.leave-start.ensures.left c.args.known
