use Rattle.std.proofs.Common.{refl}
use Rattle.pb_base.proofs.Faults.{if_refused}
use Rattle.pb_verifier.specs.Names.{program_in_module}
use Rattle.pb_verifier.proofs.Steps.{where_ok}
use Rattle.pb_verifier.proofs.pass.PassState.step.Goals as goal

pub returns-in-Jump-clause-flows : goal.returns-in-Jump-clause-flows
returns-in-Jump-clause-flows c =
    where_ok c.visit_jump.result (λ h. rw (c.in-Jump.is) (h c.args.checked.now.names (program_in_module c.args.checked.now) c.args.self.now.open_loops refl refl))
    c.visit_jump.ensures.ok

pub returns-in-Jump-clause-refused : goal.returns-in-Jump-clause-refused
returns-in-Jump-clause-refused c =
    if_refused c.visit_jump.result (λ rule h. rw (c.in-Jump.is) (h c.args.checked.now.names (program_in_module c.args.checked.now) c.args.self.now.open_loops refl refl))
    c.visit_jump.ensures.refused

pub returns-in-JumpIf-clause-flows : goal.returns-in-JumpIf-clause-flows
returns-in-JumpIf-clause-flows c =
    where_ok c.visit_jump_if.result (λ h. rw (c.in-JumpIf.is) (h c.args.checked.now.names (program_in_module c.args.checked.now) c.args.self.now.open_loops refl refl))
    c.visit_jump_if.ensures.ok

pub returns-in-JumpIf-clause-refused : goal.returns-in-JumpIf-clause-refused
returns-in-JumpIf-clause-refused c =
    if_refused c.visit_jump_if.result (λ rule h. rw (c.in-JumpIf.is) (h c.args.checked.now.names (program_in_module c.args.checked.now) c.args.self.now.open_loops refl refl))
    c.visit_jump_if.ensures.refused
