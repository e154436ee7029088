use Rattle.std.proofs.Common.{◌≡◌, List, sym, subst, ◌∙◌}
use Rattle.pb_bytecode_program.specs.Values.{has_divisor}
use Rattle.pb_bytecode_program.specs.declared.domain.AbstractValue.{AbstractValue}
use Rattle.pb_verifier_states.specs.NamedRule.{named_at_numbers}
use Rattle.pb_verifier_states.specs.declared.rule.AcceptanceRule.TheVariants as rule
use Rattle.pb_verifier_flow.proofs.Pushes.{arithmetic_goes_on, divisor_fails, overflow_fails, divisor_named, overflow_named, two_on_top}
use Rattle.pb_verifier_flow.proofs.flow.data.arithmetic.Goals as goal

pub returns-clause-flows : goal.returns-clause-flows
returns-clause-flows c =
    arithmetic_goes_on c.args.operator c.args.state.now c.pop_int.new.self c.pop_int-2.new.self c.push.new.self c.in_ok-b.b
    c.in_ok-a.a c.in-Some.interval c.in_ok-b.ensures.ok.topmost c.in_ok-a.ensures.ok.topmost
    (sym c.may_be_no_divisor.ensures ∙ c.if-may_be_no_divisor.false) c.in-Some.ensures c.in_ok-push.ensures.room
    (rw (c.numbers.ensures.value) at (c.in_ok-push.ensures.pushed))

pub returns-then-may_be_no_divisor-clause-refused : goal.returns-then-may_be_no_divisor-clause-refused
returns-then-may_be_no_divisor-clause-refused c =
    divisor_fails c.args.operator c.args.state.now c.pop_int.new.self c.pop_int-2.new.self c.in_ok-b.b c.in_ok-a.a c.in_ok-b.ensures.ok.topmost c.in_ok-a.ensures.ok.topmost
    (sym c.may_be_no_divisor.ensures ∙ c.if-may_be_no_divisor.true)

pub returns-then-may_be_no_divisor-clause-rule : goal.returns-then-may_be_no_divisor-clause-rule
returns-then-may_be_no_divisor-clause-rule c = λ sorts callees.
    subst (λ (ss : List AbstractValue). rule.Divisor ≡ named_at_numbers (has_divisor c.args.operator) ss)
    (sym (two_on_top c.args.state.now c.pop_int.new.self c.pop_int-2.new.self c.in_ok-b.b c.in_ok-a.a c.in_ok-b.ensures.ok.topmost c.in_ok-a.ensures.ok.topmost))
    (divisor_named (has_divisor c.args.operator) c.in_ok-b.b c.in_ok-a.a c.pop_int-2.new.self.operands (sym c.may_be_no_divisor.ensures ∙ c.if-may_be_no_divisor.true))

pub returns-in_default-clause-refused : goal.returns-in_default-clause-refused
returns-in_default-clause-refused c =
    overflow_fails c.args.operator c.args.state.now c.pop_int.new.self c.pop_int-2.new.self c.in_ok-b.b c.in_ok-a.a c.in_ok-b.ensures.ok.topmost c.in_ok-a.ensures.ok.topmost
    (sym c.may_be_no_divisor.ensures ∙ c.if-may_be_no_divisor.false) c.in_default.ensures

pub returns-in_default-clause-rule : goal.returns-in_default-clause-rule
returns-in_default-clause-rule c = λ sorts callees.
    subst (λ (ss : List AbstractValue). rule.Overflow ≡ named_at_numbers (has_divisor c.args.operator) ss)
    (sym (two_on_top c.args.state.now c.pop_int.new.self c.pop_int-2.new.self c.in_ok-b.b c.in_ok-a.a c.in_ok-b.ensures.ok.topmost c.in_ok-a.ensures.ok.topmost))
    (overflow_named (has_divisor c.args.operator) c.in_ok-b.b c.in_ok-a.a c.pop_int-2.new.self.operands (sym c.may_be_no_divisor.ensures ∙ c.if-may_be_no_divisor.false))
