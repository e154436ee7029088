use Rattle.std.proofs.Common.{◌≡◌, ◌+◌, ◌<◌, refl}
use Rattle.std.specs.Prelude.{sum_by}
use Rattle.pb_protocol_folding.specs.View.{term_of}
use Rattle.pb_protocol_unfolder_terms.specs.Unfolding.{operator_count}
use Rattle.pb_protocol_unfolder.specs.Operators.{argument_operators, operand_operators, operation_operators}
use Rattle.pb_protocol_unfolder.proofs.FaultLemmas.{many-refused, many-so, ok-so}
use Rattle.pb_protocol_unfolder.proofs.OperatorLemmas.{application-operators, arithmetic-operators, behind-left, behind-over, both-left, chain-operators, end-counted, first-over, item-over, item-taken, loop-ends, more-over, one-over, one-spent, rest-over}
use Rattle.pb_protocol_unfolder.proofs.room.Room.+operators.Goals as goal

pub take_links-loop-link-preserved : goal.take_links-loop-link-preserved
take_links-loop-link-preserved t c =
    item-taken operand_operators _ _ _ _ _ _ c.loop-link-test.true c.link-item.is c.loop-link.invariant (one-spent _ _ _ _ _ c.in_ok-take.ensures.taken c.in_ok-take_term.ensures.taken refl)

pub take_links-returns-clause-taken : goal.take_links-returns-clause-taken
take_links-returns-clause-taken t c = loop-ends _ _ _ _ c.loop-link.invariant (end-counted operand_operators c.args.links.now c.loop-link.link-index c.loop-link-test.false)

pub take_links-returns-in_err-take-clause-refused : goal.take_links-returns-in_err-take-clause-refused
take_links-returns-in_err-take-clause-refused t c =
    many-refused c.from_residual.result c.in_err-take.field-0.0 (c.loop-link.self.operators < 1) (c.args.self.now.operators < sum_by operand_operators c.args.links.now) c.args.place
    c.from_residual.ensures.1
    (λ over. item-over operand_operators _ _ _ _ _ c.loop-link-test.true c.link-item.is c.loop-link.invariant (one-over _ _ over)) c.in_err-take.ensures.refused

pub take_links-returns-in_err-take_term-clause-refused : goal.take_links-returns-in_err-take_term-clause-refused
take_links-returns-in_err-take_term-clause-refused t c =
    many-refused c.from_residual-in_err-take_term.result c.in_err-take_term.field-0.0 (c.take.new.self.operators < operator_count (term_of c.link-item.result.operand))
    (c.args.self.now.operators < sum_by operand_operators c.args.links.now) c.args.place c.from_residual-in_err-take_term.ensures.1
    (λ over. item-over operand_operators _ _ _ _ _ c.loop-link-test.true c.link-item.is c.loop-link.invariant (more-over _ _ _ _ c.in_ok-take.ensures.taken refl over))
    c.in_err-take_term.ensures.refused

pub take_operations-loop-link-preserved : goal.take_operations-loop-link-preserved
take_operations-loop-link-preserved t c =
    item-taken operation_operators _ _ _ _ _ _ c.loop-link-test.true c.link-item.is c.loop-link.invariant (one-spent _ _ _ _ _ c.in_ok-take.ensures.taken c.in_ok-take_term.ensures.taken refl)

pub take_operations-returns-clause-taken : goal.take_operations-returns-clause-taken
take_operations-returns-clause-taken t c = loop-ends _ _ _ _ c.loop-link.invariant (end-counted operation_operators c.args.links.now c.loop-link.link-index c.loop-link-test.false)

pub take_operations-returns-in_err-take-clause-refused : goal.take_operations-returns-in_err-take-clause-refused
take_operations-returns-in_err-take-clause-refused t c =
    many-refused c.from_residual.result c.in_err-take.field-0.0 (c.loop-link.self.operators < 1) (c.args.self.now.operators < sum_by operation_operators c.args.links.now) c.args.place
    c.from_residual.ensures.1
    (λ over. item-over operation_operators _ _ _ _ _ c.loop-link-test.true c.link-item.is c.loop-link.invariant (one-over _ _ over)) c.in_err-take.ensures.refused

pub take_operations-returns-in_err-take_term-clause-refused : goal.take_operations-returns-in_err-take_term-clause-refused
take_operations-returns-in_err-take_term-clause-refused t c =
    many-refused c.from_residual-in_err-take_term.result c.in_err-take_term.field-0.0 (c.take.new.self.operators < operator_count (term_of c.link-item.result.operand))
    (c.args.self.now.operators < sum_by operation_operators c.args.links.now) c.args.place c.from_residual-in_err-take_term.ensures.1
    (λ over. item-over operation_operators _ _ _ _ _ c.loop-link-test.true c.link-item.is c.loop-link.invariant (more-over _ _ _ _ c.in_ok-take.ensures.taken refl over))
    c.in_err-take_term.ensures.refused

pub take_arguments-loop-argument-preserved : goal.take_arguments-loop-argument-preserved
take_arguments-loop-argument-preserved t c =
    item-taken argument_operators _ _ _ _ _ _ c.loop-argument-test.true c.argument-item.is c.loop-argument.invariant c.in_ok-take_term.ensures.taken

pub take_arguments-returns-clause-taken : goal.take_arguments-returns-clause-taken
take_arguments-returns-clause-taken t c = loop-ends _ _ _ _ c.loop-argument.invariant (end-counted argument_operators c.args.arguments.now c.loop-argument.argument-index c.loop-argument-test.false)

pub take_arguments-returns-in_err-take_term-clause-refused : goal.take_arguments-returns-in_err-take_term-clause-refused
take_arguments-returns-in_err-take_term-clause-refused t c =
    many-refused c.from_residual.result c.in_err-take_term.field-0.0 (c.loop-argument.self.operators < operator_count (term_of c.argument-item.result.term))
    (c.args.self.now.operators < sum_by argument_operators c.args.arguments.now) c.args.place c.from_residual.ensures.1
    (item-over argument_operators _ _ _ _ _ c.loop-argument-test.true c.argument-item.is c.loop-argument.invariant) c.in_err-take_term.ensures.refused

pub take_term-returns-in_err-take_term-in-Chain-clause-refused : goal.take_term-returns-in_err-take_term-in-Chain-clause-refused
take_term-returns-in_err-take_term-in-Chain-clause-refused t c =
    let x = c.deref.result.now in
    let whole = chain-operators c.in-Chain.connective x c.in-Chain.first c.in-Chain.links c.in-Chain.links.items c.args.term.now c.in-Chain.is c.deref.ensures refl in
    many-refused c.from_residual.result c.in_err-take_term-in-Chain.field-0.0 (c.args.self.now.operators < operator_count (term_of x))
    (c.args.self.now.operators < operator_count (term_of c.args.term.now))
    c.args.place c.from_residual.ensures.1 (first-over _ _ _ _ whole) c.in_err-take_term-in-Chain.ensures.refused

pub take_term-returns-in_ok-take_term-in-Chain : goal.take_term-returns-in_ok-take_term-in-Chain
take_term-returns-in_ok-take_term-in-Chain t c =
    let ls = c.deref-in-Chain.result.now in
    let spent = c.in_ok-take_term-in-Chain.ensures.taken in
    let whole = chain-operators c.in-Chain.connective c.deref.result.now c.in-Chain.first c.in-Chain.links ls c.args.term.now c.in-Chain.is c.deref.ensures c.deref-in-Chain.ensures.value in
    record {
      taken = ok-so (c.take_term.new.self.operators ≡ c.take_links.new.self.operators + sum_by operand_operators ls)
          (c.args.self.now.operators ≡ c.take_links.new.self.operators + operator_count (term_of c.args.term.now))
          c.take_links.result (λ rest. both-left _ _ _ _ _ _ spent rest whole) c.take_links.ensures.taken;
      refused = many-so (c.take_term.new.self.operators < sum_by operand_operators ls) (c.args.self.now.operators < operator_count (term_of c.args.term.now)) c.args.place
          c.take_links.result (rest-over _ _ _ _ _ spent whole) c.take_links.ensures.refused;
    }

pub take_term-returns-in_err-take_term-in-Arithmetic-clause-refused : goal.take_term-returns-in_err-take_term-in-Arithmetic-clause-refused
take_term-returns-in_err-take_term-in-Arithmetic-clause-refused t c =
    let x = c.deref-in-Arithmetic.result.now in
    let whole = arithmetic-operators x c.in-Arithmetic.first c.in-Arithmetic.links c.in-Arithmetic.links.items c.args.term.now c.in-Arithmetic.is c.deref-in-Arithmetic.ensures refl in
    many-refused c.from_residual-in_err-take_term-in-Arithmetic.result c.in_err-take_term-in-Arithmetic.field-0.0 (c.args.self.now.operators < operator_count (term_of x))
    (c.args.self.now.operators < operator_count (term_of c.args.term.now))
    c.args.place c.from_residual-in_err-take_term-in-Arithmetic.ensures.1 (first-over _ _ _ _ whole) c.in_err-take_term-in-Arithmetic.ensures.refused

pub take_term-returns-in_ok-take_term-in-Arithmetic : goal.take_term-returns-in_ok-take_term-in-Arithmetic
take_term-returns-in_ok-take_term-in-Arithmetic t c =
    let ls = c.deref-in-Arithmetic-2.result.now in
    let spent = c.in_ok-take_term-in-Arithmetic.ensures.taken in
    let whole = arithmetic-operators c.deref-in-Arithmetic.result.now c.in-Arithmetic.first c.in-Arithmetic.links ls c.args.term.now c.in-Arithmetic.is c.deref-in-Arithmetic.ensures
    c.deref-in-Arithmetic-2.ensures.value in
    record {
      taken = ok-so (c.take_term-in-Arithmetic.new.self.operators ≡ c.take_operations.new.self.operators + sum_by operation_operators ls)
          (c.args.self.now.operators ≡ c.take_operations.new.self.operators + operator_count (term_of c.args.term.now))
          c.take_operations.result (λ rest. both-left _ _ _ _ _ _ spent rest whole) c.take_operations.ensures.taken;
      refused = many-so (c.take_term-in-Arithmetic.new.self.operators < sum_by operation_operators ls) (c.args.self.now.operators < operator_count (term_of c.args.term.now)) c.args.place
          c.take_operations.result (rest-over _ _ _ _ _ spent whole) c.take_operations.ensures.refused;
    }

pub take_term-returns-in_ok-take-in-Application : goal.take_term-returns-in_ok-take-in-Application
take_term-returns-in_ok-take-in-Application t c =
    let xs = c.deref-in-Application.result.now in
    let spent = c.in_ok-take-in-Application.ensures.taken in
    let whole = application-operators c.in-Application.function c.in-Application.arguments xs c.args.term.now c.in-Application.is c.deref-in-Application.ensures.value in
    record {
      taken = ok-so (c.take-in-Application.new.self.operators ≡ c.take_arguments.new.self.operators + sum_by argument_operators xs)
          (c.args.self.now.operators ≡ c.take_arguments.new.self.operators + operator_count (term_of c.args.term.now))
          c.take_arguments.result (λ rest. behind-left _ _ _ _ _ spent rest whole) c.take_arguments.ensures.taken;
      refused = many-so (c.take-in-Application.new.self.operators < sum_by argument_operators xs) (c.args.self.now.operators < operator_count (term_of c.args.term.now)) c.args.place
          c.take_arguments.result (behind-over _ _ _ _ spent whole) c.take_arguments.ensures.refused;
    }
