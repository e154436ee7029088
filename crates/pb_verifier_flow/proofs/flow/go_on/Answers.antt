-- Each arm's instruction does what its function says.
use Rattle.std.proofs.Common.{◌≡◌, of_z, rules, to_z, w64}
use Rattle.std.proofs.lemmas.Result.{err_from_is_err_and}
use Rattle.pb_verifier_flow.proofs.Dispatch.{goes, goes_int, fails, fails_int, goes_on, fails_on, goes_enum, fails_enum, named, named_on, named_enum}
use Rattle.pb_verifier_flow.proofs.flow.go_on.Goals as goal

pub returns-in-PushInt-clause-flows : goal.returns-in-PushInt-clause-flows
returns-in-PushInt-clause-flows c =
    let same : to_z w64 (of_z w64 c.in-PushInt.z) ≡ c.in-PushInt.z = search rules in
    goes_int _ _ c.args.state.now _ c.args.op c.push.new.self c.push.result c.in-PushInt.is (rw same at c.push.ensures.flows)

pub returns-in-PushInt-clause-refused : goal.returns-in-PushInt-clause-refused
returns-in-PushInt-clause-refused c =
    let same : to_z w64 (of_z w64 c.in-PushInt.z) ≡ c.in-PushInt.z = search rules in
    fails_int _ _ c.args.state.now _ c.args.op c.push.result c.in-PushInt.is (rw same at c.push.ensures.refused)

pub returns-in-Get-clause-flows : goal.returns-in-Get-clause-flows
returns-in-Get-clause-flows c = goes _ _ c.args.state.now _ c.args.op c.get.new.state c.get.result c.in-Get.is c.get.ensures.flows

pub returns-in-Get-clause-refused : goal.returns-in-Get-clause-refused
returns-in-Get-clause-refused c = fails _ _ c.args.state.now _ c.args.op c.get.result c.in-Get.is c.get.ensures.refused

pub returns-in-Arithmetic-clause-flows : goal.returns-in-Arithmetic-clause-flows
returns-in-Arithmetic-clause-flows c = goes _ _ c.args.state.now _ c.args.op c.arithmetic.new.state c.arithmetic.result c.in-Arithmetic.is c.arithmetic.ensures.flows

pub returns-in-Arithmetic-clause-refused : goal.returns-in-Arithmetic-clause-refused
returns-in-Arithmetic-clause-refused c = fails _ _ c.args.state.now _ c.args.op c.arithmetic.result c.in-Arithmetic.is c.arithmetic.ensures.refused

pub returns-in-Negate-clause-flows : goal.returns-in-Negate-clause-flows
returns-in-Negate-clause-flows c = goes _ _ c.args.state.now _ c.args.op c.negate.new.state c.negate.result c.in-Negate.is c.negate.ensures.flows

pub returns-in-Negate-clause-refused : goal.returns-in-Negate-clause-refused
returns-in-Negate-clause-refused c = fails _ _ c.args.state.now _ c.args.op c.negate.result c.in-Negate.is c.negate.ensures.refused

pub returns-in-Absolute-clause-flows : goal.returns-in-Absolute-clause-flows
returns-in-Absolute-clause-flows c = goes _ _ c.args.state.now _ c.args.op c.absolute.new.state c.absolute.result c.in-Absolute.is c.absolute.ensures.flows

pub returns-in-Absolute-clause-refused : goal.returns-in-Absolute-clause-refused
returns-in-Absolute-clause-refused c = fails _ _ c.args.state.now _ c.args.op c.absolute.result c.in-Absolute.is c.absolute.ensures.refused

pub returns-in-Compare-clause-flows : goal.returns-in-Compare-clause-flows
returns-in-Compare-clause-flows c = goes _ _ c.args.state.now _ c.args.op c.compare.new.state c.compare.result c.in-Compare.is c.compare.ensures.flows

pub returns-in-Compare-clause-refused : goal.returns-in-Compare-clause-refused
returns-in-Compare-clause-refused c = fails _ _ c.args.state.now _ c.args.op c.compare.result c.in-Compare.is c.compare.ensures.refused

pub returns-in-Equality-clause-flows : goal.returns-in-Equality-clause-flows
returns-in-Equality-clause-flows c = goes _ _ c.args.state.now _ c.args.op c.equality.new.state c.equality.result c.in-Equality.is c.equality.ensures.flows

pub returns-in-Equality-clause-refused : goal.returns-in-Equality-clause-refused
returns-in-Equality-clause-refused c = fails _ _ c.args.state.now _ c.args.op c.equality.result c.in-Equality.is c.equality.ensures.refused

pub returns-in-Not-clause-flows : goal.returns-in-Not-clause-flows
returns-in-Not-clause-flows c = goes _ _ c.args.state.now _ c.args.op c.args.state.now c.negation.result c.in-Not.is c.negation.ensures.flows

pub returns-in-Not-clause-refused : goal.returns-in-Not-clause-refused
returns-in-Not-clause-refused c = fails _ _ c.args.state.now _ c.args.op c.negation.result c.in-Not.is c.negation.ensures.refused

pub returns-in-Logic-clause-flows : goal.returns-in-Logic-clause-flows
returns-in-Logic-clause-flows c = goes _ _ c.args.state.now _ c.args.op c.logic.new.state c.logic.result c.in-Logic.is c.logic.ensures.flows

pub returns-in-Logic-clause-refused : goal.returns-in-Logic-clause-refused
returns-in-Logic-clause-refused c = fails _ _ c.args.state.now _ c.args.op c.logic.result c.in-Logic.is c.logic.ensures.refused

pub returns-in-PushEnum-clause-flows : goal.returns-in-PushEnum-clause-flows
returns-in-PushEnum-clause-flows c = goes_enum _ _ c.args.state.now c.in-PushEnum.sort c.in-PushEnum.index c.args.op c.push_enum.new.state c.push_enum.result c.in-PushEnum.is c.push_enum.ensures.flows

pub returns-in-PushEnum-clause-refused : goal.returns-in-PushEnum-clause-refused
returns-in-PushEnum-clause-refused c = fails_enum _ _ c.args.state.now c.in-PushEnum.sort c.in-PushEnum.index c.args.op c.push_enum.result c.in-PushEnum.is c.push_enum.ensures.refused

pub returns-in_ok-pop-in-Pop-clause-flows : goal.returns-in_ok-pop-in-Pop-clause-flows
returns-in_ok-pop-in-Pop-clause-flows c = goes_on _ _ c.args.state.now _ c.args.op c.pop.new.state c.in-Pop.is c.in_ok-pop-in-Pop.ensures.flows

pub returns-in_err-pop-in-Pop-clause-refused : goal.returns-in_err-pop-in-Pop-clause-refused
returns-in_err-pop-in-Pop-clause-refused c =
    let p = err_from_is_err_and c.from_residual.result c.from_residual.ensures.1 in
    rw (p.1, p.2) (fails_on _ _ c.args.state.now _ c.args.op c.in-Pop.is c.in_err-pop-in-Pop.ensures.err)

pub returns-in_ok-open-in-Open-clause-flows : goal.returns-in_ok-open-in-Open-clause-flows
returns-in_ok-open-in-Open-clause-flows c = goes_on _ _ c.args.state.now _ c.args.op c.open.new.state c.in-Open.is c.in_ok-open-in-Open.ensures.flows

pub returns-in_err-open-in-Open-clause-refused : goal.returns-in_err-open-in-Open-clause-refused
returns-in_err-open-in-Open-clause-refused c =
    let p = err_from_is_err_and c.from_residual-in_err-open-in-Open.result c.from_residual-in_err-open-in-Open.ensures.1 in
    rw (p.1, p.2) (fails_on _ _ c.args.state.now _ c.args.op c.in-Open.is c.in_err-open-in-Open.ensures.err)

pub returns-in_ok-close-in-Close-clause-flows : goal.returns-in_ok-close-in-Close-clause-flows
returns-in_ok-close-in-Close-clause-flows c = goes_on _ _ c.args.state.now _ c.args.op c.close.new.state c.in-Close.is c.in_ok-close-in-Close.ensures.flows

pub returns-in_err-close-in-Close-clause-refused : goal.returns-in_err-close-in-Close-clause-refused
returns-in_err-close-in-Close-clause-refused c =
    let p = err_from_is_err_and c.from_residual-in_err-close-in-Close.result c.from_residual-in_err-close-in-Close.ensures.1 in
    rw (p.1, p.2) (fails_on _ _ c.args.state.now _ c.args.op c.in-Close.is c.in_err-close-in-Close.ensures.err)

pub returns-in_ok-emit-in-Emit-clause-flows : goal.returns-in_ok-emit-in-Emit-clause-flows
returns-in_ok-emit-in-Emit-clause-flows c = goes_on _ _ c.args.state.now _ c.args.op c.emit.new.state c.in-Emit.is c.in_ok-emit-in-Emit.ensures.flows

pub returns-in_err-emit-in-Emit-clause-refused : goal.returns-in_err-emit-in-Emit-clause-refused
returns-in_err-emit-in-Emit-clause-refused c =
    let p = err_from_is_err_and c.from_residual-in_err-emit-in-Emit.result c.from_residual-in_err-emit-in-Emit.ensures.1 in
    rw (p.1, p.2) (fails_on _ _ c.args.state.now _ c.args.op c.in-Emit.is c.in_err-emit-in-Emit.ensures.err)

pub returns-in-Get-clause-rule : goal.returns-in-Get-clause-rule
returns-in-Get-clause-rule c = named c.args.sorts.now c.args.callees.now c.args.state.now _ c.args.op c.get.result c.in-Get.is c.get.ensures.rule

pub returns-in-Arithmetic-clause-rule : goal.returns-in-Arithmetic-clause-rule
returns-in-Arithmetic-clause-rule c = named c.args.sorts.now c.args.callees.now c.args.state.now _ c.args.op c.arithmetic.result c.in-Arithmetic.is c.arithmetic.ensures.rule

pub returns-in-Negate-clause-rule : goal.returns-in-Negate-clause-rule
returns-in-Negate-clause-rule c = named c.args.sorts.now c.args.callees.now c.args.state.now _ c.args.op c.negate.result c.in-Negate.is c.negate.ensures.rule

pub returns-in-Absolute-clause-rule : goal.returns-in-Absolute-clause-rule
returns-in-Absolute-clause-rule c = named c.args.sorts.now c.args.callees.now c.args.state.now _ c.args.op c.absolute.result c.in-Absolute.is c.absolute.ensures.rule

pub returns-in-Compare-clause-rule : goal.returns-in-Compare-clause-rule
returns-in-Compare-clause-rule c = named c.args.sorts.now c.args.callees.now c.args.state.now _ c.args.op c.compare.result c.in-Compare.is c.compare.ensures.rule

pub returns-in-Equality-clause-rule : goal.returns-in-Equality-clause-rule
returns-in-Equality-clause-rule c = named c.args.sorts.now c.args.callees.now c.args.state.now _ c.args.op c.equality.result c.in-Equality.is c.equality.ensures.rule

pub returns-in-Not-clause-rule : goal.returns-in-Not-clause-rule
returns-in-Not-clause-rule c = named c.args.sorts.now c.args.callees.now c.args.state.now _ c.args.op c.negation.result c.in-Not.is c.negation.ensures.rule

pub returns-in-Logic-clause-rule : goal.returns-in-Logic-clause-rule
returns-in-Logic-clause-rule c = named c.args.sorts.now c.args.callees.now c.args.state.now _ c.args.op c.logic.result c.in-Logic.is c.logic.ensures.rule

pub returns-in-PushEnum-clause-rule : goal.returns-in-PushEnum-clause-rule
returns-in-PushEnum-clause-rule c =
    named_enum c.args.sorts.now c.args.callees.now c.args.state.now c.in-PushEnum.sort c.in-PushEnum.index
    c.args.op c.push_enum.result c.in-PushEnum.is c.push_enum.ensures.rule

pub returns-in_err-pop-in-Pop-clause-rule : goal.returns-in_err-pop-in-Pop-clause-rule
returns-in_err-pop-in-Pop-clause-rule c =
    let p = err_from_is_err_and c.from_residual.result c.from_residual.ensures.1 in
    rw (p.1, p.2) (named_on c.args.sorts.now c.args.callees.now c.args.state.now _ c.args.op _ c.in-Pop.is c.in_err-pop-in-Pop.ensures.rule)

pub returns-in_err-open-in-Open-clause-rule : goal.returns-in_err-open-in-Open-clause-rule
returns-in_err-open-in-Open-clause-rule c =
    let p = err_from_is_err_and c.from_residual-in_err-open-in-Open.result c.from_residual-in_err-open-in-Open.ensures.1 in
    rw (p.1, p.2) (named_on c.args.sorts.now c.args.callees.now c.args.state.now _ c.args.op _ c.in-Open.is c.in_err-open-in-Open.ensures.rule)

pub returns-in_err-close-in-Close-clause-rule : goal.returns-in_err-close-in-Close-clause-rule
returns-in_err-close-in-Close-clause-rule c =
    let p = err_from_is_err_and c.from_residual-in_err-close-in-Close.result c.from_residual-in_err-close-in-Close.ensures.1 in
    rw (p.1, p.2) (named_on c.args.sorts.now c.args.callees.now c.args.state.now _ c.args.op _ c.in-Close.is c.in_err-close-in-Close.ensures.rule)

pub returns-in_err-emit-in-Emit-clause-rule : goal.returns-in_err-emit-in-Emit-clause-rule
returns-in_err-emit-in-Emit-clause-rule c =
    let p = err_from_is_err_and c.from_residual-in_err-emit-in-Emit.result c.from_residual-in_err-emit-in-Emit.ensures.1 in
    rw (p.1, p.2) (named_on c.args.sorts.now c.args.callees.now c.args.state.now _ c.args.op _ c.in-Emit.is c.in_err-emit-in-Emit.ensures.rule)
