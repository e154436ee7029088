use Rattle.std.proofs.Common.{rules}
use Rattle.pb_typing_declarations.proofs.Parts.{among_first}
use Rattle.pb_typing.proofs.FormulaSteps.{arguments_begun, argument_parts, argument_next, arguments_ended}
use Rattle.pb_typing.proofs.instance.check_arguments.Goals as goal

pub loop-index-init : goal.loop-index-init
loop-index-init c = arguments_begun c.args.context.now c.args.arguments.now c.args.carriers.now c.in_ok-checked.ensures.items

pub returns-in_err-typed : goal.returns-in_err-typed
returns-in_err-typed c =
    let next = argument_parts c.loop-index.invariant c.requires c.loop-index-test.true c.index-arguments-index.is c.index-carriers-index.is in
    let h = among_first _ _ _ c.in_err-typed.field-0.0 next c.in_err-typed.ensures in
    search rules

pub loop-index-preserved : goal.loop-index-preserved
loop-index-preserved c =
    argument_next c.in_ok-typed.typed c.loop-index.invariant c.requires c.loop-index-test.true c.index-arguments-index.is c.index-carriers-index.is
    c.in_ok-push.ensures.items c.in_ok-typed.ensures

pub returns : goal.returns
returns c = arguments_ended c.loop-index.invariant c.loop-index-test.false
