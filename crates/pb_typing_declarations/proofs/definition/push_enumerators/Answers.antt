use Rattle.std.proofs.Common.{Bool, rules, subst}
use Rattle.pb_text_tree.specs.Form.{enumerator_form, recogniser_form, named}
use Rattle.pb_typing_declarations.specs.declared.fault.TypingRule.TheVariants.{Limit}
use Rattle.pb_base.specs.declared.or_memory.OrMemory.TheVariants.{Refused}
use Rattle.pb_typing_declarations.specs.Faults.{unless, length_faults, IsAmong}
use Rattle.pb_typing_declarations.specs.Declarations.{enumerator_faults, recogniser_faults}
use Rattle.pb_typing_declarations.proofs.Parts.{among_left, among_right}
use Rattle.pb_typing_declarations.proofs.Loops.{among_item}
use Rattle.pb_typing_declarations.proofs.definition.push_enumerators.Goals as goal

pub returns-in_err-require : goal.returns-in_err-require
returns-in_err-require c =
    let x = c.index-enumerators-index in
    let e = Refused c.in_err-require.field-0.0 in
    let h =
    among_item enumerator_faults enumerator_form c.args.enumerators.now c.loop-index.index x.result e c.loop-index-test.true x.is c.loop-index.invariant.left
    (among_left (length_faults (named x.result.name)) (recogniser_faults (recogniser_form x.result.recogniser)) e
    (subst (λ (b : Bool). IsAmong (unless b Limit x.result.name.place) e) c.is_short.ensures c.in_err-require.ensures)) in
    search rules

pub returns-in_err-push_recogniser : goal.returns-in_err-push_recogniser
returns-in_err-push_recogniser c =
    let x = c.index-enumerators-index in
    let e = c.in_err-push_recogniser.field-0.0 in
    let h =
    among_item enumerator_faults enumerator_form c.args.enumerators.now c.loop-index.index x.result e c.loop-index-test.true x.is c.loop-index.invariant.left
    (among_right (length_faults (named x.result.name)) (recogniser_faults (recogniser_form x.result.recogniser)) e c.in_err-push_recogniser.ensures) in
    search rules
