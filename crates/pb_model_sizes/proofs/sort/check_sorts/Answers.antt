use Rattle.std.proofs.Common.{◌∙◌, ◌+◌, List, drop, ap, arith, rules}
use Rattle.std.specs.Prelude.{flat_map}
use Rattle.std.proofs.lemmas.List.{drop_all}
use Rattle.pb_typing_declarations.specs.Faults.{IsAmong}
use Rattle.pb_typing_declarations.specs.View.{spec_of}
use Rattle.pb_typing_declarations.proofs.Parts.{among_first, first_clear}
use Rattle.pb_protocol_tree.specs.declared.protocol.StateVariables.{StateVariables}
use Rattle.pb_protocol_tree.specs.Form.{state_variables_form}
use Rattle.pb_model_sizes.specs.Sorts.{state_faults, value_faults}
use Rattle.pb_model_sizes.proofs.Lines.{pieces-next}
use Rattle.pb_model_sizes.proofs.sort.check_sorts.Goals as goal

pub returns-in_err-check_group : goal.returns-in_err-check_group
returns-in_err-check_group c =
    let faults = state_faults (spec_of c.args.declarations.now) in
    let groups = c.args.groups.now in
    let k = c.loop-group.group-index in
    let g = c.group-item.result in
    let error = c.in_err-check_group.field-0.0 in
    let all = faults (flat_map state_variables_form groups) in
    let h : IsAmong all error =
    among_first all (faults (state_variables_form g)) (faults (flat_map state_variables_form (drop (k + 1) groups))) error
    (c.loop-group.invariant ∙ pieces-next (value_faults (spec_of c.args.declarations.now)) state_variables_form groups k g c.loop-group-test.true c.group-item.is)
    c.in_err-check_group.ensures in
    search rules

pub loop-group-preserved : goal.loop-group-preserved
loop-group-preserved c =
    let faults = state_faults (spec_of c.args.declarations.now) in
    let groups = c.args.groups.now in
    let k = c.loop-group.group-index in
    let g = c.group-item.result in
    first_clear (faults (flat_map state_variables_form groups)) (faults (state_variables_form g)) (faults (flat_map state_variables_form (drop (k + 1) groups)))
    (c.loop-group.invariant ∙ pieces-next (value_faults (spec_of c.args.declarations.now)) state_variables_form groups k g c.loop-group-test.true c.group-item.is)
    c.in_ok-check_group.ensures

pub returns : goal.returns
returns c =
    let faults = state_faults (spec_of c.args.declarations.now) in
    c.loop-group.invariant
    ∙ ap (λ (gs : List StateVariables). faults (flat_map state_variables_form gs)) (drop_all c.loop-group.group-index c.args.groups.now (omega (arith, c.loop-group-test.false)))
