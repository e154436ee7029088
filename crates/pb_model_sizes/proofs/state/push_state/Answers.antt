-- The lines of one more group.
use Rattle.std.proofs.Common.{◌∙◌, ℕ, ◌+◌, List, ◌++◌, drop, ap, arith}
use Rattle.std.specs.Prelude.{flat_map, string_bytes}
use Rattle.std.proofs.lemmas.List.{drop_all}
use Rattle.pb_typing_declarations.specs.View.{spec_of}
use Rattle.pb_protocol_tree.specs.declared.protocol.StateVariables.{StateVariables}
use Rattle.pb_protocol_tree.specs.Form.{state_variables_form}
use Rattle.pb_model_sizes.specs.Sizes.{state_line}
use Rattle.pb_model_sizes.proofs.Lines.{pieces-next, text-in, text-whole}
use Rattle.pb_model_sizes.proofs.state.push_state.Goals as goal

pub loop-group-preserved : goal.loop-group-preserved
loop-group-preserved c =
    let line = state_line (spec_of c.args.declarations.now) in
    let groups = c.args.groups.now in
    let k = c.loop-group.group-index in
    let g = c.group-item.result in
    let lines = string_bytes c.loop-group.lines in
    text-in _ lines (flat_map line (state_variables_form g)) (flat_map line (flat_map state_variables_form (drop (k + 1) groups))) (string_bytes c.push_group.new.lines)
    (c.loop-group.invariant ∙ ap (λ (t : List ℕ). lines ++ t) (pieces-next line state_variables_form groups k g c.loop-group-test.true c.group-item.is))
    c.in_ok-push_group.ensures

pub returns : goal.returns
returns c =
    let line = state_line (spec_of c.args.declarations.now) in
    text-whole _ (string_bytes c.loop-group.lines) _ c.loop-group.invariant
    (ap (λ (gs : List StateVariables). flat_map line (flat_map state_variables_form gs)) (drop_all c.loop-group.group-index c.args.groups.now (omega (arith, c.loop-group-test.false))))
