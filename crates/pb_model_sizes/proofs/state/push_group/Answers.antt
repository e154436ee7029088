-- The line of one more variable.
use Rattle.std.proofs.Common.{◌∙◌, ℕ, ◌+◌, List, ◌++◌, drop, map, sym, ap, arith}
use Rattle.std.specs.Prelude.{flat_map, string_bytes}
use Rattle.std.proofs.lemmas.List.{drop_all}
use Rattle.pb_sorts.proofs.Places.{drop-at}
use Rattle.pb_text_tree.specs.Form.{named, variable_forms}
use Rattle.pb_typing_declarations.specs.View.{spec_of}
use Rattle.pb_protocol_tree.specs.declared.protocol.StateVariable.{StateVariable}
use Rattle.pb_protocol_tree.specs.Form.{state_variable_form}
use Rattle.pb_model_sizes.specs.Sizes.{state_line, variable_line}
use Rattle.pb_model_sizes.proofs.Lines.{text-in, text-whole}
use Rattle.pb_model_sizes.proofs.state.push_group.Goals as goal

pub loop-variable-init : goal.loop-variable-init
loop-variable-init c =
    let line = state_line (spec_of c.args.declarations.now) in
    ap (λ (xs : List StateVariable). string_bytes c.args.lines.now ++ flat_map line (map (state_variable_form c.args.group.now.sort) xs)) (sym c.deref-variable-items.ensures.value)

pub loop-variable-preserved : goal.loop-variable-preserved
loop-variable-preserved c =
    let spec = spec_of c.args.declarations.now in
    let form = state_variable_form c.args.group.now.sort in
    let items = c.deref-variable-items.result.now in
    let k = c.loop-variable.variable-index in
    let x = c.variable-item.result in
    let lines = string_bytes c.loop-variable.lines in
    text-in _ lines (state_line spec (form x)) (flat_map (state_line spec) (map form (drop (k + 1) items))) (string_bytes c.push_variable.new.lines)
    (c.loop-variable.invariant ∙ ap (λ (xs : List StateVariable). lines ++ flat_map (state_line spec) (map form xs)) (drop-at items k x c.loop-variable-test.true c.variable-item.is))
    (c.in_ok-push_variable.ensures ∙ ap (λ (s : ℕ). lines ++ variable_line spec s (named x.name).text (variable_forms x.indices.items)) c.value_count-size.ensures.count)

pub returns : goal.returns
returns c =
    let spec = spec_of c.args.declarations.now in
    let form = state_variable_form c.args.group.now.sort in
    text-whole _ (string_bytes c.loop-variable.lines) _ c.loop-variable.invariant
    (ap (λ (xs : List StateVariable). flat_map (state_line spec) (map form xs)) (drop_all c.loop-variable.variable-index c.deref-variable-items.result.now (omega (arith, c.loop-variable-test.false))))
