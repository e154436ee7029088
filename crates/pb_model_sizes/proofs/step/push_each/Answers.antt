-- The line of one more.
use Rattle.std.proofs.Common.{◌∙◌, ◌+◌, List, ◌++◌, drop, map, ap, arith}
use Rattle.std.specs.Prelude.{flat_map, string_bytes}
use Rattle.std.proofs.lemmas.List.{drop_all}
use Rattle.pb_sorts.proofs.Places.{drop-at}
use Rattle.pb_typing_declarations.specs.View.{spec_of}
use Rattle.pb_protocol_tree.specs.declared.step.Step.{Step}
use Rattle.pb_protocol_tree.specs.Form.{step_form}
use Rattle.pb_model_sizes.specs.Sizes.{step_line}
use Rattle.pb_model_sizes.proofs.Lines.{text-in, text-whole}
use Rattle.pb_model_sizes.proofs.step.push_each.Goals as goal

pub loop-step-preserved : goal.loop-step-preserved
loop-step-preserved c =
    let line = step_line (spec_of c.args.declarations.now) in
    let all = c.args.steps.now in
    let k = c.loop-step.step-index in
    let x = c.step-item.result in
    let lines = string_bytes c.loop-step.lines in
    text-in _ lines (line (step_form x)) (flat_map line (map step_form (drop (k + 1) all))) (string_bytes c.push_step.new.lines)
    (c.loop-step.invariant ∙ ap (λ (xs : List Step). lines ++ flat_map line (map step_form xs)) (drop-at all k x c.loop-step-test.true c.step-item.is))
    c.in_ok-push_step.ensures

pub returns : goal.returns
returns c =
    let line = step_line (spec_of c.args.declarations.now) in
    text-whole _ (string_bytes c.loop-step.lines) _ c.loop-step.invariant
    (ap (λ (xs : List Step). flat_map line (map step_form xs)) (drop_all c.loop-step.step-index c.args.steps.now (omega (arith, c.loop-step-test.false))))
