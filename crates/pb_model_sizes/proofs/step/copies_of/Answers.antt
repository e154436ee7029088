-- A summand for each step.
use Rattle.std.proofs.Common.{◌∙◌, ◌+◌, List, drop, map, sym, ap, arith}
use Rattle.std.proofs.lemmas.List.{drop_all}
use Rattle.pb_sorts.proofs.Places.{drop-at}
use Rattle.pb_text_tree.specs.Form.{variable_forms}
use Rattle.pb_typing_declarations.specs.View.{spec_of}
use Rattle.pb_protocol_tree.specs.declared.step.Step.{Step}
use Rattle.pb_protocol_tree.specs.Form.{step_form}
use Rattle.pb_model_sizes.specs.Counts.{all_copies, capped, tuples_of}
use Rattle.pb_model_sizes.proofs.Capped.{summand-in}
use Rattle.pb_model_sizes.proofs.step.copies_of.Goals as goal

pub loop-step-preserved : goal.loop-step-preserved
loop-step-preserved c =
    let spec = spec_of c.args.declarations.now in
    let steps = c.args.steps.now in
    let k = c.loop-step.step-index in
    let x = c.step-item.result in
    let sum = c.loop-step.sum in
    let e = tuples_of spec (variable_forms x.variables.items) in
    record {
      left = c.loop-step.invariant.left
          ∙ (ap (λ (xs : List Step). capped (sum + all_copies spec (map step_form xs))) (drop-at steps k x c.loop-step-test.true c.step-item.is)
          ∙ summand-in sum e (all_copies spec (map step_form (drop (k + 1) steps))) c.tuples_of.result c.saturating_add-sum.result
          (c.tuples_of.ensures ∙ ap (λ gs. capped (tuples_of spec (variable_forms gs))) c.deref.ensures.value) c.saturating_add-sum.ensures);
      fits = omega arith;
    }

pub returns : goal.returns
returns c =
    let spec = spec_of c.args.declarations.now in
    let sum = c.loop-step.sum in
    sym (c.loop-step.invariant.left
    ∙ (ap (λ (xs : List Step). capped (sum + all_copies spec (map step_form xs))) (drop_all c.loop-step.step-index c.args.steps.now (omega (arith, c.loop-step-test.false)))
    ∙ (omega arith)))
