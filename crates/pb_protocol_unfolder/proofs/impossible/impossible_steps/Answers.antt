use Rattle.std.proofs.Common.{◌≤◌, ◌∙◌, ap, arith, subst, flat_map, length, List, map, string_bytes}
use Rattle.pb_protocol_tree.specs.declared.protocol.Protocol.{Protocol}
use Rattle.pb_protocol_tree.specs.declared.step.Step.{Step}
use Rattle.pb_protocol_tree.specs.Form.{step_form}
use Rattle.pb_protocol_meaning.specs.Erase.{erased_step}
use Rattle.pb_protocol_unfolding.specs.Unfolding.{instances_of}
use Rattle.pb_protocol_unfolder_steps.specs.Unfolder.{protocol_in}
use Rattle.pb_protocol_unfolder.specs.Parts.{OfManyTuples}
use Rattle.pb_protocol_unfolder.proofs.FaultLemmas.{refused}
use Rattle.pb_protocol_unfolder.proofs.ImpossibleLemmas.{named-so-far, names_of, no-more-than-all, own_instances, rest-behind}
use Rattle.pb_protocol_unfolder.proofs.impossible.impossible_steps.Goals as goal

pub loop-step-preserved : goal.loop-step-preserved
loop-step-preserved c =
    let steps = c.deref-step-items.result.now in
    let k = c.loop-step.step-index in
    let rest = c.loop-step.rest.now in
    let count = c.in_ok-count.count in
    record {
      kept = rest-behind (protocol_in c.args.unfolder.now) steps k c.step-item.result rest c.split_at.result.1.now count c.loop-step-test.true c.step-item.is c.loop-step.invariant.kept
          c.in_ok-count.ensures.count
          c.split_at.ensures.back;
      names = named-so-far (protocol_in c.args.unfolder.now) steps k c.step-item.result rest c.split_at.result.0.now count (map string_bytes c.loop-step.names.items)
          (map string_bytes c.push_unless_kept.new.names.items) (names_of (protocol_in c.args.unfolder.now) steps)
          c.loop-step-test.true c.step-item.is c.loop-step.invariant.kept c.in_ok-count.ensures.count c.split_at.ensures.front c.in_ok-push_unless_kept.ensures c.loop-step.invariant.names;
    }

pub returns-in_err-count-clause-refused : goal.returns-in_err-count-clause-refused
returns-in_err-count-clause-refused c =
    let m = protocol_in c.args.unfolder.now in
    let a = c.step-item.result in
    let own = own_instances m a in
    let few : length own ≤ length (flat_map (instances_of m) m.steps) =
    subst (λ (ss : List Step). length own ≤ length (flat_map (instances_of m) (map erased_step (map step_form ss))))
    (c.deref-step-items.ensures.value ∙ ap (λ (p : Protocol). p.steps.items) c.protocol.ensures)
    (no-more-than-all m c.deref-step-items.result.now c.loop-step.step-index a c.loop-step-test.true c.step-item.is) in
    refused c.from_residual.result c.in_err-count.field-0.0 (OfManyTuples a.name.place own) (λ f. ⊥)
    c.from_residual.ensures.1 (λ f o. omega (arith, o.1, few, c.requires.few)) c.in_err-count.ensures.refused
