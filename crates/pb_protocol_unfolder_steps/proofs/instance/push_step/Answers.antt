use Rattle.std.proofs.Common.{◌≡◌, ◌∙◌, ◌++◌, ap, sym, List, map}
use Rattle.pb_text_tree.specs.declared.place.Place.{Place}
use Rattle.pb_text_tree.specs.declared.variable.Variables.{Variables}
use Rattle.pb_text_tree.specs.Form.{variable_forms}
use Rattle.pb_text_meaning.specs.Syntax.{Term, Spec}
use Rattle.pb_text_meaning.specs.Erase.{erased_variables}
use Rattle.pb_protocol_tree.specs.declared.protocol.Protocol.{Protocol}
use Rattle.pb_protocol_meaning.specs.Erase.{protocol_of}
use Rattle.pb_protocol_meaning.specs.Steps.{data_of}
use Rattle.pb_protocol_unfolding.specs.Unfolding.{Instance}
use Rattle.pb_protocol_unfolding.specs.Written.{written_tuples}
use Rattle.pb_protocol_unfolder_terms.specs.View.{spec_of}
use Rattle.pb_protocol_unfolder_terms.specs.Values.{tuple_of}
use Rattle.pb_protocol_unfolder_steps.specs.Elements.{instance_at, instance_said, own_variables}
use Rattle.pb_protocol_unfolder_steps.specs.Refusals.{instance_place, each_at}
use Rattle.pb_protocol_unfolder_steps.proofs.InstanceLemmas.{tuples_for, written-instances, written-places}
use Rattle.pb_protocol_unfolder_steps.proofs.RefusalLemmas.{placed-along}
use Rattle.pb_protocol_unfolder_steps.proofs.instance.push_step.Goals.{In_ok-tuples}
use Rattle.pb_protocol_unfolder_steps.proofs.instance.push_step.Goals as goal

-- the tuples are those of the protocol
tuples : (c : In_ok-tuples) → map tuple_of c.in_ok-tuples.tuples.items ≡ tuples_for (protocol_of c.args.whole.now) c.args.step.now
tuples c =
    c.in_ok-tuples.ensures
    ∙ ap (λ (vs : List Variables). written_tuples (spec_of c.sorts_of-sorts.result) (erased_variables (variable_forms vs))) c.deref.ensures.value
    ∙ ap (λ (d : Spec). written_tuples d (own_variables c.args.step.now)) (c.sorts_of-sorts.ensures ∙ ap (λ (p : Protocol). data_of (protocol_of p)) c.protocol.ensures)

pub returns-clause-instances : goal.returns-clause-instances
returns-clause-instances c =
    let a = c.args.step.now in
    c.in_ok-push_with.ensures.instances
    ∙ ap (λ (v : List Instance). map instance_said c.args.instances.now.items ++ v)
    (ap (map (instance_at a)) (tuples (goal.at.returns-clause-instances c).In_ok-tuples) ∙ written-instances (protocol_of c.args.whole.now) a (sym c.if-branch.false ∙ c.in_ok-has.ensures))

pub returns-clause-places : goal.returns-clause-places
returns-clause-places c =
    let a = c.args.step.now in
    let p = a.name.place in
    c.in_ok-push_with.ensures.places
    ∙ ap (λ (v : List Place). map instance_place c.args.instances.now.items ++ v)
    (sym (placed-along p tuple_of c.in_ok-tuples.tuples.items) ∙ ap (λ (v : List (List Term)). each_at p v) (tuples (goal.at.returns-clause-places c).In_ok-tuples)
    ∙ written-places (protocol_of c.args.whole.now) a (sym c.if-branch.false ∙ c.in_ok-has.ensures))
