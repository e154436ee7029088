use Rattle.std.proofs.Common.{◌≡◌, ◌<◌, ◌∙◌, ℕ, ap, sym, subst, length, List, map}
use Rattle.pb_text_tree.specs.declared.variable.Variables.{Variables}
use Rattle.pb_text_tree.specs.Form.{variable_forms}
use Rattle.pb_text_meaning.specs.Syntax as syntax
use Rattle.pb_text_meaning.specs.Erase.{erased_variables}
use Rattle.pb_protocol_tree.specs.Form.{step_form}
use Rattle.pb_protocol_tree.specs.declared.protocol.Protocol.{Protocol}
use Rattle.pb_protocol_meaning.specs.Erase.{erased_step, protocol_of}
use Rattle.pb_protocol_unfolding.specs.Unfolding.{is_whole}
use Rattle.pb_protocol_unfolder_terms.specs.declared.sorts.Variable.{Variable}
use Rattle.pb_protocol_unfolder_terms.specs.View.{variable_of}
use Rattle.pb_protocol_unfolder_steps.specs.Elements.{instances_of_step}
use Rattle.pb_protocol_unfolder_steps.specs.Unfolder.{protocol_in}
use Rattle.pb_protocol_unfolder_steps.proofs.InstanceLemmas.{written-counted}
use Rattle.pb_protocol_unfolder.specs.Copies.{tuples_in}
use Rattle.pb_protocol_unfolder.specs.Parts.{OfManyTuples}
use Rattle.pb_protocol_unfolder.proofs.FaultLemmas.{refused}
use Rattle.pb_protocol_unfolder.proofs.impossible.instance_count.Goals as goal

pub returns-in_err-tuples-clause-refused : goal.returns-in_err-tuples-clause-refused
returns-in_err-tuples-clause-refused c =
    let u = c.args.unfolder.now in
    let a = c.args.step.now in
    let b = erased_step (step_form a) in
    let ts = tuples_in u (map variable_of c.deref-2.result.now) in
    let same : length ts ≡ length (instances_of_step (protocol_in u) a) =
    ap (λ (vs : List Variable). length (tuples_in u (map variable_of vs))) c.deref-2.ensures.value
    ∙ ap (λ (vs : List syntax.Variable). length (tuples_in u vs)) (c.in_ok-variables.ensures ∙ ap (λ (gs : List Variables). erased_variables (variable_forms gs)) c.deref.ensures.value)
    ∙ written-counted (protocol_in u) a (sym c.if-branch.false ∙ c.in_ok-has.ensures ∙ ap (λ (p : Protocol). is_whole (protocol_of p) b) c.requires) in
    refused c.from_residual-in_err-tuples.result c.in_err-tuples.field-0.0 (OfManyTuples a.name.place ts)
    (OfManyTuples a.name.place (instances_of_step (protocol_in u) a)) c.from_residual-in_err-tuples.ensures.1
    (λ f o. (o.0, subst (λ (n : ℕ). 8192 < n) same o.1)) c.in_err-tuples.ensures.refused
