use Rattle.std.proofs.Common.{◌≡◌, ◌∙◌, ◌<◌, ap, subst, ℕ, length, List, map, flat_map}
use Rattle.pb_text_meaning.specs.Syntax.{Variable}
use Rattle.pb_protocol_meaning.specs.Erase.{protocol_of}
use Rattle.pb_protocol_meaning.specs.Steps.{data_of}
use Rattle.pb_protocol_unfolding.specs.Unfolding.{all_elements}
use Rattle.pb_protocol_unfolding.specs.Written.{written_tuples}
use Rattle.pb_protocol_unfolder_steps.specs.Initial.{argument_term, indices_behind, indices_of_state, initial_terms_of}
use Rattle.pb_protocol_unfolder_steps.proofs.InitialLemmas.{elements-counted, initial-said}
use Rattle.pb_protocol_unfolder_steps.proofs.RefusalLemmas.{refused-so}
use Rattle.pb_protocol_unfolder_steps.proofs.OkLemmas.{if-ok}
use Rattle.pb_protocol_tree.specs.Form.{protocol_form}
use Rattle.pb_protocol_unfolder_steps.specs.StepFaults.{IsFaultAtStart, IsFaultInValues, IsTermOr, indices_at, argument_form}
use Rattle.pb_protocol_unfolder_steps.proofs.StepFaultLemmas.{indices-of-state, term-or, values-said}
use Rattle.pb_protocol_unfolder_steps.proofs.initial.initial_terms.Goals as goal
use Rattle.pb_protocol_unfolder_steps.proofs.initial.initial_terms.Goals.{After-values_of}

-- the variables and the values are those of the tree
variables-here : (c : After-values_of) → map indices_behind c.deref-2.result.now ≡ indices_of_state c.args.protocol.now.state.items
variables-here c = ap (map indices_behind) c.deref-2.ensures.value ∙ c.in_ok-variables.ensures ∙ ap indices_of_state c.deref.ensures.value

pub returns-clause-terms : goal.returns-clause-terms
returns-clause-terms c =
    let m = protocol_of c.args.protocol.now in
    let xs = map argument_term c.deref-3.result.now in
    let of-tree =
    ap (λ v. initial_terms_of m v xs) (variables-here (goal.at.returns-clause-terms c).After-values_of)
    ∙ ap (λ v. initial_terms_of m (indices_of_state c.args.protocol.now.state.items) (map argument_term v)) c.deref-3.ensures.value in
    if-ok c.values_of.result (λ v same. initial-said c.args.protocol.now v.items (same ∙ of-tree)) c.values_of.ensures.terms

pub returns-clause-refused : goal.returns-clause-refused
returns-clause-refused c =
    let p = c.args.protocol.now in
    let F = protocol_form p in
    let count : List (List Variable) → ℕ = λ iss. length (flat_map (written_tuples (data_of (protocol_of p))) iss) in
    let variables = variables-here (goal.at.returns-clause-refused c).After-values_of in
    let values = ap (map argument_form) c.deref-3.ensures.value ∙ values-said p.initial.values.items in
    refused-so (IsTermOr (8192 < count (map indices_behind c.deref-2.result.now)) (IsFaultInValues F (map indices_behind c.deref-2.result.now) (map argument_form c.deref-3.result.now)))
    (IsTermOr (8192 < length (all_elements (protocol_of p))) (IsFaultAtStart F)) c.values_of.result
    (term-or _ _ _ _ (subst (λ (n : ℕ). 8192 < n) (ap count variables ∙ elements-counted p))
    (λ r q o. subst (λ xs. IsFaultInValues F (map indices_at F.variables) xs r q) values
    (subst (λ iss. IsFaultInValues F iss (map argument_form c.deref-3.result.now) r q) (variables ∙ indices-of-state p.state.items) o))) c.values_of.ensures.refused
