use Rattle.std.proofs.Common.{◌≡◌, ◌∙◌, List, [], ap, sym}
use Rattle.pb_text_tree.specs.declared.variable.Variables.{Variables}
use Rattle.pb_text_tree.specs.Form.{Named, variable_forms}
use Rattle.pb_text_meaning.specs.Erase.{erased_variables}
use Rattle.pb_model_tree.specs.declared.step.Assignment as tree_assignment
use Rattle.pb_protocol_packing.specs.Said.{Scope, hidden, said}
use Rattle.pb_protocol_packing.specs.Packing.{with_groups}
use Rattle.pb_protocol_packer.specs.View.{term_of, variables_in}
use Rattle.pb_protocol_packer.specs.Groups.{groups_in}
use Rattle.pb_protocol_packer.specs.Given.{given_in}
use Rattle.pb_protocol_packer.specs.Scopes.{table_of}
use Rattle.pb_protocol_packer.specs.Steps.{assignments_in, assignments_said, step_of}
use Rattle.pb_protocol_packer.proofs.AssignmentRows.{assignment-forms, packed-assignments, step-same}
use Rattle.pb_protocol_packer.proofs.step.packed_step.Goals as goal

pub returns-clause-meaning : goal.returns-clause-meaning
returns-clause-meaning c =
    let step = c.args.step.now in
    let a = step_of step in
    let gs = groups_in c.args.groups.now in
    let T = table_of c.args.packing.now.table.now in
    let σ = hidden (variables_in c.deref.result.now) T in
    let same : σ ≡ hidden a.variables (with_groups gs []) =
    ap (λ (vs : List Variables). hidden (variables_in vs) T) c.deref.ensures.value ∙ ap (hidden a.variables) c.requires in
    let given : given_in c.deref-4.result.now ≡ assignments_said σ a.assignments =
    ap given_in c.deref-4.ensures.value ∙ c.in_ok-given.ensures
    ∙ ap (λ (bs : List tree_assignment.Assignment). assignments_said σ (assignments_in bs)) c.deref-2.ensures.value
    ∙ ap (assignments_said σ) (sym (assignment-forms step.assignments.items)) in
    step-same (ap (λ (n : Named). n.text) c.in_ok-name.ensures)
    (ap erased_variables (c.in_ok-variables.ensures ∙ ap variable_forms c.deref-3.ensures.value))
    (c.in_ok-guard.ensures ∙ ap (λ (τ : Scope). said τ (term_of step.guard)) same)
    (assignment-forms c.in_ok-assignments.assignments.items ∙ c.in_ok-assignments.ensures ∙ packed-assignments gs a (given_in c.deref-4.result.now) σ same given)
