use Rattle.std.proofs.Common.{◌≡◌, ◌∙◌, ◌++◌, ap, append_assoc, List, flat_map, map, refl, subst}
use Rattle.std.specs.Prelude.{OnOk}
use Rattle.pb_text_tree.specs.declared.variable.Variables.{Variables}
use Rattle.pb_text_tree.specs.Form.{Named, term_form, variable_forms}
use Rattle.pb_typing_declarations.specs.Declarations.{variable_names}
use Rattle.pb_model_tree.specs.declared.step.Assignment.{Assignment}
use Rattle.pb_model_tree.specs.Form.{assignment_form}
use Rattle.pb_protocol_typing.specs.View.{names_in}
use Rattle.pb_protocol_groups.specs.Bound.{assigned_bound_names, bound_names}
use Rattle.pb_protocol_groups.proofs.Bound.{two-parts}
use Rattle.pb_protocol_groups.proofs.bound_names.push_step.Goals as goal

pub returns : goal.returns
returns c =
    let s = c.args.step.now in
    let old = names_in c.args.names.now.items in
    let own = λ (gs : List Variables). variable_names (variable_forms gs) in
    let assigned = λ (bs : List Assignment). flat_map assigned_bound_names (map assignment_form bs) in
    let a = own c.deref.result.now in
    let b = bound_names (term_form s.guard) in
    let d = assigned c.deref-2.result.now in
    subst (λ (xs : List Named). OnOk c.push_assignments.result (names_in c.push_assignments.new.names.items ≡ xs))
    (ap (λ (ns : List Named). ns ++ d)
    (two-parts old (names_in c.push_names.new.names.items) (names_in c.push_term.new.names.items) a b (a ++ b) c.in_ok-push_names.ensures c.in_ok-push_term.ensures refl)
    ∙ append_assoc old (a ++ b) d
    ∙ ap (λ (ns : List Named). old ++ ns)
    (append_assoc a b d ∙ ap (λ (gs : List Variables). own gs ++ (b ++ d)) c.deref.ensures.value
    ∙ ap (λ (bs : List Assignment). own s.variables.items ++ (b ++ assigned bs)) c.deref-2.ensures.value))
    c.push_assignments.ensures
