use Rattle.std.proofs.Common.{◌∙◌, ◌++◌, ap, sym, List, map}
use Rattle.pb_text_tree.specs.declared.place.Place.{Place}
use Rattle.pb_text_tree.specs.declared.variable.Variables.{Variables}
use Rattle.pb_text_tree.specs.Form.{variable_forms}
use Rattle.pb_text_meaning.specs.Syntax.{Term}
use Rattle.pb_text_meaning.specs.Erase.{erased_variables}
use Rattle.pb_protocol_unfolding.specs.Written.{written_tuples}
use Rattle.pb_protocol_unfolder_terms.specs.View.{spec_of}
use Rattle.pb_protocol_unfolder_terms.specs.Values.{tuple_of}
use Rattle.pb_protocol_unfolder_steps.specs.Elements.{element_at}
use Rattle.pb_protocol_unfolder_steps.specs.Refusals.{element_place, each_at}
use Rattle.pb_protocol_unfolder_steps.proofs.RefusalLemmas.{placed-along}
use Rattle.pb_protocol_unfolder_steps.proofs.element.push_elements.Goals as goal

pub returns-clause-places : goal.returns-clause-places
returns-clause-places c =
    let y = c.args.variable.now in
    let p = y.name.place in
    let tuples : List Variables → List (List Term) = λ vs. written_tuples (spec_of c.args.sorts) (erased_variables (variable_forms vs)) in
    c.in_ok-push_at.ensures.places
    ∙ ap (λ (v : List Place). map element_place c.args.elements.now.items ++ v)
    (sym (placed-along p tuple_of c.in_ok-indices.indices.items)
    ∙ ap (λ (v : List (List Term)). each_at p v) (c.in_ok-indices.ensures ∙ ap tuples c.deref.ensures.value)
    ∙ sym (placed-along p (element_at y.name c.args.sort.now) (tuples y.indices.items)))
