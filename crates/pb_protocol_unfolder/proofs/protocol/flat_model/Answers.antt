use Rattle.std.proofs.Common.{◌∙◌, inl, inr, refl, ap, arith, length, subst, List, map}
use Rattle.std.proofs.lemmas.List.{length-map}
use Rattle.pb_text_tree.specs.declared.sort.SortDeclaration.{SortDeclaration}
use Rattle.pb_text_tree.specs.declared.sort.Range.{Range}
use Rattle.pb_text_tree.specs.Form.{sort_declaration_form, range_form}
use Rattle.pb_text_meaning.specs.Erase.{erased_declaration, erased_range}
use Rattle.pb_model_tree.specs.declared.model.Model.{Model}
use Rattle.pb_model_tree.specs.Form.{model_form}
use Rattle.pb_model_tree.specs.Form as flat_form
use Rattle.pb_protocol_tree.specs.declared.protocol.Property.{Property}
use Rattle.pb_protocol_tree.specs.Form.{property_form, protocol_form}
use Rattle.pb_protocol_unfolding.specs.Unfolding.{Element, all_elements, variable_of}
use Rattle.pb_protocol_unfolder_steps.specs.declared.unfolder.Unfolder.{Unfolder}
use Rattle.pb_protocol_unfolder_steps.specs.Elements.{flat_element}
use Rattle.pb_protocol_unfolder.specs.declared.fault.UnfoldingFault.{UnfoldingFault}
use Rattle.pb_protocol_unfolder_steps.specs.StepFaults.{IsFaultAtStart}
use Rattle.pb_protocol_unfolder_steps.specs.Unfolder.{form_in}
use Rattle.pb_protocol_unfolder.specs.Faults.{IsFaultOfProperties, OfTerm}
use Rattle.pb_protocol_unfolder.specs.Parts.{IsFaultOfModel}
use Rattle.pb_protocol_unfolder.specs.Places.{HavePlaces}
use Rattle.pb_protocol_unfolder.specs.Unfolded.{left_property}
use Rattle.pb_protocol_unfolder.proofs.FaultLemmas.{part-by}
use Rattle.pb_protocol_unfolder.proofs.UnfoldedLemmas.{model-said}
use Rattle.pb_protocol_unfolder.proofs.protocol.flat_model.Goals as goal

pub returns-clause-model : goal.returns-clause-model
returns-clause-model c =
    let u = c.args.unfolder.now in
    let m : Model = record {
      sorts = c.in_ok-sorts.sorts;
      ranges = c.in_ok-ranges.ranges;
      state = c.in_ok-state.state;
      steps = c.args.steps;
      initial = record { place = c.args.protocol.now.initial.place; values = c.in_ok-values.values };
      properties = c.in_ok-properties.properties;
    } in
    model-said u c.args.protocol.now (model_form m) c.args.steps.items c.in_ok-properties.properties.items c.requires.protocol refl refl
    (ap (map erased_declaration) (c.in_ok-sorts.ensures ∙ ap (λ (ds : List SortDeclaration). map sort_declaration_form ds) c.deref.ensures.value))
    (ap (map erased_range) (c.in_ok-ranges.ensures ∙ ap (λ (rs : List Range). map range_form rs) c.deref-2.ensures.value))
    (c.in_ok-state.ensures ∙ ap (λ (es : List Element). map variable_of es) c.elements.ensures.all)
    c.requires.steps c.in_ok-values.ensures.initial
    (c.in_ok-properties.ensures.properties ∙ ap (λ (v : Unfolder). map (left_property v) c.deref-3.result.now) c.new-formulas.ensures
    ∙ ap (λ (ps : List Property). map (left_property u) ps) c.deref-3.ensures.value)

pub returns-clause-formulas : goal.returns-clause-formulas
returns-clause-formulas c =
    subst (λ (ps : List Property). HavePlaces (map property_form ps) (map flat_form.property_form c.in_ok-properties.properties.items))
    c.deref-3.ensures.value c.in_ok-properties.ensures.places

pub returns-in_err-values-clause-refused : goal.returns-in_err-values-clause-refused
returns-in_err-values-clause-refused c =
    let p = c.args.protocol.now in
    part-by c.from_residual-in_err-values.result c.in_err-values.field-0.0 (OfTerm (IsFaultAtStart (protocol_form p)))
    (IsFaultOfModel (protocol_form p) (form_in c.args.unfolder.now) (map property_form p.properties.items))
    c.from_residual-in_err-values.ensures.1
    (λ f o. inl o) c.in_err-values.ensures.refused

pub returns-in_err-properties-clause-refused : goal.returns-in_err-properties-clause-refused
returns-in_err-properties-clause-refused c =
    let m = form_in c.args.unfolder.now in
    let IsFault : Unfolder → UnfoldingFault → Type 0 = λ u. IsFaultOfProperties (form_in u) (map property_form c.deref-3.result.now) in
    part-by c.from_residual-in_err-properties.result c.in_err-properties.field-0.0 (IsFault c.new-formulas.result)
    (IsFaultOfModel (protocol_form c.args.protocol.now) m (map property_form c.args.protocol.now.properties.items)) c.from_residual-in_err-properties.ensures.1
    (λ f is. inr (subst (λ (ps : List Property). IsFaultOfProperties m (map property_form ps) f) c.deref-3.ensures.value
    (subst (λ (u : Unfolder). IsFault u f) c.new-formulas.ensures is))) c.in_err-properties.ensures.refused

pub initial_of-requires : goal.initial_of-requires
initial_of-requires c =
    let all = c.elements.ensures.all ∙ ap all_elements c.requires.protocol in
    omega (arith, c.elements.ensures.few, length-map c.elements.result.now flat_element, ap (λ (es : List Element). length es) all)
