use Rattle.std.proofs.Common.{◌≡◌, ◌≤◌, ◌∙◌, inl, ap, ap₂, arith, length, subst, sym, List, map}
use Rattle.std.specs.Prelude.{filter}
use Rattle.pb_base.specs.OrMemory.{IfRefused}
use Rattle.std.proofs.lemmas.List.{length-map}
use Rattle.pb_text_tree.specs.declared.sort.SortDeclaration.{SortDeclaration}
use Rattle.pb_text_meaning.specs.Syntax.{Name}
use Rattle.pb_protocol_tree.specs.declared.protocol.Protocol.{Protocol}
use Rattle.pb_model_meaning.specs.Syntax as flat
use Rattle.pb_protocol_tree.specs.Form.{ProtocolForm, protocol_form}
use Rattle.pb_protocol_meaning.specs.Erase.{protocol_of}
use Rattle.pb_protocol_meaning.specs.Steps.{data_of}
use Rattle.pb_protocol_folding.specs.FoldedModels.{folded_model, folded_steps}
use Rattle.pb_protocol_folding.specs.Names.{AreDistinct, AreNot, enumerators_in}
use Rattle.pb_protocol_unfolding.specs.Unfolding as definitions
use Rattle.pb_protocol_unfolding.specs.Unfolding.{name_of}
use Rattle.pb_protocol_unfolder_steps.specs.declared.limits.TheConstants.{MAX_WRITTEN_STEPS}
use Rattle.pb_protocol_unfolder_steps.specs.declared.instance.Instance as declared
use Rattle.pb_protocol_unfolder_steps.specs.declared.element.Element as declared_element
use Rattle.pb_protocol_unfolder_steps.specs.declared.step.UnfoldedSteps.{UnfoldedSteps}
use Rattle.pb_protocol_unfolder_steps.specs.Elements.{flat_element, instance_said}
use Rattle.pb_protocol_unfolder_steps.specs.Refusals.{IsPassedIn, element_place, element_places, instance_place, instance_places}
use Rattle.pb_protocol_unfolder_steps.specs.Steps.{is_kept, places_from, step_place, step_said}
use Rattle.pb_protocol_unfolder_steps.specs.StepFaults.{IsFaultInSteps, OnTerm, PlacedInstance, placed_instance, placed_instances}
use Rattle.pb_protocol_unfolder_steps.specs.Unfolder.{form_in, protocol_in}
use Rattle.pb_protocol_unfolder_steps.specs.Written.{AreElementsOf, AreInstancesOf}
use Rattle.pb_protocol_unfolder.specs.Apart.{declarations_said, definition_bytes, definition_place}
use Rattle.pb_protocol_unfolder.specs.Faults.{IsUnfoldingFault, OfTerm}
use Rattle.pb_protocol_unfolder.specs.Parts.{IsFaultBy, IsFaultOfDefinitions, IsFaultOfElements, IsFaultOfInstances, IsFaultOfModel}
use Rattle.pb_protocol_unfolder.specs.Unfolded.{chosen_places}
use Rattle.pb_protocol_unfolder.specs.Told.{impossible_steps, told_element, told_instance, told_steps}
use Rattle.pb_protocol_unfolder.proofs.FaultLemmas.{err-raised, fault-by, model-breaks, ok-raised, refused, term-breaks}
use Rattle.pb_protocol_unfolder.proofs.NameFaults.{definitions-clash, elements-clash, elements-passed, instances-clash, instances-passed, names-said, of-steps-term, places-said}
use Rattle.pb_protocol_unfolder.proofs.UnfoldedLemmas.{kept-instances, apart-instances}
use Rattle.pb_protocol_unfolder.proofs.protocol.unfold.Goals.{In_ok-elements, In_ok-instances, In_ok-left, In_ok-steps}
use Rattle.pb_protocol_unfolder.proofs.protocol.unfold.Goals as goal

-- what is said of the elements, the instances and the steps
elements : (c : In_ok-elements) → AreElementsOf (protocol_form c.args.protocol.now) c.in_ok-elements.elements.items
elements c =
    ok-raised (λ v. AreElementsOf (protocol_form c.args.protocol.now) v.items) c.elements.result c.in_ok-elements.elements c.in_ok-elements.ensures.cases c.elements.ensures.elements

instances : (c : In_ok-instances) → AreInstancesOf (protocol_form c.args.protocol.now) c.in_ok-instances.instances.items
instances c =
    subst (λ (p : Protocol). AreInstancesOf (protocol_form p) c.in_ok-instances.instances.items) c.in_ok-whole.ensures
    (ok-raised (λ v. AreInstancesOf (protocol_form c.in_ok-whole.whole) v.items) c.instances.result c.in_ok-instances.instances c.in_ok-instances.ensures.cases c.instances.ensures.instances)

kept : (c : In_ok-steps) → c.in_ok-steps.field-0.kept.items ≡ map (is_kept (protocol_in c.in_ok-unfolder.unfolder)) (map instance_said c.deref-8.result.now)
kept c =
    ok-raised (λ (v : UnfoldedSteps). v.kept.items ≡ map (is_kept (protocol_in c.in_ok-unfolder.unfolder)) (map instance_said c.deref-8.result.now)) c.unfold_steps.result
    c.in_ok-steps.field-0 c.in_ok-steps.ensures.cases c.unfold_steps.ensures.kept

-- the flat steps of these, by the protocol
abbrev flat_steps : Protocol → List declared.Instance → List flat.Step
flat_steps p is = folded_steps (data_of (protocol_of p)) (map (definitions.unfolded_step (protocol_of p)) (map instance_said is))

steps : (c : In_ok-steps) → map step_said c.in_ok-steps.field-0.steps.items ≡ flat_steps c.in_ok-unfolder.unfolder c.deref-8.result.now
steps c =
    ok-raised (λ (v : UnfoldedSteps). map step_said v.steps.items ≡ flat_steps c.in_ok-unfolder.unfolder c.deref-8.result.now) c.unfold_steps.result
    c.in_ok-steps.field-0 c.in_ok-steps.ensures.cases c.unfold_steps.ensures.steps

places : (c : In_ok-steps) → map step_place c.in_ok-steps.field-0.steps.items ≡ places_from 0 (length c.in_ok-steps.field-0.steps.items)
places c =
    ok-raised (λ (v : UnfoldedSteps). map step_place v.steps.items ≡ places_from 0 (length v.steps.items)) c.unfold_steps.result c.in_ok-steps.field-0 c.in_ok-steps.ensures.cases
    c.unfold_steps.ensures.places

-- the instances that are left are those that are kept
left : (c : In_ok-left) (of : AreInstancesOf (protocol_form c.args.protocol.now) c.in_ok-instances.instances.items)
    → (let m = protocol_in c.in_ok-unfolder.unfolder in c.in_ok-steps.field-0.kept.items ≡ map (is_kept m) (map instance_said c.deref-8.result.now))
    → let m = protocol_in c.in_ok-unfolder.unfolder in map instance_said c.in_ok-left.left.items ≡ filter (is_kept m) (definitions.instances m)
left c of are =
    kept-instances c.in_ok-unfolder.unfolder c.args.protocol.now c.in_ok-instances.instances.items c.in_ok-left.left.items c.in_ok-steps.field-0.kept.items
    c.deref-9.result.now c.deref-10.result.now c.deref-8.result.now (ap protocol_of c.in_ok-unfolder.ensures) c.deref-9.ensures.value c.deref-10.ensures.value c.deref-8.ensures.value
    of.all are c.in_ok-left.ensures.said

pub new-requires : goal.new-requires
new-requires c =
    subst (AreElementsOf (protocol_form c.args.protocol.now)) (sym c.deref-7.ensures.value) (elements (goal.at.new-requires c).In_ok-elements)

pub unfold_steps-requires : goal.unfold_steps-requires
unfold_steps-requires c =
    subst (λ (xs : List declared.Instance). length xs ≤ MAX_WRITTEN_STEPS) (sym c.deref-8.ensures.value) (instances (goal.at.unfold_steps-requires c).In_ok-instances).few

pub flat_model-requires-clause-left : goal.flat_model-requires-clause-left
flat_model-requires-clause-left c =
    let at = goal.at.flat_model-requires-clause-left c in
    let of = instances at.In_ok-instances in
    record {
      steps = ap (λ (xs : List declared.Instance). map instance_said xs) c.deref-13.ensures.value ∙ left at.In_ok-left of (kept at.In_ok-steps);
      apart = apart-instances c.in_ok-unfolder.unfolder c.args.protocol.now c.in_ok-instances.instances.items c.deref-4.result.now (ap protocol_of c.in_ok-unfolder.ensures)
          c.deref-4.ensures.value of.all c.in_ok-check_instances.ensures.distinct;
    }

pub flat_model-requires-clause-protocol : goal.flat_model-requires-clause-protocol
flat_model-requires-clause-protocol c = ap protocol_of c.in_ok-unfolder.ensures

pub flat_model-requires-clause-steps : goal.flat_model-requires-clause-steps
flat_model-requires-clause-steps c =
    let at = goal.at.flat_model-requires-clause-steps c in
    let m = protocol_in c.in_ok-unfolder.unfolder in
    steps at.In_ok-steps
    ∙ ap (λ (xs : List definitions.Instance). folded_steps (data_of m) (map (definitions.unfolded_step m) xs))
    (ap (map instance_said) c.deref-8.ensures.value ∙ (instances at.In_ok-instances).all ∙ ap (λ (p : Protocol). definitions.instances (protocol_of p)) (sym c.in_ok-unfolder.ensures))

pub returns-clause-model : goal.returns-clause-model
returns-clause-model c = c.in_ok-model.ensures.model ∙ ap (λ (p : Protocol). folded_model (definitions.unfolded (protocol_of p))) c.in_ok-unfolder.ensures

pub returns-clause-told_variables : goal.returns-clause-told_variables
returns-clause-told_variables c =
    c.in_ok-variables.ensures
    ∙ ap (map told_element) (ap (λ (es : List declared_element.Element). map flat_element es) c.deref-11.ensures.value ∙ (elements (goal.at.returns-clause-told_variables c).In_ok-elements).all)

pub returns-clause-told_steps : goal.returns-clause-told_steps
returns-clause-told_steps c =
    let at = goal.at.returns-clause-told_steps c in
    c.in_ok-origins.ensures.names
    ∙ ap (map told_instance) (ap (λ (xs : List declared.Instance). map instance_said xs) c.deref-12.ensures.value ∙ left at.In_ok-left (instances at.In_ok-instances) (kept at.In_ok-steps))
    ∙ ap (λ (p : Protocol). told_steps (protocol_of p)) c.in_ok-unfolder.ensures

pub returns-clause-told_places : goal.returns-clause-told_places
returns-clause-told_places c =
    let at = goal.at.returns-clause-told_places c in
    let of = instances at.In_ok-instances in
    let u = c.in_ok-unfolder.unfolder in
    let all : map instance_said c.deref-8.result.now ≡ definitions.instances (protocol_of c.args.protocol.now) = ap (map instance_said) c.deref-8.ensures.value ∙ of.all in
    let kept_by : c.in_ok-steps.field-0.kept.items ≡ map (is_kept (protocol_of c.args.protocol.now)) (definitions.instances (protocol_of c.args.protocol.now)) =
    kept at.In_ok-steps ∙ ap (map (is_kept (protocol_in u))) all
    ∙ ap (λ (m : Protocol). map (is_kept (protocol_of m)) (definitions.instances (protocol_of c.args.protocol.now))) c.in_ok-unfolder.ensures in
    c.in_ok-origins.ensures.places ∙ ap (map instance_place) c.deref-12.ensures.value ∙ c.in_ok-left.ensures.places
    ∙ ap₂ chosen_places (ap (map instance_place) c.deref-9.ensures.value ∙ of.places) (c.deref-10.ensures.value ∙ kept_by)

pub returns-clause-hides_nothing : goal.returns-clause-hides_nothing
returns-clause-hides_nothing c = λ apart.
    let at = goal.at.returns-clause-hides_nothing c in
    let m = protocol_of c.args.protocol.now in
    let named = ap (map name_of) (ap (λ (es : List declared_element.Element). map flat_element es) c.deref-3.ensures.value ∙ (elements at.In_ok-elements).all) in
    let of-steps = ap (map definitions.instance_name) (ap (λ (is : List declared.Instance). map instance_said is) c.deref-4.ensures.value ∙ (instances at.In_ok-instances).all) in
    let others = subst (λ (ds : List SortDeclaration). AreNot (enumerators_in (declarations_said ds)) (map name_of (map flat_element c.deref-3.result.now))) c.deref-2.ensures.value
    c.in_ok-check_elements.ensures.untaken in
    let defined = ap (map definition_bytes) c.deref-6.ensures.value ∙ names-said c.args.protocol.now.definitions.items in
    let no_enumerators = subst (λ (ds : List SortDeclaration). AreNot (enumerators_in (declarations_said ds)) (map definition_bytes c.deref-6.result.now)) c.deref-5.ensures.value
    c.in_ok-check_definitions.ensures.untaken in
    record {
      elements = subst (λ (ns : List Name). AreDistinct ns) named c.in_ok-check_elements.ensures.distinct;
      enumerators = apart;
      values = subst (λ (ns : List Name). AreNot (enumerators_in m.sorts) ns) named others;
      definitions = subst (λ (ns : List Name). AreNot (enumerators_in m.sorts) ns) defined no_enumerators;
      steps = subst (λ (ns : List Name). AreDistinct ns) of-steps c.in_ok-check_instances.ensures.distinct;
    }

pub returns-clause-places : goal.returns-clause-places
returns-clause-places c =
    subst (λ ss. map step_place ss.items ≡ places_from 0 (length ss.items)) (sym c.in_ok-model.ensures.kept) (places (goal.at.returns-clause-places c).In_ok-steps)

pub returns-in_err-elements-clause-refused : goal.returns-in_err-elements-clause-refused
returns-in_err-elements-clause-refused c =
    let F = protocol_form c.args.protocol.now in
    refused c.from_residual.result c.in_err-elements.field-0.0 (IsUnfoldingFault F) (IsUnfoldingFault F) c.from_residual.ensures.1 (λ f is. is)
    (err-raised (IsPassedIn 64 (element_places F)) (IsUnfoldingFault F) c.elements.result c.in_err-elements.field-0.0 c.in_err-elements.ensures.cases (elements-passed F) c.elements.ensures.refused)

pub returns-in_err-instances-clause-refused : goal.returns-in_err-instances-clause-refused
returns-in_err-instances-clause-refused c =
    let m = protocol_form c.args.protocol.now in
    refused c.from_residual-in_err-instances.result c.in_err-instances.field-0.0 (IsUnfoldingFault m) (IsUnfoldingFault m) c.from_residual-in_err-instances.ensures.1 (λ f is. is)
    (err-raised (IsPassedIn MAX_WRITTEN_STEPS (instance_places m)) (IsUnfoldingFault m) c.instances.result c.in_err-instances.field-0.0 c.in_err-instances.ensures.cases (instances-passed m)
    (subst (λ (p : Protocol). IfRefused c.instances.result (IsPassedIn MAX_WRITTEN_STEPS (instance_places (protocol_form p)))) c.in_ok-whole.ensures c.instances.ensures.refused))

pub returns-in_err-check_elements-clause-refused : goal.returns-in_err-check_elements-clause-refused
returns-in_err-check_elements-clause-refused c =
    let of = elements (goal.at.returns-in_err-check_elements-clause-refused c).In_ok-elements in
    let others = enumerators_in (declarations_said c.deref-2.result.now) in
    let names = map name_of (map flat_element c.deref-3.result.now) in
    let places = map element_place c.deref-3.result.now in
    refused c.from_residual-in_err-check_elements.result c.in_err-check_elements.field-0.0 (IsFaultOfElements others names places) (IsUnfoldingFault (protocol_form c.args.protocol.now))
    c.from_residual-in_err-check_elements.ensures.1
    (elements-clash (protocol_form c.args.protocol.now) others names places
    (ap (λ (ds : List SortDeclaration). enumerators_in (declarations_said ds)) c.deref-2.ensures.value)
    (ap (map name_of) (ap (λ (es : List declared_element.Element). map flat_element es) c.deref-3.ensures.value ∙ of.all))
    (ap (λ (es : List declared_element.Element). map element_place es) c.deref-3.ensures.value ∙ of.places))
    c.in_err-check_elements.ensures.refused

pub returns-in_err-check_instances-clause-refused : goal.returns-in_err-check_instances-clause-refused
returns-in_err-check_instances-clause-refused c =
    let of = instances (goal.at.returns-in_err-check_instances-clause-refused c).In_ok-instances in
    let names = map definitions.instance_name (map instance_said c.deref-4.result.now) in
    let places = map instance_place c.deref-4.result.now in
    refused c.from_residual-in_err-check_instances.result c.in_err-check_instances.field-0.0 (IsFaultOfInstances names places) (IsUnfoldingFault (protocol_form c.args.protocol.now))
    c.from_residual-in_err-check_instances.ensures.1
    (instances-clash (protocol_form c.args.protocol.now) names places
    (ap (map definitions.instance_name) (ap (λ (is : List declared.Instance). map instance_said is) c.deref-4.ensures.value ∙ of.all))
    (ap (λ (is : List declared.Instance). map instance_place is) c.deref-4.ensures.value ∙ of.places))
    c.in_err-check_instances.ensures.refused

pub returns-in_err-check_definitions-clause-refused : goal.returns-in_err-check_definitions-clause-refused
returns-in_err-check_definitions-clause-refused c =
    let m = protocol_form c.args.protocol.now in
    let ds = c.args.protocol.now.definitions.items in
    let others = enumerators_in (declarations_said c.deref-5.result.now) in
    let names = map definition_bytes c.deref-6.result.now in
    let places = map definition_place c.deref-6.result.now in
    refused c.from_residual-in_err-check_definitions.result c.in_err-check_definitions.field-0.0 (IsFaultOfDefinitions others names places) (IsUnfoldingFault m)
    c.from_residual-in_err-check_definitions.ensures.1
    (definitions-clash m others names places
    (ap (λ (ss : List SortDeclaration). enumerators_in (declarations_said ss)) c.deref-5.ensures.value)
    (ap (map definition_bytes) c.deref-6.ensures.value ∙ names-said ds)
    (ap (map definition_place) c.deref-6.ensures.value ∙ places-said ds))
    c.in_err-check_definitions.ensures.refused

pub returns-in_err-steps-clause-refused : goal.returns-in_err-steps-clause-refused
returns-in_err-steps-clause-refused c =
    let m = protocol_form c.args.protocol.now in
    let is = map placed_instance c.deref-8.result.now in
    let of = instances (goal.at.returns-in_err-steps-clause-refused c).In_ok-instances in
    let steps : is ≡ placed_instances m = ap (map placed_instance) c.deref-8.ensures.value ∙ of.forms in
    let P = IsFaultInSteps (form_in c.in_ok-unfolder.unfolder) is in
    refused c.from_residual-in_err-steps.result c.in_err-steps.field-0.0 (IsFaultBy (OfTerm P)) (IsUnfoldingFault m) c.from_residual-in_err-steps.ensures.1
    (term-breaks m P
    (λ f o. inl
    (subst (λ (js : List PlacedInstance). OfTerm (IsFaultInSteps m js) f) steps
    (subst (λ (G : ProtocolForm). OfTerm (IsFaultInSteps G is) f) (ap protocol_form c.in_ok-unfolder.ensures) o))))
    (err-raised (OnTerm P) (IsFaultBy (OfTerm P)) c.unfold_steps.result c.in_err-steps.field-0.0 c.in_err-steps.ensures.cases (of-steps-term ⊥ (λ h. h) P) c.unfold_steps.ensures.refused)

pub returns-in_err-model-clause-refused : goal.returns-in_err-model-clause-refused
returns-in_err-model-clause-refused c =
    let m = protocol_form c.args.protocol.now in
    let F = form_in c.in_ok-unfolder.unfolder in
    let P = IsFaultOfModel m F m.properties in
    let Q = IsFaultOfModel m m m.properties in
    refused c.from_residual-in_err-model.result c.in_err-model.field-0.0 (IsFaultBy P) (IsUnfoldingFault m) c.from_residual-in_err-model.ensures.1
    (λ f is. model-breaks m f (fault-by P Q (λ g o. subst (λ (G : ProtocolForm). IsFaultOfModel m G m.properties g) (ap protocol_form c.in_ok-unfolder.ensures) o) f is))
    c.in_err-model.ensures.refused

pub impossible_steps-requires : goal.impossible_steps-requires
impossible_steps-requires c =
    let at = goal.at.impossible_steps-requires c in
    let of = instances at.In_ok-instances in
    let u = c.in_ok-unfolder.unfolder in
    let all : map instance_said c.in_ok-instances.instances.items ≡ definitions.instances (protocol_in u) =
    of.all ∙ ap (λ (p : Protocol). definitions.instances (protocol_of p)) (sym c.in_ok-unfolder.ensures) in
    record {
      protocol = c.in_ok-whole.ensures ∙ sym c.in_ok-unfolder.ensures;
      kept =
          c.deref-14.ensures.value ∙ kept at.In_ok-steps
          ∙ ap (λ (xs : List declared.Instance). map (is_kept (protocol_in u)) (map instance_said xs)) c.deref-8.ensures.value ∙ ap (map (is_kept (protocol_in u))) all;
      few = omega (arith, of.few, length-map c.in_ok-instances.instances.items instance_said, ap (λ (is : List definitions.Instance). length is) all);
    }

pub returns-clause-impossible : goal.returns-clause-impossible
returns-clause-impossible c = c.in_ok-impossible.ensures.names ∙ ap (λ (p : Protocol). impossible_steps (protocol_of p)) c.in_ok-unfolder.ensures

pub returns-in_err-impossible-clause-refused : goal.returns-in_err-impossible-clause-refused
returns-in_err-impossible-clause-refused c =
    refused c.from_residual-in_err-impossible.result c.in_err-impossible.field-0.0 (λ f. ⊥) (IsUnfoldingFault (protocol_form c.args.protocol.now))
    c.from_residual-in_err-impossible.ensures.1 (λ f none. absurd none) c.in_err-impossible.ensures.refused

pub among-requires : goal.among-requires
among-requires c = subst (AreElementsOf (protocol_form c.args.protocol.now)) (sym c.deref.ensures.value) (elements (goal.at.among-requires c).In_ok-elements)
