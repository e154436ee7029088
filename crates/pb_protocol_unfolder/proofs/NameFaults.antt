-- Names and limits for which a protocol is refused.
use Rattle.std.proofs.Common.{◌≡◌, ◌<◌, ◌∙◌, ℕ, true, inl, inr, refl, sym, ap, subst, arith, List, [], ◌∷◌, map, length, get_or, Some}
use Rattle.std.specs.Prelude.{option_map}
use Rattle.std.specs.List.{slice_get}
use Rattle.std.proofs.lemmas.List.{length-map}
use Rattle.std.proofs.lemmas.Option.{slice_get-map, slice_get-get_or}
use Rattle.pb_text_tree.specs.declared.place.Place.{Place}
use Rattle.pb_text_meaning.specs.Syntax.{Name}
use Rattle.pb_protocol_folding.specs.Names.{enumerators_in}
use Rattle.pb_protocol_tree.specs.declared.protocol.Definition as declared_definition
use Rattle.pb_protocol_tree.specs.Form.{DefinitionForm, ProtocolForm, definition_form}
use Rattle.pb_protocol_meaning.specs.Syntax.{Definition}
use Rattle.pb_protocol_meaning.specs.Erase.{erase, erased_definition}
use Rattle.pb_protocol_unfolding.specs.Hygiene.{definition_names}
use Rattle.pb_protocol_unfolding.specs.Unfolding.{all_elements, instance_name, instances, name_of}
use Rattle.pb_protocol_unfolder_steps.specs.declared.fault.StepsFault.{StepsFault}
use Rattle.pb_protocol_unfolder_steps.specs.declared.fault.StepsFault.TheVariants as steps_fault
use Rattle.pb_base.specs.OrMemory.{IfFault, raised}
use Rattle.pb_base.specs.declared.or_memory.OrMemory.{OrMemory}
use Rattle.pb_base.specs.declared.or_memory.OrMemory.TheVariants.{Refused, Memory}
use Rattle.pb_protocol_unfolder_terms.specs.declared.fault.UnfoldFault.{UnfoldFault}
use Rattle.pb_protocol_unfolder_terms.specs.declared.fault.UnfoldRule.{UnfoldRule}
use Rattle.pb_protocol_unfolder_terms.specs.declared.fault.UnfoldRule.TheVariants as unfold_rule
use Rattle.pb_protocol_unfolder_terms.specs.Values.{IsTooLong}
use Rattle.pb_protocol_unfolder_terms.specs.declared.scope.TermScope.{TermScope}
use Rattle.pb_protocol_unfolder_terms.specs.declared.scope.TermScope.TheVariants as scope
use Rattle.pb_protocol_unfolder_terms.specs.TermFaults.{HasValues}
use Rattle.pb_protocol_unfolder.specs.ValueScopes.{has_values}
use Rattle.std.proofs.lemmas.Bool.{false≢true}
use Rattle.pb_protocol_unfolder_steps.specs.declared.limits.TheConstants.{MAX_WRITTEN_STEPS}
use Rattle.pb_protocol_unfolder_steps.specs.StepFaults.{IsTermOr, OnTerm, WithValues}
use Rattle.pb_protocol_unfolder_steps.specs.Refusals.{IsPassedIn, element_places, instance_places}
use Rattle.pb_protocol_unfolder.specs.declared.fault.UnfoldingFault.{UnfoldingFault}
use Rattle.pb_protocol_unfolder.specs.Apart.{IsTakenAt, RepeatsAt, definition_bytes, definition_place}
use Rattle.pb_protocol_unfolder.specs.Faults.{IsElementClash, IsRepeated, IsTaken, IsUnfoldingFault, OfTerm, OfToken, definition_places, rule_of}
use Rattle.pb_protocol_unfolder.specs.Parts.{IsFaultBy, IsFaultOfDefinitions, IsFaultOfElements, IsFaultOfInstances, IsOfSteps, IsOfTerm}
use Rattle.pb_protocol_unfolder.proofs.FaultLemmas.{names-break}

-- ---- a name and its place

placed-at : {A : Type 0} (place : A → Place) (xs : List A) (i : ℕ) (x : A) → i < length xs → x ≡ get_or xs i x → slice_get (map place xs) i ≡ Some (place x)
placed-at place xs i x low is =
    slice_get-map place xs i ∙ ap (option_map place) (slice_get-get_or xs i x low) ∙ ap (λ y. Some (place y)) (sym is)

pub repeated-at : {A : Type 0} (place : A → Place) (xs : List A) (i : ℕ) (x : A) (ns names : List Name) → i < length xs
    → x ≡ get_or xs i x → ns ≡ names → RepeatsAt ns i → IsRepeated names (map place xs) (place x)
repeated-at place xs i x ns names low is same repeats = (i, subst (λ (v : List Name). RepeatsAt v i) same repeats, placed-at place xs i x low is)

pub taken-at : {A : Type 0} (place : A → Place) (xs : List A) (i : ℕ) (x : A) (others ns names : List Name)
    → i < length xs → x ≡ get_or xs i x → ns ≡ names → IsTakenAt others ns i → IsTaken others names (map place xs) (place x)
taken-at place xs i x others ns names low is same taken = (i, subst (λ (v : List Name). IsTakenAt others v i) same taken, placed-at place xs i x low is)

-- there are as many names as what is named
pub within : {A B : Type 0} (f : B → Name) (g : A → B) (xs : List A) (ns : List Name) (i : ℕ) → ns ≡ map f (map g xs) → i < length ns → i < length xs
within f g xs ns i same low =
    omega (arith, low, ap (λ (v : List Name). length v) same, length-map (map g xs) f, length-map xs g)

-- ---- what it says of the protocol

pub elements-clash : (m : ProtocolForm) (es names : List Name) (places : List Place) → es ≡ enumerators_in (erase m).sorts → names ≡ map name_of (all_elements (erase m)) → places ≡ element_places m
    → (f : UnfoldingFault) → IsFaultOfElements es names places f → IsUnfoldingFault m f
elements-clash m es names places same-es same-names same-places =
    names-break m (IsElementClash es names places)
    (λ p is.
    inl (subst (λ (v : List Name). IsElementClash v (map name_of (all_elements (erase m))) (element_places m) p) same-es
    (subst (λ (v : List Name). IsElementClash es v (element_places m) p) same-names
    (subst (λ (v : List Place). IsElementClash es names v p) same-places is))))

pub instances-clash : (m : ProtocolForm) (names : List Name) (places : List Place) → names ≡ map instance_name (instances (erase m)) → places ≡ instance_places m
    → (f : UnfoldingFault) → IsFaultOfInstances names places f → IsUnfoldingFault m f
instances-clash m names places same-names same-places =
    names-break m (IsRepeated names places)
    (λ p is.
    inr (inl (subst (λ (v : List Name). IsRepeated v (instance_places m) p) same-names
    (subst (λ (v : List Place). IsRepeated names v p) same-places is))))

pub definitions-clash : (m : ProtocolForm) (es names : List Name) (places : List Place) → es ≡ enumerators_in (erase m).sorts → names ≡ definition_names (erase m) → places ≡ definition_places m
    → (f : UnfoldingFault) → IsFaultOfDefinitions es names places f → IsUnfoldingFault m f
definitions-clash m es names places same-es same-names same-places =
    names-break m (IsTaken es names places)
    (λ p is.
    inr (inr (subst (λ (v : List Name). IsTaken v (definition_names (erase m)) (definition_places m) p) same-es
    (subst (λ (v : List Name). IsTaken es v (definition_places m) p) same-names
    (subst (λ (v : List Place). IsTaken es names v p) same-places is)))))

-- as the code has them
pub names-said : (ds : List declared_definition.Definition) → map definition_bytes ds ≡ map (λ (d : Definition). d.name) (map erased_definition (map definition_form ds))
names-said [] = refl
names-said (d ∷ ds) = ap (λ xs. definition_bytes d ∷ xs) (names-said ds)

pub places-said : (ds : List declared_definition.Definition) → map definition_place ds ≡ map (λ (d : DefinitionForm). d.name.place) (map definition_form ds)
places-said [] = refl
places-said (d ∷ ds) = ap (λ xs. definition_place d ∷ xs) (places-said ds)

-- ---- limits

pub elements-passed : (m : ProtocolForm) (s : StepsFault) (f : UnfoldingFault) → IsOfSteps s f → IsPassedIn 64 (element_places m) s → IsUnfoldingFault m f
elements-passed m (steps_fault.Limit p) f gives at = subst (IsUnfoldingFault m) (sym gives) (inl at)
elements-passed m (steps_fault.Term t) f gives at = absurd at

pub instances-passed : (m : ProtocolForm) (s : StepsFault) (f : UnfoldingFault) → IsOfSteps s f → IsPassedIn MAX_WRITTEN_STEPS (instance_places m) s → IsUnfoldingFault m f
instances-passed m (steps_fault.Limit p) f gives at = subst (IsUnfoldingFault m) (sym gives) (inr at)
instances-passed m (steps_fault.Term t) f gives at = absurd at

-- no limit is passed, so it is the fault of a term
pub of-steps-term : (X : Type 0) → (X → ⊥) → (P : UnfoldRule → Place → Type 0) (s : StepsFault) (f : UnfoldingFault) → IsOfSteps s f → IsTermOr X P s → IsFaultBy (OfTerm P) f
of-steps-term X never P (steps_fault.Limit p) f gives is = absurd (never is)
of-steps-term X never P (steps_fault.Term t) f gives is = subst (IsFaultBy (OfTerm P)) (sym gives) (by t.rule is)
  where
    by : (r : UnfoldRule) → P r t.place → IsFaultBy (OfTerm P) (record { rule = rule_of r; place = t.place })
    by unfold_rule.Index o = (unfold_rule.Index, refl, o)
    by unfold_rule.Operators o = (unfold_rule.Operators, refl, o)
    by unfold_rule.Depth o = (unfold_rule.Depth, refl, o)
    by unfold_rule.Values o = (unfold_rule.Values, refl, o)

-- names stand for values
pub only-values : (scope : TermScope) → has_values scope ≡ true → HasValues scope
only-values scope.Empty e = tt
only-values (scope.Values' variables values p outer) e = only-values outer e
only-values (scope.Arguments' parameters arguments definitions p user) e = absurd (false≢true e)

-- where names stand for values, what holds there holds
pub with-values : (scope : TermScope) (P : UnfoldRule → Place → Type 0) → HasValues scope → (s : StepsFault) → OnTerm (WithValues scope P) s → OnTerm P s
with-values scope P v (steps_fault.Limit p) is = is
with-values scope P v (steps_fault.Term t) is = is v

-- too many values are too large
pub too-many-told : {A : Type 0} (xs : List A) (place : Place) (e : OrMemory UnfoldFault) (above : OrMemory UnfoldingFault) → raised IsOfTerm e above → IsTooLong xs place e
    → IfFault above (λ f. OfToken place f × (8192 < length xs))
too-many-told xs place (Refused t) (Refused f) gives is =
    subst (λ (g : UnfoldingFault). OfToken place g × (8192 < length xs)) (sym (gives ∙ ap (λ (u : UnfoldFault). record { rule = rule_of u.rule; place = u.place }) is.0)) ((refl, refl), is.1)
too-many-told xs place (Refused t) Memory gives is = tt
too-many-told xs place Memory (Refused f) gives is = absurd gives
too-many-told xs place Memory Memory gives is = tt
