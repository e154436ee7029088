-- What it says of a protocol that it isn't unfolded, by each rule.
use Rattle.std.specs.Prelude.{◌≡◌, ◌⊎◌, ℕ, List, [], map, Contains, Some, None, unwrap_or}
use Rattle.std.specs.List.{slice_get}
use Rattle.pb_text_tree.specs.declared.place.Place.{Place}
use Rattle.pb_text_meaning.specs.Syntax.{Name, Term}
use Rattle.pb_text_meaning.specs.Erase.{erased_term, erased_variables}
use Rattle.pb_protocol_folding.specs.Folding.{written_value}
use Rattle.pb_protocol_folding.specs.Names.{enumerators_in}
use Rattle.pb_protocol_tree.specs.Form.{StepValueForm, StepSetForm, FormulaForm, PropertyForm}
use Rattle.pb_protocol_tree.specs.Form.{DefinitionForm, ProtocolForm}
use Rattle.pb_protocol_meaning.specs.Syntax.{Protocol}
use Rattle.pb_protocol_meaning.specs.Erase.{erase, erased_formula}
use Rattle.pb_protocol_meaning.specs.Steps.{data_of}
use Rattle.pb_protocol_unfolding.specs.Hygiene.{definition_names}
use Rattle.pb_protocol_unfolding.specs.PutIn.{TermScope, standing, term_of}
use Rattle.pb_protocol_unfolding.specs.Unfolding.{Instance, all_elements, instance_name, instances, name_of}
use Rattle.pb_protocol_unfolding.specs.Unfolding.{terms_of}
use Rattle.pb_protocol_unfolding.specs.Written.{written_tuples}
use Rattle.pb_protocol_unfolder_steps.specs.declared.limits.TheConstants.{MAX_ELEMENTS, MAX_WRITTEN_STEPS}
use Rattle.pb_protocol_unfolder_terms.specs.declared.fault.UnfoldRule.{UnfoldRule}
use Rattle.pb_protocol_unfolder_terms.specs.declared.fault.UnfoldRule.TheVariants as unfold_rule
use Rattle.pb_protocol_unfolder_terms.specs.Large.{HaveManyTuples}
use Rattle.pb_protocol_unfolder_terms.specs.TermFaults.{IsFaultInTerm, surroundings_of}
use Rattle.pb_protocol_unfolder_steps.specs.StepFaults.{IsFaultAtStart, IsFaultInSteps, placed_instances}
use Rattle.pb_protocol_unfolder_steps.specs.Refusals.{element_places, instance_places}
use Rattle.pb_protocol_unfolder.specs.Defined.{stands_for}
use Rattle.pb_protocol_unfolder.specs.declared.fault.UnfoldingFault.{UnfoldingFault}
use Rattle.pb_protocol_unfolder.specs.declared.fault.UnfoldingRule.{UnfoldingRule}
use Rattle.pb_protocol_unfolder.specs.declared.fault.UnfoldingRule.TheVariants as rule
use Rattle.pb_protocol_unfolder.specs.Apart.{IsTakenAt, RepeatsAt}
use Rattle.pb_protocol_unfolder.specs.Operators.{HasManyWritten}

-- ---- names

-- of these names, which stand at these places, the one at p is one of those in front of it
abbrev pub IsRepeated : List Name → List Place → Place → Type 0
IsRepeated names places p = (i : ℕ) × RepeatsAt names i × (slice_get places i ≡ Some p)

-- or it is one of others
abbrev pub IsTaken : List Name → List Name → List Place → Place → Type 0
IsTaken others names places p = (i : ℕ) × IsTakenAt others names i × (slice_get places i ≡ Some p)

-- two elements have one name, or an element has an enumerator's
abbrev pub IsElementClash : List Name → List Name → List Place → Place → Type 0
IsElementClash enumerators names places p =
    IsRepeated names places p ⊎ IsTaken enumerators names places p

abbrev pub definition_places : ProtocolForm → List Place
definition_places m = map (λ (d : DefinitionForm). d.name.place) m.definitions

-- two elements or two steps with their values have one name, or an element or a definition has an
-- enumerator's
abbrev pub IsNameFault : ProtocolForm → Place → Type 0
IsNameFault m p =
    IsElementClash (enumerators_in (erase m).sorts) (map name_of (all_elements (erase m)))
    (element_places m) p
    ⊎ (IsRepeated (map instance_name (instances (erase m))) (instance_places m) p
    ⊎ IsTaken (enumerators_in (erase m).sorts) (definition_names (erase m)) (definition_places m) p)

-- ---- limits

-- the first element, or the first step with its values, past the limit stands at p
abbrev pub IsCountFault : ProtocolForm → Place → Type 0
IsCountFault m p =
    (slice_get (element_places m) MAX_ELEMENTS ≡ Some p)
    ⊎ (slice_get (instance_places m) MAX_WRITTEN_STEPS ≡ Some p)

-- ---- values in sets of steps

-- what a term in a set of steps says: what a quantifier's variable stands for, or a definition,
-- else itself
abbrev pub meant : Protocol → TermScope → Term → Term
meant m ρ (Term.Named x) = unwrap_or (term_of ρ x) (stands_for m.definitions x)
meant m ρ t = t

-- it isn't written as a truth value, a number of 32 bits or an enumerator
abbrev pub HasNoValue : Protocol → Term → Type 0
HasNoValue m t = written_value (data_of m) t ≡ None

abbrev pub HaveOneWithoutValue : Protocol → List Term → Type 0
HaveOneWithoutValue m ks = (k : Term) × Contains ks k × HasNoValue m k

-- the value that stands at p, or an own value of the step that it is compared with, has no value
abbrev pub IsFaultOfValue : Protocol → TermScope → List Term → StepValueForm → Place → Type 0
IsFaultOfValue m ρ own (StepValueForm.any_value q) p = ⊥
IsFaultOfValue m ρ own (StepValueForm.given q x) p =
    (p ≡ q) × (HasNoValue m (meant m ρ (erased_term x)) ⊎ HaveOneWithoutValue m own)

abbrev pub IsFaultOfValues :
    Protocol → TermScope → List Term → List StepValueForm → Place → Type 0
IsFaultOfValues m ρ own values p =
    (v : StepValueForm) × Contains values v × IsFaultOfValue m ρ own v p

abbrev pub IsFaultOfSet : Protocol → TermScope → List Term → StepSetForm → Place → Type 0
IsFaultOfSet m ρ own (StepSetForm.all q) p = ⊥
IsFaultOfSet m ρ own (StepSetForm.step x) p = ⊥
IsFaultOfSet m ρ own (StepSetForm.instances x values) p = IsFaultOfValues m ρ own values p
IsFaultOfSet m ρ own (StepSetForm.complement q A) p = IsFaultOfSet m ρ own A p
IsFaultOfSet m ρ own (StepSetForm.union q A B) p =
    IsFaultOfSet m ρ own A p ⊎ IsFaultOfSet m ρ own B p

-- where it is asked which of these steps are in the set
abbrev pub IsFaultOfSteps :
    Protocol → TermScope → List Instance → StepSetForm → Place → Type 0
IsFaultOfSteps m ρ steps A p =
    (i : Instance) × Contains steps i × IsFaultOfSet m ρ i.own A p

-- ---- faults of formulas

-- by the rule of values, and P of the place
abbrev pub OfValue : (Place → Type 0) → UnfoldingFault → Type 0
OfValue P fault = (fault.rule ≡ rule.Value) × P fault.place

-- by the rule of operators, at this place: the token that passes the limit of a formula
abbrev pub OfToken : Place → UnfoldingFault → Type 0
OfToken place fault = (fault.rule ≡ rule.Operators) × (fault.place ≡ place)

-- and Many
abbrev pub OfMany : Type 0 → Place → UnfoldingFault → Type 0
OfMany Many place fault = Many × OfToken place fault

-- the rule that a user sees where a term breaks one: too many operators, too many values and terms
-- that nest too deep are one to him
abbrev pub rule_of : UnfoldRule → UnfoldingRule
rule_of unfold_rule.Index = rule.Index
rule_of unfold_rule.Operators = rule.Operators
rule_of unfold_rule.Depth = rule.Operators
rule_of unfold_rule.Values = rule.Operators

-- a term breaks such a rule, and P holds of it and of the place
abbrev pub OfTerm : (UnfoldRule → Place → Type 0) → UnfoldingFault → Type 0
OfTerm P fault = (r : UnfoldRule) × (fault.rule ≡ rule_of r) × P r fault.place

-- in a formula, or in a copy of it: of a value in a set of steps, of data, of a quantifier with
-- more than 8,192 tuples of values, or, where Many, of a connective, modality, fixpoint, quantifier
-- or data with which the formula is too large
abbrev pub IsFaultOfFormula :
    ProtocolForm → Type 0 → TermScope → FormulaForm → UnfoldingFault → Type 0
IsFaultOfFormula m Many ρ (FormulaForm.constant q b) fault = ⊥
IsFaultOfFormula m Many ρ (FormulaForm.«data» q x) fault =
    OfTerm (IsFaultInTerm (surroundings_of m) ρ x) fault ⊎ OfMany Many q fault
IsFaultOfFormula m Many ρ (FormulaForm.variable x) fault = ⊥
IsFaultOfFormula m Many ρ (FormulaForm.negation q f) fault =
    OfMany Many q fault ⊎ IsFaultOfFormula m Many ρ f fault
IsFaultOfFormula m Many ρ (FormulaForm.connected c q f g) fault =
    OfMany Many q fault
    ⊎ (IsFaultOfFormula m Many ρ f fault ⊎ IsFaultOfFormula m Many ρ g fault)
IsFaultOfFormula m Many ρ (FormulaForm.modal k q A f) fault =
    OfMany Many q fault
    ⊎ (OfValue (IsFaultOfSteps (erase m) ρ (instances (erase m)) A) fault
    ⊎ IsFaultOfFormula m Many ρ f fault)
IsFaultOfFormula m Many ρ (FormulaForm.fixpoint sign q x f) fault =
    OfMany Many q fault ⊎ IsFaultOfFormula m Many ρ f fault
IsFaultOfFormula m Many ρ (FormulaForm.quantified quantifier q xs f) fault =
    OfMany (HaveManyTuples (data_of (erase m)) (erased_variables xs)) q fault
    ⊎ (OfMany Many q fault
    ⊎ ((ks : List Term) × Contains (written_tuples (data_of (erase m)) (erased_variables xs)) ks
    × IsFaultOfFormula m Many (standing (erased_variables xs) (terms_of ks) ρ) f fault))

-- of a property: its formula is too large where it has more than 8,192 operators as it is written
-- out
abbrev pub IsFaultOfProperty : ProtocolForm → PropertyForm → UnfoldingFault → Type 0
IsFaultOfProperty m q fault =
    IsFaultOfFormula m (HasManyWritten (erase m) (erased_formula q.formula)) [] q.formula fault

abbrev pub IsFaultOfProperties : ProtocolForm → List PropertyForm → UnfoldingFault → Type 0
IsFaultOfProperties m properties fault =
    (q : PropertyForm) × Contains properties q × IsFaultOfProperty m q fault

abbrev pub IsValueFault : ProtocolForm → Place → Type 0
IsValueFault m p =
    IsFaultOfProperties m m.properties (record { rule = rule.Value; place = p })

-- ---- indices and sizes

-- in a step with its values, in a value at the start, or in a property
abbrev pub IsFaultOfPart : ProtocolForm → UnfoldingFault → Type 0
IsFaultOfPart m fault =
    OfTerm (IsFaultInSteps m (placed_instances m)) fault
    ⊎ (OfTerm (IsFaultAtStart m) fault ⊎ IsFaultOfProperties m m.properties fault)

-- an index there is outside
abbrev pub IsIndexFaultOf : ProtocolForm → Place → Type 0
IsIndexFaultOf m p = IsFaultOfPart m (record { rule = rule.Index; place = p })

-- something there, as it is unfolded, is too large
abbrev pub IsSizeFaultOfPart : ProtocolForm → Place → Type 0
IsSizeFaultOfPart m p = IsFaultOfPart m (record { rule = rule.Operators; place = p })

-- ---- faults

abbrev pub BreaksRule : ProtocolForm → UnfoldingRule → Place → Type 0
BreaksRule m rule.Names p = IsNameFault m p
BreaksRule m rule.Value p = IsValueFault m p
BreaksRule m rule.Index p = IsIndexFaultOf m p
BreaksRule m rule.Count p = IsCountFault m p
BreaksRule m rule.Operators p = IsSizeFaultOfPart m p

-- what the fault says of the protocol
abbrev pub IsUnfoldingFault : ProtocolForm → UnfoldingFault → Type 0
IsUnfoldingFault m fault = BreaksRule m fault.rule fault.place
