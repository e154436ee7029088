-- What a fault says where one part of a protocol is unfolded.
use Rattle.std.specs.Prelude.{◌≡◌, ◌<◌, ◌⊎◌, List, length, Contains, Option, Some, None}
use Rattle.pb_base.specs.declared.limits.TheConstants.{MAX_OPERATORS}
use Rattle.pb_text_tree.specs.declared.place.Place.{Place}
use Rattle.pb_text_meaning.specs.Syntax.{Name, Term, Variable}
use Rattle.pb_protocol_tree.specs.declared.formula.Link.{Link}
use Rattle.pb_protocol_tree.specs.Form.{FormulaForm, PropertyForm, ProtocolForm, StepSetForm}
use Rattle.pb_protocol_tree.specs.Form.{formula_form}
use Rattle.pb_protocol_meaning.specs.Syntax.{Protocol}
use Rattle.pb_protocol_unfolding.specs.PutIn.{TermScope, standing}
use Rattle.pb_protocol_unfolding.specs.Unfolding.{instances, terms_of}
pub use Rattle.pb_protocol_unfolder_terms.specs.TermFaults.{HasValues}
use Rattle.pb_protocol_unfolder_terms.specs.declared.fault.UnfoldFault.{UnfoldFault}
use Rattle.pb_protocol_unfolder_terms.specs.declared.written.Written.{Written}
use Rattle.pb_protocol_unfolder_terms.specs.Values.{written_term}
use Rattle.pb_protocol_unfolder_steps.specs.StepFaults.{IsFaultAtStart}
use Rattle.pb_protocol_unfolder_steps.specs.declared.fault.StepsFault.{StepsFault}
use Rattle.pb_protocol_unfolder_steps.specs.declared.fault.StepsFault.TheVariants as steps_fault
use Rattle.pb_protocol_unfolder.specs.declared.fault.UnfoldingFault.{UnfoldingFault}
use Rattle.pb_protocol_unfolder.specs.declared.fault.UnfoldingRule.{UnfoldingRule}
use Rattle.pb_protocol_unfolder.specs.declared.fault.UnfoldingRule.TheVariants as rule
use Rattle.pb_protocol_unfolder.specs.Faults.{IsElementClash, IsFaultOfFormula, IsFaultOfProperties}
use Rattle.pb_protocol_unfolder.specs.Faults.{IsFaultOfSet, IsFaultOfSteps, IsRepeated, IsTaken}
use Rattle.pb_protocol_unfolder.specs.Faults.{OfTerm}
use Rattle.pb_protocol_unfolder.specs.Faults.{OfMany, OfToken, OfValue, rule_of}

-- it is the fault of a value, and P holds of its place
abbrev pub InPart : (Place → Type 0) → UnfoldingRule → Place → Type 0
InPart P rule.Names p = ⊥
InPart P rule.Value p = P p
InPart P rule.Index p = ⊥
InPart P rule.Count p = ⊥
InPart P rule.Operators p = ⊥

abbrev pub IsFaultIn : (Place → Type 0) → UnfoldingFault → Type 0
IsFaultIn P fault = InPart P fault.rule fault.place

-- it isn't the fault of a name or of a limit, and P
abbrev pub ByRule : UnfoldingRule → Type 0 → Type 0
ByRule rule.Names P = ⊥
ByRule rule.Value P = P
ByRule rule.Index P = P
ByRule rule.Count P = ⊥
ByRule rule.Operators P = P

abbrev pub IsFaultBy : (UnfoldingFault → Type 0) → UnfoldingFault → Type 0
IsFaultBy P fault = ByRule fault.rule (P fault)

-- the token at this place has too many tuples of values
abbrev pub OfManyTuples : {A : Type 0} → Place → List A → UnfoldingFault → Type 0
OfManyTuples place tuples fault = OfToken place fault × (MAX_OPERATORS < length tuples)

-- of the set of steps of a modality at this place
abbrev pub IsFaultOfModality :
    Protocol → Type 0 → TermScope → Place → StepSetForm → UnfoldingFault → Type 0
IsFaultOfModality m Many ρ place A fault =
    OfMany Many place fault ⊎ OfValue (IsFaultOfSteps m ρ (instances m) A) fault

-- at this place, and P
abbrev pub IsAt : Place → Type 0 → Place → Type 0
IsAt place P p = (p ≡ place) × P

abbrev pub IsOfTerm : UnfoldFault → UnfoldingFault → Type 0
IsOfTerm f above = above ≡ record { rule = rule_of f.rule; place = f.place }

-- a limit that is passed is told as such, and the fault of a term as one of a term
abbrev pub IsOfSteps : StepsFault → UnfoldingFault → Type 0
IsOfSteps (steps_fault.Limit place) above = above ≡ record { rule = rule.Count; place = place }
IsOfSteps (steps_fault.Term f) above = IsOfTerm f above

-- by the rule of names, and P of the place
abbrev pub IsOfNames : (Place → Type 0) → UnfoldingFault → Type 0
IsOfNames P fault = (fault.rule ≡ rule.Names) × P fault.place

abbrev pub IsFaultOfElements : List Name → List Name → List Place → UnfoldingFault → Type 0
IsFaultOfElements enumerators names places fault =
    IsOfNames (IsElementClash enumerators names places) fault

abbrev pub IsFaultOfInstances : List Name → List Place → UnfoldingFault → Type 0
IsFaultOfInstances names places fault = IsOfNames (IsRepeated names places) fault

-- a definition has an enumerator's name
abbrev pub IsFaultOfDefinitions : List Name → List Name → List Place → UnfoldingFault → Type 0
IsFaultOfDefinitions enumerators names places fault =
    IsOfNames (IsTaken enumerators names places) fault

abbrev pub bound_term : Option Written → Option Term
bound_term None = None
bound_term (Some k) = Some (written_term k)

-- ---- several parts

-- in one of several sets
abbrev pub IsFaultOfSets : Protocol → TermScope → List Term → List StepSetForm → Place → Type 0
IsFaultOfSets m ρ own sets p =
    (A : StepSetForm) × Contains sets A × IsFaultOfSet m ρ own A p

-- of the connective of a link, or in its operand
abbrev pub IsFaultOfLinks :
    ProtocolForm → Type 0 → TermScope → List Link → UnfoldingFault → Type 0
IsFaultOfLinks m Many ρ links fault =
    (link : Link) × Contains links link
    × (OfMany Many link.place fault ⊎ IsFaultOfFormula m Many ρ (formula_form link.operand) fault)

-- of the quantifier at this place, or in a copy, where the variables stand for one of these tuples
abbrev pub IsFaultOfCopies :
    ProtocolForm → Type 0 → TermScope → Place → List Variable → List (List Term) → FormulaForm →
    UnfoldingFault → Type 0
IsFaultOfCopies m Many ρ place xs tuples f fault =
    OfMany Many place fault
    ⊎ ((ks : List Term) × Contains tuples ks
    × IsFaultOfFormula m Many (standing xs (terms_of ks) ρ) f fault)

-- of a flat model's parts: in a value at the start of one protocol, or in properties
abbrev pub IsFaultOfModel :
    ProtocolForm → ProtocolForm → List PropertyForm → UnfoldingFault → Type 0
IsFaultOfModel start m properties fault =
    OfTerm (IsFaultAtStart start) fault ⊎ IsFaultOfProperties m properties fault
