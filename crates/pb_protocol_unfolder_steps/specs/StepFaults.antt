-- What the fault of a term says: in the steps of a protocol with their values, and in the values at
-- the start.
use Rattle.std.specs.Prelude.{◌≡◌, ◌⊎◌, ℕ, Bool, true, false, if◌then◌else◌, List, [], ◌∷◌, map, flat_map, Contains, Some}
use Rattle.std.specs.List.{slice_get}
use Rattle.pb_base.specs.declared.or_memory.OrMemory.{OrMemory}
use Rattle.pb_base.specs.declared.or_memory.OrMemory.TheVariants.{Refused, Memory}
use Rattle.pb_text_tree.specs.declared.place.Place.{Place}
use Rattle.pb_text_tree.specs.declared.term.Argument as declared_argument
use Rattle.pb_text_tree.specs.Form.{ArgumentForms, TermForm, argument, no_arguments, term_form}
use Rattle.pb_text_meaning.specs.Syntax.{Term, Variable}
use Rattle.pb_text_meaning.specs.Erase.{erased_variables}
use Rattle.pb_protocol_tree.specs.declared.step.Step as declared_step
use Rattle.pb_protocol_tree.specs.Form.{AssignmentForm, ProtocolForm, StateVariableForm, StepForm}
use Rattle.pb_protocol_tree.specs.Form.{step_form}
use Rattle.pb_protocol_meaning.specs.Syntax.{Protocol}
use Rattle.pb_protocol_meaning.specs.Erase.{erase, erased_step}
use Rattle.pb_protocol_meaning.specs.Steps.{data_of}
use Rattle.pb_protocol_unfolding.specs.PutIn.{TermScope}
use Rattle.pb_protocol_unfolding.specs.Unfolding.{Element, all_elements, is_whole, own_terms, written}
use Rattle.pb_protocol_unfolding.specs.Written.{written_tuples}
use Rattle.pb_protocol_unfolder_terms.specs.declared.scope.TermScope as declared_scope
use Rattle.pb_protocol_unfolder_terms.specs.declared.fault.UnfoldFault.{UnfoldFault}
use Rattle.pb_protocol_unfolder_terms.specs.declared.fault.UnfoldRule.{UnfoldRule}
use Rattle.pb_protocol_unfolder_terms.specs.TermFaults.{HasValues, IsFaultAt, IsFaultInCopying}
use Rattle.pb_protocol_unfolder_terms.specs.TermFaults.{IsFaultInElement, IsFaultInTerm}
use Rattle.pb_protocol_unfolder_terms.specs.TermFaults.{surroundings_at_start, surroundings_of}
use Rattle.pb_protocol_unfolder_terms.specs.Values.{tuple_of}
use Rattle.pb_protocol_unfolder_steps.specs.declared.fault.StepsFault.{StepsFault}
use Rattle.pb_protocol_unfolder_steps.specs.declared.fault.StepsFault.TheVariants as fault
use Rattle.pb_protocol_unfolder_steps.specs.declared.instance.Instance as declared_instance

-- ---- steps with their values, and their places

pub record PlacedInstance : Type 0 where
  pub step : StepForm
  pub whole : Bool
  pub own : List Term

abbrev pub placed_whole : StepForm → PlacedInstance
placed_whole a = record { step = a; whole = true; own = [] }

abbrev pub placed_at : StepForm → List Term → PlacedInstance
placed_at a own = record { step = a; whole = false; own = own }

abbrev pub placed_instances_of : Protocol → StepForm → List PlacedInstance
placed_instances_of m a =
    if is_whole m (erased_step a) then placed_whole a ∷ []
    else map (placed_at a) (written_tuples (data_of m) (erased_variables a.variables))

abbrev pub placed_instances : ProtocolForm → List PlacedInstance
placed_instances m = flat_map (placed_instances_of (erase m)) m.steps

-- ---- of the trees

abbrev pub placed_instance : declared_instance.Instance → PlacedInstance
placed_instance i =
    record { step = step_form i.step.now; whole = i.whole; own = tuple_of i.own }

abbrev pub forms_of_step : Protocol → declared_step.Step → List PlacedInstance
forms_of_step m a = placed_instances_of m (step_form a)

abbrev pub forms_of_steps : Protocol → List declared_step.Step → List PlacedInstance
forms_of_steps m steps = flat_map (forms_of_step m) steps

-- ---- faults

-- where it is unfolded what one of these elements is after assignments
abbrev pub IsFaultInElements :
    ProtocolForm → TermScope → List AssignmentForm → List Element → UnfoldRule → Place → Type 0
IsFaultInElements m ρ assignments elements r p =
    (e : Element) × Contains elements e
    × IsFaultInElement (surroundings_of m) ρ assignments e r p

-- where too many assignments are written out, or where it is unfolded what one of these elements is
-- after them
abbrev pub IsFaultInAssigned :
    ProtocolForm → TermScope → List AssignmentForm → List Element → UnfoldRule → Place → Type 0
IsFaultInAssigned m ρ assignments elements r p =
    IsFaultInCopying (data_of (erase m)) assignments r p
    ⊎ IsFaultInElements m ρ assignments elements r p

-- in the guard or in the assignments, where the step's own variables stand for the values, or for
-- themselves
abbrev pub IsFaultInStep : ProtocolForm → PlacedInstance → UnfoldRule → Place → Type 0
IsFaultInStep m i r p =
    let xs = erased_variables i.step.variables in
    let ρ = written xs (own_terms i.whole xs i.own) in
    IsFaultInTerm (surroundings_of m) ρ i.step.guard r p
    ⊎ IsFaultInAssigned m ρ i.step.assignments (all_elements (erase m)) r p

abbrev pub IsFaultInSteps : ProtocolForm → List PlacedInstance → UnfoldRule → Place → Type 0
IsFaultInSteps m instances r p =
    (i : PlacedInstance) × Contains instances i × IsFaultInStep m i r p

-- ---- values at the start

abbrev pub indices_at : StateVariableForm → List Variable
indices_at y = erased_variables y.indices

abbrev pub value_terms : ArgumentForms → List TermForm
value_terms no_arguments = []
value_terms (argument p x xs) = x ∷ value_terms xs

abbrev pub argument_form : declared_argument.Argument → TermForm
argument_form a = term_form a.term

-- in the value of a state variable, where its indices stand for these values
abbrev pub IsFaultAtValues :
    ProtocolForm → List Variable → TermForm → List Term → UnfoldRule → Place → Type 0
IsFaultAtValues m indices x ks =
    IsFaultInTerm (surroundings_at_start m) (written indices ks) x

-- for one of these tuples of values
abbrev pub IsFaultAtSome :
    ProtocolForm → List Variable → TermForm → List (List Term) → UnfoldRule → Place → Type 0
IsFaultAtSome m indices x tuples r p =
    (ks : List Term) × Contains tuples ks × IsFaultAtValues m indices x ks r p

abbrev pub IsFaultInValue :
    ProtocolForm → List Variable → TermForm → UnfoldRule → Place → Type 0
IsFaultInValue m indices x =
    IsFaultAtSome m indices x (written_tuples (data_of (erase m)) indices)

-- of one of these variables, by their indices
abbrev pub IsFaultInValues :
    ProtocolForm → List (List Variable) → List TermForm → UnfoldRule → Place → Type 0
IsFaultInValues m variables values r p =
    (k : ℕ) × (indices : List Variable) × (x : TermForm)
    × (slice_get variables k ≡ Some indices) × (slice_get values k ≡ Some x)
    × IsFaultInValue m indices x r p

abbrev pub IsFaultAtStart : ProtocolForm → UnfoldRule → Place → Type 0
IsFaultAtStart m = IsFaultInValues m (map indices_at m.variables) (value_terms m.initial.values)

-- ---- what a fault says

-- a limit is passed, and Passed holds, or a term isn't unfolded, and P holds of rule and place
abbrev pub IsTermOr : Type 0 → (UnfoldRule → Place → Type 0) → StepsFault → Type 0
IsTermOr Passed P (fault.Limit place) = Passed
IsTermOr Passed P (fault.Term f) = IsFaultAt P f

-- a term isn't unfolded
abbrev pub OnTerm : (UnfoldRule → Place → Type 0) → StepsFault → Type 0
OnTerm P f = IsTermOr ⊥ P f

-- where names stand for values alone
abbrev pub WithValues :
    declared_scope.TermScope → (UnfoldRule → Place → Type 0) → UnfoldRule → Place → Type 0
WithValues scope P r p = HasValues scope → P r p

-- the error of a term, as one of steps
abbrev pub term_error : OrMemory UnfoldFault → OrMemory StepsFault
term_error (Refused f) = Refused (fault.Term f)
term_error Memory = Memory
