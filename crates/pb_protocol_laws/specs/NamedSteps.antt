-- By which of its steps a protocol goes where the model goes that is solved in its place: by that
-- of the name, and the values, that are told.
use Rattle.std.specs.Prelude.{◌≡◌, Bool, true, false, List, [], map, filter, Some, Contains}
use Rattle.pb_text_meaning.specs.Syntax.{Name, Term}
use Rattle.pb_model_meaning.specs.Syntax as model
use Rattle.pb_model_meaning.specs.Steps.{State}
use Rattle.pb_model_meaning.specs.Steps as model_steps
use Rattle.pb_protocol_folding.specs.FoldedModels.{folded_step, is_possible}
use Rattle.pb_protocol_meaning.specs.Syntax.{Protocol, StepSet}
use Rattle.pb_protocol_meaning.specs.Steps.{data_of, successors}
use Rattle.pb_protocol_unfolding.specs.Plain.{plain, IsPlain}
use Rattle.pb_protocol_unfolding.specs.Hygiene.{HidesNothing}
use Rattle.pb_protocol_unfolding.specs.ModelLaws.{flat_model}
use Rattle.pb_protocol_unfolding.specs.Unfolding.{Instance, instances, instance_name, unfolded_step}
use Rattle.pb_protocol_packing.specs.Groups.{groups_of, packed}
use Rattle.pb_protocol_packing.specs.Packable.{IsPackable}
use Rattle.pb_protocol_packing.specs.Unpacked.{unpacked}
use Rattle.pb_protocol_laws.specs.Solved.{itself, StandsFor}

-- ---- the protocol's steps for the name of a model's step

-- the set of an instance's step: as a whole, or by its values
abbrev pub set_where : (whole : Bool) → Name → List Term → StepSet
set_where true x own = StepSet.Only x
set_where false x own = StepSet.With x (map Some own)

abbrev pub instance_set : Instance → StepSet
instance_set i = set_where i.whole i.step.name i.own

-- an instance has the name, and the set is that of its step
pub record IsInstanceStep (protocol : Protocol) (x : Name) (A : StepSet) : Type 0 where
  pub at : Instance
  pub among : Contains (instances protocol) at
  pub named : instance_name at ≡ x
  pub set : A ≡ instance_set at

-- of a plain protocol's own model the step of that name, of the unfolded one that of an instance
abbrev pub IsStepFor : (is_plain : Bool) → Protocol → Name → StepSet → Type 0
IsStepFor true protocol x A = A ≡ StepSet.Only x
IsStepFor false protocol x A = IsInstanceStep protocol x A

-- Where the model goes from one of its states by a step of a name, the protocol goes from the state
-- that this one says by the steps for the name, to what the state after says.
abbrev pub GoesByNames : (is_plain : Bool) → Protocol → model.Model → (State → State) → Type 0
GoesByNames is_plain protocol m says =
    (x : Name) (A : StepSet) (s t : State) → IsStepFor is_plain protocol x A →
    model_steps.is_state m s ≡ true →
    Contains (model_steps.successors m (model.StepSet.Only x) s) t →
    (r : State) × Contains (successors protocol [] A (says s)) r × StandsFor protocol m says r t

abbrev pub PlainModelsGoByNames : Type 0
PlainModelsGoByNames =
    (m : model.Model) → IsPlain m → GoesByNames true (plain m) m itself

abbrev pub UnfoldedModelsGoByNames : Type 0
UnfoldedModelsGoByNames =
    (protocol : Protocol) → HidesNothing protocol →
    GoesByNames false protocol (flat_model protocol) itself

-- and so it is where the model's variables are packed
abbrev pub PackedModelsGoByNames : Type 0
PackedModelsGoByNames =
    (is_plain : Bool) (protocol : Protocol) (m : model.Model) → IsPackable m →
    GoesByNames is_plain protocol m itself →
    GoesByNames is_plain protocol (packed m) (unpacked (groups_of m))

-- ---- the steps of the unfolded model

-- it has a step for each instance whose guard isn't folded to `false`, by its name and in this
-- order, in which these instances are told
abbrev pub FlatStepsAreInstances : Type 0
FlatStepsAreInstances =
    (protocol : Protocol) →
    map (λ (a : model.Step). a.name) (flat_model protocol).steps
    ≡ map instance_name
    (filter
    (λ (i : Instance). is_possible (folded_step (data_of protocol) (unfolded_step protocol i)))
    (instances protocol))

-- so for the name of each of its steps there is a step of the protocol, with its values or whole
abbrev pub EachFlatStepIsAnInstance : Type 0
EachFlatStepIsAnInstance =
    (protocol : Protocol) (a : model.Step) → Contains (flat_model protocol).steps a →
    (A : StepSet) × IsInstanceStep protocol a.name A

-- and no two, since one instance has the name
abbrev pub InstancesAreApart : Type 0
InstancesAreApart =
    (protocol : Protocol) → HidesNothing protocol → (i j : Instance) →
    Contains (instances protocol) i → Contains (instances protocol) j →
    instance_name i ≡ instance_name j → i ≡ j
