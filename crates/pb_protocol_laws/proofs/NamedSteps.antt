-- Where a model goes by a step, the protocol goes by the step of that name and these values.
use Rattle.std.proofs.Common.{◌≡◌, Bool, true, false, true≢false, cond, List, [], ◌∷◌, map, refl, sym, ap, ◌∙◌, subst, inl, inr, arith}
use Rattle.std.specs.Prelude.{Contains, filter, Some}
use Rattle.std.specs.Ordering.{int_eq}
use Rattle.pb_base_values.specs.Carrier.{is_within}
use Rattle.pb_text_meaning.specs.Syntax.{Name, same_name, Term}
use Rattle.pb_text_meaning.specs.Value.{value}
use Rattle.pb_model_meaning.specs.Syntax as model
use Rattle.pb_model_meaning.specs.Steps.{State}
use Rattle.pb_model_meaning.specs.Steps as model_steps
use Rattle.pb_model_runs.proofs.Elements.{first_of, later_of, either_of, mapped, unfiltered, passing, passes, both-true, or-here, or-later, in-some, of-some, of-mapped}
use Rattle.pb_protocol_folding.specs.FoldedModels.{folded_step, folded_steps, is_possible}
use Rattle.pb_protocol_folding.specs.Laws.{HidesNoNames}
use Rattle.pb_protocol_folding.specs.Names.{IsNot, AreDistinct, AreNot, names_of, enumerators_in, HaveNoneOf, AssignOnce}
use Rattle.pb_protocol_folding.proofs.FoldedModels.{same-self, folding_keeps_steps}
use Rattle.pb_protocol_meaning.specs.Syntax as protocol
use Rattle.pb_protocol_meaning.specs.Syntax.{Protocol, StepSet}
use Rattle.pb_protocol_meaning.specs.Steps.{data_of, fits, successors}
use Rattle.pb_protocol_unfolding.specs.PutIn.{TermScope}
use Rattle.pb_protocol_unfolding.specs.Unfolding.{Element, Instance, instances, instance_name, all_elements, name_of, variable_of, variables_of, written, unfolded, unfolded_assignment, unfolded_set, unfolded_step, named_steps, is_in_set, values_of}
use Rattle.pb_protocol_unfolding.specs.Hygiene.{HidesNothing}
use Rattle.pb_protocol_unfolding.specs.ModelLaws.{flat_model}
use Rattle.pb_protocol_unfolding.specs.Plain.{plain, PlainModelsKeepTheirMeaning}
use Rattle.pb_protocol_unfolding.proofs.FlatModels.{flat-hides}
use Rattle.pb_protocol_unfolding.proofs.States.{carriers-same}
use Rattle.pb_protocol_packing.specs.Groups.{groups_of, packed}
use Rattle.pb_protocol_packing.specs.Laws.{StatesStandForStates}
use Rattle.pb_protocol_packing.specs.Unpacked.{unpacked}
use Rattle.pb_protocol_packing.specs.Unpacked as packed_states
use Rattle.pb_protocol_laws.specs.NamedSteps.{PlainModelsGoByNames, UnfoldedModelsGoByNames, PackedModelsGoByNames}
use Rattle.pb_protocol_laws.specs.NamedSteps.{instance_set, FlatStepsAreInstances, EachFlatStepIsAnInstance, InstancesAreApart}
use Rattle.pb_protocol_laws.proofs.InstanceSteps.{by-instance, instance-leads, one-of-a-name}
use Rattle.pb_protocol_laws.proofs.Packed.{StatesSayStates}
use Rattle.pb_protocol_laws.proofs.States.{stands_through}

-- ---- a plain protocol's own model

pub plain_models_go_by_names : PlainModelsKeepTheirMeaning → PlainModelsGoByNames
plain_models_go_by_names law m is_plain x A s t e within among =
    let keeps = law m is_plain in
    let there : Contains (successors (plain m) [] (StepSet.Only x) s) t =
    subst (λ (ts : List State). Contains ts t) (sym (keeps.2 (model.StepSet.Only x) s within)) among in
    (t, subst (λ (B : StepSet). Contains (successors (plain m) [] B s) t) (sym e) there, (sym (keeps.1 t), λ is. refl))

-- ---- the unfolded model

pub unfolded_models_go_by_names : UnfoldedModelsGoByNames
unfolded_models_go_by_names m hides x A s t stands within among =
    let i = stands.at in
    let only = model.StepSet.Only (instance_name i) in
    let folds = subst (λ (y : Name). Contains (model_steps.successors (flat_model m) (model.StepSet.Only y) s) t) (sym stands.named) among in
    let unfolds : Contains (model_steps.successors (unfolded m) only s) t =
    subst (λ (ts : List State). Contains ts t) (folding_keeps_steps (unfolded m) (flat-hides m hides) only s).0 folds in
    let there = instance-leads m hides i stands.among s t (by-instance m hides i stands.among s t unfolds) in (
      t,
      subst (λ (B : StepSet). Contains (successors m [] B s) t) (sym stands.set) there,
      (ap (λ cs. is_within cs t) (carriers-same m hides), λ is. refl),
    )

-- ---- packed variables

pub packed_models_go_by_names : StatesStandForStates → StatesSayStates → PackedModelsGoByNames
packed_models_go_by_names stand say is_plain p m able goes x A s t stands within among =
    let says : State → State = unpacked (groups_of m) in
    let only = model.StepSet.Only x in
    let met = found (model_steps.successors m only (says s)) (model_steps.successors (packed m) only s) ((stand m able).1 only s within) among in
    let moved = goes x A (says s) met.0 stands (say m able s within) met.1 in
    (moved.0, moved.1, stands_through p m (packed m) says moved.0 met.0 t moved.2 met.2)
  where
    found : (rs ts : List State) → packed_states.AllStandFor m (packed m) (unpacked (groups_of m)) rs ts → Contains ts t
        → (r : State) × Contains rs r × packed_states.StandsFor m (packed m) (unpacked (groups_of m)) r t
    found [] [] h k = absurd (omega (arith, k.1))
    found [] (u ∷ ts) h k = absurd h
    found (r ∷ rs) [] h k = absurd h
    found (r ∷ rs) (u ∷ ts) (h, hs) k = elim (either_of u ts t k) [
      | inl same ↦ (r, first_of r rs, subst (λ (v : State). packed_states.StandsFor m (packed m) (unpacked (groups_of m)) r v) same h)
      | inr later ↦ let there = found rs ts hs later in (there.0, later_of r rs there.0 there.1, there.2)
    ]

-- ---- the steps of the flat model

-- the guard of the instance's step isn't folded to `false`
abbrev is_left_instance : Protocol → Instance → Bool
is_left_instance m i = is_possible (folded_step (data_of m) (unfolded_step m i))

pub flat_steps_are_instances : FlatStepsAreInstances
flat_steps_are_instances m = over (instances m)
  where
    over : (is : List Instance)
        → map (λ (a : model.Step). a.name) (folded_steps (data_of m) (map (unfolded_step m) is)) ≡ map instance_name (filter (is_left_instance m) is)
    over [] = refl
    over (i ∷ is) = by (is_left_instance m i) (over is)
      where
        by : (b : Bool) → map (λ (a : model.Step). a.name) (folded_steps (data_of m) (map (unfolded_step m) is)) ≡ map instance_name (filter (is_left_instance m) is)
            → map (λ (a : model.Step). a.name)
            (cond b (folded_step (data_of m) (unfolded_step m i) ∷ folded_steps (data_of m) (map (unfolded_step m) is)) (folded_steps (data_of m) (map (unfolded_step m) is)))
            ≡ map instance_name (cond b (i ∷ filter (is_left_instance m) is) (filter (is_left_instance m) is))
        by true e = ap (λ xs. instance_name i ∷ xs) e
        by false e = e

pub each_flat_step_is_an_instance : EachFlatStepIsAnInstance
each_flat_step_is_an_instance m a h =
    let named : Contains (map instance_name (filter (is_left_instance m) (instances m))) a.name =
    subst (λ (xs : List Name). Contains xs a.name) (flat_steps_are_instances m) (mapped (λ (b : model.Step). b.name) (flat_model m).steps a h) in
    let found = of-mapped instance_name (filter (is_left_instance m) (instances m)) a.name named in
    let i = found.0 in
    (instance_set i, record { at = i; among = unfiltered (is_left_instance m) (instances m) i found.1; named = found.2; set = refl })

pub instances_are_apart : InstancesAreApart
instances_are_apart m hides i j first second e = one-of-a-name (instances m) hides.steps i j first second e
