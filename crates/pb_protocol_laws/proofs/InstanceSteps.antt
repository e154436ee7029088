-- Where the flat step of an instance leads, the protocol's step leads: as a whole, or with these values.
use Rattle.std.proofs.Common.{◌≡◌, zero, suc, Bool, true, false, true≢false, ◌&&◌, if◌then◌else◌, List, [], ◌∷◌, map, flat_map, refl, sym, ap, ◌∙◌, subst, inl, inr, arith}
use Rattle.std.specs.Prelude.{Contains, filter, Some}
use Rattle.std.specs.Ordering.{int_eq}
use Rattle.pb_base_values.specs.Carrier.{Tuple, tuples}
use Rattle.pb_text_meaning.specs.Syntax.{Name, same_name, Term}
use Rattle.pb_text_meaning.specs.Value.{value}
use Rattle.pb_text_meaning.specs.Formula.{carriers_of}
use Rattle.pb_model_meaning.specs.Syntax as model
use Rattle.pb_model_meaning.specs.Steps.{State}
use Rattle.pb_model_meaning.specs.Steps as model_steps
use Rattle.pb_model_runs.proofs.Elements.{first_of, either_of, mapped, unfiltered, passing, passes, both-true, in-some, of-some, of-mapped}
use Rattle.pb_protocol_folding.specs.Names.{IsNot, AreDistinct}
use Rattle.pb_protocol_folding.proofs.FoldedModels.{same-names, same-self}
use Rattle.pb_protocol_meaning.specs.Syntax.{Protocol, Step, StepSet}
use Rattle.pb_protocol_meaning.specs.Steps.{data_of, fits, has_step, is_enabled, next_state, successors_by, successors}
use Rattle.pb_protocol_unfolding.specs.Written.{written_tuples}
use Rattle.pb_protocol_unfolding.specs.Unfolding.{Instance, instances, instances_of, instance_name, is_whole, unfolded, unfolded_step, values_of, whole_step, with_own}
use Rattle.pb_protocol_unfolding.specs.Hygiene.{HidesNothing}
use Rattle.pb_protocol_unfolding.proofs.States.{AreSettled, tuples-written}
use Rattle.pb_protocol_unfolding.proofs.Successors.{AllSettled, tuples-settled, whole-leads, written-leads}
use Rattle.pb_protocol_unfolding.proofs.WrittenLaws.{value-self}
use Rattle.pb_protocol_laws.specs.NamedSteps.{instance_set}
use Rattle.pb_protocol_laws.proofs.OwnValues.{AreThemselves, own-themselves}

-- ---- instances by their names

not-again : (x : Name) (is : List Instance) (k : Instance) → IsNot x (map instance_name is) → Contains is k → instance_name k ≡ x → ⊥
not-again x [] k new h e = absurd (omega (arith, h.1))
not-again x (y ∷ is) k new h e = elim (either_of y is k h) [
  | inl same ↦ true≢false (sym (same-self x) ∙ ap (λ (z : Name). same_name z x) (sym e ∙ ap instance_name (sym same)) ∙ new.0)
  | inr later ↦ not-again x is k new.1 later e
]

pub one-of-a-name : (is : List Instance) → AreDistinct (map instance_name is) → (i j : Instance) → Contains is i → Contains is j → instance_name i ≡ instance_name j → i ≡ j
one-of-a-name [] apart i j h k e = absurd (omega (arith, h.1))
one-of-a-name (y ∷ is) apart i j h k e = elim (either_of y is i h) [
  | inl first ↦
      elim (either_of y is j k) [
        | inl second ↦ sym first ∙ second
        | inr later ↦ absurd (not-again (instance_name y) is j apart.0 later (sym e ∙ ap instance_name (sym first)))
      ]
  | inr earlier ↦
      elim (either_of y is j k) [
        | inl second ↦ absurd (not-again (instance_name y) is i apart.0 earlier (e ∙ ap instance_name (sym second)))
        | inr later ↦ one-of-a-name is apart.1 i j earlier later e
      ]
]

-- ---- values

settled-among : (m : Protocol) (all : List (List Term)) → AllSettled m all → (ks : List Term) → Contains all ks → AreSettled m ks
settled-among m [] h ks among = absurd (omega (arith, among.1))
settled-among m (ls ∷ all) h ks among = elim (either_of ls all ks among) [
  | inl same ↦ subst (AreSettled m) same h.0
  | inr later ↦ settled-among m all h.1 ks later
]

-- written values are the ones that they are
fits-itself : (m : Protocol) (ks : List Term) → AreThemselves m ks → fits m [] (map Some ks) (values_of m ks) ≡ true
fits-itself m [] h = refl
fits-itself m (k ∷ ks) h =
    both-true _ (fits m [] (map Some ks) (values_of m ks)) (ap (λ v. int_eq v (value (data_of m) [] k)) h.0 ∙ value-self (value (data_of m) [] k)) (fits-itself m ks h.1)

-- ---- where they lead

module _ (m : Protocol) (hides : HidesNothing m) where
  -- the step of a name is that of the instance that has it
  pub by-instance : (i : Instance) → Contains (instances m) i → (s t : State) → Contains (model_steps.successors (unfolded m) (model.StepSet.Only (instance_name i)) s) t
      → Contains (model_steps.successors_by (unfolded m) s (unfolded_step m i)) t
  by-instance i among s t h =
      let only = model.StepSet.Only (instance_name i) in
      let found = in-some (model_steps.successors_by (unfolded m) s) (model_steps.steps_in (unfolded m) only) t h in
      let b = found.0 in
      let named : same_name (instance_name i) b.name ≡ true = passes (λ (b : model.Step). model_steps.has_step only b.name) (unfolded m).steps b found.1 in
      let made = of-mapped (unfolded_step m) (instances m) b (unfiltered (λ (b : model.Step). model_steps.has_step only b.name) (unfolded m).steps b found.1) in
      let j = made.0 in
      let same : i ≡ j = one-of-a-name (instances m) hides.steps i j among made.1 (same-names (instance_name i) b.name named ∙ sym (ap (λ (a : model.Step). a.name) made.2)) in
      subst (λ (k : Instance). Contains (model_steps.successors_by (unfolded m) s (unfolded_step m k)) t) (sym same)
      (subst (λ (a : model.Step). Contains (model_steps.successors_by (unfolded m) s a) t) (sym made.2) found.2)

  -- with written values it leads where the protocol's step does with their values
  written-step : (A : StepSet) (a : Step) (ks : List Term) → Contains m.steps a → Contains (written_tuples (data_of m) a.variables) ks → has_step m [] A a.name (values_of m ks) ≡ true
      → (s t : State) → Contains (model_steps.successors_by (unfolded m) s (unfolded_step m (with_own a ks))) t → Contains (successors m [] A s) t
  written-step A a ks among own has s t h =
      by (is_enabled m s a (values_of m ks)) refl
      (subst (λ (ts : List State). Contains ts t)
      (written-leads m hides s a ks (settled-among m (written_tuples (data_of m) a.variables) (tuples-settled m hides a.variables) ks own)) h)
    where
      by : (b : Bool) → is_enabled m s a (values_of m ks) ≡ b → Contains (if b then next_state m s a (values_of m ks) ∷ [] else []) t → Contains (successors m [] A s) t
      by true e here = elim (either_of (next_state m s a (values_of m ks)) [] t here) [
        | inl same ↦
            let test : Tuple → Bool = λ own. has_step m [] A a.name own && is_enabled m s a own in
            let value : Contains (tuples (carriers_of (data_of m) a.variables)) (values_of m ks) =
            subst (λ ts. Contains ts (values_of m ks)) (sym (tuples-written m hides a.variables)) (mapped (values_of m) (written_tuples (data_of m) a.variables) ks own) in
            let there = mapped (next_state m s a) (filter test (tuples (carriers_of (data_of m) a.variables))) (values_of m ks)
            (passing test (tuples (carriers_of (data_of m) a.variables)) (values_of m ks) value (both-true (has_step m [] A a.name (values_of m ks)) (is_enabled m s a (values_of m ks)) has e)) in
            subst (Contains (successors m [] A s)) same (of-some (successors_by m [] A s) m.steps a (next_state m s a (values_of m ks)) among there)
        | inr none ↦ absurd (omega (arith, none.1))
      ]
      by false e here = absurd (omega (arith, here.1))

  -- as a whole it leads where the protocol's step does with all values
  whole-goes : (A : StepSet) (a : Step) → Contains m.steps a → is_whole m a ≡ true → ((own : Tuple) → has_step m [] A a.name own ≡ true)
      → (s t : State) → Contains (model_steps.successors_by (unfolded m) s (unfolded_step m (whole_step a))) t → Contains (successors m [] A s) t
  whole-goes A a among whole all s t h =
      of-some (successors_by m [] A s) m.steps a t among (subst (λ (ts : List State). Contains ts t) (whole-leads m hides A s a whole all) h)

  pub instance-leads : (i : Instance) → Contains (instances m) i → (s t : State) → Contains (model_steps.successors_by (unfolded m) s (unfolded_step m i)) t
      → Contains (successors m [] (instance_set i) s) t
  instance-leads i among s t h =
      let found = in-some (instances_of m) m.steps i among in
      let a = found.0 in
      by a found.1 (is_whole m a) refl found.2
    where
      by : (a : Step) → Contains m.steps a → (b : Bool) → is_whole m a ≡ b → Contains (if b then whole_step a ∷ [] else map (with_own a) (written_tuples (data_of m) a.variables)) i
          → Contains (successors m [] (instance_set i) s) t
      by a step true e here = elim (either_of (whole_step a) [] i here) [
        | inl same ↦
            subst (λ (k : Instance). Contains (successors m [] (instance_set k) s) t) same
            (whole-goes (instance_set (whole_step a)) a step e (λ own. same-self a.name) s t
            (subst (λ (k : Instance). Contains (model_steps.successors_by (unfolded m) s (unfolded_step m k)) t) (sym same) h))
        | inr none ↦ absurd (omega (arith, none.1))
      ]
      by a step false e here =
          let made = of-mapped (with_own a) (written_tuples (data_of m) a.variables) i here in
          let ks = made.0 in
          let themselves : AreThemselves m ks = subst (λ (k : Instance). AreThemselves m k.own) (sym made.2) (own-themselves m hides i among) in
          let has : has_step m [] (instance_set (with_own a ks)) a.name (values_of m ks) ≡ true =
          both-true (same_name a.name a.name) (fits m [] (map Some ks) (values_of m ks)) (same-self a.name) (fits-itself m ks themselves) in
          subst (λ (k : Instance). Contains (successors m [] (instance_set k) s) t) made.2
          (written-step (instance_set (with_own a ks)) a ks step made.1 has s t
          (subst (λ (k : Instance). Contains (model_steps.successors_by (unfolded m) s (unfolded_step m k)) t) (sym made.2) h))
