-- The steps of the flat model lead where those of the protocol do.
use Rattle.std.proofs.Common.{◌≡◌, Bool, true, false, ◌&&◌, ◌||◌, cond, if◌then◌else◌, List, [], ◌∷◌, ◌++◌, map, flat_map, refl, sym, ap, ◌∙◌}
use Rattle.std.specs.Prelude.{filter}
use Rattle.std.specs.List.{list_any}
use Rattle.std.proofs.Math.Path.{fun_ext}
use Rattle.std.proofs.lemmas.List.Elements.{filter-append}
use Rattle.std.proofs.lemmas.List.Folds.{flat_map-map}
use Rattle.std.proofs.lemmas.Grind.{flat_map-append}
use Rattle.pb_base_values.specs.Carrier.{Tuple, tuples}
use Rattle.pb_text_meaning.specs.Syntax.{Name, same_name, Variable, Term}
use Rattle.pb_text_meaning.specs.Value as data_value
use Rattle.pb_text_meaning.specs.Formula.{carriers_of}
use Rattle.pb_model_meaning.specs.Syntax as flat
use Rattle.pb_model_meaning.specs.Steps.{State}
use Rattle.pb_model_meaning.specs.Steps as flat_steps
use Rattle.pb_protocol_folding.specs.Names.{IsNot, AreDistinct}
use Rattle.pb_protocol_meaning.specs.Syntax.{StateVariable, Step, StepSet, Protocol}
use Rattle.pb_protocol_meaning.specs.Steps.{data_of, has_step, is_enabled, next_state, successors_by, successors}
use Rattle.pb_protocol_unfolding.specs.Written.{written_values, written_tuples}
use Rattle.pb_protocol_unfolding.specs.PutIn.{TermScope}
use Rattle.pb_protocol_unfolding.specs.Whole.{is_among, valued_in_set}
use Rattle.pb_protocol_unfolding.specs.Unfolding.{elements_of, Instance, is_whole, whole_step, with_own, instances_of, instances, instance_name, unfolded_step, values_of, valued, named_steps, is_in_set, unfolded_set, unfolded}
use Rattle.pb_protocol_unfolding.specs.Hygiene.{HidesNothing}
use Rattle.pb_protocol_unfolding.specs.ModelLaws.{NamesNoWhole, StepsAreUnfolded}
use Rattle.pb_protocol_folding.proofs.FoldedModels.{same-self}
use Rattle.pb_protocol_unfolding.proofs.States.{same-not, AreSettled, written-settled, tuples-written}
use Rattle.pb_protocol_unfolding.proofs.NextStates.{IndicesAreSettled, next-here, enabled-here}
use Rattle.pb_protocol_unfolding.proofs.WholeSteps.{any-values, all-lead, none-leads, tuples-many}

-- ---- lists

filter-flat_map : {A B : Type 0} (p : B → Bool) (f : A → List B) (xs : List A) → filter p (flat_map f xs) ≡ flat_map (λ x. filter p (f x)) xs
filter-flat_map p f [] = refl
filter-flat_map p f (x ∷ xs) = filter-append p (f x) (flat_map f xs) ∙ ap (λ l. filter p (f x) ++ l) (filter-flat_map p f xs)

flat_map-flat_map : {A B C : Type 0} (h : B → List C) (f : A → List B) (xs : List A) → flat_map h (flat_map f xs) ≡ flat_map (λ x. flat_map h (f x)) xs
flat_map-flat_map h f [] = refl
flat_map-flat_map h f (x ∷ xs) = flat_map-append h (f x) (flat_map f xs) ∙ ap (λ l. flat_map h (f x) ++ l) (flat_map-flat_map h f xs)

append-nothing : {A : Type 0} (xs : List A) → (xs ++ []) ≡ xs
append-nothing [] = refl
append-nothing (x ∷ xs) = ap (λ l. x ∷ l) (append-nothing xs)

-- ---- sets of steps

or-false : (b : Bool) → b ≡ (b || false)
or-false true = refl
or-false false = refl

has-named : (xs : List Name) (y : Name) → flat_steps.has_step (named_steps xs) y ≡ list_any (λ x. same_name x y) xs
has-named [] y = refl
has-named (x ∷ []) y = or-false (same_name x y)
has-named (x ∷ z ∷ xs) y = ap (λ b. same_name x y || b) (has-named (z ∷ xs) y)

-- whether a name is that of an instance in the set
abbrev is_named : (Instance → Bool) → List Instance → Name → Bool
is_named p is y = list_any (λ x. same_name x y) (map instance_name (filter p is))

none-named : (p : Instance → Bool) (is : List Instance) (y : Name) → IsNot y (map instance_name is) → is_named p is y ≡ false
none-named p [] y new = refl
none-named p (i ∷ is) y new = by (p i) (none-named p is y new.1)
  where
    by : (b : Bool) → is_named p is y ≡ false → list_any (λ x. same_name x y) (map instance_name (cond b (i ∷ filter p is) (filter p is))) ≡ false
    by true h = ap (λ c. c || is_named p is y) new.0 ∙ h
    by false h = h

AllAgree : (Name → Bool) → (Instance → Bool) → List Instance → Type 0
AllAgree q p [] = Unit {0}
AllAgree q p (i ∷ is) = (q (instance_name i) ≡ p i) × AllAgree q p is

agree-in-front : (p : Instance → Bool) (i : Instance) (all is : List Instance) → IsNot (instance_name i) (map instance_name is) →
    AllAgree (is_named p all) p is → AllAgree (is_named p (i ∷ all)) p is
unfolding AllAgree
agree-in-front p i all [] new h = tt
agree-in-front p i all (j ∷ is) new h = (by (p i) ∙ h.0, agree-in-front p i all is new.1 h.1)
  where
    by : (b : Bool) → list_any (λ x. same_name x (instance_name j)) (map instance_name (cond b (i ∷ filter p all) (filter p all))) ≡ is_named p all (instance_name j)
    by true = ap (λ c. c || is_named p all (instance_name j)) (same-not (instance_name j) (instance_name i) new.0)
    by false = refl

all-agree : (p : Instance → Bool) (is : List Instance) → AreDistinct (map instance_name is) → AllAgree (is_named p is) p is
unfolding AllAgree
all-agree p [] apart = tt
all-agree p (i ∷ is) apart = (own (p i), agree-in-front p i is is apart.0 (all-agree p is apart.1))
  where
    own : (b : Bool) → list_any (λ x. same_name x (instance_name i)) (map instance_name (cond b (i ∷ filter p is) (filter p is))) ≡ b
    own true = ap (λ c. c || is_named p is (instance_name i)) (same-self (instance_name i))
    own false = none-named p is (instance_name i) apart.0

filtered-steps : (m : Protocol) (q : Name → Bool) (p : Instance → Bool) (is : List Instance) → AllAgree q p is →
    filter (λ (b : flat.Step). q b.name) (map (unfolded_step m) is) ≡ map (unfolded_step m) (filter p is)
unfolding AllAgree
filtered-steps m q p [] h = refl
filtered-steps m q p (i ∷ is) h =
    ap (λ b. cond b (unfolded_step m i ∷ filter (λ (b : flat.Step). q b.name) (map (unfolded_step m) is)) (filter (λ (b : flat.Step). q b.name) (map (unfolded_step m) is))) h.0 ∙
    by (p i) (filtered-steps m q p is h.1)
  where
    by : (b : Bool) → filter (λ (b : flat.Step). q b.name) (map (unfolded_step m) is) ≡ map (unfolded_step m) (filter p is) →
        cond b (unfolded_step m i ∷ filter (λ (b : flat.Step). q b.name) (map (unfolded_step m) is)) (filter (λ (b : flat.Step). q b.name) (map (unfolded_step m) is))
        ≡ map (unfolded_step m) (cond b (i ∷ filter p is) (filter p is))
    by true e = ap (λ l. unfolded_step m i ∷ l) e
    by false e = e

steps-in-set : (m : Protocol) → HidesNothing m → (p : Instance → Bool) →
    flat_steps.steps_in (unfolded m) (named_steps (map instance_name (filter p (instances m)))) ≡ map (unfolded_step m) (filter p (instances m))
steps-in-set m hides p =
    ap (λ (q : Name → Bool). filter (λ (b : flat.Step). q b.name) (map (unfolded_step m) (instances m))) (fun_ext (has-named (map instance_name (filter p (instances m))))) ∙
    filtered-steps m (is_named p (instances m)) p (instances m) (all-agree p (instances m) hides.steps)

-- the steps of an unfolded set are the instances in the set
pub no-filter : {A : Type 0} (xs : List A) → filter (λ (x : A). true) xs ≡ xs
no-filter [] = refl
no-filter (x ∷ xs) = ap (λ l. x ∷ l) (no-filter xs)

steps-in-unfolded : (m : Protocol) → HidesNothing m → (ρ : TermScope) (A : StepSet) →
    flat_steps.steps_in (unfolded m) (unfolded_set m ρ A) ≡ map (unfolded_step m) (filter (is_in_set m ρ A) (instances m))
steps-in-unfolded m hides ρ StepSet.All = no-filter (map (unfolded_step m) (instances m)) ∙ sym (ap (map (unfolded_step m)) (no-filter (instances m)))
steps-in-unfolded m hides ρ (StepSet.Only x) = steps-in-set m hides (is_in_set m ρ (StepSet.Only x))
steps-in-unfolded m hides ρ (StepSet.With x values) = steps-in-set m hides (is_in_set m ρ (StepSet.With x values))
steps-in-unfolded m hides ρ (StepSet.Complement A) = steps-in-set m hides (is_in_set m ρ (StepSet.Complement A))
steps-in-unfolded m hides ρ (StepSet.Union A B) = steps-in-set m hides (is_in_set m ρ (StepSet.Union A B))

-- ---- tuples of values

abbrev pub AllSettled : Protocol → List (List Term) → Type 0
AllSettled m [] = Unit {0}
AllSettled m (ks ∷ rest) = AreSettled m ks × AllSettled m rest

module _ (m : Protocol) (hides : HidesNothing m) where
  both-settled : (xs ys : List (List Term)) → AllSettled m xs → AllSettled m ys → AllSettled m (xs ++ ys)
  both-settled [] ys h k = k
  both-settled (x ∷ xs) ys h k = (h.0, both-settled xs ys h.1 k)

  pub tuples-settled : (xs : List Variable) → AllSettled m (written_tuples (data_of m) xs)
  tuples-settled [] = (tt, tt)
  tuples-settled (x ∷ xs) = all (written_values (data_of m) x.sort) (written-settled m hides x.sort) (tuples-settled xs)
    where
      each : (k : Term) → AreSettled m (k ∷ []) → (rest : List (List Term)) → AllSettled m rest → AllSettled m (map (λ (ks : List Term). k ∷ ks) rest)
      each k h [] r = tt
      each k h (ks ∷ rest) r = ((h.0, r.0), each k h rest r.1)

      all : (ks : List Term) → AreSettled m ks → AllSettled m (written_tuples (data_of m) xs) →
          AllSettled m (flat_map (λ k. map (λ (ks : List Term). k ∷ ks) (written_tuples (data_of m) xs)) ks)
      all [] h r = tt
      all (k ∷ ks) h r =
          both-settled (map (λ (ks : List Term). k ∷ ks) (written_tuples (data_of m) xs)) (flat_map (λ k. map (λ (ks : List Term). k ∷ ks) (written_tuples (data_of m) xs)) ks)
          (each k (h.0, tt) (written_tuples (data_of m) xs) r) (all ks h.1 r)

  pub indices-settled : (ys : List StateVariable) → IndicesAreSettled m (flat_map (elements_of (data_of m)) ys)
  indices-settled [] = tt
  indices-settled (y ∷ ys) = over (written_tuples (data_of m) y.indices) (tuples-settled y.indices) (indices-settled ys)
    where
      over : (rest : List (List Term)) → AllSettled m rest → IndicesAreSettled m (flat_map (elements_of (data_of m)) ys) →
          IndicesAreSettled m (map (λ (ks : List Term). record { array = y.name; index = ks; sort = y.sort }) rest ++ flat_map (elements_of (data_of m)) ys)
      over [] h others = others
      over (ks ∷ rest) h others = (h.0, over rest h.1 others)

  -- ---- successors

  module _ (ρ : TermScope) (A : StepSet) (s : State) where
    abbrev c : data_value.Assignment
    c = valued (data_of m) [] ρ

    abbrev in_set : Instance → Bool
    in_set i = is_in_set m ρ A i

    abbrev leads : Instance → List State
    leads i = flat_steps.successors_by (unfolded m) s (unfolded_step m i)

    abbrev flat_rest : Step → List (List Term) → List State
    flat_rest a rest = flat_map leads (filter in_set (map (with_own a) rest))

    abbrev rest_in : Step → List (List Term) → List Tuple
    rest_in a rest = filter (λ (own : Tuple). has_step m c A a.name own && is_enabled m s a own) (map (values_of m) rest)

    by-values : (a : Step) (rest : List (List Term)) → AllSettled m rest →
        flat_map leads (filter in_set (map (with_own a) rest))
        ≡ map (next_state m s a) (filter (λ (own : Tuple). has_step m c A a.name own && is_enabled m s a own) (map (values_of m) rest))
    by-values a [] h = refl
    by-values a (ks ∷ rest) h = by (has_step m c A a.name (values_of m ks)) (by-values a rest h.1)
      where
        taken : (b : Bool) → (flat_rest a rest) ≡ map (next_state m s a) (rest_in a rest) →
            map (flat_steps.next_state (unfolded m) s (unfolded_step m (with_own a ks))) (cond b ([] ∷ []) []) ++ (flat_rest a rest)
            ≡ map (next_state m s a) (cond b (values_of m ks ∷ (rest_in a rest)) (rest_in a rest))
        taken true e =
            ap (λ t. t ∷ (flat_rest a rest)) (next-here m hides s a ks h.0 (indices-settled m.variables)) ∙
            ap (λ l. next_state m s a (values_of m ks) ∷ l) e
        taken false e = e

        by : (b : Bool) → (flat_rest a rest) ≡ map (next_state m s a) (rest_in a rest) →
            flat_map leads
            (cond b (with_own a ks ∷ filter in_set
            (map (with_own a) rest))
            (filter in_set (map (with_own a) rest)))
            ≡ map (next_state m s a) (cond (b && is_enabled m s a (values_of m ks)) (values_of m ks ∷ (rest_in a rest)) (rest_in a rest))
        by true e =
            ap (λ b. map (flat_steps.next_state (unfolded m) s (unfolded_step m (with_own a ks))) (cond b ([] ∷ []) []) ++ (flat_rest a rest))
            (enabled-here m hides s a ks h.0) ∙
            taken (is_enabled m s a (values_of m ks)) e
        by false e = e

    -- a step that stays whole is in the set as a whole
    by-whole : (a : Step) → is_whole m a ≡ true → is_among (valued_in_set A) a.name ≡ false → flat_map leads (filter in_set (whole_step a ∷ [])) ≡ successors_by m c A s a
    by-whole a whole unnamed = by (has_step m c A a.name []) refl
      where
        by : (b : Bool) → has_step m c A a.name [] ≡ b → flat_map leads (cond b (whole_step a ∷ []) []) ≡ successors_by m c A s a
        by true e =
            append-nothing (leads (whole_step a)) ∙
            all-lead m hides s a whole (indices-settled m.variables) (has_step m c A a.name) (λ own. any-values m c A a.name unnamed own [] ∙ e)
            (tuples (carriers_of (data_of m) a.variables)) (tuples-many (data_of m) a.variables)
        by false e =
            none-leads m hides s a whole (indices-settled m.variables) (has_step m c A a.name) (λ own. any-values m c A a.name unnamed own [] ∙ e)
            (tuples (carriers_of (data_of m) a.variables))

    by-tuples : (a : Step) → flat_map leads (filter in_set (map (with_own a) (written_tuples (data_of m) a.variables))) ≡ successors_by m c A s a
    by-tuples a =
        by-values a (written_tuples (data_of m) a.variables) (tuples-settled a.variables) ∙
        ap (λ ts. map (next_state m s a) (filter (λ (own : Tuple). has_step m c A a.name own && is_enabled m s a own) ts)) (sym (tuples-written m hides a.variables))

    pub by-step : NamesNoWhole m (valued_in_set A) → (a : Step) → flat_map leads (filter in_set (instances_of m a)) ≡ successors_by m c A s a
    by-step names a = by (is_whole m a) refl
      where
        by : (b : Bool) → is_whole m a ≡ b →
            flat_map leads (filter in_set (if b then whole_step a ∷ [] else map (with_own a) (written_tuples (data_of m) a.variables))) ≡ successors_by m c A s a
        by true e = by-whole a e (names a e)
        by false e = by-tuples a

    pub successors-here : NamesNoWhole m (valued_in_set A) → flat_steps.successors (unfolded m) (unfolded_set m ρ A) s ≡ successors m (valued (data_of m) [] ρ) A s
    successors-here names =
        ap (flat_map (flat_steps.successors_by (unfolded m) s)) (steps-in-unfolded m hides ρ A) ∙
        (flat_map-map (flat_steps.successors_by (unfolded m) s) (unfolded_step m) (filter in_set (instances m)) ∙
        (ap (flat_map leads) (filter-flat_map in_set (instances_of m) m.steps) ∙
        (flat_map-flat_map leads (λ a. filter in_set (instances_of m a)) m.steps ∙
        ap (λ (f : Step → List State). flat_map f m.steps) (fun_ext (by-step names)))))

-- ---- where the instances of one step lead

pub step-leads : (m : Protocol) (hides : HidesNothing m) (s : State) (a : Step) →
    flat_map (λ (i : Instance). flat_steps.successors_by (unfolded m) s (unfolded_step m i)) (instances_of m a) ≡ successors_by m [] StepSet.All s a
step-leads m hides s a =
    sym (ap (flat_map (λ (i : Instance). flat_steps.successors_by (unfolded m) s (unfolded_step m i))) (no-filter (instances_of m a))) ∙
    by-step m hides [] StepSet.All s (λ b whole. refl) a

-- ---- where one instance leads

-- a step that stays whole leads where the protocol's does, if a set has it with all values
pub whole-leads : (m : Protocol) (hides : HidesNothing m) (A : StepSet) (s : State) (a : Step) → is_whole m a ≡ true → ((own : Tuple) → has_step m [] A a.name own ≡ true) →
    flat_steps.successors_by (unfolded m) s (unfolded_step m (whole_step a)) ≡ successors_by m [] A s a
whole-leads m hides A s a whole all =
    all-lead m hides s a whole (indices-settled m hides m.variables) (has_step m [] A a.name) all (tuples (carriers_of (data_of m) a.variables)) (tuples-many (data_of m) a.variables)

-- one with written values leads to the state after them, where it is enabled
pub written-leads : (m : Protocol) (hides : HidesNothing m) (s : State) (a : Step) (ks : List Term) → AreSettled m ks →
    flat_steps.successors_by (unfolded m) s (unfolded_step m (with_own a ks)) ≡ (if is_enabled m s a (values_of m ks) then next_state m s a (values_of m ks) ∷ [] else [])
written-leads m hides s a ks settled =
    ap (λ b. map (flat_steps.next_state (unfolded m) s (unfolded_step m (with_own a ks))) (cond b ([] ∷ []) [])) (enabled-here m hides s a ks settled) ∙ by (is_enabled m s a (values_of m ks))
  where
    by : (b : Bool) → map (flat_steps.next_state (unfolded m) s (unfolded_step m (with_own a ks))) (cond b ([] ∷ []) []) ≡ (if b then next_state m s a (values_of m ks) ∷ [] else [])
    by true = ap (λ t. t ∷ []) (next-here m hides s a ks settled (indices-settled m hides m.variables))
    by false = refl

pub steps_are_unfolded : StepsAreUnfolded
steps_are_unfolded m hides A names s = successors-here m hides [] A s names
