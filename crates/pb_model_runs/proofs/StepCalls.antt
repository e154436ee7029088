-- What the calls of a right side name.
use Rattle.std.proofs.Common.{◌≡◌, ◌⊎◌, ℕ, ◌+◌, arith, Bool, true, false, ◌&&◌, ◌||◌, if◌then◌else◌, cond, List, [], ◌∷◌, ◌++◌, map, flat_map, refl, sym, ap, ◌∙◌, subst, inl, inr}
use Rattle.std.specs.Prelude.{Contains, filter}
use Rattle.std.proofs.Math.Path.{fun_ext}
use Rattle.std.proofs.lemmas.List.{append-nil}
use Rattle.std.proofs.lemmas.List.Folds.{flat_map-map}
use Rattle.std.proofs.lemmas.Simd.{map-map}
use Rattle.pb_base_values.specs.Carrier.{Value, Carrier, Tuple, tuples}
use Rattle.pb_text_tree.specs.declared.place.Place.{Place}
use Rattle.pb_text_tree.specs.declared.operator.Connective.{Connective}
use Rattle.pb_text_tree.specs.declared.operator.Quantifier.{Quantifier}
use Rattle.pb_text_tree.specs.Form.{VariableForm, chained}
use Rattle.pb_text_tree.specs.Form as form
use Rattle.pb_text_meaning.specs.Syntax.{Name, Variable, Term, Terms, Equation, Spec}
use Rattle.pb_text_meaning.specs.Erase.{erased_arguments, erased_term, erased_variables}
use Rattle.pb_text_meaning.specs.Erase as text_erase
use Rattle.pb_text_meaning.specs.Value.{is_true, value, values}
use Rattle.pb_text_meaning.specs.Value as data_value
use Rattle.pb_text_meaning.specs.Formula.{carriers_of, truth}
use Rattle.pb_fixpoint.specs.Solution.{empty}
use Rattle.pb_text_meaning.specs.Meaning.{assigned}
use Rattle.pb_model_tree.specs.declared.formula.Modality.{Modality}
use Rattle.pb_model_tree.specs.Form.{FormulaForm, AssignmentForm, StepForm, ModelForm}
use Rattle.pb_model_meaning.specs.Erase.{erase, erased_formula, erased_steps, erased_assignment, erased_step}
use Rattle.pb_model_meaning.specs.Steps.{State, data_of, is_state, in_scope, is_enabled, state_after, next_state, successors_by, has_step}
use Rattle.pb_model_translation.specs.Translation.{Callee, Constant, Numbered, FixpointScope, callee_of, operand_callee, equation_count, next_terms}
use Rattle.pb_model_translation.specs.Apart.{AreNew, HasNamesApart, StepsAreNew}
use Rattle.pb_model_translation.specs.Placed.{joining, guarding, quantifier_of, joined_forms, over_form, behind_form, steps_of_set, next_forms, call_form, step_text, placed_step, right_form}
use Rattle.pb_model_translation.proofs.Data.{other, value-same, carriers-same, Assigns, assigned-assigns, assigns-under, next_terms-values, state_after-none}
use Rattle.pb_model_translation.proofs.PlacedLemmas.{next-said}
use Rattle.pb_typing_calls.specs.Calls.{decides, same_place}
use Rattle.pb_typing_calls.specs.declared.side.Side.TheVariants.{Left}
use Rattle.pb_typing_calls.specs.MadeCalls.{MadeCall, has_no_call, decides_alone, for_values, made_calls}
use Rattle.pb_model_runs.specs.Runs.{Leads}
use Rattle.pb_model_runs.specs.Exact.{formula_places, is_among, speaks_of}
use Rattle.pb_model_runs.specs.Shown.{IsStepCall, IsMoveCall}
use Rattle.pb_model_runs.proofs.Elements.{first_of, later_of, either_of, mapped, unfiltered, any-left, any-right, or-here, or-later, passes, in-either, in-some, of-mapped}
use Rattle.pb_model_runs.proofs.Places.{same-self}
use Rattle.pb_model_runs.proofs.MadeLemmas.{map-flat_map, with_values, for-tuples, kept, behind-calls, behind-has}

-- a step's variables have no name of a state variable
pub new-of : (xs : List Variable) (steps : List StepForm) (a : StepForm) → StepsAreNew xs (map erased_step steps) → Contains steps a → AreNew xs (erased_variables a.variables)
new-of xs [] a new h = absurd (omega (arith, h.1))
new-of xs (b ∷ steps) a new h = elim (either_of b steps a h) [
  | inl e ↦ subst (λ (d : StepForm). AreNew xs (erased_variables d.variables)) e new.0
  | inr later ↦ new-of xs steps a new.1 later
]

-- what is kept is there, and the test is true
of-kept : {A : Type 0} (b : Bool) (xs : List A) (x : A) → Contains (kept b xs) x → (b ≡ true) × Contains xs x
of-kept true xs x h = (refl, h)
of-kept false xs x h = absurd (omega (arith, h.1))

abbrev pub state_of : MadeCall → State
state_of c = c.instance.values

map-kept : {A B : Type 0} (f : A → B) (b : Bool) (xs : List A) → map f (kept b xs) ≡ kept b (map f xs)
map-kept f true xs = refl
map-kept f false xs = refl

flat_map-filter : {A B : Type 0} (test : A → Bool) (f : A → B) (xs : List A) → flat_map (λ x. kept (test x) (f x ∷ [])) xs ≡ map f (filter test xs)
flat_map-filter test f [] = refl
flat_map-filter test f (x ∷ xs) = ap (λ ys. kept (test x) (f x ∷ []) ++ ys) (flat_map-filter test f xs) ∙ by (test x)
  where
    by : (b : Bool) → (kept b (f x ∷ []) ++ map f (filter test xs)) ≡ map f (cond b (x ∷ filter test xs) (filter test xs))
    by true = refl
    by false = refl

flat_map-same : {A B : Type 0} (f g : A → List B) (xs : List A) → ((x : A) → Contains xs x → f x ≡ g x) → flat_map f xs ≡ flat_map g xs
flat_map-same f g [] h = refl
flat_map-same f g (x ∷ xs) h =
    ap (λ ys. ys ++ flat_map f xs) (h x (first_of x xs)) ∙ ap (λ ys. g x ++ ys) (flat_map-same f g xs (λ y later. h y (later_of x xs y later)))

module _ (m : ModelForm) (names : ℕ → Name) (E : List Equation) (x0 : Name) (es : Terms) (apart : HasNamesApart (erase m)) where
  abbrev D : Spec
  D = data_of (erase m)

  abbrev spec : Spec
  spec = other D E x0 es

  -- the call of an operand: it stands at the place, and gives the parameters what is assigned
  record IsCallOf (q : Place) (xs : List AssignmentForm) (a : data_value.Assignment) (c : MadeCall) : Type 0 where
    place : q ≡ c.place
    own : c.own ≡ []
    next : values spec a (next_terms (map erased_assignment xs) (erase m).variables) ≡ c.instance.values

  call-made : (q : Place) (callee : Callee) (xs : List AssignmentForm) (a : data_value.Assignment) (c : MadeCall)
      → Contains (made_calls spec a (call_form m names q callee xs)) c → IsCallOf q xs a c
  call-made q (Constant b) xs a c h = absurd (omega (arith, h.1))
  call-made q (Numbered n) xs a c h = elim (either_of _ [] c h) [
    | inl e ↦ record {
      place = ap (λ (d : MadeCall). d.place) e;
      own = sym (ap (λ (d : MadeCall). d.own) e);
      next = ap (values spec a) (sym (next-said xs m.variables)) ∙ ap (λ (d : MadeCall). d.instance.values) e;
    }
    | inr none ↦ absurd (omega (arith, none.1))
  ]

  abbrev pub start : State → data_value.Assignment
  start s = assigned (erase m).variables s []

  state-assigns : (s : State) → is_state (erase m) s ≡ true → Assigns (start s) (erase m).variables s
  state-assigns s e = assigned-assigns D (erase m).variables s [] apart.variables e

  -- at the state itself
  call-here : (q : Place) (callee : Callee) (s : State) (c : MadeCall) → is_state (erase m) s ≡ true
      → Contains (made_calls spec (start s) (call_form m names q callee [])) c → (q ≡ c.place) × (c.own ≡ []) × (c.instance.values ≡ s)
  call-here q callee s c e h =
      let made = call-made q callee [] (start s) c h in
      let here = state-assigns s e in (
        made.place,
        made.own,
        sym made.next ∙ next_terms-values spec [] (start s) (erase m).variables s here
            ∙ state_after-none (value spec (start s)) (start s) (erase m).variables s here,
      )

  -- and after a step
  after : (s : State) → is_state (erase m) s ≡ true → (a : StepForm) → AreNew (erase m).variables (erased_variables a.variables) → (own : Tuple)
      → values spec (in_scope (erase m) s (erased_step a) own) (next_terms (map erased_assignment a.assignments) (erase m).variables) ≡ next_state (erase m) s (erased_step a) own
  after s e a new own =
      let scope = in_scope (erase m) s (erased_step a) own in
      next_terms-values spec (map erased_assignment a.assignments) scope (erase m).variables s
      (assigns-under (erase m).variables s (start s) (erased_variables a.variables) own new (state-assigns s e))
      ∙ ap (λ (evaluate : Term → Value). state_after evaluate (map erased_assignment a.assignments) (erase m).variables s) (fun_ext (λ x. value-same D E x0 es x scope))

  over-calls : (q : Quantifier) (r : Place) (xs : List VariableForm) (f : form.FormulaForm) (a : data_value.Assignment)
      → made_calls spec a (over_form q r xs f) ≡ for_values spec (erased_variables xs) (λ b. made_calls spec b f) a
  over-calls q r [] f a = refl
  over-calls q r (x ∷ xs) f a = refl

  -- ---- the calls of one step

  abbrev guarded : Modality → Callee → StepForm → form.FormulaForm
  guarded k callee a = behind_form (guarding k) a.name.place false a.guard (call_form m names a.name.place callee a.assignments)

  abbrev by_values : Modality → Callee → StepForm → State → Tuple → List MadeCall
  by_values k callee a s vs = map (with_values vs) (made_calls spec (in_scope (erase m) s (erased_step a) vs) (guarded k callee a))

  abbrev own_tuples : StepForm → List Tuple
  own_tuples a = tuples (carriers_of D (erased_variables a.variables))

  step-tuples : (k : Modality) (callee : Callee) (a : StepForm) (s : State)
      → made_calls spec (start s) (step_text m names k callee a) ≡ flat_map (by_values k callee a s) (own_tuples a)
  step-tuples k callee a s =
      let xs = erased_variables a.variables in
      over-calls (quantifier_of k) a.name.place a.variables (guarded k callee a) (start s)
      ∙ for-tuples spec xs (λ b. made_calls spec b (guarded k callee a)) (start s)
      ∙ ap (λ (cs : List Carrier). flat_map (by_values k callee a s) (tuples cs)) (carriers-same D E x0 es xs)

  guarded-calls : (k : Modality) (callee : Callee) (a : StepForm) (s : State) (own : Tuple)
      → made_calls spec (in_scope (erase m) s (erased_step a) own) (guarded k callee a)
      ≡ kept (is_enabled (erase m) s (erased_step a) own) (made_calls spec (in_scope (erase m) s (erased_step a) own) (call_form m names a.name.place callee a.assignments))
  guarded-calls k callee a s own =
      let scope = in_scope (erase m) s (erased_step a) own in
      let call = call_form m names a.name.place callee a.assignments in
      behind-calls spec k a.name.place false a.guard call scope
      ∙ ap (λ (v : Value). kept (is_true v) (made_calls spec scope call)) (value-same D E x0 es (erased_term a.guard) scope)

  step-call : (k : Modality) (callee : Callee) (a : StepForm) → Contains m.steps a → (s : State) → is_state (erase m) s ≡ true → (c : MadeCall)
      → Contains (made_calls spec (start s) (step_text m names k callee a)) c → (at : IsStepCall m s c) × (at.step ≡ a)
  step-call k callee a among s e c h =
      let found = in-some (by_values k callee a s) (own_tuples a) c (subst (λ (calls : List MadeCall). Contains calls c) (step-tuples k callee a s) h) in
      let own = found.0 in
      let scope = in_scope (erase m) s (erased_step a) own in
      let inner = of-mapped (with_values own) (made_calls spec scope (guarded k callee a)) c found.2 in
      let d = inner.0 in
      let enabled = of-kept _ _ d (subst (λ (calls : List MadeCall). Contains calls d) (guarded-calls k callee a s own) inner.1) in
      let made = call-made a.name.place callee a.assignments scope d enabled.1 in
      let same_own : own ≡ c.own = sym (append-nil own) ∙ ap (λ (vs : Tuple). own ++ vs) (sym made.own) ∙ ap (λ (x : MadeCall). x.own) inner.2 in
      let place : a.name.place ≡ c.place = made.place ∙ ap (λ (x : MadeCall). x.place) inner.2 in
      let leads : Leads (erase m) s (erased_step a) own c.instance.values = record {
        step = mapped erased_step m.steps a among;
        values = found.1;
        enabled = enabled.0;
        next = sym (after s e a (new-of (erase m).variables m.steps a apart.steps among) own) ∙ made.next ∙ ap (λ (x : MadeCall). x.instance.values) inner.2;
      } in
      let at : IsStepCall m s c = record {
        step = a;
        among = among;
        named = same-self a.name.place c.place place;
        leads = subst (λ (vs : Tuple). Leads (erase m) s (erased_step a) vs c.instance.values) same_own leads;
      } in
      (at, refl)

  -- ---- chains

  -- a call of a second operand, if it is made
  of-second : (b : Bool) (calls : List MadeCall) (c : MadeCall) → Contains (if b then [] else calls) c → Contains calls c
  of-second true calls c h = absurd (omega (arith, h.1))
  of-second false calls c h = h

  in-connected : (j : Connective) (q : Place) (f g : form.FormulaForm) (a : data_value.Assignment) (c : MadeCall)
      → Contains (made_calls spec a (form.FormulaForm.connected j q f g)) c → Contains (made_calls spec a f) c ⊎ Contains (made_calls spec a g) c
  in-connected j q f g a c h = elim (in-either (made_calls spec a f) _ c h) [
    | inl first ↦ inl first
    | inr second ↦ inr (of-second (decides_alone spec a j f) (made_calls spec a g) c second)
  ]

  chain-call : (k : Modality) (callee : Callee) (j : Connective) (b : StepForm) (steps : List StepForm) (a : data_value.Assignment) (c : MadeCall)
      → Contains (made_calls spec a (chained (form.FormulaForm.connected j) (step_text m names k callee b) (map (placed_step m names k callee) steps))) c
      → (x : StepForm) × Contains (b ∷ steps) x × Contains (made_calls spec a (step_text m names k callee x)) c
  chain-call k callee j b [] a c h = (b, first_of b [], h)
  chain-call k callee j b (next ∷ steps) a c h =
      elim (in-connected j next.name.place (step_text m names k callee b) (chained (form.FormulaForm.connected j) (step_text m names k callee next) (map (placed_step m names k callee) steps)) a c h) [
        | inl here ↦ (b, first_of b (next ∷ steps), here)
        | inr later ↦
            let found = chain-call k callee j next steps a c later in
            (found.0, later_of b (next ∷ steps) found.0 found.1, found.2)
      ]

  steps-call : (k : Modality) (q : Place) (callee : Callee) (steps : List StepForm) (a : data_value.Assignment) (c : MadeCall)
      → Contains (made_calls spec a (joined_forms k q (map (placed_step m names k callee) steps))) c
      → (x : StepForm) × Contains steps x × Contains (made_calls spec a (step_text m names k callee x)) c
  steps-call k q callee [] a c h = absurd (omega (arith, h.1))
  steps-call k q callee (b ∷ steps) a c h = chain-call k callee (joining k) b steps a c h

  -- ---- right sides

  in-first : (j : Connective) (q : Place) (f g : FormulaForm) (s : State) (c : MadeCall) → IsMoveCall m f s c → IsMoveCall m (FormulaForm.connected j q f g) s c
  in-first j q f g s c (inl at) = inl (at.0, or-here (speaks_of f at.0.step.name.text) _ at.1)
  in-first j q f g s c (inr stays) =
      inr (record { place = any-left (λ r. same_place r c.place) (formula_places f) (formula_places g) stays.place; own = stays.own; state = stays.state })

  in-second : (j : Connective) (q : Place) (f g : FormulaForm) (s : State) (c : MadeCall) → IsMoveCall m g s c → IsMoveCall m (FormulaForm.connected j q f g) s c
  in-second j q f g s c (inl at) = inl (at.0, or-later (speaks_of f at.0.step.name.text) _ at.1)
  in-second j q f g s c (inr stays) =
      inr (record { place = any-right (λ r. same_place r c.place) (formula_places f) (formula_places g) stays.place; own = stays.own; state = stays.state })

  pub right-call : (scope : FixpointScope) (n : ℕ) (f : FormulaForm) (s : State) → is_state (erase m) s ≡ true → (c : MadeCall)
      → Contains (made_calls spec (start s) (right_form m names scope n f)) c → IsMoveCall m f s c
  right-call scope n (FormulaForm.constant q b) s e c h = absurd (omega (arith, h.1))
  right-call scope n (FormulaForm.«data» q x) s e c h = absurd (omega (arith, h.1))
  right-call scope n (FormulaForm.variable x) s e c h =
      let made = call-here x.place (callee_of scope x.text) s c e h in
      inr (record { place = or-here _ false (same-self x.place c.place made.0); own = made.1; state = made.2 })
  right-call scope n (FormulaForm.negation q f) s e c h = elim (right-call scope n f s e c h) [
    | inl at ↦ inl at
    | inr stays ↦ inr (record { place = stays.place; own = stays.own; state = stays.state })
  ]
  right-call scope n (FormulaForm.connected j q f g) s e c h =
      let k = n + equation_count (erased_formula f) in
      elim (in-connected j q (right_form m names scope n f) (right_form m names scope k g) (start s) c h) [
        | inl first ↦ in-first j q f g s c (right-call scope n f s e c first)
        | inr second ↦ in-second j q f g s c (right-call scope k g s e c second)
      ]
  right-call scope n (FormulaForm.modal k q A f) s e c h =
      let callee = operand_callee scope n (erased_formula f) in
      let found = steps-call k q callee (steps_of_set m A) (start s) c h in
      let test : StepForm → Bool = λ a. has_step (erased_steps A) a.name.text in
      let made = step-call k callee found.0 (unfiltered test m.steps found.0 found.1) s e c found.2 in
      inl (made.0, ap (λ (a : StepForm). test a || speaks_of f a.name.text) made.1 ∙ or-here (test found.0) (speaks_of f found.0.name.text) (passes test m.steps found.0 found.1))
  right-call scope n (FormulaForm.fixpoint sign q x f) s e c h =
      let made = call-here q (Numbered n) s c e h in
      inr (record { place = or-here _ (is_among (formula_places f) c.place) (same-self q c.place made.0); own = made.1; state = made.2 })

  -- ---- all calls of all steps

  named-has : (k : Modality) (n : ℕ) (a : StepForm) → has_no_call (step_text m names k (Numbered n) a) ≡ false
  named-has k n a = by a.variables ∙ behind-has spec k a.name.place false a.guard (call_form m names a.name.place (Numbered n) a.assignments)
    where
      by : (xs : List VariableForm) → has_no_call (over_form (quantifier_of k) a.name.place xs (guarded k (Numbered n) a)) ≡ has_no_call (guarded k (Numbered n) a)
      by [] = refl
      by (x ∷ xs) = refl

  abbrev step_calls : Modality → ℕ → data_value.Assignment → StepForm → List MadeCall
  step_calls k n a x = made_calls spec a (step_text m names k (Numbered n) x)

  chain-calls : (k : Modality) (n : ℕ) (j : Connective) (b : StepForm) (steps : List StepForm) (a : data_value.Assignment)
      → made_calls spec a (chained (form.FormulaForm.connected j) (step_text m names k (Numbered n) b) (map (placed_step m names k (Numbered n)) steps))
      ≡ flat_map (step_calls k n a) (b ∷ steps)
  chain-calls k n j b [] a = sym (append-nil (step_calls k n a b))
  chain-calls k n j b (next ∷ steps) a =
      let rest = chained (form.FormulaForm.connected j) (step_text m names k (Numbered n) next) (map (placed_step m names k (Numbered n)) steps) in
      let decides_it : Bool → Bool = λ t. t && decides j Left (truth spec a empty (text_erase.erased_formula (step_text m names k (Numbered n) b))) in
      ap (λ t. step_calls k n a b ++ (if decides_it t then [] else made_calls spec a rest)) (named-has k n b)
      ∙ ap (λ (calls : List MadeCall). step_calls k n a b ++ calls) (chain-calls k n j next steps a)

  all-calls : (k : Modality) (q : Place) (n : ℕ) (steps : List StepForm) (a : data_value.Assignment)
      → made_calls spec a (joined_forms k q (map (placed_step m names k (Numbered n)) steps)) ≡ flat_map (step_calls k n a) steps
  all-calls k q n [] a = refl
  all-calls k q n (b ∷ steps) a = chain-calls k n (joining k) b steps a

  -- the states that a step's calls name are its successors
  successor-calls : (k : Modality) (n : ℕ) (a : StepForm) → Contains m.steps a → (s : State) → is_state (erase m) s ≡ true
      → map state_of (step_calls k n (start s) a) ≡ successors_by (erase m) s (erased_step a)
  successor-calls k n a among s e =
      ap (map state_of) (step-tuples k (Numbered n) a s)
      ∙ map-flat_map state_of (by_values k (Numbered n) a s) (own_tuples a)
      ∙ ap (λ (h : Tuple → List State). flat_map h (own_tuples a)) (fun_ext each)
      ∙ flat_map-filter (is_enabled (erase m) s (erased_step a)) (next_state (erase m) s (erased_step a)) (own_tuples a)
    where
      each : (own : Tuple) → map state_of (by_values k (Numbered n) a s own) ≡ kept (is_enabled (erase m) s (erased_step a) own) (next_state (erase m) s (erased_step a) own ∷ [])
      each own =
          let scope = in_scope (erase m) s (erased_step a) own in
          let call = call_form m names a.name.place (Numbered n) a.assignments in
          let next : values spec scope (erased_arguments (next_forms a.assignments m.variables)) ≡ next_state (erase m) s (erased_step a) own =
          ap (values spec scope) (next-said a.assignments m.variables) ∙ after s e a (new-of (erase m).variables m.steps a apart.steps among) own in
          map-map state_of (with_values own) (made_calls spec scope (guarded k (Numbered n) a))
          ∙ ap (map state_of) (guarded-calls k (Numbered n) a s own)
          ∙ map-kept state_of (is_enabled (erase m) s (erased_step a) own) (made_calls spec scope call)
          ∙ ap (λ (t : State). kept (is_enabled (erase m) s (erased_step a) own) (t ∷ [])) next

  pub every-step : (k : Modality) (q : Place) (n : ℕ) (s : State) → is_state (erase m) s ≡ true
      → map state_of (made_calls spec (start s) (joined_forms k q (map (placed_step m names k (Numbered n)) m.steps))) ≡ flat_map (successors_by (erase m) s) (map erased_step m.steps)
  every-step k q n s e =
      ap (map state_of) (all-calls k q n m.steps (start s))
      ∙ map-flat_map state_of (step_calls k n (start s)) m.steps
      ∙ flat_map-same _ _ m.steps (λ a among. successor-calls k n a among s e)
      ∙ sym (flat_map-map (successors_by (erase m) s) erased_step m.steps)
