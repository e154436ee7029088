-- What the calls of a property's text show.
use Rattle.std.proofs.Common.{◌≡◌, ℕ, zero, suc, ◌+◌, Bool, true, false, if◌then◌else◌, List, [], ◌∷◌, map, flat_map, refl, sym, ap, ◌∙◌, subst, inl, inr, arith}
use Rattle.std.specs.Prelude.{⊤, Contains, filter, Option, Some, None}
use Rattle.std.specs.List.{slice_get}
use Rattle.pb_fixpoint.specs.declared.Sign.{Sign}
use Rattle.pb_fixpoint.specs.declared.Sign.TheVariants.{Nu}
use Rattle.pb_base_values.specs.Carrier.{Tuple}
use Rattle.pb_text_tree.specs.declared.place.Place.{Place}
use Rattle.pb_text_tree.specs.Form.{VariableForm, EquationForm, SpecForm}
use Rattle.pb_text_tree.specs.Form as form
use Rattle.pb_text_meaning.specs.Syntax.{Name, Spec}
use Rattle.pb_text_meaning.specs.Erase.{erased_arguments, erased_equation, erased_variables}
use Rattle.pb_text_meaning.specs.Erase as text_erase
use Rattle.pb_text_meaning.specs.Meaning.{assigned}
use Rattle.pb_sorts.specs.Instance.{Instance}
use Rattle.pb_model_tree.specs.declared.formula.Modality.TheVariants.{Box}
use Rattle.pb_model_tree.specs.Form.{FormulaForm, StepForm, ModelForm}
use Rattle.pb_model_meaning.specs.Erase.{erase, erased_formula, erased_step, erased_steps}
use Rattle.pb_model_meaning.specs.Steps.{State, has_step, is_state, successors_by}
use Rattle.pb_model_translation.specs.Translation.{Numbered, FixpointScope, has_equation, is_fixpoint, next_if, equation_count}
use Rattle.pb_model_translation.specs.Names.{names_of}
use Rattle.pb_model_translation.specs.Placed.{placed, every_step_form, joined_forms, placed_step, right_form, equation_at, with_equation_form, equation_forms, all_equation_forms}
use Rattle.pb_typing_calls.specs.Calls.{same_place}
use Rattle.pb_typing_calls.specs.MadeCalls.{MadeCall, made_calls, equation_calls}
use Rattle.pb_model_runs.specs.Runs.{Move, IsMove, IsRun}
use Rattle.pb_model_runs.specs.Exact.{formula_places, is_among, speaks_of}
use Rattle.pb_model_runs.specs.Shown.{IsMoveCall, AreStates, AreSpokenOf, Follows}
use Rattle.pb_model_runs.specs.Laws.{CallsAreMoves, EveryStepIsCalled, NoCallMeansNoStep, LinesAreRuns}
use Rattle.pb_model_runs.proofs.Elements.{any-left, any-right, or-here, or-later}
use Rattle.pb_model_runs.proofs.StepCalls.{right-call, every-step}

-- ---- the equations of the text are over the state, with right sides of the translation

-- what a formula goes on to and speaks of, the whole one does
pub record IsPartOf (whole f : FormulaForm) : Type 0 where
  pub places : (p : Place) → is_among (formula_places f) p ≡ true → is_among (formula_places whole) p ≡ true
  pub steps : (x : Name) → speaks_of f x ≡ true → speaks_of whole x ≡ true

module _ (m : ModelForm) (names : ℕ → Name) (here : Place) (whole : FormulaForm) where
  abbrev IsPart : FormulaForm → Type 0
  IsPart f = IsPartOf whole f

  pub record IsOfFormula (X : EquationForm) : Type 0 where
    pub scope : FixpointScope
    pub number : ℕ
    pub formula : FormulaForm
    pub part : IsPart formula
    pub parameters : X.parameters ≡ m.variables
    pub right : X.right ≡ right_form m names scope number formula

  abbrev AllOfFormulas : List EquationForm → Type 0
  AllOfFormulas [] = ⊤
  AllOfFormulas (X ∷ E) = IsOfFormula X × AllOfFormulas E

  one : (sign : Sign) (n k : ℕ) (scope : FixpointScope) (f : FormulaForm) → IsPart f → IsOfFormula (equation_at m names here sign n (right_form m names scope k f))
  one sign n k scope f part = record { scope = scope; number = k; formula = f; part = part; parameters = refl; right = refl }

  with-one : (b : Bool) (X : EquationForm) (E : List EquationForm) → IsOfFormula X → AllOfFormulas E → AllOfFormulas (with_equation_form m names here b X E)
  with-one true X E h all = (h, all)
  with-one false X E h all = all

  all-of : (scope : FixpointScope) (sign : Sign) (n : ℕ) (f : FormulaForm) (E : List EquationForm) → IsPart f → AllOfFormulas E → AllOfFormulas (equation_forms m names here scope sign n f E)
  all-of scope sign n (FormulaForm.constant p b) E part h = h
  all-of scope sign n (FormulaForm.«data» p x) E part h = h
  all-of scope sign n (FormulaForm.variable x) E part h = h
  all-of scope sign n (FormulaForm.negation p f) E part h = all-of scope sign n f E (record { places = part.places; steps = part.steps }) h
  all-of scope sign n (FormulaForm.connected c p f g) E part h =
      let k = n + equation_count (erased_formula f) in
      let first : IsPart f = record {
        places = λ q e. part.places q (any-left (λ r. same_place r q) (formula_places f) (formula_places g) e);
        steps = λ x e. part.steps x (or-here (speaks_of f x) (speaks_of g x) e);
      } in
      let second : IsPart g = record {
        places = λ q e. part.places q (any-right (λ r. same_place r q) (formula_places f) (formula_places g) e);
        steps = λ x e. part.steps x (or-later (speaks_of f x) (speaks_of g x) e);
      } in
      all-of scope sign n f (equation_forms m names here scope sign k g E) first (all-of scope sign k g E second h)
  all-of scope sign n (FormulaForm.modal j p A f) E part h =
      let own = has_equation (erased_formula f) in
      let k = next_if own n in
      let inside : IsPart f = record { places = part.places; steps = λ x e. part.steps x (or-later (has_step (erased_steps A) x) (speaks_of f x) e) } in
      with-one own _ _ (one sign n k scope f inside) (all-of scope sign k f E inside h)
  all-of scope sign n (FormulaForm.fixpoint inner p x f) E part h =
      let inside : IsPart f = record { places = λ q e. part.places q (or-later (same_place p q) (is_among (formula_places f) q) e); steps = part.steps } in
      (one inner n (suc n) ((x.text, n) ∷ scope) f inside, all-of ((x.text, n) ∷ scope) inner (suc n) f E inside h)

  all-of-whole : AllOfFormulas (all_equation_forms m names here whole)
  all-of-whole = by (is_fixpoint (erased_formula whole))
    where
      by : (b : Bool)
          → AllOfFormulas
          (if b then equation_forms m names here [] Nu 0 whole [] else
          (equation_at m names here Nu 0 (right_form m names [] 1 whole) ∷ equation_forms m names here [] Nu 1 whole []))
      by true = all-of [] Nu 0 whole [] (record { places = λ q e. e; steps = λ x e. e }) tt
      by false = (one Nu 0 1 [] whole (record { places = λ q e. e; steps = λ x e. e }), all-of [] Nu 1 whole [] (record { places = λ q e. e; steps = λ x e. e }) tt)

  at-place : (E : List EquationForm) (k : ℕ) (X : EquationForm) → AllOfFormulas E → slice_get E k ≡ Some X → IsOfFormula X
  at-place [] k X h e = cc
  at-place (Y ∷ E) zero X h e = let same : Y ≡ X = cc in subst (λ (Z : EquationForm). IsOfFormula Z) same h.0
  at-place (Y ∷ E) (suc k) X h e = at-place E k X h.1 e

-- ---- calls

-- an instance of which calls are made is of an equation
pub record IsMadeBy (spec : Spec) (o : Option EquationForm) (vs : Tuple) (c : MadeCall) : Type 0 where
  pub equation : EquationForm
  pub at : o ≡ Some equation
  pub made : Contains (made_calls spec (assigned (erased_variables equation.parameters) vs []) equation.right) c

made-by : (spec : Spec) (o : Option EquationForm) (vs : Tuple) (c : MadeCall) → Contains (equation_calls spec o vs) c → IsMadeBy spec o vs c
made-by spec None vs c h = absurd (omega (arith, h.1))
made-by spec (Some X) vs c h = record { equation = X; at = refl; made = h }

within-whole : (m : ModelForm) (f g : FormulaForm) (s : State) (c : MadeCall) → IsPartOf f g → IsMoveCall m g s c → IsMoveCall m f s c
within-whole m f g s c part (inl at) = inl (at.0, part.steps at.0.step.name.text at.1)
within-whole m f g s c part (inr stays) = inr (record { place = part.places c.place stays.place; own = stays.own; state = stays.state })

pub calls-are-moves : CallsAreMoves
calls-are-moves m here f i c apart within h =
    let text = placed m here f in
    let spec = text_erase.erase text in
    let names = names_of (erased_formula f) in
    let by = made-by spec (slice_get text.equations i.equation) i.values c h in
    let X = by.equation in
    let of = at-place m names here f text.equations i.equation X (all-of-whole m names here f) by.at in
    let E = map erased_equation text.equations in
    let made : Contains (made_calls spec (assigned (erase m).variables i.values []) (right_form m names of.scope of.number of.formula)) c =
    subst (λ (g : form.FormulaForm). Contains (made_calls spec (assigned (erase m).variables i.values []) g) c) of.right
    (subst (λ (xs : List VariableForm). Contains (made_calls spec (assigned (erased_variables xs) i.values []) X.right) c) of.parameters by.made) in
    within-whole m f of.formula i.values c of.part
    (right-call m names E (names 0) (erased_arguments m.initial.values) apart of.scope of.number of.formula i.values within c made)

-- ---- all steps

filter-all : {A : Type 0} (xs : List A) → filter (λ (x : A). true) xs ≡ xs
filter-all [] = refl
filter-all (x ∷ xs) = ap (λ ys. x ∷ ys) (filter-all xs)

pub every-step-is-called : EveryStepIsCalled
every-step-is-called m here p s apart within =
    let f = every_step_form p in
    let names = names_of (erased_formula f) in
    let text = placed m here f in
    ap (λ (steps : List StepForm). map (λ (c : MadeCall). c.instance.values)
    (made_calls (text_erase.erase text) (assigned (erase m).variables s [])
    (joined_forms Box p (map (placed_step m names Box (Numbered 0)) steps))))
    (filter-all m.steps)
    ∙ every-step m names (map erased_equation text.equations) (names 0) (erased_arguments m.initial.values) apart Box p 0 s within
    ∙ ap (flat_map (successors_by (erase m) s)) (sym (filter-all (map erased_step m.steps)))

none-mapped : {A B : Type 0} (f : A → B) (xs : List A) → map f xs ≡ [] → xs ≡ []
none-mapped f [] e = refl
none-mapped f (x ∷ xs) e = cc

pub no-call-means-no-step : NoCallMeansNoStep
no-call-means-no-step m here p s apart within =
    let same = every-step-is-called m here p s apart within in (
      λ none. sym same ∙ ap (map (λ (c : MadeCall). c.instance.values)) none,
      λ none. none-mapped (λ (c : MadeCall). c.instance.values) _ (same ∙ none),
    )

-- ---- lines

pub here-within : (m : ModelForm) (i : Instance) (calls : List MadeCall) → AreStates m i calls → is_state (erase m) i.values ≡ true
here-within m i [] h = h
here-within m i (c ∷ calls) h = h.0

abbrev Shows : ModelForm → FormulaForm → State → List MadeCall → Type 0
Shows m f s calls = (path : List Move) × IsRun (erase m) s path × Follows m s calls path × AreSpokenOf f path

-- one step more, or none
longer : (m : ModelForm) (f : FormulaForm) (s : State) (c : MadeCall) (calls : List MadeCall) → IsMoveCall m f s c → Shows m f c.instance.values calls → Shows m f s (c ∷ calls)
longer m f s c calls (inl at) rest =
    let x : Move = record { name = at.0.step.name.text; own = c.own; state = c.instance.values } in
    let move : IsMove (erase m) s x = (erased_step at.0.step, refl, at.0.leads) in
    (x ∷ rest.0, (move, rest.1), inl (x, rest.0, refl, record { at = at.0; name = refl; own = refl; state = refl }, rest.2), (at.1, rest.3))
longer m f s c calls (inr stays) rest =
    let same = subst (λ (t : State). Shows m f t calls) stays.state rest in
    (same.0, same.1, inr (stays.own, stays.state, same.2), same.3)

pub lines-are-runs : LinesAreRuns
lines-are-runs m here f i [] apart states made = ([], tt, refl, tt)
lines-are-runs m here f i (c ∷ calls) apart states made =
    longer m f i.values c calls (calls-are-moves m here f i c apart (here-within m i (c ∷ calls) states) made.0)
    (lines-are-runs m here f c.instance calls apart states.1 made.1)
