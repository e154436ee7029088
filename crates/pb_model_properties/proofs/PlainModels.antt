-- A model that is well typed means what it means as a protocol.
use Rattle.std.proofs.Common.{◌≡◌, ◌∙◌, ℕ, Bool, true, false, true≢false, not, ◌&&◌, ◌||◌, List, [], ◌∷◌, ◌++◌, Some, map, flat_map, refl, sym, ap, subst}
use Rattle.std.specs.Prelude.{codes, if◌then◌else◌}
use Rattle.pb_fixpoint.specs.declared.Sign.TheVariants.{Nu}
use Rattle.std.proofs.lemmas.Slice.Eq.{bytes_eq-Decides}
use Rattle.pb_base_values.specs.Carrier.{Tuple, is_within}
use Rattle.pb_text_meaning.specs.Syntax.{Name, same_name, Variable, Terms, Equation, Spec}
use Rattle.pb_text_meaning.specs.Value.{Assignment, values}
use Rattle.pb_text_meaning.specs.Formula.{carriers_of, equation_named, fits, is_instance}
use Rattle.pb_typing_declarations.specs.declared.fault.TypingRule.TheVariants.{NameTwice}
use Rattle.pb_typing_declarations.specs.Faults.{unless, is_among, repeated_after, repeated}
use Rattle.pb_typing_declarations.specs.Declarations.{variable_names}
use Rattle.pb_typing_declarations.proofs.Parts.{no_parts, holds_unless}
use Rattle.pb_typing_rules.specs.WellTyped.{IsWellTyped}
use Rattle.pb_model_tree.specs.Form.{AssignmentForm, StepForm, ModelForm}
use Rattle.pb_model_meaning.specs.Syntax as model
use Rattle.pb_model_meaning.specs.Erase.{erase, erased_assignment, erased_step}
use Rattle.pb_model_translation.specs.Apart.{IsNew, AreApart}
use Rattle.pb_model_translation.specs.Names as equation_names
use Rattle.pb_model_translation.specs.Names.{translation}
use Rattle.pb_model_translation.specs.Translation.{equation, right_side, translation_by}
use Rattle.pb_model_typing.specs.Faults.{texts, new_faults, known_faults, assigned_names, step_faults, step_names, property_names, property_faults, names_faults, model_faults}
use Rattle.pb_model_typing.specs.Texts.{every_step, IsTypedModel}
use Rattle.pb_model_typing.specs.Laws.{NamesAreApart}
use Rattle.pb_protocol_folding.specs.Names.{IsNot, AreDistinct, AssignOnce, names_of}
use Rattle.pb_protocol_unfolding.specs.Plain.{AreAsMany, IsPlain, ModelCountsNothing}

-- ---- names of variables

not_named : (x : Name) (ys : List Variable) → IsNew x ys → IsNot x (names_of ys)
not_named x [] h = tt
not_named x (y ∷ ys) (h, hs) = (h, not_named x ys hs)

distinct : (xs : List Variable) → AreApart xs → AreDistinct (names_of xs)
distinct [] h = tt
distinct (x ∷ xs) (h, hs) = (not_named x.name xs h, distinct xs hs)

-- ---- what is assigned

abbrev IsIn : Name → List Name → Type 0
IsIn x names = (y : Name) → is_among names y ≡ false → same_name y x ≡ false

first_false : (b c : Bool) → (b || c) ≡ false → b ≡ false
first_false true c e = absurd (true≢false e)
first_false false c e = refl

second_false : (b c : Bool) → (b || c) ≡ false → c ≡ false
second_false true c e = absurd (true≢false e)
second_false false c e = e

turned : (x y : Name) → same_name x y ≡ false → same_name y x ≡ false
turned x y e = by (same_name y x) refl
  where
    by : (b : Bool) → same_name y x ≡ b → same_name y x ≡ false
    by false is = is
    by true is = absurd (true≢false (sym ((bytes_eq-Decides x y).1 (sym ((bytes_eq-Decides y x).0 is))) ∙ e))

here : (x : Name) (names : List Name) → IsIn x (x ∷ names)
here x names y e = turned x y (first_false (same_name x y) (is_among names y) e)

behind : (x z : Name) (names : List Name) → IsIn x names → IsIn x (z ∷ names)
behind x z names h y e = h y (second_false (same_name z y) (is_among names y) e)

not_true : (b : Bool) → not b ≡ true → b ≡ false
not_true false e = refl
not_true true e = absurd (true≢false (sym e))

abbrev assigned : List AssignmentForm → List Name
assigned bs = map (λ (b : model.Assignment). b.variable) (map erased_assignment bs)

new_behind : (before : List Name) (bs : List AssignmentForm) → repeated_after before (assigned_names bs) ≡ [] → (x : Name) → IsIn x before → IsNot x (assigned bs)
new_behind before [] e x h = tt
new_behind before (b ∷ bs) e x h =
    let name = b.variable in
    let parts = no_parts (unless (not (is_among before name.text)) NameTwice name.place) (repeated_after (name.text ∷ before) (assigned_names bs)) e in
    (h name.text (not_true _ (holds_unless _ _ _ parts.0)), new_behind (name.text ∷ before) bs parts.1 x (behind x name.text before h))

once : (before : List Name) (bs : List AssignmentForm) → repeated_after before (assigned_names bs) ≡ [] → AreDistinct (assigned bs)
once before [] e = tt
once before (b ∷ bs) e =
    let name = b.variable in
    let parts = no_parts (unless (not (is_among before name.text)) NameTwice name.place) (repeated_after (name.text ∷ before) (assigned_names bs)) e in
    (new_behind (name.text ∷ before) bs parts.1 name.text (here name.text before), once (name.text ∷ before) bs parts.1)

assign_once : (state : List Name) (steps : List StepForm) → flat_map (step_faults state) steps ≡ [] → AssignOnce (map erased_step steps)
assign_once state [] e = tt
assign_once state (a ∷ steps) e =
    let parts = no_parts (step_faults state a) (flat_map (step_faults state) steps) e in
    let own = no_parts (flat_map (new_faults state) (variable_names a.variables)) (flat_map (known_faults state) (assigned_names a.assignments) ++ repeated (assigned_names a.assignments)) parts.0 in
    let others = no_parts (flat_map (known_faults state) (assigned_names a.assignments)) (repeated (assigned_names a.assignments)) own.1 in
    (once [] a.assignments others.1, assign_once state steps parts.1)

-- ---- initial terms

as_many : (spec : Spec) (a : Assignment) (xs : List Variable) (ts : Terms) → is_within (carriers_of spec xs) (values spec a ts) ≡ true → AreAsMany xs ts
as_many spec a [] Terms.NoTerms e = tt
as_many spec a [] (Terms.Then t ts) e = absurd (true≢false (sym e))
as_many spec a (x ∷ xs) Terms.NoTerms e = absurd (true≢false (sym e))
as_many spec a (x ∷ xs) (Terms.Then t ts) e = as_many spec a xs ts (second _ _ e)
  where
    second : (b c : Bool) → (b && c) ≡ true → c ≡ true
    second true c h = h
    second false c h = absurd (true≢false (sym h))

same_itself : (x : Name) → same_name x x ≡ true
same_itself x = (bytes_eq-Decides x x).1 refl

-- the first equation is that of its name
first_named : (X : Equation) (E : List Equation) → equation_named (X ∷ E) X.name ≡ Some X
first_named X E = ap (λ (b : Bool). if b then Some X else equation_named E X.name) (same_itself X.name)

initial_within : (spec : Spec) (X : Equation) (E : List Equation) (x : Name) (vs : Tuple) → spec.equations ≡ X ∷ E → x ≡ X.name
    → is_instance spec (record { name = x; values = vs }) ≡ true → is_within (carriers_of spec X.parameters) vs ≡ true
initial_within spec X E x vs begins named e =
    sym (ap (λ o. fits spec o vs) (ap (λ (Es : List Equation). equation_named Es x) begins ∙ (ap (equation_named (X ∷ E)) named ∙ first_named X E))) ∙ e

-- an initial instance of the first equation has a value for each parameter
first_terms : (spec : Spec) (X : Equation) (E : List Equation) (xs : List Variable) (ts : Terms) → spec.equations ≡ X ∷ E → spec.initial ≡ X.name → X.parameters ≡ xs → spec.arguments ≡ ts
    → is_instance spec (record { name = spec.initial; values = values spec [] spec.arguments }) ≡ true → AreAsMany xs ts
first_terms spec X E xs ts begins named parameters arguments e =
    subst (λ (ys : List Variable). AreAsMany ys ts) parameters
    (subst (λ (us : Terms). AreAsMany X.parameters us) arguments
    (as_many spec [] X.parameters spec.arguments (initial_within spec X E spec.initial (values spec [] spec.arguments) begins named e)))

module _ (m : model.Model) (names : ℕ → Name) where
  abbrev first : Equation
  first = equation m names Nu 0 (right_side m names ((codes "X", 0) ∷ []) 1 (model.Formula.Box model.StepSet.All (model.Formula.Named (codes "X"))))

  first_initial : (spec : Spec) → spec ≡ translation_by m names every_step
      → is_instance spec (record { name = spec.initial; values = values spec [] spec.arguments }) ≡ true → AreAsMany m.variables m.initial
  first_initial spec same e =
      first_terms spec first [] m.variables m.initial (ap (λ (x : Spec). x.equations) same) (ap (λ (x : Spec). x.initial) same) refl (ap (λ (x : Spec). x.arguments) same) e

initial_terms : (m : model.Model) → IsWellTyped (translation m every_step) → AreAsMany m.variables m.initial
initial_terms m typed = first_initial m (equation_names.names_of every_step) (translation m every_step) refl typed.values

-- the rules of its steps
steps_keep : (m : ModelForm) → model_faults m ≡ [] → flat_map (step_faults (texts (variable_names m.variables))) m.steps ≡ []
steps_keep m e =
    let steps = flat_map (step_faults (texts (variable_names m.variables))) m.steps in
    let properties = flat_map (property_faults (texts (variable_names m.variables)) (texts (step_names m.steps))) m.properties in
    let names = names_faults (variable_names m.variables) (step_names m.steps) (property_names m.properties) in
    (no_parts steps properties (no_parts names (steps ++ properties) e).1).0

pub typed_is_plain : NamesAreApart → (m : ModelForm) → ModelCountsNothing (erase m) → IsTypedModel m → IsPlain (erase m)
typed_is_plain apart m counts typed = record {
  variables = distinct (erase m).variables (apart m typed.rules).variables;
  assignments = assign_once (texts (variable_names m.variables)) m.steps (steps_keep m typed.rules);
  initial = initial_terms (erase m) (typed.steps);
  steps_count_nothing = counts.steps;
  initial_counts_nothing = counts.initial;
}
