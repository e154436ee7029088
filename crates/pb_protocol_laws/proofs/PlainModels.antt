-- The model that a plain protocol is: its names are apart, its steps assign once, and there is an initial term for each variable.
use Rattle.std.proofs.Common.{◌≡◌, ℕ, suc, ◌+◌, ◌==◌, Bool, true, false, not, ◌&&◌, List, [], ◌∷◌, length, map, refl, sym, ◌∙◌, ap, subst, arith, None}
use Rattle.std.proofs.lemmas.Bool.{eqb-true}
use Rattle.pb_text_tree.specs.Form.{ArgumentForms, no_arguments, argument}
use Rattle.pb_text_meaning.specs.Syntax.{Name, same_name, Variable, Terms}
use Rattle.pb_text_meaning.specs.Erase.{erased_arguments}
use Rattle.pb_text_meaning.specs.Erase as texts_of
use Rattle.pb_typing_declarations.specs.declared.fault.TypingRule.TheVariants.{Limit, NameTwice, WrongCount}
use Rattle.pb_typing_declarations.specs.Faults.{repeated}
use Rattle.pb_typing_declarations.proofs.Parts.{no_parts}
use Rattle.pb_model_meaning.specs.Syntax as flat
use Rattle.pb_protocol_tree.specs.Form.{StateVariableForm, AssignmentForm, StepForm, ProtocolForm}
use Rattle.pb_protocol_meaning.specs.Syntax.{StateVariable, Assignment, Step, Protocol}
use Rattle.pb_protocol_meaning.specs.Erase.{erase, erased_state_variable, erased_assignment, erased_step}
use Rattle.pb_protocol_folding.specs.Names.{IsNot, AreDistinct, names_of, AssignOnce}
use Rattle.pb_protocol_unfolding.specs.Plain.{plain, plain_variable, plain_assignment, plain_step, AreAsMany, IsPlain, ModelCountsNothing}
use Rattle.pb_protocol_typing.specs.Fault.{fault_unless, first_fault}
use Rattle.pb_protocol_typing.specs.Scopes.{Scope, inside, variables}
use Rattle.pb_protocol_typing.specs.Terms.{condition_fault}
use Rattle.pb_protocol_typing.specs.Indices.{are_same}
use Rattle.pb_protocol_typing.specs.Steps.{count, assignment_fault, again_fault, twice_fault, step_fault}
use Rattle.pb_protocol_typing.specs.Faults.{data_form, declared_names, state_names, definition_names, apart_faults, protocol_faults, outermost, signatures_of}
use Rattle.pb_protocol_laws.proofs.Kept.{no_either, holds, kept}
use Rattle.pb_protocol_laws.proofs.Distinct.{texts, turned, distinct, front}

-- ---- names

state-texts : (ys : List StateVariableForm) → texts (state_names ys) ≡ map (λ (y : StateVariable). y.name) (map erased_state_variable ys)
state-texts [] = refl
state-texts (y ∷ ys) = ap (λ xs. y.name.text ∷ xs) (state-texts ys)

pub state_variables_are_apart : (text : ProtocolForm) → protocol_faults text ≡ [] → AreDistinct (map (λ (y : StateVariable). y.name) (erase text).variables)
state_variables_are_apart text e =
    let apart = no_parts (apart_faults (declared_names text)) _ (kept text e).names in
    let once = no_parts (repeated (declared_names text)) _ apart.0 in
    subst AreDistinct (state-texts text.variables) (front (state_names text.variables) (definition_names text.definitions) (distinct (declared_names text) once.0))

plain-names : (xs : List Variable) → map (λ (y : StateVariable). y.name) (map plain_variable xs) ≡ names_of xs
plain-names [] = refl
plain-names (x ∷ xs) = ap (λ ys. x.name ∷ ys) (plain-names xs)

-- ---- assignments

abbrev targets : List Assignment → List Name
targets bs = map (λ (b : Assignment). b.variable) bs

-- each has no index
abbrev HaveNoIndex : List Assignment → Type 0
HaveNoIndex [] = Unit {0}
HaveNoIndex (b ∷ bs) = (b.index ≡ Terms.NoTerms) × HaveNoIndex bs

abbrev StepsHaveNoIndex : List Step → Type 0
StepsHaveNoIndex [] = Unit {0}
StepsHaveNoIndex (a ∷ steps) = HaveNoIndex a.assignments × StepsHaveNoIndex steps

abbrev StepsAssignOnce : List Step → Type 0
StepsAssignOnce [] = Unit {0}
StepsAssignOnce (a ∷ steps) = AreDistinct (targets a.assignments) × StepsAssignOnce steps

same-index : (xs ys : ArgumentForms) → erased_arguments xs ≡ Terms.NoTerms → erased_arguments ys ≡ Terms.NoTerms → are_same xs ys ≡ true
same-index no_arguments no_arguments e h = refl
same-index no_arguments (argument p x ys) e h = cc
same-index (argument p x xs) ys e h = cc

apart-by : (b c : Bool) → not (b && c) ≡ true → c ≡ true → b ≡ false
apart-by true true e h = sym e
apart-by true false e h = sym h
apart-by false c e h = refl

not-again : (b : AssignmentForm) (ds : List AssignmentForm) → first_fault (again_fault b) ds ≡ None → erased_arguments b.index ≡ Terms.NoTerms → HaveNoIndex (map erased_assignment ds)
    → IsNot b.variable.text (targets (map erased_assignment ds))
not-again b [] e none left = tt
not-again b (d ∷ ds) e none left =
    let parts = no_either (again_fault b d) (first_fault (again_fault b) ds) e in
    let test = holds (not (same_name b.variable.text d.variable.text && are_same b.index d.index)) NameTwice d.variable.place parts.0 in (
      turned b.variable.text d.variable.text (apart-by (same_name b.variable.text d.variable.text) (are_same b.index d.index) test (same-index b.index d.index none left.0)),
      not-again b ds parts.1 none left.1,
    )

assigned-once : (bs : List AssignmentForm) → twice_fault bs ≡ None → HaveNoIndex (map erased_assignment bs) → AreDistinct (targets (map erased_assignment bs))
assigned-once [] e h = tt
assigned-once (b ∷ bs) e h =
    let parts = no_either (first_fault (again_fault b) bs) (twice_fault bs) e in
    (not-again b bs parts.0 h.0 h.1, assigned-once bs parts.1 h.1)

step-once : (s : Scope) (a : StepForm) → step_fault s a ≡ None → HaveNoIndex (map erased_assignment a.assignments) → AreDistinct (targets (map erased_assignment a.assignments))
step-once s a e h =
    let inner = inside (variables a.variables) s in
    let few = no_either (fault_unless _ Limit a.name.place) _ e in
    let guard = no_either (condition_fault inner a.name.place a.guard) _ few.1 in
    let assigned = no_either (first_fault (assignment_fault inner) a.assignments) (twice_fault a.assignments) guard.1 in
    assigned-once a.assignments assigned.1 h

steps-once : (s : Scope) (steps : List StepForm) → first_fault (step_fault s) steps ≡ None → StepsHaveNoIndex (map erased_step steps) → StepsAssignOnce (map erased_step steps)
steps-once s [] e h = tt
steps-once s (a ∷ steps) e h =
    let parts = no_either (step_fault s a) (first_fault (step_fault s) steps) e in
    (step-once s a parts.0 h.0, steps-once s steps parts.1 h.1)

plain-assignments : (bs : List flat.Assignment) → HaveNoIndex (map plain_assignment bs)
plain-assignments [] = tt
plain-assignments (b ∷ bs) = (refl, plain-assignments bs)

plain-steps : (steps : List flat.Step) → StepsHaveNoIndex (map plain_step steps)
plain-steps [] = tt
plain-steps (a ∷ steps) = (plain-assignments a.assignments, plain-steps steps)

plain-targets : (bs : List flat.Assignment) → targets (map plain_assignment bs) ≡ map (λ (b : flat.Assignment). b.variable) bs
plain-targets [] = refl
plain-targets (b ∷ bs) = ap (λ xs. b.variable ∷ xs) (plain-targets bs)

plain-once : (steps : List flat.Step) → StepsAssignOnce (map plain_step steps) → AssignOnce steps
plain-once [] h = tt
plain-once (a ∷ steps) h = (subst AreDistinct (plain-targets a.assignments) h.0, plain-once steps h.1)

-- ---- initial values

abbrev term_count : Terms → ℕ
term_count Terms.NoTerms = 0
term_count (Terms.Then t ts) = 1 + term_count ts

counted : (xs : ArgumentForms) → count xs ≡ term_count (erased_arguments xs)
counted no_arguments = refl
counted (argument p x xs) = ap (λ n. 1 + n) (counted xs)

as-many : (xs : List Variable) (ts : Terms) → term_count ts ≡ length xs → AreAsMany xs ts
as-many [] Terms.NoTerms e = tt
as-many [] (Terms.Then t ts) e = absurd (omega (arith, e))
as-many (x ∷ xs) Terms.NoTerms e = absurd (omega (arith, e))
as-many (x ∷ xs) (Terms.Then t ts) e = as-many xs ts (omega (arith, e))

same-length : {X Y : Type 0} (f : X → Y) (xs : List X) → length (map f xs) ≡ length xs
same-length f [] = refl
same-length f (x ∷ xs) = ap (λ n. suc n) (same-length f xs)

-- ---- the whole

pub plain_protocols_are_plain : (text : ProtocolForm) (m : flat.Model) → protocol_faults text ≡ [] → erase text ≡ plain m → ModelCountsNothing m → IsPlain m
plain_protocols_are_plain text m e is counts =
    let spec = texts_of.erase (data_form text) in
    let parts = kept text e in
    let same_variables : map erased_state_variable text.variables ≡ map plain_variable m.variables = ap (λ (p : Protocol). p.variables) is in
    let same_steps : map erased_step text.steps ≡ map plain_step m.steps = ap (λ (p : Protocol). p.steps) is in
    let same_initial : erased_arguments text.initial.values ≡ m.initial = ap (λ (p : Protocol). p.initial) is in
    let once = steps-once (outermost spec (signatures_of spec text)) text.steps parts.steps (subst StepsHaveNoIndex (sym same_steps) (plain-steps m.steps)) in
    let test = no_either (fault_unless (count text.initial.values == length text.variables) WrongCount text.initial.place) _ parts.initial in
    let sizes : count text.initial.values ≡ length text.variables = eqb-true _ _ (holds (count text.initial.values == length text.variables) WrongCount text.initial.place test.0) in
    let lengths : length text.variables ≡ length m.variables =
    sym (same-length erased_state_variable text.variables) ∙ (ap (λ (ys : List StateVariable). length ys) same_variables ∙ same-length plain_variable m.variables) in
    record {
      variables = subst AreDistinct (ap (λ (ys : List StateVariable). map (λ (y : StateVariable). y.name) ys) same_variables ∙ plain-names m.variables) (state_variables_are_apart text e);
      assignments = plain-once m.steps (subst StepsAssignOnce same_steps once);
      initial = as-many m.variables m.initial (ap term_count (sym same_initial) ∙ (sym (counted text.initial.values) ∙ (sizes ∙ lengths)));
      steps_count_nothing = counts.steps;
      initial_counts_nothing = counts.initial;
    }
