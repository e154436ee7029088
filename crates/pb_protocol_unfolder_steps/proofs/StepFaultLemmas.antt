-- Faults of parts are faults of what they are parts of.
use Rattle.std.proofs.Common.{◌≡◌, ◌<◌, ℕ, refl, sym, ap, subst, List, [], ◌∷◌, ◌++◌, ◌∙◌, map, flat_map}
use Rattle.std.proofs.lemmas.List.{map-append}
use Rattle.pb_base.specs.OrMemory.{IfFault}
use Rattle.pb_base.specs.declared.or_memory.OrMemory.{OrMemory}
use Rattle.pb_base.specs.declared.or_memory.OrMemory.TheVariants.{Refused, Memory}
use Rattle.pb_text_tree.specs.declared.place.Place.{Place}
use Rattle.pb_protocol_unfolder_terms.specs.declared.fault.UnfoldFault.{UnfoldFault}
use Rattle.pb_protocol_unfolder_terms.specs.declared.fault.UnfoldRule.{UnfoldRule}
use Rattle.pb_protocol_unfolder_terms.specs.TermFaults.{IfFaultAt}
use Rattle.pb_protocol_unfolder_steps.specs.declared.fault.StepsFault.{StepsFault}
use Rattle.pb_protocol_unfolder_steps.specs.declared.fault.StepsFault.TheVariants.{Limit, Term}
use Rattle.pb_text_tree.specs.declared.name.Name.{Name}
use Rattle.pb_text_tree.specs.declared.term.Argument.{Argument}
use Rattle.pb_text_tree.specs.Form.{argument_forms}
use Rattle.pb_protocol_tree.specs.declared.protocol.StateVariable as declared_variable
use Rattle.pb_protocol_tree.specs.declared.protocol.StateVariables as declared_state
use Rattle.pb_protocol_tree.specs.Form.{state_variable_form, state_variables_form}
use Rattle.pb_protocol_unfolder_steps.specs.Initial.{indices_of_state, indices_said}
use Rattle.pb_protocol_unfolder_steps.specs.Refusals.{IsPassed}
use Rattle.pb_protocol_unfolder_steps.specs.StepFaults.{IsTermOr, OnTerm, indices_at, term_error, argument_form, value_terms}

-- the fault of a term is told as one of steps
pub term-told : (P : UnfoldRule → Place → Type 0) (e : OrMemory UnfoldFault) (r : OrMemory StepsFault) → r ≡ term_error e → IfFaultAt P e → IfFault r (OnTerm P)
term-told P (Refused f) r same h = subst (λ (x : OrMemory StepsFault). IfFault x (OnTerm P)) (sym same) h
term-told P Memory r same h = subst (λ (x : OrMemory StepsFault). IfFault x (OnTerm P)) (sym same) tt

-- what holds under a condition is told under it
pub term-told-so : (C : Type 0) (P : UnfoldRule → Place → Type 0) (e : OrMemory UnfoldFault) (r : OrMemory StepsFault) → r ≡ term_error e → (C → IfFaultAt P e)
    → IfFault r (OnTerm (λ rule place. C → P rule place))
term-told-so C P e r same h = term-told (λ rule place. C → P rule place) e r same (by e h)
  where
    by : (e : OrMemory UnfoldFault) → (C → IfFaultAt P e) → IfFaultAt (λ rule place. C → P rule place) e
    by (Refused f) h = h
    by Memory h = tt

-- a fault of a part is one of the whole
pub term-or : (Passed : Type 0) (P : UnfoldRule → Place → Type 0) (All : Type 0) (Q : UnfoldRule → Place → Type 0) → (Passed → All) → ((r : UnfoldRule) (p : Place) → P r p → Q r p)
    → (f : StepsFault) → IsTermOr Passed P f → IsTermOr All Q f
term-or Passed P All Q more to (Limit p) h = more h
term-or Passed P All Q more to (Term f) h = to f.rule f.place h

-- of terms alone
pub term-in : (P Q : UnfoldRule → Place → Type 0) → ((r : UnfoldRule) (p : Place) → P r p → Q r p) → (f : StepsFault) → OnTerm P f → OnTerm Q f
term-in P Q to = term-or ⊥ P ⊥ Q (λ h. h) to

-- an excess alone
pub excess : (limit count : ℕ) (p : Place) (P : UnfoldRule → Place → Type 0) (s : StepsFault) → IsPassed limit count p s → IsTermOr (limit < count) P s
excess limit count p P s passed = subst (IsTermOr (limit < count) P) (sym passed.0) passed.1

-- a term alone
pub term-alone : (Passed : Type 0) (P : UnfoldRule → Place → Type 0) (f : StepsFault) → OnTerm P f → IsTermOr Passed P f
term-alone Passed P = term-or ⊥ P Passed P (λ h. absurd h) (λ r p h. h)

-- ---- the tree

pub values-said : (bs : List Argument) → map argument_form bs ≡ value_terms (argument_forms bs)
values-said [] = refl
values-said (b ∷ bs) = ap (λ xs. argument_form b ∷ xs) (values-said bs)

indices-of-group : (sort : Name) (ys : List declared_variable.StateVariable) → map indices_said ys ≡ map indices_at (map (state_variable_form sort) ys)
indices-of-group sort [] = refl
indices-of-group sort (y ∷ ys) = ap (λ iss. indices_said y ∷ iss) (indices-of-group sort ys)

pub indices-of-state : (gs : List declared_state.StateVariables) → indices_of_state gs ≡ map indices_at (flat_map state_variables_form gs)
indices-of-state [] = refl
indices-of-state (g ∷ gs) =
    ap (λ iss. iss ++ indices_of_state gs) (indices-of-group g.sort g.variables.items)
    ∙ ap (λ iss. map indices_at (state_variables_form g) ++ iss) (indices-of-state gs)
    ∙ sym (map-append indices_at (state_variables_form g) (flat_map state_variables_form gs))
