-- What the fault of a protocol's term, or of a step's assignments, says.
use Rattle.std.specs.Prelude.{◌≡◌, ◌⊎◌, ◌<◌, ◌≤◌, ◌+◌, ℕ, suc, List, [], map, flat_map, length}
use Rattle.std.specs.Prelude.{take, Contains, Option, Some, None}
use Rattle.std.specs.List.{slice_get}
use Rattle.pb_base.specs.OrMemory.{IfFault}
use Rattle.pb_base.specs.declared.or_memory.OrMemory.{OrMemory}
use Rattle.pb_base.specs.declared.limits.TheConstants.{MAX_OPERATORS}
use Rattle.pb_text_tree.specs.declared.place.Place.{Place}
use Rattle.pb_text_tree.specs.Form.{TermForm}
use Rattle.pb_protocol_tree.specs.Form.{CopiesForm, AssignmentForm, DefinitionForm, ProtocolForm}
use Rattle.pb_protocol_tree.specs.Form.{copied_variables}
use Rattle.pb_text_meaning.specs.Syntax.{Term, Spec}
use Rattle.pb_text_meaning.specs.Erase.{erased_variables}
use Rattle.pb_protocol_meaning.specs.Erase.{erase, erased_assignment}
use Rattle.pb_protocol_meaning.specs.Steps.{data_of}
use Rattle.pb_protocol_unfolding.specs.PutIn.{TermScope, copies}
use Rattle.pb_protocol_unfolding.specs.Unfolding.{Element, name_of, term_after}
use Rattle.pb_protocol_unfolder_terms.specs.declared.fault.UnfoldFault.{UnfoldFault}
use Rattle.pb_protocol_unfolder_terms.specs.declared.fault.UnfoldRule.{UnfoldRule}
use Rattle.pb_protocol_unfolder_terms.specs.declared.fault.UnfoldRule.TheVariants as rule
use Rattle.pb_protocol_unfolder_terms.specs.declared.scope.TermScope as declared_scope
use Rattle.pb_protocol_unfolder_terms.specs.declared.scope.TermScope.TheVariants.{Empty, Values', Arguments'}
use Rattle.pb_protocol_unfolder_terms.specs.declared.term.TheConstants.{MAX_LEVELS}
use Rattle.pb_protocol_unfolder_terms.specs.Deep.{IsDepthFault}
use Rattle.pb_protocol_unfolder_terms.specs.Large.{HasManyOperators, IsTokenMet, IsValuesFault}
use Rattle.pb_protocol_unfolder_terms.specs.Met.{IsIndexFault, Occurrence, Surroundings, at, forms}
use Rattle.pb_protocol_unfolder_terms.specs.Scopes.{scope_of}
use Rattle.pb_protocol_unfolder_terms.specs.Unfolding.{operator_count}

-- ---- what terms are unfolded by

abbrev pub term_of_definition : DefinitionForm → TermForm
term_of_definition d = d.term

-- those of the steps and formulas of a protocol
abbrev pub surroundings_of : ProtocolForm → Surroundings
surroundings_of m = record {
  spec = data_of (erase m);
  variables = (erase m).variables;
  definitions = (erase m).definitions;
  terms = map term_of_definition m.definitions;
}

-- and those of its initial state, which may name no state variable
abbrev pub surroundings_at_start : ProtocolForm → Surroundings
surroundings_at_start m = record {
  spec = data_of (erase m);
  variables = [];
  definitions = (erase m).definitions;
  terms = map term_of_definition m.definitions;
}

-- names stand for values alone, and not for the arguments of a definition
abbrev pub HasValues : declared_scope.TermScope → Type 0
HasValues Empty = Unit {0}
HasValues (Values' variables values p outer) = HasValues outer
HasValues (Arguments' parameters arguments definitions p user) = ⊥

-- what the code's scope says there
abbrev pub scope_by : Surroundings → declared_scope.TermScope → TermScope
scope_by m scope = scope_of m.spec (forms m) scope

-- ---- faults

-- an array is read at an index outside, too many values are written out, or terms nest too deep;
-- too many operators are told of at a token of what is met
abbrev pub Breaks : Surroundings → Occurrence → UnfoldRule → Place → Type 0
Breaks m whole rule.Index p = IsIndexFault m whole p
Breaks m whole rule.Values p = IsValuesFault m whole p
Breaks m whole rule.Operators p = IsTokenMet m whole p
Breaks m whole rule.Depth p = IsDepthFault m whole p

-- P of the rule and the place
abbrev pub IsFaultAt : (UnfoldRule → Place → Type 0) → UnfoldFault → Type 0
IsFaultAt P fault = P fault.rule fault.place

abbrev pub IfFaultAt : (UnfoldRule → Place → Type 0) → OrMemory UnfoldFault → Type 0
IfFaultAt P error = IfFault error (IsFaultAt P)

-- where the rule is that of operators, Many as well
abbrev pub WithMany : Type 0 → (UnfoldRule → Place → Type 0) → UnfoldRule → Place → Type 0
WithMany Many P rule.Operators p = Many × P rule.Operators p
WithMany Many P r p = P r p

-- in a term, by all definitions: of operators it has too many
abbrev pub IsFaultInTerm : Surroundings → TermScope → TermForm → UnfoldRule → Place → Type 0
IsFaultInTerm m ρ x =
    let whole = at MAX_LEVELS (length m.definitions) ρ x in
    WithMany (HasManyOperators m whole) (Breaks m whole)

-- in an assignment with so many levels for its term and its indices: as in the read of what it
-- assigns to, in its term, or no level is left to choose it
abbrev pub IsFaultInAssignment :
    Surroundings → ℕ → ℕ → TermScope → AssignmentForm → UnfoldRule → Place → Type 0
IsFaultInAssignment m l n ρ a r p =
    Breaks m (at (suc l) n ρ (TermForm.application a.variable a.index)) r p
    ⊎ Breaks m (at l n ρ a.value) r p
    ⊎ ((l ≡ 0) × (r ≡ rule.Depth) × (p ≡ a.variable.place))

-- an assignment, with what names stand for in it
pub record PlacedCopy : Type 0 where
  pub scope : TermScope
  pub assignment : AssignmentForm

-- one for each tuple of values of its variables, in order
abbrev pub placed_copies_of : Spec → TermScope → AssignmentForm → List PlacedCopy
placed_copies_of spec ρ a =
    copies spec (erased_variables (copied_variables a.copies))
    (λ σ. record { scope = σ; assignment = a }) ρ

abbrev pub placed_copies : Spec → TermScope → List AssignmentForm → List PlacedCopy
placed_copies spec ρ assignments = flat_map (placed_copies_of spec ρ) assignments

-- in one of them, which has a level less than all for each at most of those behind it
abbrev pub IsFaultInCopies :
    Surroundings → ℕ → ℕ → List PlacedCopy → UnfoldRule → Place → Type 0
IsFaultInCopies m levels n all r p =
    (c : PlacedCopy) × (there : Contains all c) × (l : ℕ)
    × (levels + suc there.0 ≤ l + length all) × IsFaultInAssignment m l n c.scope c.assignment r p

-- where assignments are written out: at `forall`, else at what is assigned
abbrev pub copies_place : AssignmentForm → Option CopiesForm → Place
copies_place a None = a.variable.place
copies_place a (Some c) = c.place

-- up to one of these assignments there are more than 8,192, for all values of their variables
abbrev pub IsFaultInCopying : Spec → List AssignmentForm → UnfoldRule → Place → Type 0
IsFaultInCopying spec assignments r p =
    (k : ℕ) × (a : AssignmentForm) × (slice_get assignments k ≡ Some a) × (r ≡ rule.Values)
    × (p ≡ copies_place a a.copies)
    × (MAX_OPERATORS < length (placed_copies spec [] (take (suc k) assignments)))

-- what an element is after them, unfolded, has more than 8,192 operators
abbrev pub HasManyAssigned :
    Surroundings → ℕ → TermScope → List AssignmentForm → Element → Type 0
HasManyAssigned m n ρ assignments e =
    MAX_OPERATORS < operator_count (term_after m.spec (forms m n) ρ
    (map erased_assignment assignments) e (Term.Named (name_of e)))

-- where it is unfolded what an element is after them, by all definitions
abbrev pub IsFaultInElement :
    Surroundings → TermScope → List AssignmentForm → Element → UnfoldRule → Place → Type 0
IsFaultInElement m ρ assignments e =
    let n = length m.definitions in
    WithMany (HasManyAssigned m n ρ assignments e)
    (IsFaultInCopies m MAX_LEVELS n (placed_copies m.spec ρ assignments))
