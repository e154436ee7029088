-- Formulas that are the same where elements are permuted, by what the code reads them by.
use Rattle.std.specs.Prelude.{ℕ, Bool, true, List, Option, Some, None}
use Rattle.std.specs.List.{slice_get}
use Rattle.std.specs.Option.{option_map}
use Rattle.pb_text_meaning.specs.Syntax.{Name, Variable, Term}
use Rattle.pb_protocol_tree.specs.declared.formula.Link as declared_link
use Rattle.pb_protocol_tree.specs.declared.step_set.StepSetLink as declared_set_link
use Rattle.pb_protocol_tree.specs.Form.{formula_form, step_set_form}
use Rattle.pb_protocol_meaning.specs.Syntax.{Step, StepSet, Formula}
use Rattle.pb_protocol_meaning.specs.Erase.{erased_formula, erased_steps, protocol_of}
use Rattle.pb_protocol_symmetry.specs.Permutation.{kind_of}
use Rattle.pb_protocol_symmetry.specs.Kinds.{Signatures}
use Rattle.pb_protocol_symmetry.specs.ProtocolTest.{is_kind, values_have_kinds, set_has_kinds}
use Rattle.pb_protocol_symmetry.specs.ProtocolTest.{formula_has_kinds}
use Rattle.pb_protocol_scalar_sets.specs.declared.term.Context.{Context}
use Rattle.pb_protocol_scalar_sets.specs.declared.formula.Readings.{Readings}
use Rattle.pb_protocol_scalar_sets.specs.Sorts.{spec_of}
use Rattle.pb_protocol_scalar_sets.specs.Terms.{kind_at}
use Rattle.pb_protocol_scalar_sets.specs.View.{known_said}

-- the sort of the variable at a place, if there is one
abbrev pub sort_at : List Variable → ℕ → Option Name
sort_at xs n = option_map (λ (x : Variable). x.sort) (slice_get xs n)

-- a value that is given for a variable of a sort has its kind
abbrev pub value_fits : Context → List Variable → Option Name → Option Term → Bool
value_fits c scope (Some s) (Some x) = is_kind (kind_of c.set.sort.now s) (kind_at c scope x)
value_fits c scope (Some s) None = true
value_fits c scope None x = true

abbrev pub values_fit : Context → List Variable → List Variable → List (Option Term) → Bool
values_fit c scope zs xs =
    values_have_kinds (spec_of c.set.protocol.now) c.set.sort.now c.set.moved.now
    (known_said c.known) scope zs xs

abbrev pub set_fits : Context → List Variable → StepSet → Step → Bool
set_fits c scope A a =
    set_has_kinds (spec_of c.set.protocol.now) c.set.sort.now c.set.moved.now (known_said c.known)
    scope A a

abbrev pub set_link_fits : Context → List Variable → Step → declared_set_link.StepSetLink → Bool
set_link_fits c scope a link = set_fits c scope (erased_steps (step_set_form link.operand)) a

-- what may be named at states, and where there is no state
abbrev pub signatures_said : Readings → Signatures
signatures_said r = record {
  at_states = known_said r.at_states;
  at_start = known_said r.at_start;
}

abbrev pub state_context : Readings → Context
state_context r = record { set = r.set; known = r.at_states }

abbrev pub start_context : Readings → Context
start_context r = record { set = r.set; known = r.at_start }

abbrev pub formula_fits : Readings → List Variable → Formula → Bool
formula_fits r scope f =
    formula_has_kinds (protocol_of r.set.protocol.now) r.set.sort.now r.set.moved.now
    (signatures_said r) scope f

abbrev pub link_fits : Readings → List Variable → declared_link.Link → Bool
link_fits r scope link = formula_fits r scope (erased_formula (formula_form link.operand))
