-- Assignments written out for all values of their variables, in the words of the code.
use Rattle.std.specs.Prelude.{◌≡◌, List, [], ◌∷◌, map, flat_map, Option, Some, None}
use Rattle.pb_text_tree.specs.declared.variable.Variables as declared_variables
use Rattle.pb_text_meaning.specs.Syntax.{Variable, Term, Spec}
use Rattle.pb_text_meaning.specs.Erase.{erased_variables}
use Rattle.pb_protocol_tree.specs.declared.step.Assignment as declared_assignment
use Rattle.pb_protocol_tree.specs.declared.step.Copies as declared_copies
use Rattle.pb_protocol_tree.specs.Form.{assignment_form, copied_variables}
use Rattle.pb_protocol_tree.specs.Form.{copies_said}
use Rattle.pb_protocol_meaning.specs.Syntax.{Assignment}
use Rattle.pb_protocol_meaning.specs.Erase.{erased_assignment}
use Rattle.pb_protocol_unfolding.specs.Written.{written_tuples}
use Rattle.pb_protocol_unfolding.specs.PutIn.{TermScope, standing}
use Rattle.pb_protocol_unfolding.specs.Unfolding.{Copy, terms_of}
use Rattle.pb_protocol_unfolder_terms.specs.declared.copies.AssignmentCopy as declared_copy
use Rattle.pb_protocol_unfolder_terms.specs.declared.copies.Spread as declared_spread
use Rattle.pb_protocol_unfolder_terms.specs.TermFaults.{PlacedCopy}
use Rattle.pb_protocol_unfolder_terms.specs.Values.{tuple_of, written_term}
use Rattle.pb_protocol_unfolder_terms.specs.View.{variable_of}

abbrev pub groups_of : Option declared_copies.Copies → List declared_variables.Variables
groups_of None = []
groups_of (Some c) = c.variables.items

-- the variables before an assignment
abbrev pub variables_before : declared_assignment.Assignment → List Variable
variables_before a = erased_variables (copied_variables (copies_said a.copies))

-- an assignment with values for its variables, as the code holds it
pub record CopyBehind : Type 0 where
  pub assignment : declared_assignment.Assignment
  pub variables : List Variable
  pub values : List Term

abbrev pub copy_at :
    declared_assignment.Assignment → List Variable → List Term → CopyBehind
copy_at a xs ks = record { assignment = a; variables = xs; values = ks }

abbrev pub copy_behind : declared_copy.AssignmentCopy → CopyBehind
copy_behind c =
    copy_at c.assignment.now (map variable_of c.variables.now) (map written_term c.values.now)

abbrev pub tuples_behind : declared_spread.Spread → List (List Term)
tuples_behind s = map tuple_of s.tuples.items

abbrev pub copies_behind : declared_spread.Spread → List CopyBehind
copies_behind s =
    map (copy_at s.assignment.now (map variable_of s.variables.items)) (tuples_behind s)

-- the copies of an assignment, in order
abbrev pub copies_at : Spec → declared_assignment.Assignment → List CopyBehind
copies_at spec a =
    map (copy_at a (variables_before a)) (written_tuples spec (variables_before a))

-- these are all copies of assignments, in order
abbrev pub AreCopiesOf :
    Spec → List declared_assignment.Assignment → List declared_copy.AssignmentCopy → Type 0
AreCopiesOf spec assignments copies =
    map copy_behind copies ≡ flat_map (copies_at spec) assignments

abbrev pub assignments_said : List declared_assignment.Assignment → List Assignment
assignments_said bs = map erased_assignment (map assignment_form bs)

-- an assignment with all tuples of values of its variables
pub record IsSpreadOf (spec : Spec) (a : declared_assignment.Assignment)
    (s : declared_spread.Spread) : Type 0 where
  pub assignment : s.assignment.now ≡ a
  pub variables : map variable_of s.variables.items ≡ variables_before a
  pub tuples : tuples_behind s ≡ written_tuples spec (variables_before a)

-- and so all of them, in order
abbrev pub AreSpreadsOf :
    Spec → List declared_assignment.Assignment → List declared_spread.Spread → Type 0
AreSpreadsOf spec [] [] = Unit {0}
AreSpreadsOf spec (a ∷ others) (s ∷ ss) = IsSpreadOf spec a s × AreSpreadsOf spec others ss
AreSpreadsOf spec [] (s ∷ ss) = ⊥
AreSpreadsOf spec (a ∷ others) [] = ⊥

-- ---- what names stand for in copies

abbrev pub scope_in_copy : TermScope → CopyBehind → TermScope
scope_in_copy ρ c = standing c.variables (terms_of c.values) ρ

abbrev pub copy_said : TermScope → CopyBehind → Copy
copy_said ρ c = record {
  scope = scope_in_copy ρ c;
  assignment = erased_assignment (assignment_form c.assignment);
}

abbrev pub placed_copy : TermScope → CopyBehind → PlacedCopy
placed_copy ρ c = record { scope = scope_in_copy ρ c; assignment = assignment_form c.assignment }
