-- Steps that are the same where elements are permuted, by the state variables as terms name them.
use Rattle.std.specs.Prelude.{Bool, true, false, ◌&&◌, if◌then◌else◌, List, [], map, Option, Some}
use Rattle.std.specs.Prelude.{None}
use Rattle.std.specs.List.{list_all}
use Rattle.pb_text_meaning.specs.Syntax.{same_name, Variable}
use Rattle.pb_protocol_meaning.specs.Syntax.{Assignment, Step}
use Rattle.pb_protocol_symmetry.specs.Permutation.{Kind}
use Rattle.pb_protocol_symmetry.specs.Kinds.{Signature, extended}
use Rattle.pb_protocol_symmetry.specs.Test.{is_plain, are_for}
use Rattle.pb_protocol_symmetry.specs.ProtocolTest.{is_kind, are_indices}
use Rattle.pb_protocol_scalar_sets.specs.declared.term.Context.{Context}
use Rattle.pb_protocol_scalar_sets.specs.Terms.{kind_at, kinds_at}
use Rattle.pb_protocol_scalar_sets.specs.View.{signature_said}

-- what a variable holds has its kind
abbrev pub holds : Option Kind → Option Kind → Bool
holds None k = false
holds (Some j) k = is_kind j k

-- an assignment, whose own variables are in scope, to a state variable: if to this, then of what it
-- holds, at indices of its kinds
abbrev pub may_assign : Context → List Variable → List Variable → Assignment → Signature → Bool
may_assign c scope own a y =
    if same_name a.variable y.name then
    are_for c.set.sort.now y.parameters (kinds_at c scope a.index)
    && holds y.kind (kind_at c scope a.term) && are_indices c.set.sort.now y.parameters a.index own
    else true

abbrev pub assignment_fits : Context → List Variable → Assignment → Bool
assignment_fits c scope a =
    list_all (may_assign c (extended a.variables scope) a.variables a)
    (map signature_said c.known.state.now)

abbrev pub step_fits : Context → Step → Bool
step_fits c a =
    is_plain (kind_at c (extended a.variables []) a.guard)
    && list_all (assignment_fits c (extended a.variables [])) a.assignments
