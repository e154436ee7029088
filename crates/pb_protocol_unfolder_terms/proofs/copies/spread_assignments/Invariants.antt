use Rattle.std.proofs.Common.{◌≡◌, ◌≤◌, take, length}
use Rattle.std.specs.Prelude.{flat_map}
use Rattle.pb_base.specs.declared.limits.TheConstants.{MAX_OPERATORS}
use Rattle.pb_protocol_unfolder_terms.specs.AssignmentCopies.{AreSpreadsOf, tuples_behind}
use Rattle.pb_protocol_unfolder_terms.specs.View.{spec_of}
use Rattle.pb_protocol_unfolder_terms.proofs.copies.spread_assignments.Given as goal

abbrev pub invariant-loop-assignment : goal.invariant-loop-assignment
invariant-loop-assignment l =
    AreSpreadsOf (spec_of l.sorts) (take l.assignment-index l.assignments) l.spreads.items
    × (l.count ≡ length (flat_map tuples_behind l.spreads.items)) × (l.count ≤ MAX_OPERATORS)
