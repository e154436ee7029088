use Rattle.std.proofs.Common.{◌≡◌, ◌++◌, List, map, drop}
use Rattle.pb_protocol_tree.specs.declared.step.Assignment.{Assignment}
use Rattle.pb_protocol_meaning.specs.Steps.{data_of}
use Rattle.pb_protocol_unfolder_terms.specs.AssignmentCopies.{AreCopiesOf}
use Rattle.pb_protocol_unfolder_steps.specs.Elements.{flat_element}
use Rattle.pb_protocol_unfolder_steps.specs.Steps.{step_assignment, protocol_assignments, changes}
use Rattle.pb_protocol_unfolder_steps.specs.Unfolder.{protocol_in, scope_within}
use Rattle.pb_protocol_unfolder_steps.proofs.assignment.unfold_assignments.Given as goal

-- what is still to be added stands behind what is added
abbrev pub invariant-loop-element : goal.invariant-loop-element
invariant-loop-element l = (all : List Assignment) → AreCopiesOf (data_of (protocol_in l.unfolder)) all l.copies →
    let m = protocol_in l.unfolder in
    let ρ = scope_within l.unfolder l.scope in
    let bs = protocol_assignments all in
    map step_assignment l.assignments.items ++ changes m ρ bs (map flat_element (drop l.element-index l.elements)) ≡ changes m ρ bs (map flat_element l.elements)
