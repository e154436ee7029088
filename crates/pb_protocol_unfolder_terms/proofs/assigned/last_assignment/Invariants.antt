use Rattle.std.proofs.Common.{take}
use Rattle.pb_text_meaning.specs.Syntax.{Name}
use Rattle.pb_protocol_unfolder_terms.specs.Assigned.{after_by, element_said}
use Rattle.pb_protocol_unfolder_terms.specs.Behind.{IsBehind}
use Rattle.pb_protocol_unfolder_terms.specs.Contexts.{folding_in}
use Rattle.pb_protocol_unfolder_terms.proofs.assigned.last_assignment.Given as goal

-- the copies before the place stand for all of them
abbrev pub invariant-loop-place : goal.invariant-loop-place
invariant-loop-place l =
    (sort : Name) → IsBehind (folding_in l.context) l.level.room
    (after_by l.context l.level.definitions l.scope l.copies (element_said l.element sort))
    (after_by l.context l.level.definitions l.scope (take l.place l.copies) (element_said l.element sort))
    l.passed l.room
