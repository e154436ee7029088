-- What is found of a term's shape.
use Rattle.std.specs.Prelude.{◌≡◌, [], List, Result, Contains, MatchResult}
use Rattle.pb_typing_declarations.specs.declared.fault.TypingFault.{TypingFault}
use Rattle.pb_base.specs.declared.or_memory.OrMemory.{OrMemory}
use Rattle.pb_typing_declarations.specs.Faults.{IsAmong}
use Rattle.pb_typing_declarations.specs.Shapes as model
use Rattle.pb_typing_tree.specs.declared.shape.Shape.{Shape}
use Rattle.pb_typing_tree.specs.View.{shape_view}

-- there is no fault and this is the shape, or a fault is answered
abbrev pub Judges : List TypingFault → model.Shape → Result Shape (OrMemory TypingFault) → Type 0
Judges all s result = MatchResult result (λ r. (all ≡ []) × (shape_view r ≡ s)) (IsAmong all)

-- the same where no memory is asked for
abbrev pub Finds : List TypingFault → model.Shape → Result Shape TypingFault → Type 0
Finds all s result = MatchResult result (λ r. (all ≡ []) × (shape_view r ≡ s)) (Contains all)
