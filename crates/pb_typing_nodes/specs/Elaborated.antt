-- The typed tree of a part, or which rule fails.
use Rattle.std.specs.Prelude.{◌≡◌, [], List, Result, Contains, MatchResult}
use Rattle.pb_base.specs.declared.or_memory.OrMemory.{OrMemory}
use Rattle.pb_typing_declarations.specs.declared.fault.TypingFault.{TypingFault}
use Rattle.pb_typing_declarations.specs.Faults.{IsAmong}
use Rattle.pb_typing_declarations.specs.Shapes.{Shape}
use Rattle.pb_typing_tree.specs.declared.formula.Argument as typed
use Rattle.pb_typing_tree.specs.Tree.{Term}
use Rattle.pb_typing_tree.specs.View.{shape_view, term_view}

-- this shape and this typed tree
abbrev pub IsTypedAs : Shape → Term → typed.Argument → Type 0
IsTypedAs s x r = (shape_view r.shape ≡ s) × (term_view r.term ≡ x)

abbrev pub Elaborates : List TypingFault → Shape → Term
    → Result typed.Argument (OrMemory TypingFault) → Type 0
Elaborates all s x result = MatchResult result (λ r. (all ≡ []) × IsTypedAs s x r) (IsAmong all)

-- the same where no memory is asked for
abbrev pub Resolves : List TypingFault → Shape → Term → Result typed.Argument TypingFault → Type 0
Resolves all s x result = MatchResult result (λ r. (all ≡ []) × IsTypedAs s x r) (Contains all)
