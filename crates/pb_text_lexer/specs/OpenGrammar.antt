-- Levels whose last operand may end in a quantifier, and whose other operands may not.
use Rattle.std.specs.Prelude.{◌⊎◌}
use Rattle.pb_text_lexer.specs.declared.kind.Kind.{Kind}
use Rattle.pb_text_lexer.specs.declared.kind.Kind.TheVariants as k
use Rattle.pb_text_lexer.specs.Tokens.{Tok}
use Rattle.pb_text_lexer.specs.Grammar.{State, Reads, Operator}

-- Operands with the operator between them, read to the right: all but the last are closed, the last
-- may be open.
pub data Chained {X : Type 0} (kind : Kind) (join : X → Tok → X → X) (Closed Open : Reads X) : State
    → X → State → Type 0 where
  last : {s z : State} {x : X} → Open s x z → Chained kind join Closed Open s x z
  more : {s m o z : State} {x y : X} {t : Tok} → Closed s x m → Operator kind m t o
      → Chained kind join Closed Open o y z → Chained kind join Closed Open s (join x t y) z

-- one or the other
abbrev pub Either : {X : Type 0} → Reads X → Reads X → Reads X
Either A B s y z = A s y z ⊎ B s y z

-- The levels of `&&`, `||` and `=>` over what stands below them: Node, and where a quantifier may
-- come, Open.
abbrev pub Conjunction : {X : Type 0} → (Kind → X → Tok → X → X) → Reads X → Reads X → Reads X
Conjunction join Node Open = Chained k.And (join k.And) Node Open

abbrev pub Disjunction : {X : Type 0} → (Kind → X → Tok → X → X) → Reads X → Reads X → Reads X
Disjunction join Node Open =
    Chained k.Or (join k.Or) (Conjunction join Node Node) (Conjunction join Node Open)

abbrev pub Implication : {X : Type 0} → (Kind → X → Tok → X → X) → Reads X → Reads X → Reads X
Implication join Node Open =
    Chained k.Implies (join k.Implies) (Disjunction join Node Node) (Disjunction join Node Open)

-- all three levels, at whose right end a quantifier may stand
abbrev pub Connected : {X : Type 0} → (Kind → X → Tok → X → X) → Reads X → Reads X → Reads X
Connected join Node Quantifier = Implication join Node (Either Node Quantifier)
