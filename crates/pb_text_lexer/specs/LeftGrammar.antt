-- Chains that group to the left, chains of unmixed operators, and comparisons, which don't chain.
use Rattle.std.specs.Prelude.{◌≡◌, suc, Bool, true, List, [], ◌∷◌, ◌⊎◌}
use Rattle.pb_text_lexer.specs.declared.kind.Kind.{Kind}
use Rattle.pb_text_lexer.specs.Tokens.{Tok}
use Rattle.pb_text_lexer.specs.Grammar.{Reads, ◌>>=◌, Is, Series}
use Rattle.pb_text_lexer.specs.OpenGrammar.{Either}

-- an operator with two operands, of a kind that passes the test; it counts
abbrev pub OperatorOf : (Kind → Bool) → Reads Tok
OperatorOf test s t z =
    (s.tokens ≡ t ∷ z.tokens) × (test t.kind ≡ true) × (s.operators ≡ suc z.operators)

-- a thing alone, or a thing and more
abbrev pub Extended : {X : Type 0} → Reads X → (X → Reads X) → Reads X
Extended Item More s y z = Item s y z ⊎ (Item >>= More) s y z

-- things, one or more, with what stands between them, as a list
abbrev pub Listed : {X T : Type 0} → Reads X → Reads T → Reads (List X)
Listed Item Between = Series Item Between (λ x. x ∷ []) (λ x t xs. x ∷ xs)

-- an operator and the operand behind it
abbrev pub Link : {X : Type 0} → (Kind → Bool) → Reads X → Reads (Tok × X)
Link test Item = do
  operator ← OperatorOf test
  operand ← Item
  Is (operator, operand)

abbrev pub Links : {X : Type 0} → (Kind → Bool) → Reads X → Reads (List (Tok × X))
Links test Item = Listed (Link test Item) (Is {X = Unit {0}} tt)

-- an operand and links, grouped to the left
abbrev pub grouped : {X : Type 0} → (X → Tok → X → X) → X → List (Tok × X) → X
grouped join x [] = x
grouped join x (link ∷ links) = grouped join (join x link.0 link.1) links

-- links behind a first operand
abbrev pub Linked : {X : Type 0} → (Kind → Bool) → (X → Tok → X → X) → Reads X → X → Reads X
Linked test join Item x = do
  links ← Links test Item
  Is (grouped join x links)

-- One operand, or operands with operators that pass the test between them, grouped to the left.
abbrev pub LeftChain : {X : Type 0} → (Kind → Bool) → (X → Tok → X → X) → Reads X → Reads X
LeftChain test join Item = Extended Item (Linked test join Item)

-- One operand, or operands grouped to the left with operators that all pass the one test or all
-- pass the other.
abbrev pub UnmixedChain : {X : Type 0} → (Kind → Bool) → (Kind → Bool) → (X → Tok → X → X) → Reads X
    → Reads X
UnmixedChain test other join Item =
    Extended Item (λ x. Either (Linked test join Item x) (Linked other join Item x))

-- one operand, or two with an operator between them that passes the test
abbrev pub Comparison : {X : Type 0} → (Kind → Bool) → (X → Tok → X → X) → Reads X → Reads X
Comparison test join Item =
    Extended Item (λ x. OperatorOf test >>= (λ operator. Item >>= (λ y. Is (join x operator y))))
