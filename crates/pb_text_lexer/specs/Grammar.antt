-- The words in which a grammar is written: relations between the tokens before, what is read, and
-- the tokens after. No word has a position or looks ahead, but for `First`, by which a rule goes by
-- its first token.
use Rattle.std.specs.Prelude.{◌≡◌, ◌≤◌, ℕ, suc, List, [], ◌∷◌}
use Rattle.pb_text_lexer.specs.declared.kind.Kind.{Kind}
use Rattle.pb_text_lexer.specs.declared.fault.ReadingRule.{ReadingRule}
use Rattle.pb_text_lexer.specs.declared.fault.ReadingRule.TheVariants.{Unexpected, Limit}
use Rattle.pb_text_lexer.specs.Tokens.{Tok}

-- the tokens that are left, and how many more operators with two operands may come
pub record State : Type 0 where
  pub tokens : List Tok
  pub operators : ℕ

-- from one state to another something is read
abbrev pub Reads : Type 0 → Type 1
Reads X = State → X → State → Type 0

-- one thing and then another
infixl 10 ◌>>=◌
abbrev pub ◌>>=◌ : {X Y : Type 0} → Reads X → (X → Reads Y) → Reads Y
(R >>= S) s y z = (x : _) × (m : State) × R s x m × S x m y z

-- a value, at no token
abbrev pub Is : {X : Type 0} → X → Reads X
Is x s y z = (y ≡ x) × (z ≡ s)

abbrev pub Nothing : {X : Type 0} → Reads X
Nothing s y z = ⊥

-- one token of a kind
abbrev pub One : Kind → Reads Tok
One kind s t z = (s.tokens ≡ t ∷ z.tokens) × (t.kind ≡ kind) × (z.operators ≡ s.operators)

-- an operator with two operands, which counts
abbrev pub Operator : Kind → Reads Tok
Operator kind s t z = (s.tokens ≡ t ∷ z.tokens) × (t.kind ≡ kind) × (s.operators ≡ suc z.operators)

-- what is read goes by the kind of the first token
abbrev pub by_first : {X : Type 0} → (Kind → Reads X) → List Tok → Reads X
by_first R [] = Nothing
by_first R (t ∷ ts) = R t.kind

abbrev pub First : {X : Type 0} → (Kind → Reads X) → Reads X
First R s = by_first R s.tokens s

-- Items, one or more, with what stands between them: end makes a value of the last,
-- and join of an item, what follows it and the value of the rest.
pub data Series {X T Y : Type 0} (Item : Reads X) (Between : Reads T) (end : X → Y)
    (join : X → T → Y → Y) : State → Y → State → Type 0 where
  last : {s z : State} {x : X} → Item s x z → Series Item Between end join s (end x) z
  more : {s m o z : State} {x : X} {t : T} {y : Y} → Item s x m → Between m t o
      → Series Item Between end join o y z → Series Item Between end join s (join x t y) z

-- with all the operators that are allowed, whatever comes before and behind
abbrev pub CountedApart : {X : Type 0} → Reads X → Reads X
CountedApart R s x z =
    (m : ℕ) × R s x (record { tokens = z.tokens; operators = m }) × (z.operators ≡ s.operators)

-- The limits that a refusal speaks of: any, or those that are at hand. So many levels may open, and
-- so many operators come.
abbrev pub WithinLimits : ReadingRule → ℕ → ℕ → ℕ → ℕ → Type 0
WithinLimits Unexpected depth operators d n = Unit {0}
WithinLimits Limit depth operators d n = (d ≤ depth) × (n ≤ operators)

-- At a refused token: the token with which, within some limits, a text goes on. Where a limit is
-- exceeded it is that one.
abbrev pub going_on : ReadingRule → Tok → List Tok
going_on Unexpected next = []
going_on Limit next = next ∷ []
