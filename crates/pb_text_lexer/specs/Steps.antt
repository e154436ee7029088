-- The words of a grammar as functions, which compute what is read or the token that is refused.
use Rattle.std.specs.Prelude.{◌≡◌, ℕ, zero, suc, ◌-◌, Bool, false, if◌then◌else◌, ◌==◌, ◌||◌, List, [], ◌∷◌, length, Result, Ok, Err}
use Rattle.pb_base.specs.OrMemory.{IfFault}
use Rattle.pb_base.specs.declared.or_memory.OrMemory.{OrMemory}
use Rattle.pb_text_tree.specs.declared.place.Place.{Place}
use Rattle.pb_text_lexer.specs.declared.kind.Kind.{Kind}
use Rattle.pb_text_lexer.specs.declared.kind.Kind.TheVariants.{End, And, Or, Implies}
use Rattle.pb_text_lexer.specs.declared.fault.ReadingRule.{ReadingRule}
use Rattle.pb_text_lexer.specs.declared.fault.ReadingRule.TheVariants.{Unexpected, Limit}
use Rattle.pb_text_lexer.specs.declared.fault.Refusal.{Refusal}
use Rattle.pb_text_lexer.specs.Kinds.{same_kind, is_last}
use Rattle.pb_text_lexer.specs.Lexing.{start}
use Rattle.pb_text_lexer.specs.Tokens.{Tok}
use Rattle.pb_text_lexer.specs.Grammar.{State}
use Rattle.pb_text_lexer.specs.LeftGrammar.{grouped}

-- The last token, and no other, is one behind which none stands.
abbrev pub ends : List Tok → Bool
ends [] = false
ends (t ∷ []) = is_last t.kind
ends (t ∷ u ∷ ts) = if is_last t.kind then false else ends (u ∷ ts)

abbrev pub head_kind : List Tok → Kind
head_kind [] = End
head_kind (t ∷ ts) = t.kind

abbrev pub head_place : List Tok → Place
head_place [] = start
head_place (t ∷ ts) = t.place

abbrev pub head_text : List Tok → List ℕ
head_text [] = []
head_text (t ∷ ts) = t.text

abbrev pub behind : List Tok → List Tok
behind [] = []
behind (t ∷ ts) = ts

-- the kind of the next token
abbrev pub kind : State → Kind
kind s = head_kind s.tokens

-- where the next token stands
abbrev pub place : State → Place
place s = head_place s.tokens

-- ---- steps

abbrev pub Outcome : Type 0 → Type 0
Outcome A = Result (A × State) Refusal

abbrev pub Step : Type 0 → Type 0
Step A = State → Outcome A

abbrev pub and_then : {A B : Type 0} → Outcome A → (A → Step B) → Outcome B
and_then (Ok p) f = f p.0 p.1
and_then (Err e) f = Err e

infixl 10 ◌>>=◌
abbrev pub ◌>>=◌ : {A B : Type 0} → Step A → (A → Step B) → Step B
p >>= f = λ s. and_then (p s) f

abbrev pub pure : {A : Type 0} → A → Step A
pure a = λ s. Ok (a, s)

abbrev pub peek : Step Kind
peek = λ s. Ok (kind s, s)

-- the refusal of the next token
abbrev pub refusal : ReadingRule → List Tok → Refusal
refusal rule [] = record { rule = rule; kind = End; place = start }
refusal rule (t ∷ ts) = record { rule = rule; kind = t.kind; place = t.place }

abbrev pub refuse : {A : Type 0} → ReadingRule → Step A
refuse rule = λ s. Err (refusal rule s.tokens)

abbrev pub take_from : List Tok → ℕ → Outcome Tok
take_from [] n = Err (refusal Unexpected [])
take_from (t ∷ ts) n = Ok (t, record { tokens = ts; operators = n })

-- the next token, whichever it is
unfoldable pub take_token : Step Tok
take_token = λ s. take_from s.tokens s.operators

-- a token of this kind
unfoldable pub expect : Kind → Step Tok
expect k = λ s. if same_kind (kind s) k then take_token s else refuse Unexpected s

-- an operator with two operands
unfoldable pub take_operator : Step Tok
take_operator =
    λ s. if s.operators == 0 then refuse Limit s
    else take_token (record s { operators = s.operators - 1 })

-- a token that opens a level, where so many may still open
abbrev pub enter : ℕ → Step Tok
enter zero = refuse Limit
enter (suc depth) = take_token

-- p has all the operators that are allowed, and takes none of them from what follows
abbrev pub with_operators : {A : Type 0} → ℕ → Outcome A → Outcome A
with_operators n (Ok p) = Ok (p.0, record { tokens = p.1.tokens; operators = n })
with_operators n (Err e) = Err e

abbrev pub alone : {A : Type 0} → Step A → Step A
alone p = λ s. with_operators s.operators (p s)

-- Items with something between them, as long as the test holds of the next token. The number bounds
-- the turns.
unfoldable pub series : {X T Y : Type 0} → Step X → (Kind → Bool) → Step T → (X → Y)
    → (X → T → Y → Y) → ℕ → Step Y
series item test between end join zero = refuse Limit
series item test between end join (suc n) = do
  x ← item
  kind ← peek
  if test kind then (do
    t ← between
    y ← series item test between end join n
    pure (join x t y)) else pure (end x)

-- ---- chains

-- an operator with two operands, of a kind that passes the test
unfoldable pub operator_of : (Kind → Bool) → Step Tok
operator_of test = λ s. if test (kind s) then take_operator s else refuse Unexpected s

-- operands with one kind of operator between them, read to the right
abbrev pub chain : {X : Type 0} → Kind → (X → Tok → X → X) → Step X → ℕ → Step X
chain k join operand = series operand (λ kind. same_kind kind k) take_operator (λ x. x) join

-- Quantified where the test holds of the next token, and else Node.
abbrev pub either : {X : Type 0} → (Kind → Bool) → Step X → Step X → Step X
either test node quantified = λ s. if test (kind s) then quantified s else node s

-- the levels of `&&`, `||` and `=>` over the level below
abbrev pub conjunction : {X : Type 0} → (Kind → X → Tok → X → X) → Step X → Step X
conjunction join node = λ s. chain And (join And) node (suc (length s.tokens)) s

abbrev pub disjunction : {X : Type 0} → (Kind → X → Tok → X → X) → Step X → Step X
disjunction join node = λ s. chain Or (join Or) (conjunction join node) (suc (length s.tokens)) s

abbrev pub implication : {X : Type 0} → (Kind → X → Tok → X → X) → Step X → Step X
implication join node =
    λ s. chain Implies (join Implies) (disjunction join node) (suc (length s.tokens)) s

abbrev pub connected : {X : Type 0} → (Kind → X → Tok → X → X) → (Kind → Bool) → Step X → Step X
    → Step X
connected join is_quantifier node quantified =
    implication join (either is_quantifier node quantified)

-- an item, and more where the test holds of the next token
abbrev pub extended : {X : Type 0} → (Kind → Bool) → Step X → (X → Step X) → Step X
extended test item more = do
  x ← item
  kind ← peek
  if test kind then more x else pure x

-- a step behind which no token stands that passes the test
abbrev pub unless_next : {X : Type 0} → (Kind → Bool) → Step X → Step X
unless_next test p = do
  x ← p
  kind ← peek
  if test kind then refuse Unexpected else pure x

-- items with something between them, as a list
abbrev pub listed : {X T : Type 0} → Step X → (Kind → Bool) → Step T → ℕ → Step (List X)
listed item test between = series item test between (λ x. x ∷ []) (λ x t xs. x ∷ xs)

abbrev pub nothing_between : Step (Unit {0})
nothing_between = λ s. Ok (tt, s)

-- an operator and the operand behind it
abbrev pub link : {X : Type 0} → (Kind → Bool) → Step X → Step (Tok × X)
link test item = do
  operator ← operator_of test
  operand ← item
  pure (operator, operand)

abbrev pub links : {X : Type 0} → (Kind → Bool) → Step X → Step (List (Tok × X))
links test item = λ s. listed (link test item) test nothing_between (suc (length s.tokens)) s

abbrev pub linked : {X : Type 0} → (Kind → Bool) → (X → Tok → X → X) → Step X → X → Step X
linked test join item x = do
  found ← links test item
  pure (grouped join x found)

-- one operand, or operands grouped to the left
abbrev pub left_chain : {X : Type 0} → (Kind → Bool) → (X → Tok → X → X) → Step X → Step X
left_chain test join item = extended test item (linked test join item)

-- the same with operators of one group or of the other, unmixed
abbrev pub unmixed_chain : {X : Type 0} → (Kind → Bool) → (Kind → Bool) → (X → Tok → X → X) → Step X
    → Step X
unmixed_chain test other join item = extended (λ k. test k || other k) item
    (λ x s. if test (kind s) then unless_next other (linked test join item x) s
    else unless_next test (linked other join item x) s)

-- one operand, or two; a second operator at once behind them is refused
abbrev pub comparison : {X : Type 0} → (Kind → Bool) → (X → Tok → X → X) → Step X → Step X
comparison test join item = extended test item (λ x. unless_next test (do
  operator ← operator_of test
  y ← item
  pure (join x operator y)))

-- ---- what a function of the code returned is what a step gives

-- where it asks for no memory: what is read, or the refusal
abbrev pub GivesExactly : {X Y : Type 0} → (X → Y) → Outcome Y → Result X Refusal → State → Type 0
GivesExactly view read (Ok x) new = read ≡ Ok (view x, new)
GivesExactly view read (Err refused) new = read ≡ Err refused

-- where it asks for memory: the same, unless memory ran out
abbrev pub Gives : {X Y : Type 0} → (X → Y) → Outcome Y → Result X (OrMemory Refusal) → State
    → Type 0
Gives view read (Ok x) new = read ≡ Ok (view x, new)
Gives view read (Err error) new = IfFault error (λ refused. read ≡ Err refused)
