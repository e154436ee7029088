-- The grammar of sets of steps and formulas, one production for each row (this project's own; the
-- modal mu-calculus with data as in Groote and Mousavi 2014). Data terms are those of texts.
use Rattle.std.specs.Prelude.{◌≡◌, ℕ, zero, suc, Bool, true, false, if◌then◌else◌, List, [], ◌∷◌}
use Rattle.std.specs.Prelude.{◌++◌, codes, ◌&&◌, not, Option, Some, None}
use Rattle.std.specs.Str.{bytes_eq}
use Rattle.pb_fixpoint.specs.declared.Sign.{Sign}
use Rattle.pb_fixpoint.specs.declared.Sign.TheVariants as sign
use Rattle.pb_text_tree.specs.declared.place.Place.{Place}
use Rattle.pb_text_tree.specs.Form.{Named, TermForm, InstanceForm}
use Rattle.pb_text_tree.specs.Form.{ArgumentForms, no_arguments, argument}
use Rattle.pb_text_lexer.specs.declared.kind.Kind.{Kind}
use Rattle.pb_text_lexer.specs.declared.kind.Kind.TheVariants as k
use Rattle.pb_text_lexer.specs.Grammar.{Reads, ◌>>=◌, Is, Nothing, One, First}
use Rattle.pb_text_lexer.specs.Kinds.{same_kind}
use Rattle.pb_text_lexer.specs.OpenGrammar.{Chained, Connected, Either}
use Rattle.pb_text_lexer.specs.LeftGrammar.{Extended}
use Rattle.pb_text_lexer.specs.Steps.{head_kind}
use Rattle.pb_text_lexer.specs.Tokens.{Tok}
use Rattle.pb_text_terms.specs.Operators.{connected_by}
use Rattle.pb_text_terms.specs.Grammar.{Name, Quantified, Instance, Placed}
use Rattle.pb_text_terms.specs.Grammar.{Equated, IsUnary, IsTerm}
use Rattle.pb_model_tree.specs.declared.formula.Modality.{Modality}
use Rattle.pb_model_tree.specs.declared.formula.Modality.TheVariants as modality
use Rattle.pb_protocol_tree.specs.Form.{StepValueForm, StepSetForm, FormulaForm}
use Rattle.pb_model_text.specs.declared.word.Leading.{Leading}
use Rattle.pb_model_text.specs.declared.word.Leading.TheVariants as leading
use Rattle.pb_model_text.specs.Words.{leading_of, infix_of, fairly_of, is_word}
use Rattle.pb_model_text.specs.Words.{no_deadlock, fair, prefixed, infixed}

-- ---- names with arguments

-- a name, alone or with terms in brackets, which open a level
abbrev pub IsInstance : ℕ → Reads InstanceForm
IsInstance zero = Instance Nothing
IsInstance (suc depth) = Instance (IsTerm depth)

-- ---- sets of steps

-- the name `_`
abbrev pub is_any : TermForm → Bool
is_any (TermForm.name name) = bytes_eq name.text (codes "_")
is_any term = false

-- `_` stands for any value of a step's own variable, another term for its own value
abbrev pub given_value : Place → TermForm → StepValueForm
given_value place term =
    if is_any term then StepValueForm.any_value place else StepValueForm.given place term

abbrev pub values_of : ArgumentForms → List StepValueForm
values_of no_arguments = []
values_of (argument place term arguments) = given_value place term ∷ values_of arguments

-- a name alone is its step for all values
abbrev pub named_set : Named → ArgumentForms → StepSetForm
named_set name no_arguments = StepSetForm.step name
named_set name arguments = StepSetForm.instances name (values_of arguments)

abbrev pub set_of : InstanceForm → StepSetForm
set_of instance = named_set instance.name instance.arguments

-- What a token of a kind begins: a name with Instance, behind `!` Set may stand, and in brackets
-- Sets.
abbrev pub SetBegun :
    Reads StepSetForm → Reads StepSetForm → Reads InstanceForm → Kind → Reads StepSetForm
SetBegun Set Sets Instance k.True = do
  word ← One k.True
  Is (StepSetForm.all word.place)
SetBegun Set Sets Instance k.Name = do
  instance ← Instance
  Is (set_of instance)
SetBegun Set Sets Instance k.Not = do
  sign ← One k.Not
  operand ← Set
  Is (StepSetForm.complement sign.place operand)
SetBegun Set Sets Instance k.Open = do
  open_bracket ← One k.Open
  inner ← Sets
  close_bracket ← One k.Close
  Is inner
SetBegun Set Sets Instance _ = Nothing

abbrev pub united_by : StepSetForm → Tok → StepSetForm → StepSetForm
united_by x t y = StepSetForm.union t.place x y

-- sets with `||` between them, read to the right
abbrev pub Union : Reads StepSetForm → Reads StepSetForm
Union Set = Chained k.Or united_by Set Set

-- So many levels may open: each `!` and each bracket opens one.
abbrev mutual
  pub IsSet : ℕ → Reads StepSetForm
  IsSet zero = First (SetBegun Nothing Nothing (IsInstance zero))
  IsSet (suc depth) =
      First (SetBegun (IsSet depth) (IsStepSet depth) (IsInstance (suc depth)))

  pub IsStepSet : ℕ → Reads StepSetForm
  IsStepSet zero = Union (First (SetBegun Nothing Nothing (IsInstance zero)))
  IsStepSet (suc depth) =
      Union (First (SetBegun (IsSet depth) (IsStepSet depth) (IsInstance (suc depth))))

-- ---- words

-- the names of the fixpoints around a formula
abbrev pub FixpointNames : Type 0
FixpointNames = List (List ℕ)

abbrev pub is_bound : FixpointNames → List ℕ → Bool
is_bound [] text = false
is_bound (name ∷ names) text = if bytes_eq name text then true else is_bound names text

-- the scope inside a fixpoint
abbrev pub within : FixpointNames → List ℕ → FixpointNames
within scope name = scope ++ name ∷ []

-- a word of a kind that `of` tells, with its place
abbrev pub Word : {W : Type 0} → (List ℕ → Option W) → Reads (W × Place)
Word of s word z = (t : Tok) × One k.Name s t z × (of t.text ≡ Some word.0) × (word.1 ≡ t.place)

-- a word for an operand: `fair` isn't one within a fixpoint that is called so, as the operand of
-- `fair` is, since that operand is said once for each set
abbrev pub is_allowed : FixpointNames → Leading → Bool
is_allowed scope leading.Fair = not (is_bound scope (codes "fair"))
is_allowed scope _ = true

abbrev pub allowed : FixpointNames → Option Leading → Option Leading
allowed scope None = None
allowed scope (Some word) = if is_allowed scope word then Some word else None

abbrev pub leading_within : FixpointNames → List ℕ → Option Leading
leading_within scope text = allowed scope (leading_of text)

-- the first token is a name that is a word
abbrev pub begins_word : List Tok → Bool
begins_word [] = false
begins_word (t ∷ ts) = same_kind t.kind k.Name && is_word t.text

abbrev pub Wordless : {X : Type 0} → Reads X → Reads X
Wordless R s y z = (begins_word s.tokens ≡ false) × R s y z

-- a word that is an operand, `fair` with Fair behind it, or a word before Operand
abbrev pub LedBy :
    (Place → Reads FormulaForm) → Reads FormulaForm → Leading → Place → Reads FormulaForm
LedBy Fair Operand leading.NoDeadlock place = Is (no_deadlock place)
LedBy Fair Operand leading.Fair place = Fair place
LedBy Fair Operand (leading.Before prefix) place = do
  operand ← Operand
  Is (prefixed prefix place operand)

abbrev pub Led :
    FixpointNames → (Place → Reads FormulaForm) → Reads FormulaForm → Reads FormulaForm
Led scope Fair Operand = do
  word ← Word (leading_within scope)
  LedBy Fair Operand word.0 word.1

-- Plain, or a word with Plain behind it: each begins with a word just where it should, so that a
-- word before another wants brackets.
abbrev pub Worded :
    FixpointNames → (Place → Reads FormulaForm) → Reads FormulaForm → Reads FormulaForm
Worded scope Fair Plain = Either (Wordless Plain) (Led scope Fair (Wordless Plain))

-- Node, or two with a word between them, which binds tighter than connectives
abbrev pub Joined : Reads FormulaForm → Reads FormulaForm
Joined Node = Extended Node (λ x. do
  word ← Word infix_of
  y ← Node
  Is (infixed word.0 word.1 x y))

-- ---- the processes of `fair`

-- so many sets may follow the first, since the operand is said once for each
abbrev pub most_others : ℕ
most_others = 7

-- at most so many sets, each behind a comma
abbrev pub Others : ℕ → Reads StepSetForm → Reads (List StepSetForm)
Others zero Set = Is []
Others (suc more) Set = Extended (Is []) (λ none. do
  comma ← One k.Comma
  first ← Set
  others ← Others more Set
  Is (first ∷ others))

-- sets in brackets, the first apart, and the word `inevitably` behind them
abbrev pub Processes : Reads StepSetForm → Reads (StepSetForm × List StepSetForm)
Processes Set = do
  open_bracket ← One k.Open
  first ← Set
  others ← Others most_others Set
  close_bracket ← One k.Close
  word ← Word fairly_of
  Is (first, others)

-- the bracket opens a level, for the sets and for the operand behind
abbrev pub IsProcesses : ℕ → Reads (StepSetForm × List StepSetForm)
IsProcesses zero = Nothing
IsProcesses (suc depth) = Processes (IsStepSet depth)

-- what stands behind `fair`
abbrev pub Fair :
    Reads (StepSetForm × List StepSetForm) → Reads FormulaForm → Place → Reads FormulaForm
Fair Sets Operand place = do
  sets ← Sets
  operand ← Operand
  Is (fair place sets.0 sets.1 operand)

-- the names of the fixpoints around the operand of `fair`
abbrev pub within_fair : FixpointNames → FixpointNames
within_fair scope = within scope (codes "fair")

-- ---- formulas

-- A name alone that is a fixpoint's around it is its variable; any other term is data.
abbrev pub atom_of : FixpointNames → Place → TermForm → FormulaForm
atom_of scope place (TermForm.name name) =
    if is_bound scope name.text then FormulaForm.variable name
    else FormulaForm.«data» place (TermForm.name name)
atom_of scope place term = FormulaForm.«data» place term

-- what begins with a token of this kind
abbrev pub Beginning : {X : Type 0} → Kind → Reads X → Reads X
Beginning kind R s y z = (head_kind s.tokens ≡ kind) × R s y z

-- what a term without connectives makes, with the place of its first token
abbrev pub Atom : (Place → TermForm → FormulaForm) → Reads TermForm → Reads FormulaForm
Atom made Unary = do
  found ← Placed (Equated Unary)
  Is (made found.0 found.1)

-- a set of steps in brackets, of which the first is read, and the formula that it is over
abbrev pub Modal : Modality → Kind → Reads FormulaForm → Reads StepSetForm → Tok → Reads FormulaForm
Modal modality close Node Sets open_bracket = do
  steps ← Sets
  close_bracket ← One close
  operand ← Node
  Is (FormulaForm.modal modality open_bracket.place steps operand)

-- What a token of a kind begins that binds nothing, but for words: below `!` and modalities Node
-- may stand, in brackets Formula, in data without connectives Unary, and between the brackets of
-- modalities Sets. Data that begins otherwise, or has a connective or a quantifier of its own,
-- stands behind `val`.
abbrev pub Begun :
    FixpointNames → Reads FormulaForm → Reads FormulaForm → Reads TermForm → Reads StepSetForm →
    Kind → Reads FormulaForm
Begun scope Node Formula Unary Sets k.Not = do
  sign ← One k.Not
  operand ← Node
  Is (FormulaForm.negation sign.place operand)
Begun scope Node Formula Unary Sets k.Open = do
  open_bracket ← One k.Open
  inner ← Formula
  close_bracket ← One k.Close
  Is inner
Begun scope Node Formula Unary Sets k.OpenSquare = do
  open_bracket ← One k.OpenSquare
  Modal modality.Box k.CloseSquare Node Sets open_bracket
Begun scope Node Formula Unary Sets k.Less = do
  open_bracket ← One k.Less
  Modal modality.Diamond k.Greater Node Sets open_bracket
Begun scope Node Formula Unary Sets k.True = do
  word ← One k.True
  Is (FormulaForm.constant word.place true)
Begun scope Node Formula Unary Sets k.False = do
  word ← One k.False
  Is (FormulaForm.constant word.place false)
Begun scope Node Formula Unary Sets k.Val = do
  word ← One k.Val
  term ← Unary
  Is (FormulaForm.«data» word.place term)
Begun scope Node Formula Unary Sets k.Name = Beginning k.Name (Atom (atom_of scope) Unary)
Begun scope Node Formula Unary Sets k.Number = Beginning k.Number (Atom FormulaForm.«data» Unary)
Begun scope Node Formula Unary Sets k.Minus = Beginning k.Minus (Atom FormulaForm.«data» Unary)
Begun scope Node Formula Unary Sets _ = Nothing

-- a name, a period and a body, in which the name is bound
abbrev pub Binding : Sign → Place → (List ℕ → Reads FormulaForm) → Reads FormulaForm
Binding sign place Body = do
  name ← Name
  period ← One k.Period
  body ← Body name.text
  Is (FormulaForm.fixpoint sign place name body)

abbrev pub FixpointBy : (List ℕ → Reads FormulaForm) → Kind → Reads FormulaForm
FixpointBy Body k.Mu = do
  word ← One k.Mu
  Binding sign.Mu word.place Body
FixpointBy Body k.Nu = do
  word ← One k.Nu
  Binding sign.Nu word.place Body
FixpointBy Body _ = Nothing

-- a fixpoint, over its body
abbrev pub Fixpoint : (List ℕ → Reads FormulaForm) → Reads FormulaForm
Fixpoint Body = First (FixpointBy Body)

-- a fixpoint over Body, or a quantifier over Formula
abbrev pub Binder : (List ℕ → Reads FormulaForm) → Reads FormulaForm → Reads FormulaForm
Binder Body Formula = Either (Fixpoint Body) (Quantified FormulaForm.quantified Formula)

-- `&&` binds tightest, then `||`, then `=>`; at their right end Binder may stand.
abbrev pub Connections : Reads FormulaForm → Reads FormulaForm → Reads FormulaForm
Connections = Connected (connected_by FormulaForm.connected)

-- So many levels may open: each `!`, each bracket but that which closes, each fixpoint and each
-- quantifier opens one; a modality's bracket and that of `fair` also for the operand behind it.
-- What a quantifier binds is data: fixpoints around keep their names.
abbrev mutual
  pub IsPlain : FixpointNames → ℕ → Reads FormulaForm
  IsPlain scope zero = First (Begun scope Nothing Nothing (IsUnary zero) Nothing)
  IsPlain scope (suc depth) =
      First (Begun scope (Worded scope (IsFair scope depth) (IsPlain scope depth))
      (IsFormula scope depth) (IsUnary (suc depth)) (IsStepSet depth))

  -- behind `fair`, whose operand is within it
  pub IsFair : FixpointNames → ℕ → Place → Reads FormulaForm
  IsFair scope zero = λ place. Nothing
  IsFair scope (suc depth) =
      Fair (IsProcesses (suc depth)) (Wordless (IsPlain (within_fair scope) depth))

  pub IsFormula : FixpointNames → ℕ → Reads FormulaForm
  IsFormula scope zero =
      Connections
      (Joined (Worded scope (λ place. Nothing)
      (First (Begun scope Nothing Nothing (IsUnary zero) Nothing))))
      (Binder (λ name. Nothing) Nothing)
  IsFormula scope (suc depth) =
      Connections
      (Joined (Worded scope
      (Fair (IsProcesses (suc depth)) (Wordless (IsPlain (within_fair scope) depth)))
      (First (Begun scope (Worded scope (IsFair scope depth) (IsPlain scope depth))
      (IsFormula scope depth) (IsUnary (suc depth)) (IsStepSet depth)))))
      (Binder (λ name. IsFormula (within scope name) depth) (IsFormula scope depth))

-- what may stand behind `!`, a modality's brackets, and a word between two operands
abbrev pub IsNode : FixpointNames → ℕ → Reads FormulaForm
IsNode scope depth = Worded scope (IsFair scope depth) (IsPlain scope depth)
