-- Reading sets of steps and formulas, as functions.
use Rattle.std.specs.Prelude.{ℕ, zero, suc, Bool, true, false, if◌then◌else◌, ◌||◌}
use Rattle.std.specs.Prelude.{List, [], ◌∷◌}
use Rattle.std.specs.Prelude.{length, map, Option, Some, None}
use Rattle.std.specs.Borrow.{Bor}
use Rattle.pb_fixpoint.specs.declared.Sign.{Sign}
use Rattle.pb_fixpoint.specs.declared.Sign.TheVariants as sign
use Rattle.pb_text_tree.specs.declared.operator.Connective.{Connective}
use Rattle.pb_text_tree.specs.declared.operator.Connective.TheVariants as connective
use Rattle.pb_text_tree.specs.declared.place.Place.{Place}
use Rattle.pb_text_tree.specs.Form.{TermForm, InstanceForm}
use Rattle.pb_text_lexer.specs.declared.fault.ReadingRule.TheVariants.{Unexpected, Limit}
use Rattle.pb_text_lexer.specs.declared.kind.Kind.{Kind}
use Rattle.pb_text_lexer.specs.declared.kind.Kind.TheVariants as k
use Rattle.pb_text_lexer.specs.Kinds.{same_kind}
use Rattle.pb_text_lexer.specs.Steps.{Step, ◌>>=◌, pure, peek, refuse, take_token, expect}
use Rattle.pb_text_lexer.specs.Steps.{connected, chain, conjunction, disjunction, either}
use Rattle.pb_text_lexer.specs.Steps.{extended, unless_next}
use Rattle.pb_text_lexer.specs.Tokens.{Tok}
use Rattle.pb_text_terms.specs.Operators.{connected_by, is_equality, is_order, is_additive}
use Rattle.pb_text_terms.specs.Operators.{is_times, is_division, is_quantifier}
use Rattle.pb_text_terms.specs.Reading.{name, is_comma, is_open, with_place, equated}
use Rattle.pb_text_terms.specs.Reading.{unary, instance, quantified}
use Rattle.pb_text_formulas.specs.Reading.{is_name_kind}
use Rattle.pb_model_tree.specs.declared.formula.Modality.{Modality}
use Rattle.pb_model_tree.specs.declared.formula.Modality.TheVariants as modality
use Rattle.pb_protocol_tree.specs.Form.{StepSetForm, FormulaForm}
use Rattle.pb_model_text.specs.Grammar.{set_of, united_by, begins_word, FixpointNames, atom_of}
use Rattle.pb_model_text.specs.Grammar.{within, within_fair, leading_within, most_others}
use Rattle.pb_model_text.specs.declared.word.Leading.{Leading}
use Rattle.pb_model_text.specs.declared.word.Leading.TheVariants as leading
use Rattle.pb_model_text.specs.Words.{fairly_of, infix_of, no_deadlock, fair, prefixed, infixed}

abbrev pub is_or : Kind → Bool
is_or kind = same_kind kind k.Or

abbrev pub is_property : Kind → Bool
is_property kind = same_kind kind k.Property

abbrev pub is_fixpoint : Kind → Bool
is_fixpoint k.Mu = true
is_fixpoint k.Nu = true
is_fixpoint _ = false

-- a fixpoint or a quantifier
abbrev pub is_binder : Kind → Bool
is_binder kind = is_fixpoint kind || is_quantifier kind

-- whether a token would go on with data: a bracket, or an operator of arithmetic or a comparison
abbrev pub goes_on : Kind → Bool
goes_on kind =
    (((is_open kind || (is_times kind || is_division kind)) || is_additive kind) || is_order kind)
    || is_equality kind

-- ---- sets of steps

-- The first step takes a token that opens a level.
abbrev pub set_begun :
    Step Tok → Step StepSetForm → Step StepSetForm → Step InstanceForm → Kind → Step StepSetForm
set_begun enter set sets named k.True = unless_next is_open (do
  word ← take_token
  pure (StepSetForm.all word.place))
set_begun enter set sets named k.Name = do
  found ← named
  pure (set_of found)
set_begun enter set sets named k.Not = do
  sign ← enter
  operand ← set
  pure (StepSetForm.complement sign.place operand)
set_begun enter set sets named k.Open = unless_next is_open (do
  open_bracket ← enter
  inner ← sets
  close_bracket ← expect k.Close
  pure inner)
set_begun enter set sets named _ = refuse Unexpected

-- the step of a name, where so many levels may open
unfoldable pub instances : ℕ → Step StepSetForm
instances depth = do
  found ← instance depth
  pure (set_of found)

abbrev pub union : Step StepSetForm → Step StepSetForm
union set = λ s. chain k.Or united_by set (suc (length s.tokens)) s

abbrev pub set_over :
    Step Tok → Step StepSetForm → Step StepSetForm → Step InstanceForm → Step StepSetForm
set_over enter set sets named = peek >>= set_begun enter set sets named

-- The number is how many levels may still open.
unfoldable mutual
  pub set : ℕ → Step StepSetForm
  set zero = set_over (refuse Limit) (refuse Limit) (refuse Limit) (instance zero)
  set (suc depth) = set_over take_token (set depth) (step_set depth) (instance (suc depth))

  pub step_set : ℕ → Step StepSetForm
  step_set zero = union (set_over (refuse Limit) (refuse Limit) (refuse Limit) (instance zero))
  step_set (suc depth) =
      union (set_over take_token (set depth) (step_set depth) (instance (suc depth)))

-- ---- words

-- the word that the first token is, if it is one that `of` tells
abbrev pub word_at : {W : Type 0} → (List ℕ → Option W) → List Tok → Option W
word_at of [] = None
word_at of (t ∷ ts) = if same_kind t.kind k.Name then of t.text else None

abbrev pub word_taken : {W : Type 0} → Option W → Step (W × Place)
word_taken None = refuse Unexpected
word_taken (Some word) = do
  token ← take_token
  pure (word, token.place)

abbrev pub take_word : {W : Type 0} → (List ℕ → Option W) → Step (W × Place)
take_word of = λ s. word_taken (word_at of s.tokens) s

-- what begins with no word
abbrev pub wordless : Step FormulaForm → Step FormulaForm
wordless plain = λ s. if begins_word s.tokens then refuse Unexpected s else plain s

abbrev pub led_by :
    (Place → Step FormulaForm) → Step FormulaForm → Leading → Place → Step FormulaForm
led_by behind_fair operand leading.NoDeadlock place =
    unless_next goes_on (pure (no_deadlock place))
led_by behind_fair operand leading.Fair place = behind_fair place
led_by behind_fair operand (leading.Before prefix) place = do
  x ← operand
  pure (prefixed prefix place x)

abbrev pub led :
    FixpointNames → (Place → Step FormulaForm) → Step FormulaForm → Step FormulaForm
led scope behind_fair operand = do
  word ← take_word (leading_within scope)
  led_by behind_fair operand word.0 word.1

abbrev pub worded :
    FixpointNames → (Place → Step FormulaForm) → Step FormulaForm → Step FormulaForm
worded scope behind_fair plain =
    λ s. if begins_word s.tokens then led scope behind_fair (wordless plain) s else plain s

-- what stands behind a node, from a word on
abbrev pub joined_by : Step FormulaForm → FormulaForm → Step FormulaForm
joined_by node x = do
  word ← take_word infix_of
  y ← node
  pure (infixed word.0 word.1 x y)

abbrev pub joined : Step FormulaForm → Step FormulaForm
joined node = extended is_name_kind node (λ x. unless_next is_name_kind (joined_by node x))

-- ---- the processes of `fair`

-- at most so many sets, each behind a comma
unfoldable pub other_sets : ℕ → Step StepSetForm → Step (List StepSetForm)
other_sets zero sets = unless_next is_comma (pure [])
other_sets (suc more) sets = extended is_comma (pure []) (λ none. do
  comma ← take_token
  first ← sets
  others ← other_sets more sets
  pure (first ∷ others))

-- behind the bracket
abbrev pub processes_behind : Step StepSetForm → Step (StepSetForm × List StepSetForm)
processes_behind sets = do
  first ← sets
  others ← other_sets most_others sets
  close_bracket ← expect k.Close
  word ← take_word fairly_of
  pure (first, others)

-- where no level may open, the bracket is refused
abbrev pub processes_over :
    Step Tok → Step StepSetForm → Step (StepSetForm × List StepSetForm)
processes_over enter sets = peek >>= (λ kind.
    if is_open kind then enter >>= (λ open_bracket. processes_behind sets)
    else refuse Unexpected)

unfoldable pub processes : ℕ → Step (StepSetForm × List StepSetForm)
processes zero = processes_over (refuse Limit) (refuse Limit)
processes (suc depth) = processes_over take_token (step_set depth)

abbrev pub fair_over :
    Step (StepSetForm × List StepSetForm) → Step FormulaForm → Place → Step FormulaForm
fair_over sets operand place = do
  found ← sets
  x ← operand
  pure (fair place found.0 found.1 x)

-- ---- formulas

abbrev pub truth : Bool → Step FormulaForm
truth value = unless_next goes_on (do
  word ← take_token
  pure (FormulaForm.constant word.place value))

abbrev pub atom : (Place → TermForm → FormulaForm) → Step TermForm → Step FormulaForm
atom made operand = do
  found ← with_place (equated operand)
  pure (made found.0 found.1)

abbrev pub modal :
    Modality → Kind → Step Tok → Step FormulaForm → Step StepSetForm → Step FormulaForm
modal modality close enter below sets = do
  open_bracket ← enter
  steps ← sets
  close_bracket ← expect close
  operand ← below
  pure (FormulaForm.modal modality open_bracket.place steps operand)

-- the brackets of a modality, and its steps with the bracket behind them
abbrev pub opening_kind : Modality → Kind
opening_kind modality.Box = k.OpenSquare
opening_kind modality.Diamond = k.Less

abbrev pub closing : Modality → Kind
closing modality.Box = k.CloseSquare
closing modality.Diamond = k.Greater

abbrev pub modal_steps : Modality → Step StepSetForm → Step StepSetForm
modal_steps modality sets = do
  steps ← sets
  close_bracket ← expect (closing modality)
  pure steps

-- What a token begins that binds nothing. The first step takes a token that opens a level.
abbrev pub begun :
    FixpointNames → Step Tok → Step FormulaForm → Step FormulaForm → Step TermForm
    → Step StepSetForm →
    Kind → Step FormulaForm
begun scope enter below inner operand sets k.Not = do
  sign ← enter
  x ← below
  pure (FormulaForm.negation sign.place x)
begun scope enter below inner operand sets k.Open = unless_next goes_on (do
  open_bracket ← enter
  x ← inner
  close_bracket ← expect k.Close
  pure x)
begun scope enter below inner operand sets k.OpenSquare =
    modal modality.Box k.CloseSquare enter below sets
begun scope enter below inner operand sets k.Less =
    modal modality.Diamond k.Greater enter below sets
begun scope enter below inner operand sets k.True = truth true
begun scope enter below inner operand sets k.False = truth false
begun scope enter below inner operand sets k.Val = unless_next goes_on (do
  word ← take_token
  x ← operand
  pure (FormulaForm.«data» word.place x))
begun scope enter below inner operand sets k.Name = atom (atom_of scope) operand
begun scope enter below inner operand sets k.Number = atom FormulaForm.«data» operand
begun scope enter below inner operand sets k.Minus = atom FormulaForm.«data» operand
begun scope enter below inner operand sets _ = refuse Unexpected

-- the sign of a fixpoint's token
abbrev pub sign_of : Kind → Option Sign
sign_of k.Mu = Some sign.Mu
sign_of k.Nu = Some sign.Nu
sign_of _ = None

abbrev pub binding : Sign → Place → (List ℕ → Step FormulaForm) → Step FormulaForm
binding sign place body = do
  found ← name
  period ← expect k.Period
  x ← body found.text
  pure (FormulaForm.fixpoint sign place found x)

abbrev pub fixpoint_by : Step Tok → (List ℕ → Step FormulaForm) → Option Sign → Step FormulaForm
fixpoint_by enter body None = refuse Unexpected
fixpoint_by enter body (Some sign) = enter >>= (λ word. binding sign word.place body)

abbrev pub fixpoint_over : Step Tok → (List ℕ → Step FormulaForm) → Step FormulaForm
fixpoint_over enter body = peek >>= (λ kind. fixpoint_by enter body (sign_of kind))

abbrev pub quantified_over : Step Tok → Step FormulaForm → Step FormulaForm
quantified_over = quantified FormulaForm.quantified

abbrev pub binder_over :
    Step Tok → (List ℕ → Step FormulaForm) → Step FormulaForm → Step FormulaForm
binder_over enter body inner =
    either is_fixpoint (quantified_over enter inner) (fixpoint_over enter body)

abbrev pub connections : Step FormulaForm → Step FormulaForm → Step FormulaForm
connections = connected (connected_by FormulaForm.connected) is_binder

-- data terms, and the operands that they are made of
unfoldable pub data_operand : ℕ → Step TermForm
data_operand depth = unary depth

-- where no level may open, and where one may
abbrev pub last_plain : FixpointNames → Step FormulaForm
last_plain scope =
    peek
    >>= begun scope (refuse Limit) (refuse Limit) (refuse Limit) (data_operand 0) (refuse Limit)

abbrev pub plain_over : FixpointNames → Step FormulaForm → Step FormulaForm → ℕ → Step FormulaForm
plain_over scope below inner depth =
    peek >>= begun scope take_token below inner (data_operand (suc depth)) (step_set depth)

-- The number is how many levels may still open.
unfoldable mutual
  pub plain : FixpointNames → ℕ → Step FormulaForm
  plain scope zero = last_plain scope
  plain scope (suc depth) =
      plain_over scope (worded scope (behind_fair scope depth) (plain scope depth))
      (formula scope depth) depth

  -- behind `fair`
  pub behind_fair : FixpointNames → ℕ → Place → Step FormulaForm
  behind_fair scope zero = fair_over (processes zero) (refuse Limit)
  behind_fair scope (suc depth) =
      fair_over (processes (suc depth)) (wordless (plain (within_fair scope) depth))

  pub formula : FixpointNames → ℕ → Step FormulaForm
  formula scope zero =
      connections
      (joined (worded scope (fair_over (processes zero) (refuse Limit)) (last_plain scope)))
      (binder_over (refuse Limit) (λ name. refuse Limit) (refuse Limit))
  formula scope (suc depth) =
      connections
      (joined (worded scope
      (fair_over (processes (suc depth)) (wordless (plain (within_fair scope) depth)))
      (plain_over scope (worded scope (behind_fair scope depth) (plain scope depth))
      (formula scope depth) depth)))
      (binder_over take_token (λ name. formula (within scope name) depth) (formula scope depth))

-- a node, with a word before it or without
abbrev pub node : FixpointNames → ℕ → Step FormulaForm
node scope depth = worded scope (behind_fair scope depth) (plain scope depth)

-- a node, or two with a word between them
abbrev pub item : FixpointNames → ℕ → Step FormulaForm
item scope depth = joined (node scope depth)

-- a fixpoint with its body
unfoldable pub fixpoint : FixpointNames → ℕ → Step FormulaForm
fixpoint scope zero = fixpoint_over (refuse Limit) (λ name. refuse Limit)
fixpoint scope (suc depth) = fixpoint_over take_token (λ name. formula (within scope name) depth)

-- a quantifier with its variables and its body
unfoldable pub quantification : FixpointNames → ℕ → Step FormulaForm
quantification scope zero = quantified_over (refuse Limit) (refuse Limit)
quantification scope (suc depth) = quantified_over take_token (formula scope depth)

abbrev pub binder : FixpointNames → ℕ → Step FormulaForm
binder scope depth = either is_fixpoint (quantification scope depth) (fixpoint scope depth)

-- an operand of `&&`
abbrev pub primary : FixpointNames → ℕ → Step FormulaForm
primary scope depth = either is_binder (item scope depth) (binder scope depth)

-- a chain of the connective, and an operand of one
abbrev pub level : Connective → FixpointNames → ℕ → Step FormulaForm
level connective.And scope depth =
    conjunction (connected_by FormulaForm.connected) (primary scope depth)
level connective.Or scope depth =
    disjunction (connected_by FormulaForm.connected) (primary scope depth)
level connective.Implies scope depth = formula scope depth

abbrev pub operand : Connective → FixpointNames → ℕ → Step FormulaForm
operand connective.And scope depth = primary scope depth
operand connective.Or scope depth = level connective.And scope depth
operand connective.Implies scope depth = level connective.Or scope depth

-- the names of a scope, as the code keeps it
abbrev pub names_of : List (Bor (List ℕ)) → FixpointNames
names_of = map (λ name. name.now)
