-- Reading formulas and declarations of sorts, as a function.
use Rattle.std.specs.Prelude.{ℕ, zero, suc, Bool, true, false, if◌then◌else◌, List, [], ◌++◌, length, Some, None}
use Rattle.pb_text_tree.specs.declared.operator.Connective.{Connective}
use Rattle.pb_text_tree.specs.declared.operator.Connective.TheVariants as connective
use Rattle.pb_text_tree.specs.Form.{TermForm, FormulaForm, InstanceForm, EnumeratorForm, SortForm, struct, alias, SortDeclarationForm}
use Rattle.pb_text_lexer.specs.declared.fault.ReadingRule.TheVariants.{Unexpected, Limit}
use Rattle.pb_text_lexer.specs.declared.kind.Kind.{Kind}
use Rattle.pb_text_lexer.specs.declared.kind.Kind.TheVariants as k
use Rattle.pb_text_lexer.specs.Kinds.{same_kind}
use Rattle.pb_text_lexer.specs.Steps.{Step, ◌>>=◌, pure, peek, refuse, take_token, expect, enter, series, connected, conjunction, disjunction, either, extended, unless_next, listed, nothing_between}
use Rattle.pb_text_lexer.specs.Steps as step
use Rattle.pb_text_lexer.specs.Tokens.{Tok}
use Rattle.pb_text_terms.specs.Operators.{connected_by, is_quantifier}
use Rattle.pb_text_terms.specs.Reading.{name, is_open, quantified}
use Rattle.pb_text_terms.specs.Reading as expressions

abbrev pub is_question : Kind → Bool
is_question kind = same_kind kind k.Question

abbrev pub is_bar : Kind → Bool
is_bar kind = same_kind kind k.Bar

abbrev pub is_name_kind : Kind → Bool
is_name_kind kind = same_kind kind k.Name

abbrev pub is_sort : Kind → Bool
is_sort kind = same_kind kind k.Sort

-- ---- formulas

-- no bracket opens behind a constant, a data term or a bracket that closes
abbrev pub truth : Bool → Step FormulaForm
truth value = unless_next is_open (do
  word ← take_token
  pure (FormulaForm.constant word.place value))

-- an opening bracket; the step takes it
unfoldable pub opening : Step Tok → Step Tok
opening enter = λ s. if is_open (step.kind s) then enter s else refuse Unexpected s

-- What a token begins that is no quantifier. The first step takes a token that opens a level.
abbrev pub begun : Step Tok → Step FormulaForm → Step FormulaForm → Step TermForm
    → Step InstanceForm → Kind → Step FormulaForm
begun enter below inner term instance k.Not = do
  sign ← enter
  operand ← below
  pure (FormulaForm.negation sign.place operand)
begun enter below inner term instance k.Open = unless_next is_open (do
  open_bracket ← enter
  x ← inner
  close_bracket ← expect k.Close
  pure x)
begun enter below inner term instance k.True = truth true
begun enter below inner term instance k.False = truth false
begun enter below inner term instance k.Val = unless_next is_open (do
  word ← take_token
  open_bracket ← opening enter
  x ← term
  close_bracket ← expect k.Close
  pure (FormulaForm.val word.place x))
begun enter below inner term instance k.Name = do
  x ← instance
  pure (FormulaForm.instance x)
begun enter below inner term instance _ = refuse Unexpected

abbrev pub connections : Step Tok → Step FormulaForm → Step FormulaForm → Step FormulaForm
connections enter node body =
    connected (connected_by FormulaForm.connected) is_quantifier node
    (quantified FormulaForm.quantified enter body)

-- the data term behind `val`
unfoldable pub data_term : ℕ → Step TermForm
data_term depth = expressions.term depth

-- where no level may open, and where one may
abbrev pub last_node : Step FormulaForm
last_node =
    peek >>= begun (refuse Limit) (refuse Limit) (refuse Limit) (refuse Limit)
    (expressions.instance 0)

abbrev pub node_over : Step FormulaForm → Step FormulaForm → ℕ → Step FormulaForm
node_over below inner depth =
    peek >>= begun take_token below inner (data_term depth) (expressions.instance (suc depth))

-- The number is how many levels may still open.
unfoldable mutual
  pub node : ℕ → Step FormulaForm
  node zero = last_node
  node (suc depth) = node_over (node depth) (formula depth) depth

  pub formula : ℕ → Step FormulaForm
  formula zero = connections (refuse Limit) last_node (refuse Limit)
  formula (suc depth) =
      connections take_token (node_over (node depth) (formula depth) depth) (formula depth)

-- a quantifier with its variables and its body
unfoldable pub quantification : ℕ → Step FormulaForm
quantification zero = quantified FormulaForm.quantified (refuse Limit) (refuse Limit)
quantification (suc depth) = quantified FormulaForm.quantified take_token (formula depth)

-- an operand of `&&`
abbrev pub primary : ℕ → Step FormulaForm
primary depth = either is_quantifier (node depth) (quantification depth)

-- a chain of the connective, and an operand of one
abbrev pub level : Connective → ℕ → Step FormulaForm
level connective.And depth = conjunction (connected_by FormulaForm.connected) (primary depth)
level connective.Or depth = disjunction (connected_by FormulaForm.connected) (primary depth)
level connective.Implies depth = formula depth

abbrev pub operand : Connective → ℕ → Step FormulaForm
operand connective.And depth = primary depth
operand connective.Or depth = level connective.And depth
operand connective.Implies depth = level connective.Or depth

-- ---- sorts

abbrev pub plain : Step EnumeratorForm
plain = do
  found ← name
  pure (record { name = found; recogniser = None })

abbrev pub with_recogniser : EnumeratorForm → Step EnumeratorForm
with_recogniser x = unless_next is_question (do
  question ← take_token
  found ← name
  pure (record { name = x.name; recogniser = Some found }))

unfoldable pub enumerator : Step EnumeratorForm
enumerator = extended is_question plain with_recogniser

abbrev pub enumerators : Step (List EnumeratorForm)
enumerators = λ s. listed enumerator is_bar take_token (suc (length s.tokens)) s

abbrev pub sort_by : Kind → Step SortForm
sort_by k.Struct = do
  word ← take_token
  found ← enumerators
  semicolon ← expect k.Semicolon
  pure (struct found)
sort_by k.Name = do
  target ← name
  semicolon ← expect k.Semicolon
  pure (alias target)
sort_by _ = refuse Unexpected

unfoldable pub sort : Step SortForm
sort = peek >>= sort_by

unfoldable pub declaration : Step SortDeclarationForm
declaration = do
  found ← name
  is ← expect k.Is
  its_sort ← sort
  pure (record { name = found; sort = its_sort })

abbrev pub declarations : Step (List SortDeclarationForm)
declarations = λ s. listed declaration is_name_kind nothing_between (suc (length s.tokens)) s

unfoldable pub sort_part : Step (List SortDeclarationForm)
sort_part = do
  word ← expect k.Sort
  found ← declarations
  pure found

abbrev pub some_sort_parts : Step (List SortDeclarationForm)
some_sort_parts =
    λ s. series sort_part is_sort nothing_between (λ sorts. sorts) (λ sorts u rest. sorts ++ rest)
    (suc (length s.tokens)) s

-- where no part begins, no declaration of one does
abbrev pub sort_parts : Step (List SortDeclarationForm)
sort_parts = extended is_sort (unless_next is_name_kind (pure [])) (λ none. some_sort_parts)
