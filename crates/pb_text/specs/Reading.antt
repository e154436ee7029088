-- Reading a text, as a function.
use Rattle.std.specs.Prelude.{ℕ, suc, Bool, if◌then◌else◌, ◌||◌, List, [], length}
use Rattle.pb_fixpoint.specs.declared.Sign.{Sign}
use Rattle.pb_fixpoint.specs.declared.Sign.TheVariants as sign
use Rattle.pb_text_tree.specs.declared.operator.Connective.TheVariants as connective
use Rattle.pb_text_tree.specs.Form.{VariableForm, FormulaForm, InstanceForm, RangeForm, EquationForm, SpecForm}
use Rattle.pb_text_lexer.specs.declared.fault.ReadingRule.TheVariants.{Unexpected}
use Rattle.pb_text_lexer.specs.declared.kind.Kind.{Kind}
use Rattle.pb_text_lexer.specs.declared.kind.Kind.TheVariants as k
use Rattle.pb_text_lexer.specs.Kinds.{same_kind}
use Rattle.pb_text_lexer.specs.Steps.{Step, alone, ◌>>=◌, pure, peek, refuse, take_token, expect, enter, extended, unless_next, listed, nothing_between}
use Rattle.pb_text_formulas.specs.Reading.{level, sort_parts}
use Rattle.pb_text_terms.specs.Reading.{name, is_open, variables}
use Rattle.pb_text_terms.specs.Reading as expressions

abbrev pub begins_equation : Kind → Bool
begins_equation kind = same_kind kind k.Mu || same_kind kind k.Nu

abbrev pub sign_by : Kind → Step Sign
sign_by k.Mu = do
  word ← take_token
  pure sign.Mu
sign_by k.Nu = do
  word ← take_token
  pure sign.Nu
sign_by _ = refuse Unexpected

unfoldable pub sign_of : Step Sign
sign_of = peek >>= sign_by

-- parameters in brackets
abbrev pub declared : ℕ → Step (List VariableForm)
declared depth = do
  open_bracket ← enter depth
  found ← variables
  close_bracket ← expect k.Close
  pure found

-- the parameters of an equation, if it has any
unfoldable pub parameters : ℕ → Step (List VariableForm)
parameters depth = extended is_open (pure []) (λ none. unless_next is_open (declared depth))

-- a formula with all the operators that are allowed
unfoldable pub right_side : ℕ → Step FormulaForm
right_side depth = alone (level connective.Implies depth)

unfoldable pub equation : ℕ → Step EquationForm
equation depth = do
  sign ← sign_of
  defined ← name
  its_parameters ← parameters depth
  is ← expect k.Is
  right ← right_side depth
  semicolon ← expect k.Semicolon
  pure (record { sign = sign; name = defined; parameters = its_parameters; right = right })

abbrev pub equations : ℕ → Step (List EquationForm)
equations depth =
    λ s. listed (equation depth) begins_equation nothing_between (suc (length s.tokens)) s

-- an instance with all the operators that are allowed
unfoldable pub initial_instance : ℕ → Step InstanceForm
initial_instance depth = alone (expressions.instance depth)

unfoldable pub text : List RangeForm → ℕ → Step SpecForm
text ranges depth = do
  sorts ← sort_parts
  pbes ← expect k.Pbes
  found ← equations depth
  init ← expect k.Init
  initial ← initial_instance depth
  semicolon ← expect k.Semicolon
  pure (record { sorts = sorts; ranges = ranges; equations = found; initial = initial })

-- and nothing behind it
unfoldable pub whole_text : List RangeForm → ℕ → Step SpecForm
whole_text ranges depth = do
  found ← text ranges depth
  last ← peek
  if same_kind last k.End then pure found else refuse Unexpected
