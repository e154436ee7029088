-- The grammar of texts, above that of formulas and sorts, one production for each row (this
-- project's own; declarations as in mCRL2's text of parameterised Boolean equation systems, Groote
-- and Mousavi 2014).
use Rattle.std.specs.Prelude.{◌≡◌, ℕ, zero, suc, List, [], ◌∷◌}
use Rattle.pb_fixpoint.specs.declared.Sign.{Sign}
use Rattle.pb_fixpoint.specs.declared.Sign.TheVariants as sign
use Rattle.pb_text_tree.specs.Form.{VariableForm, InstanceForm, RangeForm, EquationForm, SpecForm}
use Rattle.pb_text_lexer.specs.declared.kind.Kind.{Kind}
use Rattle.pb_text_lexer.specs.declared.kind.Kind.TheVariants as k
use Rattle.pb_text_lexer.specs.Grammar.{Reads, ◌>>=◌, Is, Nothing, One, First, CountedApart}
use Rattle.pb_text_lexer.specs.LeftGrammar.{Extended, Listed}
use Rattle.pb_text_lexer.specs.Tokens.{Tok}
use Rattle.pb_text_formulas.specs.Grammar.{IsFormula, SortParts}
use Rattle.pb_text_terms.specs.Grammar.{Name, Variables, Instance, IsTerm}

abbrev pub SignOf : Kind → Reads Sign
SignOf k.Mu = do
  word ← One k.Mu
  Is sign.Mu
SignOf k.Nu = do
  word ← One k.Nu
  Is sign.Nu
SignOf _ = Nothing

-- parameters in brackets, which open a level
abbrev pub Declared : ℕ → Reads (List VariableForm)
Declared zero = Nothing
Declared (suc depth) = do
  open_bracket ← One k.Open
  parameters ← Variables
  close_bracket ← One k.Close
  Is parameters

abbrev pub IsEquation : ℕ → Reads EquationForm
IsEquation depth = do
  sign ← First SignOf
  name ← Name
  parameters ← Extended (Is []) (λ none. Declared depth)
  is ← One k.Is
  right ← CountedApart (IsFormula depth)
  semicolon ← One k.Semicolon
  Is (record { sign = sign; name = name; parameters = parameters; right = right })

-- one equation or more
abbrev pub Equations : ℕ → Reads (List EquationForm)
Equations depth = Listed (IsEquation depth) (Is {X = Unit {0}} tt)

-- the instance that is asked for, its arguments in brackets, which open a level
abbrev pub IsInitialInstance : ℕ → Reads InstanceForm
IsInitialInstance zero = Instance Nothing
IsInitialInstance (suc depth) = Instance (IsTerm depth)

-- The ranges are those of the text's range lines, which stand among the tokens as white space.
abbrev pub IsSpec : List RangeForm → ℕ → Reads SpecForm
IsSpec ranges depth = do
  sorts ← SortParts
  pbes ← One k.Pbes
  equations ← Equations depth
  init ← One k.Init
  initial ← CountedApart (IsInitialInstance depth)
  semicolon ← One k.Semicolon
  Is (record { sorts = sorts; ranges = ranges; equations = equations; initial = initial })

-- The tokens are this text, and then the end. So many levels may open; each equation, and the
-- initial instance, may have so many operators.
abbrev pub IsText : ℕ → ℕ → List Tok → List RangeForm → SpecForm → Type 0
IsText depth operators tokens ranges text =
    (m : ℕ) × (end : Tok)
    × IsSpec ranges depth (record { tokens = tokens; operators = operators }) text
    (record { tokens = end ∷ []; operators = m }) × (end.kind ≡ k.End)
