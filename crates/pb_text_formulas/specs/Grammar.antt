-- The grammar of formulas and of declarations of sorts, one production for each row (this
-- project's own; names, connectives and declarations as in mCRL2's text of parameterised Boolean
-- equation systems, Groote and Mousavi 2014).
use Rattle.std.specs.Prelude.{ℕ, zero, suc, true, false, List, [], ◌++◌, Some, None}
use Rattle.pb_text_tree.specs.Form.{TermForm, FormulaForm, EnumeratorForm, SortForm, struct, alias, SortDeclarationForm}
use Rattle.pb_text_lexer.specs.declared.kind.Kind.{Kind}
use Rattle.pb_text_lexer.specs.declared.kind.Kind.TheVariants as k
use Rattle.pb_text_lexer.specs.Grammar.{Reads, ◌>>=◌, Is, Nothing, One, First, Series}
use Rattle.pb_text_lexer.specs.LeftGrammar.{Extended, Listed}
use Rattle.pb_text_lexer.specs.OpenGrammar.{Connected}
use Rattle.pb_text_terms.specs.Operators.{connected_by}
use Rattle.pb_text_terms.specs.Grammar.{Name, Quantified, Instance, IsTerm}

-- ---- formulas

-- What a token of a kind begins that is no quantifier: below a negation Node may stand, in brackets
-- Formula, and as data Term.
abbrev pub Begun : Reads FormulaForm → Reads FormulaForm → Reads TermForm → Kind → Reads FormulaForm
Begun Node Formula Term k.Not = do
  sign ← One k.Not
  operand ← Node
  Is (FormulaForm.negation sign.place operand)
Begun Node Formula Term k.Open = do
  open_bracket ← One k.Open
  inner ← Formula
  close_bracket ← One k.Close
  Is inner
Begun Node Formula Term k.True = do
  word ← One k.True
  Is (FormulaForm.constant word.place true)
Begun Node Formula Term k.False = do
  word ← One k.False
  Is (FormulaForm.constant word.place false)
Begun Node Formula Term k.Val = do
  word ← One k.Val
  open_bracket ← One k.Open
  term ← Term
  close_bracket ← One k.Close
  Is (FormulaForm.val word.place term)
Begun Node Formula Term k.Name = do
  found ← Instance Term
  Is (FormulaForm.instance found)
Begun Node Formula Term _ = Nothing

-- `&&` binds tightest, then `||`, then `=>`; at their right end a quantifier over Body may stand.
abbrev pub Connections : Reads FormulaForm → Reads FormulaForm → Reads FormulaForm
Connections Node Body =
    Connected (connected_by FormulaForm.connected) Node (Quantified FormulaForm.quantified Body)

-- So many levels may open: each `!`, each bracket and each quantifier opens one.
abbrev mutual
  pub IsNode : ℕ → Reads FormulaForm
  IsNode zero = First (Begun Nothing Nothing Nothing)
  IsNode (suc depth) = First (Begun (IsNode depth) (IsFormula depth) (IsTerm depth))

  pub IsFormula : ℕ → Reads FormulaForm
  IsFormula zero = Connections (First (Begun Nothing Nothing Nothing)) Nothing
  IsFormula (suc depth) =
      Connections (First (Begun (IsNode depth) (IsFormula depth) (IsTerm depth))) (IsFormula depth)

-- ---- sorts

-- a name without a recogniser
abbrev pub Plain : Reads EnumeratorForm
Plain = do
  name ← Name
  Is (record { name = name; recogniser = None })

-- a recogniser behind an enumerator's name
abbrev pub Recognised : EnumeratorForm → Reads EnumeratorForm
Recognised plain = do
  question ← One k.Question
  name ← Name
  Is (record { name = plain.name; recogniser = Some name })

abbrev pub Enumerator : Reads EnumeratorForm
Enumerator = Extended Plain Recognised

-- what a sort is declared to be, up to the semicolon, by its first token
abbrev pub SortBy : Kind → Reads SortForm
SortBy k.Struct = do
  word ← One k.Struct
  enumerators ← Listed Enumerator (One k.Bar)
  semicolon ← One k.Semicolon
  Is (struct enumerators)
SortBy k.Name = do
  target ← Name
  semicolon ← One k.Semicolon
  Is (alias target)
SortBy _ = Nothing

abbrev pub SortDecl : Reads SortDeclarationForm
SortDecl = do
  name ← Name
  is ← One k.Is
  sort ← First SortBy
  Is (record { name = name; sort = sort })

abbrev pub SortPart : Reads (List SortDeclarationForm)
SortPart = do
  word ← One k.Sort
  declarations ← Listed SortDecl (Is {X = Unit {0}} tt)
  Is declarations

-- any number of sort parts
abbrev pub SortParts : Reads (List SortDeclarationForm)
SortParts =
    Extended (Is [])
    (λ none.
    Series SortPart (Is {X = Unit {0}} tt) (λ sorts. sorts) (λ sorts u rest. sorts ++ rest))
