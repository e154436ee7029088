-- The grammar of data terms, and of what formulas have in common with them: the upper levels (for
-- which see `Connected` of the grammar's words), quantifiers, variables and arguments. One
-- production for each row.
use Rattle.std.specs.Prelude.{◌≡◌, ℕ, zero, suc, true, false, List, [], ◌∷◌, map, flat_map}
use Rattle.std.specs.Str.Parse.{digits_value}
use Rattle.pb_text_tree.specs.declared.place.Place.{Place}
use Rattle.pb_text_tree.specs.declared.operator.Quantifier.{Quantifier}
use Rattle.pb_text_tree.specs.declared.operator.Quantifier.TheVariants.{Forall, Exists}
use Rattle.pb_text_tree.specs.Form.{Named, VariableForm, TermForm, ArgumentForms, no_arguments, argument, InstanceForm}
use Rattle.pb_text_counting.specs.Counting.{counted}
use Rattle.pb_text_lexer.specs.declared.kind.Kind.{Kind}
use Rattle.pb_text_lexer.specs.declared.kind.Kind.TheVariants as k
use Rattle.pb_text_lexer.specs.Grammar.{Reads, ◌>>=◌, Is, Nothing, One, First}
use Rattle.pb_text_lexer.specs.OpenGrammar.{Connected}
use Rattle.pb_text_lexer.specs.LeftGrammar.{Extended, Listed, LeftChain, UnmixedChain, Comparison}
use Rattle.pb_text_lexer.specs.Steps.{head_place}
use Rattle.pb_text_terms.specs.Operators.{connected_by, is_equality, is_order, compared_by, is_additive, is_times, is_division, computed_by}

-- ---- names, variables, quantifiers

abbrev pub Name : Reads Named
Name = do
  token ← One k.Name
  Is (record { place = token.place; text = token.text })

-- data variables of one sort
abbrev pub Group : Reads (List VariableForm)
Group = do
  names ← Listed Name (One k.Comma)
  colon ← One k.Colon
  sort ← Name
  Is (map (λ name. record { name = name; sort = sort }) names)

-- data variables, each with its sort
abbrev pub Variables : Reads (List VariableForm)
Variables = do
  groups ← Listed Group (One k.Comma)
  Is (flat_map (λ group. group) groups)

-- variables, a period and a body
abbrev pub Binding : {X : Type 0} → (List VariableForm → X → X) → Reads X → Reads X
Binding bound Body = do
  variables ← Variables
  period ← One k.Period
  body ← Body
  Is (bound variables body)

abbrev pub QuantifiedBy : {X : Type 0} → (Quantifier → Place → List VariableForm → X → X) → Reads X
    → Kind → Reads X
QuantifiedBy quantified Body k.Forall = do
  word ← One k.Forall
  Binding (quantified Forall word.place) Body
QuantifiedBy quantified Body k.Exists = do
  word ← One k.Exists
  Binding (quantified Exists word.place) Body
QuantifiedBy quantified Body _ = Nothing

-- a quantifier with its variables, over its body
abbrev pub Quantified : {X : Type 0} → (Quantifier → Place → List VariableForm → X → X) → Reads X
    → Reads X
Quantified quantified Body = First (QuantifiedBy quantified Body)

-- ---- names with arguments

-- what is read, with the place of its first token
abbrev pub Placed : {X : Type 0} → Reads X → Reads (Place × X)
Placed R s y z = R s y.1 z × (y.0 ≡ head_place s.tokens)

abbrev pub arguments_of : List (Place × TermForm) → ArgumentForms
arguments_of [] = no_arguments
arguments_of (a ∷ arguments) = argument a.0 a.1 (arguments_of arguments)

-- terms in brackets, each with the place of its first token
abbrev pub Arguments : Reads TermForm → Reads ArgumentForms
Arguments Term = do
  open_bracket ← One k.Open
  arguments ← Listed (Placed Term) (One k.Comma)
  close_bracket ← One k.Close
  Is (arguments_of arguments)

-- a name, alone or with arguments
abbrev pub Instance : Reads TermForm → Reads InstanceForm
Instance Term = Extended
    (do
      name ← Name
      Is (record { name = name; arguments = no_arguments }))
    (λ alone. do
      arguments ← Arguments Term
      Is (record { name = alone.name; arguments = arguments }))

-- ---- data terms

-- a name without arguments, or a function's application
abbrev pub applied : Named → ArgumentForms → TermForm
applied name no_arguments = TermForm.name name
applied name arguments = TermForm.application name arguments

-- What begins with a token of a kind: below a sign Unary may stand, and in brackets Term.
abbrev pub Begun : Reads TermForm → Reads TermForm → Kind → Reads TermForm
Begun Unary Term k.Not = do
  sign ← One k.Not
  operand ← Unary
  Is (TermForm.not sign.place operand)
Begun Unary Term k.Minus = do
  sign ← One k.Minus
  operand ← Unary
  Is (TermForm.negative sign.place operand)
Begun Unary Term k.Open = do
  open_bracket ← One k.Open
  inner ← Term
  close_bracket ← One k.Close
  Is inner
Begun Unary Term k.Number = do
  token ← One k.Number
  Is (TermForm.number token.place (digits_value 10 token.text))
Begun Unary Term k.True = do
  word ← One k.True
  Is (TermForm.constant word.place true)
Begun Unary Term k.False = do
  word ← One k.False
  Is (TermForm.constant word.place false)
Begun Unary Term k.Name = do
  instance ← Instance Term
  Is (applied instance.name instance.arguments)
Begun Unary Term _ = Nothing

-- `*` alone, or `div` and `mod` alone, to the left
abbrev pub Product : Reads TermForm → Reads TermForm
Product Unary = UnmixedChain is_times is_division computed_by Unary

-- `+` and `-`, to the left
abbrev pub Sum : Reads TermForm → Reads TermForm
Sum Unary = LeftChain is_additive computed_by (Product Unary)

-- `<`, `<=`, `>` or `>=`, once
abbrev pub Ordered : Reads TermForm → Reads TermForm
Ordered Unary = Comparison is_order compared_by (Sum Unary)

-- `==` or `!=`, once
abbrev pub Equated : Reads TermForm → Reads TermForm
Equated Unary = Comparison is_equality compared_by (Ordered Unary)

-- a quantifier with its variables, over its body, or `count`, which is an operand of neither
-- arithmetic nor a comparison where no bracket stands around it
abbrev pub BoundBy : Reads TermForm → Kind → Reads TermForm
BoundBy Body k.Count = do
  word ← One k.Count
  Binding (counted word.place) Body
BoundBy Body kind = QuantifiedBy TermForm.quantified Body kind

abbrev pub Bound : Reads TermForm → Reads TermForm
Bound Body = First (BoundBy Body)

-- The connectives, at whose right end a quantifier over Body may stand, or counting.
abbrev pub Connections : Reads TermForm → Reads TermForm → Reads TermForm
Connections Unary Body =
    Connected (connected_by TermForm.connected) (Equated Unary) (Bound Body)

-- So many levels may open: each sign, bracket, quantifier and `count` opens one.
abbrev mutual
  pub IsUnary : ℕ → Reads TermForm
  IsUnary zero = First (Begun Nothing Nothing)
  IsUnary (suc depth) = First (Begun (IsUnary depth) (IsTerm depth))

  pub IsTerm : ℕ → Reads TermForm
  IsTerm zero = Connections (First (Begun Nothing Nothing)) Nothing
  IsTerm (suc depth) = Connections (First (Begun (IsUnary depth) (IsTerm depth))) (IsTerm depth)
