-- Reading data terms, and what formulas have in common with them, as functions.
use Rattle.std.specs.Prelude.{ℕ, zero, suc, Bool, true, false, if◌then◌else◌, List, map, flat_map, length, Option, Some, None}
use Rattle.std.specs.Str.Parse.{digits_value}
use Rattle.pb_text_tree.specs.declared.place.Place.{Place}
use Rattle.pb_text_tree.specs.declared.term.Argument.{Argument}
use Rattle.pb_text_tree.specs.declared.operator.Arithmetic.{Arithmetic}
use Rattle.pb_text_tree.specs.declared.operator.Connective.{Connective}
use Rattle.pb_text_tree.specs.declared.operator.Connective.TheVariants.{And, Or, Implies}
use Rattle.pb_text_tree.specs.declared.operator.Quantifier.{Quantifier}
use Rattle.pb_text_tree.specs.declared.operator.Quantifier.TheVariants.{Forall, Exists}
use Rattle.pb_text_tree.specs.Form.{Named, VariableForm, TermForm, ArgumentForms, no_arguments, InstanceForm, term_form}
use Rattle.pb_text_counting.specs.Counting.{counted}
use Rattle.pb_text_lexer.specs.declared.fault.ReadingRule.TheVariants.{Unexpected, Limit}
use Rattle.pb_text_lexer.specs.declared.kind.Kind.{Kind}
use Rattle.pb_text_lexer.specs.declared.kind.Kind.TheVariants as k
use Rattle.pb_text_lexer.specs.Kinds.{same_kind}
use Rattle.pb_text_lexer.specs.Steps.{Step, ◌>>=◌, pure, peek, refuse, take_token, expect, enter, operator_of, nothing_between, listed, place, chain, conjunction, disjunction, either, extended, unless_next, left_chain, unmixed_chain, comparison}
use Rattle.pb_text_lexer.specs.Tokens.{Tok}
use Rattle.pb_text_terms.specs.declared.operator.Operators.{Operators}
use Rattle.pb_text_terms.specs.declared.operator.Operators.TheVariants.{Additive, Times, Division}
use Rattle.pb_text_terms.specs.declared.level.Level.{Level}
use Rattle.pb_text_terms.specs.declared.level.Level.TheVariants as l
use Rattle.pb_text_terms.specs.Operators.{symbol_kind, connected_by, is_binder, is_equality, is_order, compared_by, is_additive, is_times, is_division, arithmetic_of, computed_by}
use Rattle.pb_text_terms.specs.Grammar.{arguments_of, applied}

-- ---- names, variables, quantifiers

unfoldable pub name : Step Named
name = do
  token ← expect k.Name
  pure (record { place = token.place; text = token.text })

abbrev pub is_comma : Kind → Bool
is_comma kind = same_kind kind k.Comma

abbrev pub names : Step (List Named)
names = λ s. listed name is_comma take_token (suc (length s.tokens)) s

unfoldable pub group : Step (List VariableForm)
group = do
  found ← names
  colon ← expect k.Colon
  sort ← name
  pure (map (λ name. record { name = name; sort = sort }) found)

abbrev pub groups : Step (List (List VariableForm))
groups = λ s. listed group is_comma take_token (suc (length s.tokens)) s

unfoldable pub variables : Step (List VariableForm)
variables = do
  found ← groups
  pure (flat_map (λ group. group) found)

abbrev pub binding : {X : Type 0} → (List VariableForm → X → X) → Step X → Step X
binding bound body = do
  found ← variables
  period ← expect k.Period
  inner ← body
  pure (bound found inner)

abbrev pub quantifier_of : Kind → Option Quantifier
quantifier_of k.Forall = Some Forall
quantifier_of k.Exists = Some Exists
quantifier_of _ = None

-- The first step takes a token that opens a level.
abbrev pub quantified_by : {X : Type 0} → (Quantifier → Place → List VariableForm → X → X)
    → Step Tok → Step X → Option Quantifier → Step X
quantified_by quantified enter body None = refuse Unexpected
quantified_by quantified enter body (Some q) =
    enter >>= (λ word. binding (quantified q word.place) body)

abbrev pub quantified : {X : Type 0} → (Quantifier → Place → List VariableForm → X → X) → Step Tok
    → Step X → Step X
quantified made enter body = peek >>= (λ kind. quantified_by made enter body (quantifier_of kind))

-- ---- names with arguments

abbrev pub is_open : Kind → Bool
is_open kind = same_kind kind k.Open

-- what is read, with the place of its first token
abbrev pub with_place : {X : Type 0} → Step X → Step (Place × X)
with_place p = λ s. (p >>= (λ x. pure (place s, x))) s

-- an argument of a tree
abbrev pub argument_pair : Argument → Place × TermForm
argument_pair a = (a.place, term_form a.term)

abbrev pub argument_list : Step TermForm → Step (List (Place × TermForm))
argument_list term = λ s. listed (with_place term) is_comma take_token (suc (length s.tokens)) s

-- The first step takes a token that opens a level.
abbrev pub arguments : Step Tok → Step TermForm → Step ArgumentForms
arguments enter term = do
  open_bracket ← enter
  found ← argument_list term
  close_bracket ← expect k.Close
  pure (arguments_of found)

abbrev pub instance_of : Step Tok → Step TermForm → Step InstanceForm
instance_of enter term = extended is_open
    (name >>= (λ found. pure (record { name = found; arguments = no_arguments })))
    (λ alone.
    unless_next is_open
    (arguments enter term >>= (λ found. pure (record { name = alone.name; arguments = found }))))

-- ---- data terms

-- a term behind which no bracket opens
abbrev pub closed : TermForm → Step TermForm
closed x = do
  kind ← peek
  if is_open kind then refuse Unexpected else pure x

abbrev pub truth : Bool → Step TermForm
truth value = take_token >>= (λ word. closed (TermForm.constant word.place value))

abbrev pub numeral : Step TermForm
numeral =
    take_token >>= (λ token. closed (TermForm.number token.place (digits_value 10 token.text)))

abbrev pub begun : Step Tok → Step TermForm → Step TermForm → Kind → Step TermForm
begun enter unary term k.Not = do
  sign ← enter
  operand ← unary
  pure (TermForm.not sign.place operand)
begun enter unary term k.Minus = do
  sign ← enter
  operand ← unary
  pure (TermForm.negative sign.place operand)
begun enter unary term k.Open = do
  open_bracket ← enter
  inner ← term
  close_bracket ← expect k.Close
  closed inner
begun enter unary term k.Number = numeral
begun enter unary term k.True = truth true
begun enter unary term k.False = truth false
begun enter unary term k.Name =
    instance_of enter term >>= (λ found. pure (applied found.name found.arguments))
begun enter unary term _ = refuse Unexpected

-- which operators may stand in one chain
abbrev pub is_among : Operators → Kind → Bool
is_among Additive = is_additive
is_among Times = is_times
is_among Division = is_division

-- which operators may not follow such a chain
abbrev pub is_mixed : Operators → Kind → Bool
is_mixed Additive = λ kind. false
is_mixed Times = is_division
is_mixed Division = is_times

-- an operator and its operand, and one or more of these
abbrev pub operation : Operators → Step TermForm → Step (Arithmetic × Place × TermForm)
operation operators item = do
  sign ← operator_of (is_among operators)
  operand ← item
  pure (arithmetic_of sign.kind, sign.place, operand)

abbrev pub operations : Operators → Step TermForm → Step (List (Arithmetic × Place × TermForm))
operations operators item =
    λ s. listed (operation operators item) (is_among operators) nothing_between
    (suc (length s.tokens)) s

unfoldable pub product : Step TermForm → Step TermForm
product unary = unmixed_chain is_times is_division computed_by unary

unfoldable pub sum : Step TermForm → Step TermForm
sum unary = left_chain is_additive computed_by (product unary)

unfoldable pub ordered : Step TermForm → Step TermForm
ordered unary = comparison is_order compared_by (sum unary)

unfoldable pub equated : Step TermForm → Step TermForm
equated unary = comparison is_equality compared_by (ordered unary)

-- a quantifier over a body, or counting, by the first token. The first step takes a token that
-- opens a level.
abbrev pub bound_by : Step Tok → Step TermForm → Kind → Step TermForm
bound_by enter body k.Count = enter >>= (λ word. binding (counted word.place) body)
bound_by enter body kind = quantified_by TermForm.quantified enter body (quantifier_of kind)

abbrev pub bound : Step Tok → Step TermForm → Step TermForm
bound enter body = peek >>= bound_by enter body

-- One expression, or one of these. The first step takes a token that opens a level.
abbrev pub lowest_over : Step Tok → Step TermForm → Step TermForm → Step TermForm
lowest_over enter unary body = either is_binder (equated unary) (bound enter body)

-- what a chain of the connective is made of, over what `&&` connects
abbrev pub operand : {X : Type 0} → (Connective → Place → X → X → X) → Connective → Step X → Step X
operand make And node = node
operand make Or node = conjunction (connected_by make) node
operand make Implies node = disjunction (connected_by make) node

abbrev pub level : {X : Type 0} → (Connective → Place → X → X → X) → Connective → Step X → Step X
level make c node =
    λ s. chain
    (symbol_kind c) (λ x t y. make c t.place x y) (operand make c node) (suc (length s.tokens)) s

-- what a token begins, where a level may open and where none may
abbrev pub unary_over : Step Tok → Step TermForm → Step TermForm → Step TermForm
unary_over enter unary term = peek >>= begun enter unary term

-- So many levels may open.
abbrev mutual
  pub unary : ℕ → Step TermForm
  unary zero = unary_over (refuse Limit) (refuse Limit) (refuse Limit)
  unary (suc depth) =
      unary_over take_token (unary depth) (level TermForm.connected Implies (lowest depth))

  pub lowest : ℕ → Step TermForm
  lowest zero =
      lowest_over (refuse Limit) (unary_over (refuse Limit) (refuse Limit) (refuse Limit))
      (refuse Limit)
  lowest (suc depth) =
      lowest_over take_token
      (unary_over take_token (unary depth) (level TermForm.connected Implies (lowest depth)))
      (level TermForm.connected Implies (lowest depth))

abbrev pub term : ℕ → Step TermForm
term depth = level TermForm.connected Implies (lowest depth)

-- what is read at a level of operators
abbrev pub at : Level → ℕ → Step TermForm
at l.Unary depth = unary depth
at l.Product depth = product (unary depth)
at l.Sum depth = sum (unary depth)
at l.Order depth = ordered (unary depth)
at l.Equality depth = equated (unary depth)
at l.Quantified depth = lowest depth
at l.Conjunction depth = level TermForm.connected And (lowest depth)
at l.Disjunction depth = level TermForm.connected Or (lowest depth)
at l.Implication depth = term depth

-- what stands a level deeper
abbrev pub below : {X : Type 0} → (ℕ → Step X) → ℕ → Step X
below p zero = refuse Limit
below p (suc depth) = p depth

-- a name with its arguments, and a quantifier with its body, where so many levels may open
abbrev pub instance : ℕ → Step InstanceForm
instance depth = instance_of (enter depth) (below term depth)

abbrev pub quantifier_term : ℕ → Step TermForm
quantifier_term depth = quantified TermForm.quantified (enter depth) (below term depth)

-- the same, or counting
abbrev pub quantified_term : ℕ → Step TermForm
quantified_term depth = bound (enter depth) (below term depth)
