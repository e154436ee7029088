-- The table of operators with two operands: the level at which each stands, and the level of its
-- operands.
use Rattle.std.specs.Prelude.{ℕ, Bool, true, false, Option, Some, None}
use Rattle.pb_text_tree.specs.declared.operator.Connective.TheVariants.{And, Or, Implies}
use Rattle.pb_text_lexer.specs.declared.kind.Kind.{Kind}
use Rattle.pb_text_lexer.specs.declared.kind.Kind.TheVariants as k
use Rattle.pb_text_terms.specs.declared.operator.Operators.TheVariants.{Additive, Times, Division}
use Rattle.pb_text_terms.specs.declared.level.Level.{Level}
use Rattle.pb_text_terms.specs.declared.level.Level.TheVariants as l
use Rattle.pb_text_terms.specs.declared.level.Relation.{Relation}
use Rattle.pb_text_terms.specs.declared.level.Relation.TheVariants as relation
use Rattle.pb_text_terms.specs.declared.level.Operator.{Operator}
use Rattle.pb_text_terms.specs.declared.level.Operator.TheVariants as o
use Rattle.pb_text_terms.specs.Operators.{is_order, is_equality}

abbrev pub operator_of_token : Kind → Option Operator
operator_of_token k.Times = Some (o.Arithmetic Times)
operator_of_token k.Div = Some (o.Arithmetic Division)
operator_of_token k.Mod = Some (o.Arithmetic Division)
operator_of_token k.Plus = Some (o.Arithmetic Additive)
operator_of_token k.Minus = Some (o.Arithmetic Additive)
operator_of_token k.Less = Some (o.Relation relation.Order)
operator_of_token k.LessOrEqual = Some (o.Relation relation.Order)
operator_of_token k.Greater = Some (o.Relation relation.Order)
operator_of_token k.GreaterOrEqual = Some (o.Relation relation.Order)
operator_of_token k.Equal = Some (o.Relation relation.Equality)
operator_of_token k.NotEqual = Some (o.Relation relation.Equality)
operator_of_token k.And = Some (o.Connective And)
operator_of_token k.Or = Some (o.Connective Or)
operator_of_token k.Implies = Some (o.Connective Implies)
operator_of_token _ = None

-- the level at which operators stand
abbrev pub level_of : Operator → Level
level_of (o.Arithmetic Times) = l.Product
level_of (o.Arithmetic Division) = l.Product
level_of (o.Arithmetic Additive) = l.Sum
level_of (o.Relation relation.Order) = l.Order
level_of (o.Relation relation.Equality) = l.Equality
level_of (o.Connective And) = l.Conjunction
level_of (o.Connective Or) = l.Disjunction
level_of (o.Connective Implies) = l.Implication

-- the level of what operators stand between
abbrev pub operand_level : Operator → Level
operand_level (o.Arithmetic Times) = l.Unary
operand_level (o.Arithmetic Division) = l.Unary
operand_level (o.Arithmetic Additive) = l.Product
operand_level (o.Relation relation.Order) = l.Sum
operand_level (o.Relation relation.Equality) = l.Order
operand_level (o.Connective And) = l.Quantified
operand_level (o.Connective Or) = l.Conjunction
operand_level (o.Connective Implies) = l.Disjunction

-- how many levels are below a level
abbrev pub rank : Level → ℕ
rank l.Unary = 0
rank l.Product = 1
rank l.Sum = 2
rank l.Order = 3
rank l.Equality = 4
rank l.Quantified = 5
rank l.Conjunction = 6
rank l.Disjunction = 7
rank l.Implication = 8

-- the levels of terms that may begin with a quantifier
abbrev pub may_quantify : Level → Bool
may_quantify l.Quantified = true
may_quantify l.Conjunction = true
may_quantify l.Disjunction = true
may_quantify l.Implication = true
may_quantify _ = false

abbrev pub is_related : Relation → Kind → Bool
is_related relation.Order = is_order
is_related relation.Equality = is_equality
