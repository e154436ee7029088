-- Which tokens are operators and quantifiers, and what each stands for.
use Rattle.std.specs.Prelude.{Bool, true, false}
use Rattle.pb_text_tree.specs.declared.place.Place.{Place}
use Rattle.pb_text_tree.specs.declared.operator.Connective.{Connective}
use Rattle.pb_text_tree.specs.declared.operator.Connective.TheVariants as connective
use Rattle.pb_text_tree.specs.declared.operator.Comparison.{Comparison}
use Rattle.pb_text_tree.specs.declared.operator.Comparison.TheVariants as comparison
use Rattle.pb_text_tree.specs.declared.operator.Arithmetic.{Arithmetic}
use Rattle.pb_text_tree.specs.declared.operator.Arithmetic.TheVariants as arithmetic
use Rattle.pb_text_tree.specs.Form.{TermForm}
use Rattle.pb_text_lexer.specs.declared.kind.Kind.{Kind}
use Rattle.pb_text_lexer.specs.declared.kind.Kind.TheVariants as k
use Rattle.pb_text_lexer.specs.Tokens.{Tok}

-- ---- connectives

-- the token of a connective
abbrev pub symbol_kind : Connective → Kind
symbol_kind connective.And = k.And
symbol_kind connective.Or = k.Or
symbol_kind connective.Implies = k.Implies

-- the connective of a token; only of `&&`, `||` and `=>` it is asked for
abbrev pub connective_of : Kind → Connective
connective_of k.Or = connective.Or
connective_of k.Implies = connective.Implies
connective_of _ = connective.And

abbrev pub is_connective : Kind → Bool
is_connective k.And = true
is_connective k.Or = true
is_connective k.Implies = true
is_connective _ = false

-- two expressions with a connective between them
abbrev pub connected_by : {X : Type 0} → (Connective → Place → X → X → X) → Kind → X → Tok → X → X
connected_by make kind x t y = make (connective_of kind) t.place x y

-- ---- quantifiers

abbrev pub is_quantifier : Kind → Bool
is_quantifier k.Forall = true
is_quantifier k.Exists = true
is_quantifier _ = false

-- what binds variables in data: a quantifier, or `count` of models
abbrev pub is_binder : Kind → Bool
is_binder k.Count = true
is_binder kind = is_quantifier kind

-- ---- comparisons

abbrev pub is_equality : Kind → Bool
is_equality k.Equal = true
is_equality k.NotEqual = true
is_equality _ = false

abbrev pub is_order : Kind → Bool
is_order k.Less = true
is_order k.LessOrEqual = true
is_order k.Greater = true
is_order k.GreaterOrEqual = true
is_order _ = false

-- the comparison of a token; only of its signs it is asked for
abbrev pub comparison_of : Kind → Comparison
comparison_of k.NotEqual = comparison.NotEqual
comparison_of k.Less = comparison.Less
comparison_of k.LessOrEqual = comparison.LessEqual
comparison_of k.Greater = comparison.Greater
comparison_of k.GreaterOrEqual = comparison.GreaterEqual
comparison_of _ = comparison.Equal

abbrev pub compared_by : TermForm → Tok → TermForm → TermForm
compared_by x t y = TermForm.compared (comparison_of t.kind) t.place x y

-- ---- arithmetic

abbrev pub is_additive : Kind → Bool
is_additive k.Plus = true
is_additive k.Minus = true
is_additive _ = false

abbrev pub is_times : Kind → Bool
is_times k.Times = true
is_times _ = false

abbrev pub is_division : Kind → Bool
is_division k.Div = true
is_division k.Mod = true
is_division _ = false

-- whether a token is an operator of arithmetic or compares
abbrev pub is_operator : Kind → Bool
is_operator k.Plus = true
is_operator k.Minus = true
is_operator k.Times = true
is_operator k.Div = true
is_operator k.Mod = true
is_operator k.Less = true
is_operator k.LessOrEqual = true
is_operator k.Greater = true
is_operator k.GreaterOrEqual = true
is_operator k.Equal = true
is_operator k.NotEqual = true
is_operator _ = false

-- the operator of a token; only of its signs it is asked for
abbrev pub arithmetic_of : Kind → Arithmetic
arithmetic_of k.Minus = arithmetic.Minus
arithmetic_of k.Times = arithmetic.Times
arithmetic_of k.Div = arithmetic.Div
arithmetic_of k.Mod = arithmetic.Mod
arithmetic_of _ = arithmetic.Plus

abbrev pub computed_by : TermForm → Tok → TermForm → TermForm
computed_by x t y = TermForm.computed (arithmetic_of t.kind) t.place x y
