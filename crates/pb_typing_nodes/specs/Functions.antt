-- The program's functions of data, as the definitions name them.
use Rattle.std.specs.Prelude.{◌≡◌, ℕ, Some}
use Rattle.pb_base_values.specs.Operation as operations
use Rattle.pb_text_meaning.specs.Functions.{named_function}
use Rattle.pb_text_meaning.specs.Syntax.{Name, Spec}
use Rattle.pb_typing_declarations.specs.Enumerators.{position_shape}
use Rattle.pb_typing_rules.specs.Functions as functions
use Rattle.pb_typing_rules.specs.Functions.{function_named}
use Rattle.pb_typing_tree.specs.Tree.{Term, Negative, Absolute, Successor, Predecessor, Maximum}
use Rattle.pb_typing_tree.specs.Tree.{Minimum, Choice, Recognised}
use Rattle.pb_typing_tree.specs.Elaboration.{applied_to_one, applied_to_two, applied_to_three}
use Rattle.pb_typing_nodes.specs.declared.function.Function.{Function}
use Rattle.pb_typing_nodes.specs.declared.function.Function.TheVariants as function
use Rattle.pb_typing_nodes.specs.declared.function.FunctionOfOne.{FunctionOfOne}
use Rattle.pb_typing_nodes.specs.declared.function.FunctionOfOne.TheVariants as of_one
use Rattle.pb_typing_nodes.specs.declared.function.Extreme.{Extreme}
use Rattle.pb_typing_nodes.specs.declared.function.Extreme.TheVariants as extreme
use Rattle.pb_typing_nodes.specs.declared.operation.UnaryOperation.{UnaryOperation}
use Rattle.pb_typing_nodes.specs.declared.operation.UnaryOperation.TheVariants as unary
use Rattle.pb_typing_nodes.specs.View.{unary_operation}

-- ---- what a function makes of terms

abbrev pub operated : UnaryOperation → Term → Term
operated unary.Negation x = Negative x
operated unary.Successor x = Successor x
operated unary.Predecessor x = Predecessor x
operated unary.AbsoluteValue x = Absolute x

-- a conversion changes nothing
abbrev pub term_of_one : FunctionOfOne → Term → Term
term_of_one of_one.Conversion x = x
term_of_one (of_one.Operation o) x = operated o x
term_of_one (of_one.Recogniser e) x = Recognised e.sort e.place x

abbrev pub extreme_term : Extreme → Term → Term → Term
extreme_term extreme.Maximum x y = Maximum x y
extreme_term extreme.Minimum x y = Minimum x y

-- ---- which function it is

abbrev pub view_of_one : FunctionOfOne → functions.Function
view_of_one of_one.Conversion = functions.Conversion
view_of_one (of_one.Operation o) = functions.OfOne (unary_operation o)
view_of_one (of_one.Recogniser e) = functions.Recogniser (position_shape e)

abbrev pub extreme_operation : Extreme → operations.BinaryOperation
extreme_operation extreme.Maximum = operations.Maximum
extreme_operation extreme.Minimum = operations.Minimum

abbrev pub arity_of : Function → ℕ
arity_of (function.OfOne f) = 1
arity_of (function.OfTwo f) = 2
arity_of function.Choice = 3

-- a name is that of a function of one argument, of two, and of the choice between two values
pub record IsOfOne (spec : Spec) (x : Name) (f : FunctionOfOne) : Type 0 where
  pub found : function_named spec x ≡ Some (view_of_one f)
  pub term : (t : Term) → applied_to_one spec x (named_function x) t ≡ term_of_one f t

pub record IsOfTwo (spec : Spec) (x : Name) (f : Extreme) : Type 0 where
  pub found : function_named spec x ≡ Some (functions.OfTwo (extreme_operation f))
  pub term : (t u : Term) → applied_to_two (named_function x) t u ≡ extreme_term f t u

pub record IsChoice (spec : Spec) (x : Name) : Type 0 where
  pub found : function_named spec x ≡ Some functions.Choice
  pub term : (t u v : Term) → applied_to_three (named_function x) t u v ≡ Choice t u v

abbrev pub IsFunction : Spec → Name → Function → Type 0
IsFunction spec x (function.OfOne f) = IsOfOne spec x f
IsFunction spec x (function.OfTwo f) = IsOfTwo spec x f
IsFunction spec x function.Choice = IsChoice spec x
