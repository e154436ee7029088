-- The value of a data term under an assignment.
use Rattle.std.specs.Prelude.{ℕ, pos, ◌+ℤ◌, ◌-ℤ◌, ◌*ℤ◌, neg_ℤ, unsigned_abs, int_lt, int_le, Bool, false, not, ◌&&◌, ◌||◌, if◌then◌else◌, List, [], ◌∷◌, Option, Some, None, unwrap_or}
use Rattle.std.specs.Ordering.{int_eq}
use Rattle.std.specs.Int.{int_max, int_min}
use Rattle.std.specs.List.{list_any, list_all}
use Rattle.pb_text_tree.specs.declared.operator.Quantifier.{Quantifier}
use Rattle.pb_text_tree.specs.declared.operator.Quantifier.TheVariants.{Forall, Exists}
use Rattle.pb_text_meaning.specs.Syntax.{Name, same_name, Variable, Operator, Term, Terms, Spec}
use Rattle.pb_text_meaning.specs.declared.function.NamedFunction.{NamedFunction}
use Rattle.pb_text_meaning.specs.declared.function.NamedFunction.TheVariants.{If, Succ, Pred, Abs, Max, Min, Pos2Nat, Pos2Int, Nat2Int}
use Rattle.pb_text_meaning.specs.Functions.{named_function}
use Rattle.pb_base_values.specs.Carrier.{Value, Tuple, Carrier, of_bool}
use Rattle.pb_base_values.specs.Division.{quotient, remainder}
use Rattle.pb_text_meaning.specs.Sorts.{carrier_of, is_recogniser, place_in}

-- what the variables in scope stand for, the innermost first; so an inner variable hides an outer
-- one of its name
abbrev pub Assignment : Type 0
Assignment = List (Name × Value)

abbrev pub looked_up : Assignment → Name → Option Value
looked_up [] x = None
looked_up ((y, v) ∷ a) x = if same_name y x then Some v else looked_up a x

-- a fact of all or of some values
abbrev pub of_values : Quantifier → (Value → Bool) → Carrier → Bool
of_values Forall p vs = list_all p vs
of_values Exists p vs = list_any p vs

-- for all or some values of the first variable, for all or some of the next, and so on
abbrev pub quantified : Spec → Quantifier → List Variable → (Assignment → Bool) → Assignment → Bool
quantified spec q [] p a = p a
quantified spec q (x ∷ xs) p a =
    of_values q (λ v. quantified spec q xs p ((x.name, v) ∷ a)) (carrier_of spec x.sort)

-- ---- operators

abbrev pub is_true : Value → Bool
is_true v = not (int_eq v (of_bool false))

abbrev pub binary : Operator → Value → Value → Value
binary Operator.And x y = of_bool (is_true x && is_true y)
binary Operator.Or x y = of_bool (is_true x || is_true y)
binary Operator.Implies x y = of_bool (not (is_true x) || is_true y)
binary Operator.Equal x y = of_bool (int_eq x y)
binary Operator.NotEqual x y = of_bool (not (int_eq x y))
binary Operator.Less x y = of_bool (int_lt x y)
binary Operator.LessEqual x y = of_bool (int_le x y)
binary Operator.Greater x y = of_bool (int_lt y x)
binary Operator.GreaterEqual x y = of_bool (int_le y x)
binary Operator.Plus x y = x +ℤ y
binary Operator.Minus x y = x -ℤ y
binary Operator.Times x y = x *ℤ y
binary Operator.Div x y = quotient x y
binary Operator.Mod x y = remainder x y

-- ---- named functions

-- whether a value is the place that a recogniser looks for, if there is one
abbrev pub is_place : Option ℕ → Value → Bool
is_place None v = false
is_place (Some n) v = int_eq v (pos n)

-- a recogniser
abbrev pub recognised : Spec → Name → Value → Value
recognised spec f v =
    of_bool (is_place (place_in (λ e. is_recogniser f e.recogniser) spec.sorts) v)

-- a named function of one argument, of two and of three; of any other number it gives 0
abbrev pub named_of_one : NamedFunction → Value → Value
named_of_one Succ x = x +ℤ pos 1
named_of_one Pred x = x -ℤ pos 1
named_of_one Abs x = pos (unsigned_abs x)
named_of_one Pos2Nat x = x
named_of_one Pos2Int x = x
named_of_one Nat2Int x = x
named_of_one _ x = pos 0

abbrev pub named_of_two : NamedFunction → Value → Value → Value
named_of_two Max x y = int_max x y
named_of_two Min x y = int_min x y
named_of_two _ x y = pos 0

abbrev pub named_of_three : NamedFunction → Value → Value → Value → Value
named_of_three If x y z = if is_true x then y else z
named_of_three _ x y z = pos 0

-- what a name gives of its arguments: a named function, else a recogniser
abbrev pub function_of_one : Spec → Name → Option NamedFunction → Value → Value
function_of_one spec f (Some g) x = named_of_one g x
function_of_one spec f None x = recognised spec f x

abbrev pub function_of_two : Option NamedFunction → Value → Value → Value
function_of_two (Some g) x y = named_of_two g x y
function_of_two None x y = pos 0

abbrev pub function_of_three : Option NamedFunction → Value → Value → Value → Value
function_of_three (Some g) x y z = named_of_three g x y z
function_of_three None x y z = pos 0

abbrev pub function_value : Spec → Name → List Value → Value
function_value spec f (x ∷ []) = function_of_one spec f (named_function f) x
function_value spec f (x ∷ y ∷ []) = function_of_two (named_function f) x y
function_value spec f (x ∷ y ∷ z ∷ []) = function_of_three (named_function f) x y z
function_value spec f vs = pos 0

-- ---- terms

-- a variable's value, else an enumerator's place
abbrev pub named_value : Spec → Option Value → Name → Value
named_value spec (Some v) x = v
named_value spec None x = pos (unwrap_or (place_in (λ e. same_name e.name x) spec.sorts) 0)

abbrev mutual
  pub value : Spec → Assignment → Term → Value
  value spec a (Term.Truth b) = of_bool b
  value spec a (Term.Number n) = pos n
  value spec a (Term.Named x) = named_value spec (looked_up a x) x
  value spec a (Term.Not x) = of_bool (not (is_true (value spec a x)))
  value spec a (Term.Negative x) = neg_ℤ (value spec a x)
  value spec a (Term.Binary o x y) = binary o (value spec a x) (value spec a y)
  value spec a (Term.Apply f xs) = function_value spec f (values spec a xs)
  value spec a (Term.Quantified q xs x) =
      of_bool (quantified spec q xs (λ b. is_true (value spec b x)) a)

  pub values : Spec → Assignment → Terms → Tuple
  values spec a Terms.NoTerms = []
  values spec a (Terms.Then x xs) = value spec a x ∷ values spec a xs
