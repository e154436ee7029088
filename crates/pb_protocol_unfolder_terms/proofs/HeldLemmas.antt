-- The interval of a flat term has the term's value: operator by operator.
use Rattle.std.proofs.Common.{◌≡◌, Bool, true, false, not, ◌||◌, if◌then◌else◌, List, [], ◌∷◌, Option, Some, None, pos, int_le, inl, inr, refl, sym, ap, ◌∙◌, arith}
use Rattle.std.specs.Prelude.{option_map}
use Rattle.std.proofs.lemmas.Bool.{false≢true}
use Rattle.pb_base_values.specs.Carrier.{Value, of_bool}
use Rattle.pb_base_values.specs.Interval.{IntegerInterval, Includes, is_included, literals, singleton, within}
use Rattle.pb_base_values.specs.Laws.{IsDefined}
use Rattle.pb_base_values.specs.Operation.{BinaryOperation, UnaryOperation, binary_interval, binary_value, unary_interval, unary_value}
use Rattle.std.proofs.lemmas.Int.{ints}
use Rattle.pb_base_values.proofs.Ends.{le_true}
use Rattle.pb_base_values.proofs.Sound.{binary_sound, hull_sound, unary_sound}
use Rattle.pb_text_meaning.specs.Syntax.{Name, Operator, Term, Terms, Spec}
use Rattle.pb_text_meaning.specs.Functions.{named_function}
use Rattle.pb_text_meaning.specs.declared.function.NamedFunction.{NamedFunction}
use Rattle.pb_text_meaning.specs.declared.function.NamedFunction.TheVariants as function
use Rattle.pb_text_meaning.specs.Value.{function_of_one, function_of_two, function_of_three, is_true, value}
use Rattle.pb_protocol_folding.specs.Folding.{is_small}
use Rattle.pb_protocol_unfolder_terms.specs.Bounds.{function_interval, interval, intervals, may_divide, of_choice, of_one, of_two, truths}
use Rattle.pb_protocol_unfolder_terms.specs.Held.{Holds, IntervalsHold, takes}

truth-held : (b : Bool) → Holds (Some truths) (of_bool b)
truth-held true = (omega (arith, ints), omega (arith, ints))
truth-held false = (omega (arith, ints), omega (arith, ints))

alone-held : (v : Value) → Includes (singleton v) v
alone-held v = (omega (arith, ints), omega (arith, ints))

-- of what is or isn't known
within-held : (limits i : IntegerInterval) (v : Value) → Includes i v → Holds (within limits i) v
within-held limits i v h = by (is_included i limits)
  where
    by : (b : Bool) → Holds (if b then Some i else None) v
    by true = h
    by false = tt

small-held : (v : Value) → Holds (option_map singleton (if is_small v then Some v else None)) v
small-held v = by (is_small v)
  where
    by : (b : Bool) → Holds (option_map singleton (if b then Some v else None)) v
    by true = alone-held v
    by false = tt

one-held : (o : UnaryOperation) (i : Option IntegerInterval) (v : Value) → Holds i v → Holds (of_one o i) (unary_value o v)
one-held o None v h = tt
one-held o (Some i) v h = within-held literals (unary_interval o i) (unary_value o v) (unary_sound o i v h)

defined : (o : BinaryOperation) (j : IntegerInterval) → may_divide o j ≡ true → IsDefined o j
defined o j may divide = le_true (pos 1) j.low (sym (ap (λ b. not b || int_le (pos 1) j.low) divide) ∙ may)

two-held : (o : BinaryOperation) (i j : Option IntegerInterval) (v w : Value) → Holds i v → Holds j w → Holds (of_two o i j) (binary_value o v w)
two-held o None j v w h k = tt
two-held o (Some i) None v w h k = tt
two-held o (Some i) (Some j) v w h k = by (may_divide o j) refl
  where
    by : (b : Bool) → may_divide o j ≡ b → Holds (if b then within literals (binary_interval o i j) else None) (binary_value o v w)
    by true may = within-held literals (binary_interval o i j) (binary_value o v w) (binary_sound o i j v w (defined o j may) h k)
    by false may = tt

choice-held : (b : Bool) (i j : Option IntegerInterval) (v w : Value) → Holds i v → Holds j w → Holds (of_choice i j) (if b then v else w)
choice-held b None j v w h k = tt
choice-held b (Some i) None v w h k = tt
choice-held true (Some i) (Some j) v w h k = hull_sound i j v (inl h)
choice-held false (Some i) (Some j) v w h k = hull_sound i j w (inr k)

-- ---- functions, by how many arguments they are given

module _ (spec : Spec) (f : Name) where
  none-given : (g : Option NamedFunction) → takes g Terms.NoTerms ≡ true → Holds (function_interval g []) (pos 0)
  none-given (Some function.If) e = absurd (false≢true e)
  none-given (Some function.Succ) e = absurd (false≢true e)
  none-given (Some function.Pred) e = absurd (false≢true e)
  none-given (Some function.Abs) e = absurd (false≢true e)
  none-given (Some function.Max) e = absurd (false≢true e)
  none-given (Some function.Min) e = absurd (false≢true e)
  none-given (Some function.Pos2Nat) e = absurd (false≢true e)
  none-given (Some function.Pos2Int) e = absurd (false≢true e)
  none-given (Some function.Nat2Int) e = absurd (false≢true e)
  none-given None e = truth-held false

  one-given : (g : Option NamedFunction) (x : Term) (i : Option IntegerInterval) (v : Value) → Holds i v → takes g (Terms.Then x Terms.NoTerms) ≡ true
      → Holds (function_interval g (i ∷ [])) (function_of_one spec f g v)
  one-given (Some function.If) x i v h e = absurd (false≢true e)
  one-given (Some function.Succ) x i v h e = one-held UnaryOperation.Successor i v h
  one-given (Some function.Pred) x i v h e = one-held UnaryOperation.Predecessor i v h
  one-given (Some function.Abs) x i v h e = one-held UnaryOperation.AbsoluteValue i v h
  one-given (Some function.Max) x i v h e = absurd (false≢true e)
  one-given (Some function.Min) x i v h e = absurd (false≢true e)
  one-given (Some function.Pos2Nat) x i v h e = h
  one-given (Some function.Pos2Int) x i v h e = h
  one-given (Some function.Nat2Int) x i v h e = h
  one-given None x i v h e = truth-held _

  two-given : (g : Option NamedFunction) (x y : Term) (i j : Option IntegerInterval) (v w : Value) → Holds i v → Holds j w
      → takes g (Terms.Then x (Terms.Then y Terms.NoTerms)) ≡ true → Holds (function_interval g (i ∷ j ∷ [])) (function_of_two g v w)
  two-given (Some function.If) x y i j v w h k e = absurd (false≢true e)
  two-given (Some function.Succ) x y i j v w h k e = absurd (false≢true e)
  two-given (Some function.Pred) x y i j v w h k e = absurd (false≢true e)
  two-given (Some function.Abs) x y i j v w h k e = absurd (false≢true e)
  two-given (Some function.Max) x y i j v w h k e = two-held BinaryOperation.Maximum i j v w h k
  two-given (Some function.Min) x y i j v w h k e = two-held BinaryOperation.Minimum i j v w h k
  two-given (Some function.Pos2Nat) x y i j v w h k e = absurd (false≢true e)
  two-given (Some function.Pos2Int) x y i j v w h k e = absurd (false≢true e)
  two-given (Some function.Nat2Int) x y i j v w h k e = absurd (false≢true e)
  two-given None x y i j v w h k e = truth-held false

  three-given : (g : Option NamedFunction) (x y z : Term) (i j k : Option IntegerInterval) (u v w : Value) → Holds j v → Holds k w
      → takes g (Terms.Then x (Terms.Then y (Terms.Then z Terms.NoTerms))) ≡ true → Holds (function_interval g (i ∷ j ∷ k ∷ [])) (function_of_three g u v w)
  three-given (Some function.If) x y z i j k u v w h m e = choice-held (is_true u) j k v w h m
  three-given (Some function.Succ) x y z i j k u v w h m e = absurd (false≢true e)
  three-given (Some function.Pred) x y z i j k u v w h m e = absurd (false≢true e)
  three-given (Some function.Abs) x y z i j k u v w h m e = absurd (false≢true e)
  three-given (Some function.Max) x y z i j k u v w h m e = absurd (false≢true e)
  three-given (Some function.Min) x y z i j k u v w h m e = absurd (false≢true e)
  three-given (Some function.Pos2Nat) x y z i j k u v w h m e = absurd (false≢true e)
  three-given (Some function.Pos2Int) x y z i j k u v w h m e = absurd (false≢true e)
  three-given (Some function.Nat2Int) x y z i j k u v w h m e = absurd (false≢true e)
  three-given None x y z i j k u v w h m e = truth-held false

  more-given : (g : Option NamedFunction) (x y z t : Term) (xs : Terms) (is : List (Option IntegerInterval))
      → takes g (Terms.Then x (Terms.Then y (Terms.Then z (Terms.Then t xs)))) ≡ true → Holds (function_interval g is) (pos 0)
  more-given (Some function.If) x y z t xs is e = absurd (false≢true e)
  more-given (Some function.Succ) x y z t xs is e = absurd (false≢true e)
  more-given (Some function.Pred) x y z t xs is e = absurd (false≢true e)
  more-given (Some function.Abs) x y z t xs is e = absurd (false≢true e)
  more-given (Some function.Max) x y z t xs is e = absurd (false≢true e)
  more-given (Some function.Min) x y z t xs is e = absurd (false≢true e)
  more-given (Some function.Pos2Nat) x y z t xs is e = absurd (false≢true e)
  more-given (Some function.Pos2Int) x y z t xs is e = absurd (false≢true e)
  more-given (Some function.Nat2Int) x y z t xs is e = absurd (false≢true e)
  more-given None x y z t xs is e = truth-held false

-- ---- terms

pub intervals_hold : IntervalsHold
intervals_hold spec ys a (Term.Truth b) h = alone-held (of_bool b)
intervals_hold spec ys a (Term.Number n) h = small-held (pos n)
intervals_hold spec ys a (Term.Named x) h = h
intervals_hold spec ys a (Term.Not x) h = truth-held _
intervals_hold spec ys a (Term.Negative x) h = one-held UnaryOperation.Negation (interval spec ys x) (value spec a x) (intervals_hold spec ys a x h)
intervals_hold spec ys a (Term.Binary Operator.And x y) h = truth-held _
intervals_hold spec ys a (Term.Binary Operator.Or x y) h = truth-held _
intervals_hold spec ys a (Term.Binary Operator.Implies x y) h = truth-held _
intervals_hold spec ys a (Term.Binary Operator.Equal x y) h = truth-held _
intervals_hold spec ys a (Term.Binary Operator.NotEqual x y) h = truth-held _
intervals_hold spec ys a (Term.Binary Operator.Less x y) h = truth-held _
intervals_hold spec ys a (Term.Binary Operator.LessEqual x y) h = truth-held _
intervals_hold spec ys a (Term.Binary Operator.Greater x y) h = truth-held _
intervals_hold spec ys a (Term.Binary Operator.GreaterEqual x y) h = truth-held _
intervals_hold spec ys a (Term.Binary Operator.Plus x y) h =
    two-held BinaryOperation.Sum (interval spec ys x) (interval spec ys y) (value spec a x) (value spec a y) (intervals_hold spec ys a x h.0) (intervals_hold spec ys a y h.1)
intervals_hold spec ys a (Term.Binary Operator.Minus x y) h =
    two-held BinaryOperation.Difference (interval spec ys x) (interval spec ys y) (value spec a x) (value spec a y) (intervals_hold spec ys a x h.0) (intervals_hold spec ys a y h.1)
intervals_hold spec ys a (Term.Binary Operator.Times x y) h =
    two-held BinaryOperation.Product (interval spec ys x) (interval spec ys y) (value spec a x) (value spec a y) (intervals_hold spec ys a x h.0) (intervals_hold spec ys a y h.1)
intervals_hold spec ys a (Term.Binary Operator.Div x y) h =
    two-held BinaryOperation.Quotient (interval spec ys x) (interval spec ys y) (value spec a x) (value spec a y) (intervals_hold spec ys a x h.0) (intervals_hold spec ys a y h.1)
intervals_hold spec ys a (Term.Binary Operator.Mod x y) h =
    two-held BinaryOperation.Remainder (interval spec ys x) (interval spec ys y) (value spec a x) (value spec a y) (intervals_hold spec ys a x h.0) (intervals_hold spec ys a y h.1)
intervals_hold spec ys a (Term.Apply f Terms.NoTerms) h = none-given spec f (named_function f) h.0
intervals_hold spec ys a (Term.Apply f (Terms.Then x Terms.NoTerms)) h =
    one-given spec f (named_function f) x (interval spec ys x) (value spec a x) (intervals_hold spec ys a x h.1.0) h.0
intervals_hold spec ys a (Term.Apply f (Terms.Then x (Terms.Then y Terms.NoTerms))) h =
    two-given spec f (named_function f) x y (interval spec ys x) (interval spec ys y) (value spec a x) (value spec a y)
    (intervals_hold spec ys a x h.1.0) (intervals_hold spec ys a y h.1.1.0) h.0
intervals_hold spec ys a (Term.Apply f (Terms.Then x (Terms.Then y (Terms.Then z Terms.NoTerms)))) h =
    three-given spec f (named_function f) x y z (interval spec ys x) (interval spec ys y) (interval spec ys z) (value spec a x) (value spec a y) (value spec a z)
    (intervals_hold spec ys a y h.1.1.0) (intervals_hold spec ys a z h.1.1.1.0) h.0
intervals_hold spec ys a (Term.Apply f (Terms.Then x (Terms.Then y (Terms.Then z (Terms.Then t xs))))) h =
    more-given spec f (named_function f) x y z t xs (intervals spec ys (Terms.Then x (Terms.Then y (Terms.Then z (Terms.Then t xs))))) h.0
intervals_hold spec ys a (Term.Quantified q xs x) h = truth-held _
