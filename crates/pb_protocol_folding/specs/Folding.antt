-- Terms folded where values that are written decide them.
use Rattle.std.specs.Prelude.{ℕ, suc, pos, negsuc, neg_ℤ, int_le, Bool, true, false, not, ◌&&◌}
use Rattle.std.specs.Prelude.{if◌then◌else◌, List, [], ◌∷◌, Option, Some, None}
use Rattle.std.specs.Ordering.{int_eq}
use Rattle.pb_base_values.specs.Carrier.{Value, of_bool}
use Rattle.pb_text_tree.specs.declared.operator.Quantifier.{Quantifier}
use Rattle.pb_text_tree.specs.declared.operator.Quantifier.TheVariants.{Forall, Exists}
use Rattle.pb_text_meaning.specs.Syntax.{Name, same_name, Operator, Term, Terms, Spec}
use Rattle.pb_text_meaning.specs.declared.function.NamedFunction.{NamedFunction}
use Rattle.pb_text_meaning.specs.declared.function.NamedFunction.TheVariants.{If}
use Rattle.pb_text_meaning.specs.Functions.{named_function}
use Rattle.pb_text_meaning.specs.Sorts.{is_recogniser, place_in}
use Rattle.pb_text_meaning.specs.Value.{is_true, binary, named_of_one, named_of_two}

-- ---- written values

-- a whole number as a term
abbrev pub number : Value → Term
number (pos n) = Term.Number n
number (negsuc n) = Term.Negative (Term.Number (suc n))

-- numbers of 32 bits are computed with, so that each result is a number of 64 bits
abbrev pub is_small : Value → Bool
is_small v = int_le (negsuc 2147483647) v && int_le v (pos 2147483647)

abbrev pub small_value : Value → Option Value
small_value v = if is_small v then Some v else None

-- the place of an enumerator, if there is one
abbrev pub place_value : Option ℕ → Option Value
place_value (Some n) = small_value (pos n)
place_value None = None

-- the value of a term that is written as one: a truth value, a small number or an enumerator
abbrev pub written_value : Spec → Term → Option Value
written_value spec (Term.Truth b) = Some (of_bool b)
written_value spec (Term.Number n) = small_value (pos n)
written_value spec (Term.Negative (Term.Number n)) = small_value (neg_ℤ (pos n))
written_value spec (Term.Named x) = place_value (place_in (λ e. same_name e.name x) spec.sorts)
written_value spec x = None

-- the truth value that a term is written as
abbrev pub truth_value : Term → Option Bool
truth_value (Term.Truth b) = Some b
truth_value x = None

-- whether a term is `false`
abbrev pub is_false : Term → Bool
is_false (Term.Truth b) = not b
is_false x = false

abbrev pub is_comparison : Operator → Bool
is_comparison Operator.Equal = true
is_comparison Operator.NotEqual = true
is_comparison Operator.Less = true
is_comparison Operator.LessEqual = true
is_comparison Operator.Greater = true
is_comparison Operator.GreaterEqual = true
is_comparison o = false

-- whether a term has a truth value, whatever its names stand for
abbrev pub is_test : Term → Bool
is_test (Term.Truth b) = true
is_test (Term.Not x) = true
is_test (Term.Binary Operator.And x y) = true
is_test (Term.Binary Operator.Or x y) = true
is_test (Term.Binary Operator.Implies x y) = true
is_test (Term.Binary o x y) = is_comparison o
is_test (Term.Quantified q xs x) = true
is_test x = false

-- where only the truth counts the decided term, and else only if that has a truth value
abbrev pub settled : Bool → Term → Term → Term
settled true decided whole = decided
settled false decided whole = if is_test decided then decided else whole

-- ---- connectives, by the truth values that their operands are written as

abbrev pub and_of : Option Bool → Option Bool → Term → Term → Term
and_of (Some true) c x y = y
and_of (Some false) c x y = Term.Truth false
and_of None (Some true) x y = x
and_of None (Some false) x y = Term.Truth false
and_of None None x y = Term.Binary Operator.And x y

abbrev pub or_of : Option Bool → Option Bool → Term → Term → Term
or_of (Some true) c x y = Term.Truth true
or_of (Some false) c x y = y
or_of None (Some true) x y = Term.Truth true
or_of None (Some false) x y = x
or_of None None x y = Term.Binary Operator.Or x y

abbrev pub implies_of : Option Bool → Option Bool → Term → Term → Term
implies_of (Some true) c x y = y
implies_of (Some false) c x y = Term.Truth true
implies_of None (Some true) x y = Term.Truth true
implies_of None (Some false) x y = Term.Not x
implies_of None None x y = Term.Binary Operator.Implies x y

abbrev pub not_of : Option Bool → Term → Term
not_of (Some b) x = Term.Truth (not b)
not_of None x = Term.Not x

-- x && y, x || y, x => y and !x of folded operands, where only the truth counts, or the value
abbrev pub folded_and : Bool → Term → Term → Term
folded_and truth x y =
    settled truth (and_of (truth_value x) (truth_value y) x y) (Term.Binary Operator.And x y)

abbrev pub folded_or : Bool → Term → Term → Term
folded_or truth x y =
    settled truth (or_of (truth_value x) (truth_value y) x y) (Term.Binary Operator.Or x y)

abbrev pub folded_implies : Bool → Term → Term → Term
folded_implies truth x y =
    settled truth (implies_of (truth_value x) (truth_value y) x y)
    (Term.Binary Operator.Implies x y)

abbrev pub folded_not : Term → Term
folded_not x = not_of (truth_value x) x

-- x1 && .. && xn && true and x1 || .. || xn || false of folded operands
abbrev pub folded_joined : Quantifier → Bool → List Term → Term
folded_joined Forall truth [] = Term.Truth true
folded_joined Exists truth [] = Term.Truth false
folded_joined Forall truth (x ∷ xs) = folded_and truth x (folded_joined Forall true xs)
folded_joined Exists truth (x ∷ xs) = folded_or truth x (folded_joined Exists true xs)

-- ---- comparisons and numbers, by the values that their operands are written as

abbrev pub negative_of : Option Value → Term → Term
negative_of (Some v) x = number (neg_ℤ v)
negative_of None x = Term.Negative x

abbrev pub computed : Operator → Value → Value → Term
computed o v w =
    if is_comparison o then Term.Truth (is_true (binary o v w)) else number (binary o v w)

-- Nothing is divided by less than 1: the operation stays, where T09 of the text is told.
abbrev pub may_compute : Operator → Value → Bool
may_compute Operator.Div w = int_le (pos 1) w
may_compute Operator.Mod w = int_le (pos 1) w
may_compute o w = true

abbrev pub operation_of : Operator → Option Value → Option Value → Term → Term → Term
operation_of o (Some v) (Some w) x y =
    if may_compute o w then computed o v w else Term.Binary o x y
operation_of o v w x y = Term.Binary o x y

-- -x, and a comparison or operator of two numbers, of folded operands
abbrev pub folded_negative : Spec → Term → Term
folded_negative spec x = negative_of (written_value spec x) x

abbrev pub folded_operation : Spec → Operator → Term → Term → Term
folded_operation spec o x y = operation_of o (written_value spec x) (written_value spec y) x y

-- ---- functions of folded arguments

-- a recogniser of the enumerator at this place, if there is one
abbrev pub recogniser_of : Option ℕ → Value → Term → Term
recogniser_of (Some n) v whole = Term.Truth (int_eq v (pos n))
recogniser_of None v whole = whole

abbrev pub function_of_one : Spec → Name → Option NamedFunction → Option Value → Term → Term
function_of_one spec f (Some g) (Some v) whole = number (named_of_one g v)
function_of_one spec f None (Some v) whole =
    recogniser_of (place_in (λ e. is_recogniser f e.recogniser) spec.sorts) v whole
function_of_one spec f g None whole = whole

abbrev pub function_of_two : Option NamedFunction → Option Value → Option Value → Term → Term
function_of_two (Some g) (Some v) (Some w) whole = number (named_of_two g v w)
function_of_two g v w whole = whole

-- if(b, x, y), where b may be a truth value
abbrev pub function_of_three : Option NamedFunction → Option Bool → Term → Term → Term → Term
function_of_three (Some If) (Some true) x y whole = x
function_of_three (Some If) (Some false) x y whole = y
function_of_three g b x y whole = whole

abbrev pub folded_application : Spec → Name → Terms → Term
folded_application spec f (Terms.Then x Terms.NoTerms) =
    function_of_one spec f (named_function f) (written_value spec x)
    (Term.Apply f (Terms.Then x Terms.NoTerms))
folded_application spec f (Terms.Then x (Terms.Then y Terms.NoTerms)) =
    function_of_two (named_function f) (written_value spec x) (written_value spec y)
    (Term.Apply f (Terms.Then x (Terms.Then y Terms.NoTerms)))
folded_application spec f (Terms.Then x (Terms.Then y (Terms.Then z Terms.NoTerms))) =
    function_of_three (named_function f) (truth_value x) y z
    (Term.Apply f (Terms.Then x (Terms.Then y (Terms.Then z Terms.NoTerms))))
folded_application spec f xs = Term.Apply f xs

-- whether only the truth of a function's first argument counts
abbrev pub is_if : Option NamedFunction → Bool
is_if (Some If) = true
is_if f = false

-- ---- terms

-- a term where only its truth counts, or its value
abbrev mutual
  pub folded : Spec → Bool → Term → Term
  folded spec truth (Term.Truth b) = Term.Truth b
  folded spec truth (Term.Number n) = Term.Number n
  folded spec truth (Term.Named x) = Term.Named x
  folded spec truth (Term.Not x) = folded_not (folded spec true x)
  folded spec truth (Term.Negative x) = folded_negative spec (folded spec false x)
  folded spec truth (Term.Binary Operator.And x y) =
      folded_and truth (folded spec true x) (folded spec true y)
  folded spec truth (Term.Binary Operator.Or x y) =
      folded_or truth (folded spec true x) (folded spec true y)
  folded spec truth (Term.Binary Operator.Implies x y) =
      folded_implies truth (folded spec true x) (folded spec true y)
  folded spec truth (Term.Binary o x y) =
      folded_operation spec o (folded spec false x) (folded spec false y)
  folded spec truth (Term.Apply f xs) =
      folded_application spec f (folded_arguments spec (is_if (named_function f)) xs)
  folded spec truth (Term.Quantified q xs x) = Term.Quantified q xs x

  -- arguments, of which the first may count by its truth alone
  pub folded_arguments : Spec → Bool → Terms → Terms
  folded_arguments spec truth Terms.NoTerms = Terms.NoTerms
  folded_arguments spec truth (Terms.Then x xs) =
      Terms.Then (folded spec truth x) (folded_arguments spec false xs)
