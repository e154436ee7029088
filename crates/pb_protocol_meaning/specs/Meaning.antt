-- What a term says where state variables and definitions stand in it: its value. Nothing is put in
-- for a name: an array is a function of its indices' values, a definition one of its arguments'.
-- Counting is summation over finite domains (as the sum of mCRL2's data and the sizes of sets in
-- TLA+, Lamport 2002): for how many tuples of values a condition is true.
use Rattle.std.specs.Prelude.{ℕ, suc, pos, neg_ℤ, Bool, true, false, not, ◌&&◌, if◌then◌else◌}
use Rattle.std.specs.Prelude.{List, [], ◌∷◌, flat_map, Option, Some, None}
use Rattle.std.specs.Ordering.{int_eq}
use Rattle.pb_base_values.specs.Carrier.{Value, Carrier, Tuple, of_bool}
use Rattle.pb_text_meaning.specs.Syntax.{Name, same_name, Variable, Term, Terms, Spec}
use Rattle.pb_text_meaning.specs.Value.{Assignment, looked_up, is_true, binary, function_value}
use Rattle.pb_text_meaning.specs.Sorts.{carrier_of}
use Rattle.pb_text_meaning.specs.Value.{named_value, quantified}
use Rattle.pb_text_meaning.specs.Meaning.{assigned}
use Rattle.pb_text_counting.specs.Counting.{is_counting}
use Rattle.pb_protocol_meaning.specs.Syntax.{Definition}

-- ---- all values of variables

-- what f makes of each tuple of values of the variables, the last variable fastest
abbrev pub for_each :
    {A : Type 0} → Spec → List Variable → (Assignment → A) → Assignment → List A
for_each spec [] f a = f a ∷ []
for_each spec (x ∷ xs) f a =
    flat_map (λ v. for_each spec xs f ((x.name, v) ∷ a)) (carrier_of spec x.sort)

-- how many of these are true
abbrev pub true_count : List Bool → ℕ
true_count [] = 0
true_count (true ∷ bs) = suc (true_count bs)
true_count (false ∷ bs) = true_count bs

-- ---- terms

-- what a name gives of its arguments' values, where it is that of a state variable or definition of
-- so many arguments
abbrev pub Functions : Type 0
Functions = Name → Tuple → Option Value

-- where no state variable and no definition may stand
abbrev pub no_functions : Functions
no_functions = λ x vs. None

-- a name: what it stands for, else a state variable or definition, else an enumerator
abbrev pub named_meaning : Spec → Option Value → Option Value → Name → Value
named_meaning spec (Some v) given x = v
named_meaning spec None given x = named_value spec given x

-- a name without arguments stands bare: in front of brackets it is a function of data
abbrev pub given_arguments : Functions → Name → Tuple → Option Value
given_arguments functions f [] = None
given_arguments functions f (v ∷ vs) = functions f (v ∷ vs)

-- a state variable or definition, else a function of data
abbrev pub applied_meaning : Spec → Option Value → Name → Tuple → Value
applied_meaning spec (Some v) f vs = v
applied_meaning spec None f vs = function_value spec f vs

abbrev mutual
  pub meaning : Spec → Functions → Assignment → Term → Value
  meaning spec functions a (Term.Truth b) = of_bool b
  meaning spec functions a (Term.Number n) = pos n
  meaning spec functions a (Term.Named x) = named_meaning spec (looked_up a x) (functions x []) x
  meaning spec functions a (Term.Not x) = of_bool (not (is_true (meaning spec functions a x)))
  meaning spec functions a (Term.Negative x) = neg_ℤ (meaning spec functions a x)
  meaning spec functions a (Term.Binary o x y) =
      binary o (meaning spec functions a x) (meaning spec functions a y)
  meaning spec functions a (Term.Apply f xs) =
      if is_counting f then pos (count spec functions a xs) else
      applied_meaning spec (given_arguments functions f (meanings spec functions a xs)) f
      (meanings spec functions a xs)
  meaning spec functions a (Term.Quantified q xs x) =
      of_bool (quantified spec q xs (λ b. is_true (meaning spec functions b x)) a)

  pub meanings : Spec → Functions → Assignment → Terms → Tuple
  meanings spec functions a Terms.NoTerms = []
  meanings spec functions a (Terms.Then x xs) =
      meaning spec functions a x ∷ meanings spec functions a xs

  -- for how many tuples of values of the variables the body of a quantifier is true
  pub count : Spec → Functions → Assignment → Terms → ℕ
  count spec functions a Terms.NoTerms = 0
  count spec functions a (Terms.Then x xs) = count_of spec functions a x

  pub count_of : Spec → Functions → Assignment → Term → ℕ
  count_of spec functions a (Term.Quantified q xs x) =
      true_count (for_each spec xs (λ b. is_true (meaning spec functions b x)) a)
  count_of spec functions a _ = 0

-- ---- definitions

-- a value for each variable
abbrev pub are_as_many : List Variable → Tuple → Bool
are_as_many [] [] = true
are_as_many (x ∷ xs) (v ∷ vs) = are_as_many xs vs
are_as_many [] (v ∷ vs) = false
are_as_many (x ∷ xs) [] = false

-- a definition is the value of its term where its parameters have the arguments' values
abbrev pub with_definition : Spec → Functions → Definition → Functions
with_definition spec functions d x vs =
    if same_name d.name x && are_as_many d.parameters vs then
    Some (meaning spec functions (assigned d.parameters vs []) d.term) else functions x vs

-- each may name those before it
abbrev pub with_definitions : Spec → Functions → List Definition → Functions
with_definitions spec functions [] = functions
with_definitions spec functions (d ∷ ds) =
    with_definitions spec (with_definition spec functions d) ds

-- ---- arrays

abbrev pub same_values : Tuple → Tuple → Bool
same_values [] [] = true
same_values (v ∷ vs) (w ∷ ws) = int_eq v w && same_values vs ws
same_values [] (w ∷ ws) = false
same_values (v ∷ vs) [] = false

-- a value of this carrier; one that isn't among them counts as the last
abbrev pub inside : Carrier → Value → Value
inside [] v = v
inside (u ∷ []) v = u
inside (u ∷ w ∷ us) v = if int_eq v u then u else inside (w ∷ us) v

abbrev pub all_inside : List Carrier → Tuple → Tuple
all_inside (c ∷ cs) (v ∷ vs) = inside c v ∷ all_inside cs vs
all_inside [] vs = []
all_inside (c ∷ cs) [] = []

-- the value that stands beside an index, where indices and values stand side by side; else 0
abbrev pub value_beside : List Tuple → List Value → Tuple → Value
value_beside (i ∷ is) (v ∷ vs) index =
    if same_values i index then v else value_beside is vs index
value_beside [] vs index = pos 0
value_beside (i ∷ is) [] index = pos 0
