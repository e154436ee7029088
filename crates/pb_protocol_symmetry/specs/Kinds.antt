-- Which terms have a value that is permuted with the elements of a sort: a scalar set (Ip and Dill
-- 1996). Elements are compared with elements by == and !=, are indices and arguments of their sort,
-- and are chosen by `if`; quantifiers and counts range over all of them. An enumerator of the sort
-- is an element only where no permutation moves it.
use Rattle.std.specs.Prelude.{◌≡◌, ◌⊎◌, ℕ, pos, Bool, true, false, ⊤, if◌then◌else◌, List, [], ◌∷◌}
use Rattle.std.specs.Prelude.{Option, Some, None, unwrap_or}
use Rattle.pb_base_values.specs.Carrier.{Value, Carrier, contains}
use Rattle.pb_text_tree.specs.declared.operator.Quantifier.{Quantifier}
use Rattle.pb_text_meaning.specs.declared.function.NamedFunction.TheVariants.{If}
use Rattle.pb_text_meaning.specs.Functions.{named_function}
use Rattle.pb_text_meaning.specs.Syntax.{Name, same_name, Variable, Operator, Term, Terms, Spec}
use Rattle.pb_text_meaning.specs.Sorts.{place_in, carrier_of}
use Rattle.pb_text_counting.specs.Counting.{is_counting}
use Rattle.pb_protocol_symmetry.specs.Permutation.{Kind, Element, Plain, kind_of}

-- a state variable or definition: its parameters, and the kind of its values; one without a kind
-- may not be named
pub record Signature : Type 0 where
  pub name : Name
  pub parameters : List Variable
  pub kind : Option Kind

-- what may be named at a state, and where there is no state
pub record Signatures : Type 0 where
  pub at_states : List Signature
  pub at_start : List Signature

abbrev pub IsAmong : List Signature → Signature → Type 0
IsAmong [] s = ⊥
IsAmong (t ∷ signatures) s = (s ≡ t) ⊎ IsAmong signatures s

-- no state variable and no definition has the name
abbrev pub IsUnknown : List Signature → Name → Type 0
IsUnknown [] x = ⊤
IsUnknown (s ∷ signatures) x = (same_name s.name x ≡ false) × IsUnknown signatures x

-- the sort of a variable in scope, the innermost of its name
abbrev pub sort_in : List Variable → Name → Option Name
sort_in [] x = None
sort_in (y ∷ ys) x = if same_name y.name x then Some y.sort else sort_in ys x

-- variables come into scope one by one
abbrev pub extended : List Variable → List Variable → List Variable
extended [] scope = scope
extended (x ∷ xs) scope = extended xs (x ∷ scope)

-- an enumerator's place
abbrev pub enumerator_value : Spec → Name → Value
enumerator_value spec x = pos (unwrap_or (place_in (λ e. same_name e.name x) spec.sorts) 0)

-- the kinds of terms, for the elements of a sort of which those in M may be permuted
mutual
  pub data HasKind (spec : Spec) (sort : Name) (M : Carrier) (signatures : List Signature)
      : List Variable → Kind → Term → Type 0 where
    OfTruth : (scope : List Variable) (b : Bool)
        → HasKind spec sort M signatures scope Plain (Term.Truth b)
    OfNumber : (scope : List Variable) (n : ℕ)
        → HasKind spec sort M signatures scope Plain (Term.Number n)
    OfVariable : (scope : List Variable) (x s : Name) → sort_in scope x ≡ Some s
        → HasKind spec sort M signatures scope (kind_of sort s) (Term.Named x)
    OfScalar : (scope : List Variable) (x : Name) (k : Kind) → sort_in scope x ≡ None
        → IsAmong signatures (record { name = x; parameters = []; kind = Some k })
        → HasKind spec sort M signatures scope k (Term.Named x)
    OfEnumerator : (scope : List Variable) (x : Name) → sort_in scope x ≡ None
        → IsUnknown signatures x → HasKind spec sort M signatures scope Plain (Term.Named x)
    OfFixed : (scope : List Variable) (x : Name) → sort_in scope x ≡ None → IsUnknown signatures x
        → contains M (enumerator_value spec x) ≡ false
        → contains (carrier_of spec sort) (enumerator_value spec x) ≡ true
        → HasKind spec sort M signatures scope Element (Term.Named x)
    OfNot : (scope : List Variable) (x : Term) → HasKind spec sort M signatures scope Plain x
        → HasKind spec sort M signatures scope Plain (Term.Not x)
    OfNegative : (scope : List Variable) (x : Term) → HasKind spec sort M signatures scope Plain x
        → HasKind spec sort M signatures scope Plain (Term.Negative x)
    OfBinary : (scope : List Variable) (o : Operator) (x y : Term)
        → HasKind spec sort M signatures scope Plain x
        → HasKind spec sort M signatures scope Plain y
        → HasKind spec sort M signatures scope Plain (Term.Binary o x y)
    OfEqual : (scope : List Variable) (x y : Term)
        → HasKind spec sort M signatures scope Element x
        → HasKind spec sort M signatures scope Element y
        → HasKind spec sort M signatures scope Plain (Term.Binary Operator.Equal x y)
    OfDifferent : (scope : List Variable) (x y : Term)
        → HasKind spec sort M signatures scope Element x
        → HasKind spec sort M signatures scope Element y
        → HasKind spec sort M signatures scope Plain (Term.Binary Operator.NotEqual x y)
    OfChoice : (scope : List Variable) (k : Kind) (f : Name) (c x y : Term)
        → named_function f ≡ Some If → is_counting f ≡ false → IsUnknown signatures f
        → HasKind spec sort M signatures scope Plain c
        → HasKind spec sort M signatures scope k x → HasKind spec sort M signatures scope k y
        → HasKind spec sort M signatures scope k
        (Term.Apply f (Terms.Then c (Terms.Then x (Terms.Then y Terms.NoTerms))))
    OfFunction : (scope : List Variable) (f : Name) (xs : Terms) → is_counting f ≡ false
        → IsUnknown signatures f → ArePlain spec sort M signatures scope xs
        → HasKind spec sort M signatures scope Plain (Term.Apply f xs)
    OfCall : (scope : List Variable) (f : Name) (z : Variable) (zs : List Variable) (k : Kind)
        (xs : Terms) → is_counting f ≡ false
        → IsAmong signatures (record { name = f; parameters = z ∷ zs; kind = Some k })
        → HaveKinds spec sort M signatures scope (z ∷ zs) xs
        → HasKind spec sort M signatures scope k (Term.Apply f xs)
    OfQuantified : (scope : List Variable) (q : Quantifier) (xs : List Variable) (x : Term)
        → HasKind spec sort M signatures (extended xs scope) Plain x
        → HasKind spec sort M signatures scope Plain (Term.Quantified q xs x)
    OfCount : (scope : List Variable) (f : Name) (q : Quantifier) (xs : List Variable) (x : Term)
        → is_counting f ≡ true → HasKind spec sort M signatures (extended xs scope) Plain x
        → HasKind spec sort M signatures scope Plain
        (Term.Apply f (Terms.Then (Term.Quantified q xs x) Terms.NoTerms))

  pub data ArePlain (spec : Spec) (sort : Name) (M : Carrier) (signatures : List Signature)
      : List Variable → Terms → Type 0 where
    NonePlain : (scope : List Variable) → ArePlain spec sort M signatures scope Terms.NoTerms
    ThenPlain : (scope : List Variable) (x : Term) (xs : Terms)
        → HasKind spec sort M signatures scope Plain x → ArePlain spec sort M signatures scope xs
        → ArePlain spec sort M signatures scope (Terms.Then x xs)

  -- arguments for parameters
  pub data HaveKinds (spec : Spec) (sort : Name) (M : Carrier) (signatures : List Signature)
      : List Variable → List Variable → Terms → Type 0 where
    NoKinds : (scope : List Variable)
        → HaveKinds spec sort M signatures scope [] Terms.NoTerms
    ThenKind : (scope : List Variable) (z : Variable) (zs : List Variable) (x : Term) (xs : Terms)
        → HasKind spec sort M signatures scope (kind_of sort z.sort) x
        → HaveKinds spec sort M signatures scope zs xs
        → HaveKinds spec sort M signatures scope (z ∷ zs) (Terms.Then x xs)
