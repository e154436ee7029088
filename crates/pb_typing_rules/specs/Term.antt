-- The kind and interval of a data term, and which terms are well typed.
use Rattle.std.specs.Prelude.{◌≡◌, pos, Bool, true, false, ⊤, List, [], ◌∷◌, length, Option, Some, None}
use Rattle.pb_text_meaning.specs.Syntax.{Term, Terms, Spec}
use Rattle.pb_base_values.specs.Interval.{is_included, singleton, literals}
use Rattle.pb_base_values.specs.Operation.{Negation}
use Rattle.pb_typing_declarations.specs.Shapes.{Shape, Unknown, Truths}
use Rattle.pb_typing_declarations.specs.WellDeclared.{AreVariables}
use Rattle.pb_typing_rules.specs.Shapes.{may_be_truth, may_be_whole, is_limited, literal_shape, unary_shape, unary_is_limited, OperatorKind, OfTruths, OfAlike, OfWholes, Computed, kind_of, accepts, outcome, divisor_is_positive, outcome_is_limited}
use Rattle.pb_typing_rules.specs.Functions.{Function, function_named, arity, takes, result_shape, result_is_limited}
use Rattle.pb_typing_rules.specs.Scope.{Scope, bound, named_shape}

-- ---- shapes

abbrev pub shape_or_unknown : Option Shape → Shape
shape_or_unknown None = Unknown
shape_or_unknown (Some s) = s

abbrev pub applied_shape : Option Function → List Shape → Shape
applied_shape None ss = Unknown
applied_shape (Some f) ss = result_shape f ss

-- the kind and the interval of a term's values, for any term
abbrev mutual
  pub shape : Spec → Scope → Term → Shape
  shape spec scope (Term.Truth b) = Truths
  shape spec scope (Term.Number n) = literal_shape n
  shape spec scope (Term.Named x) = shape_or_unknown (named_shape spec scope x)
  shape spec scope (Term.Not x) = Truths
  shape spec scope (Term.Negative x) = unary_shape Negation (shape spec scope x)
  shape spec scope (Term.Binary o x y) =
      outcome (kind_of o) (shape spec scope x) (shape spec scope y)
  shape spec scope (Term.Apply f xs) = applied_shape (function_named spec f) (shapes spec scope xs)
  shape spec scope (Term.Quantified q xs x) = Truths

  pub shapes : Spec → Scope → Terms → List Shape
  shapes spec scope Terms.NoTerms = []
  shapes spec scope (Terms.Then x xs) = shape spec scope x ∷ shapes spec scope xs

-- ---- well typed

-- whether a quantifier may stand in the operands, where `stands` says whether one may stand at the
-- operator
abbrev pub passes : OperatorKind → Bool → Bool
passes OfTruths stands = stands
passes OfAlike stands = false
passes OfWholes stands = false
passes (Computed o) stands = false

-- each variable and each enumerator is there, and its values are within the limits
abbrev pub IsNamed : Option Shape → Type 0
IsNamed None = ⊥
IsNamed (Some s) = is_limited s ≡ true

-- a function that is there, with as many arguments as it takes, of the kinds that it takes
abbrev pub IsApplied : Option Function → List Shape → Type 0
IsApplied None ss = ⊥
IsApplied (Some f) ss =
    (length ss ≡ arity f) × (takes f ss ≡ true) × (result_is_limited f ss ≡ true)

abbrev pub IsOperation : OperatorKind → Shape → Shape → Type 0
IsOperation o s t =
    (accepts o s t ≡ true) × (divisor_is_positive o t ≡ true) × (outcome_is_limited o s t ≡ true)

-- `stands` says whether a quantifier may stand here: below nothing but !, &&, ||, => and other
-- quantifiers
abbrev mutual
  pub IsTyped : Spec → Bool → Scope → Term → Type 0
  IsTyped spec stands scope (Term.Truth b) = ⊤
  IsTyped spec stands scope (Term.Number n) = is_included (singleton (pos n)) literals ≡ true
  IsTyped spec stands scope (Term.Named x) = IsNamed (named_shape spec scope x)
  IsTyped spec stands scope (Term.Not x) =
      IsTyped spec stands scope x × (may_be_truth (shape spec scope x) ≡ true)
  IsTyped spec stands scope (Term.Negative x) =
      IsTyped spec false scope x
      × (may_be_whole (shape spec scope x) ≡ true)
      × (unary_is_limited Negation (shape spec scope x) ≡ true)
  IsTyped spec stands scope (Term.Binary o x y) =
      IsTyped spec (passes (kind_of o) stands) scope x
      × IsTyped spec (passes (kind_of o) stands) scope y
      × IsOperation (kind_of o) (shape spec scope x) (shape spec scope y)
  IsTyped spec stands scope (Term.Apply f xs) =
      AreTyped spec scope xs × IsApplied (function_named spec f) (shapes spec scope xs)
  IsTyped spec stands scope (Term.Quantified q xs x) =
      (stands ≡ true)
      × AreVariables spec xs
      × IsTyped spec stands (bound spec xs scope) x
      × (may_be_truth (shape spec (bound spec xs scope) x) ≡ true)

  -- arguments, where no quantifier may stand
  pub AreTyped : Spec → Scope → Terms → Type 0
  AreTyped spec scope Terms.NoTerms = ⊤
  AreTyped spec scope (Terms.Then x xs) = IsTyped spec false scope x × AreTyped spec scope xs
