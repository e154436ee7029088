-- Elaboration: which typed tree a text has. Names become slots, enumerators, functions and places
-- of equations, and each argument has the kind and the interval of its values.
use Rattle.std.specs.Prelude.{ℕ, suc, ◌+◌, Bool, true, false, if◌then◌else◌, List, [], ◌∷◌, length, map, Option, Some, None}
use Rattle.pb_text_tree.specs.declared.operator.Connective.TheVariants as connective
use Rattle.pb_text_tree.specs.declared.operator.Quantifier.{Quantifier}
use Rattle.pb_text_meaning.specs.Syntax as syntax
use Rattle.pb_text_meaning.specs.Syntax.{Name, same_name, Variable, Terms, Equation, Spec}
use Rattle.pb_text_meaning.specs.declared.function.NamedFunction.{NamedFunction}
use Rattle.pb_text_meaning.specs.declared.function.NamedFunction.TheVariants.{If, Succ, Pred, Abs, Max, Min, Pos2Nat, Pos2Int, Nat2Int}
use Rattle.pb_text_meaning.specs.Functions.{named_function}
use Rattle.pb_typing_declarations.specs.Shapes.{sort_shape}
use Rattle.pb_typing_declarations.specs.Enumerators.{Position, enumerator_of, recogniser_of}
use Rattle.pb_typing_rules.specs.Scope.{Scope, bound}
use Rattle.pb_typing_rules.specs.Term.{shape}
use Rattle.pb_typing_rules.specs.WellTyped.{parameter_scope}
use Rattle.pb_typing_tree.specs.Expansion.{expanded}
use Rattle.pb_typing_tree.specs.Tree.{Term, Number, Slot, Negative, Absolute, Successor, Predecessor, Binary, Maximum, Minimum, Choice, Recognised, Argument, Formula, Test, Negation, Connected, Quantified, Call}

-- ---- slots

-- the slots of the variables in scope
abbrev pub Slotting : Type 0
Slotting = Name → Option ℕ

-- no variable is in scope
abbrev pub unslotted : Slotting
unslotted = λ x. None

-- a variable that hides others of its name
abbrev pub with_slot : Name → ℕ → Slotting → Slotting
with_slot y n c = λ x. if same_name y x then Some n else c x

-- a list of variables, the next slots being theirs
abbrev pub with_slots : List Variable → ℕ → Slotting → Slotting
with_slots [] n c = c
with_slots (x ∷ xs) n c = with_slots xs (suc n) (with_slot x.name n c)

-- ---- data terms

-- an enumerator, by its struct and its place there
abbrev pub term_of_enumerator : Option Position → Term
term_of_enumerator None = Number 0
term_of_enumerator (Some p) = Term.Enumerator p.sort p.place

-- a variable, else an enumerator
abbrev pub term_of_name : Spec → Option ℕ → Name → Term
term_of_name spec (Some s) x = Slot s
term_of_name spec None x = term_of_enumerator (enumerator_of spec x)

abbrev pub recognised : Option Position → Term → Term
recognised None x = Term.Truth false
recognised (Some p) x = Recognised p.sort p.place x

-- a named function over its arguments; a conversion changes nothing
abbrev pub named_to_one : NamedFunction → Term → Term
named_to_one Succ x = Successor x
named_to_one Pred x = Predecessor x
named_to_one Abs x = Absolute x
named_to_one Pos2Nat x = x
named_to_one Pos2Int x = x
named_to_one Nat2Int x = x
named_to_one _ x = Number 0

abbrev pub named_to_two : NamedFunction → Term → Term → Term
named_to_two Max x y = Maximum x y
named_to_two Min x y = Minimum x y
named_to_two _ x y = Number 0

abbrev pub named_to_three : NamedFunction → Term → Term → Term → Term
named_to_three If x y z = Choice x y z
named_to_three _ x y z = Number 0

-- a named function, else a recogniser
abbrev pub applied_to_one : Spec → Name → Option NamedFunction → Term → Term
applied_to_one spec f (Some g) x = named_to_one g x
applied_to_one spec f None x = recognised (recogniser_of spec f) x

abbrev pub applied_to_two : Option NamedFunction → Term → Term → Term
applied_to_two (Some g) x y = named_to_two g x y
applied_to_two None x y = Number 0

abbrev pub applied_to_three : Option NamedFunction → Term → Term → Term → Term
applied_to_three (Some g) x y z = named_to_three g x y z
applied_to_three None x y z = Number 0

abbrev pub applied : Spec → Name → List Term → Term
applied spec f (x ∷ []) = applied_to_one spec f (named_function f) x
applied spec f (x ∷ y ∷ []) = applied_to_two (named_function f) x y
applied spec f (x ∷ y ∷ z ∷ []) = applied_to_three (named_function f) x y z
applied spec f xs = Number 0

-- a data term without quantifiers, over slots
abbrev mutual
  pub slotted : Spec → Slotting → syntax.Term → Term
  slotted spec c (syntax.Term.Truth b) = Term.Truth b
  slotted spec c (syntax.Term.Number n) = Number n
  slotted spec c (syntax.Term.Named x) = term_of_name spec (c x) x
  slotted spec c (syntax.Term.Not x) = Term.Not (slotted spec c x)
  slotted spec c (syntax.Term.Negative x) = Negative (slotted spec c x)
  slotted spec c (syntax.Term.Binary o x y) = Binary o (slotted spec c x) (slotted spec c y)
  slotted spec c (syntax.Term.Apply f xs) = applied spec f (slotted_all spec c xs)
  slotted spec c (syntax.Term.Quantified q xs x) = Term.Truth false

  pub slotted_all : Spec → Slotting → Terms → List Term
  slotted_all spec c Terms.NoTerms = []
  slotted_all spec c (Terms.Then x xs) = slotted spec c x ∷ slotted_all spec c xs

-- ---- formulas

-- how many slots the quantifiers of a formula take
abbrev pub width : syntax.Formula → ℕ
width (syntax.Formula.Truth b) = 0
width (syntax.Formula.Val x) = 0
width (syntax.Formula.Not f) = width f
width (syntax.Formula.And f g) = width f + width g
width (syntax.Formula.Or f g) = width f + width g
width (syntax.Formula.Implies f g) = width f + width g
width (syntax.Formula.Quantified q xs f) = length xs + width f
width (syntax.Formula.Call X es) = 0

-- one quantifier for each variable, the next slots being theirs
abbrev pub each : Spec → Quantifier → List Variable → Slotting → ℕ → (Slotting → ℕ → Formula)
    → Formula
each spec q [] c n body = body c n
each spec q (x ∷ xs) c n body =
    Quantified q n (sort_shape spec x.sort) (each spec q xs (with_slot x.name n c) (suc n) body)

abbrev pub arguments : Spec → Slotting → Scope → Terms → List Argument
arguments spec c scope Terms.NoTerms = []
arguments spec c scope (Terms.Then x xs) =
    record { term = slotted spec c x; shape = shape spec scope x } ∷ arguments spec c scope xs

-- the place of the first equation of a name
abbrev pub place_of : ℕ → List Equation → Name → Option ℕ
place_of n [] x = None
place_of n (X ∷ E) x = if same_name X.name x then Some n else place_of (suc n) E x

abbrev pub call : Option ℕ → List Argument → Formula
call None es = Test (Term.Truth false)
call (Some X) es = Call X es

-- The typed tree of a formula whose data has no quantifiers, in a scope, where the slots from n on
-- are free.
abbrev pub elaborated : Spec → Slotting → Scope → ℕ → syntax.Formula → Formula
elaborated spec c scope n (syntax.Formula.Truth b) = Test (Term.Truth b)
elaborated spec c scope n (syntax.Formula.Val x) = Test (slotted spec c x)
elaborated spec c scope n (syntax.Formula.Not f) = Negation (elaborated spec c scope n f)
elaborated spec c scope n (syntax.Formula.And f g) =
    Connected connective.And (elaborated spec c scope n f) (elaborated spec c scope (n + width f) g)
elaborated spec c scope n (syntax.Formula.Or f g) =
    Connected connective.Or (elaborated spec c scope n f) (elaborated spec c scope (n + width f) g)
elaborated spec c scope n (syntax.Formula.Implies f g) =
    Connected connective.Implies (elaborated spec c scope n f)
    (elaborated spec c scope (n + width f) g)
elaborated spec c scope n (syntax.Formula.Quantified q xs f) =
    each spec q xs c n (λ d m. elaborated spec d (bound spec xs scope) m f)
elaborated spec c scope n (syntax.Formula.Call X es) =
    call (place_of 0 spec.equations X) (arguments spec c scope es)

-- ---- equations

-- the typed right side of an equation, whose parameters have the first slots
abbrev pub elaborated_equation : Spec → Equation → Formula
elaborated_equation spec X =
    elaborated spec (with_slots X.parameters 0 unslotted) (parameter_scope spec X)
    (length X.parameters) (expanded X.right)

abbrev pub elaborated_equations : Spec → List Equation → List Formula
elaborated_equations spec E = map (elaborated_equation spec) E
