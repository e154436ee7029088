-- From a model to one with fewer state variables: a group of them becomes one variable, whose value
-- is the number that their values make, the last variable fastest (a mixed radix).
use Rattle.std.specs.Prelude.{ℕ, ◌*◌, nat_eq, ℤ, pos, ◌-ℤ◌}
use Rattle.std.specs.Prelude.{if◌then◌else◌, List, [], ◌∷◌, ◌++◌, map, Option}
use Rattle.std.specs.Prelude.{Some, None, is_some, codes}
use Rattle.std.specs.List.{list_any}
use Rattle.pb_text_meaning.specs.Syntax.{Name, Variable, Term, Terms, Alias}
use Rattle.pb_text_meaning.specs.Syntax.{SortDeclaration, Range}
use Rattle.pb_model_meaning.specs.Syntax.{Assignment, Step, Formula, Property, Model}
use Rattle.pb_model_meaning.specs.Steps.{assigned_term}
use Rattle.pb_model_translation.specs.Translation.{term_or_name}
use Rattle.pb_protocol_packing.specs.Numbers.{Kind, times, between, scaled, plus_all}
use Rattle.pb_protocol_packing.specs.Numbers.{either, to_number, is_surely_within, test_of}
use Rattle.pb_protocol_packing.specs.Said.{Digit, Scope, hidden, said}

-- ---- groups

-- a variable of a group, whose carrier is so many whole numbers from `low` on
pub record Member : Type 0 where
  pub variable : Variable
  pub kind : Kind
  pub low : ℤ
  pub size : ℕ

-- a variable that stays as it is, or variables with the one that they become
pub data Group : Type 0 where
  Alone : Variable → Group
  Joined : Variable → List Member → Group

-- how many values the variables have together
abbrev pub capacity : List Member → ℕ
capacity [] = 1
capacity (p ∷ ps) = p.size * capacity ps

-- the variable of a group in the packed model
abbrev pub variable_of : Group → Variable
variable_of (Alone x) = x
variable_of (Joined x ps) = x

-- ---- what stands for a variable

abbrev pub digit_at : Member → Term → Digit
digit_at p t = record { kind = p.kind; low = p.low; term = t }

-- the variables of a group whose number t is below a limit: each counts as much as those behind it
-- have values together
abbrev pub with_members : ℕ → Term → List Member → Scope → Scope
with_members limit t [] σ = σ
with_members limit t (p ∷ ps) σ =
    with_members limit t ps
    ((p.variable.name, Some (digit_at p (between limit (capacity (p ∷ ps)) (capacity ps) t))) ∷ σ)

abbrev pub with_group : Group → Scope → Scope
with_group (Alone x) σ = hidden (x ∷ []) σ
with_group (Joined x ps) σ = with_members (capacity ps) (Term.Named x.name) ps σ

abbrev pub with_groups : List Group → Scope → Scope
with_groups [] σ = σ
with_groups (g ∷ gs) σ = with_groups gs (with_group g σ)

-- ---- what a group becomes

-- Digits in a row that stay are one addend, without being told apart: those of t that count less
-- than n, and m at least.
abbrev pub kept : ℕ → ℕ → ℕ → Term → Term
kept limit n m t = if nat_eq n m then Term.Number 0 else times (between limit n m t) m

-- What adds up to the number afterwards, from a variable on that counts m. The digits before it
-- that count less than n stay, and aren't added yet: they go on with it where it stays, and end
-- before it where it gets a new digit, which follows them.
abbrev pub addends_by :
    Option Term → ℕ → Term → ℕ → Member → ℕ → (ℕ → List Term) → List Term
addends_by None limit t n p m others = others n
addends_by (Some x) limit t n p m others =
    kept limit n (p.size * m) t ∷ scaled p.size (to_number p.kind p.low x) m ∷ others m

abbrev pub addends : (Name → Option Term) → ℕ → Term → ℕ → List Member → List Term
addends new limit t n [] = kept limit n 1 t ∷ []
addends new limit t n (p ∷ ps) =
    addends_by (new p.variable.name) limit t n p (capacity ps)
    (λ m. addends new limit t m ps)

-- the number that the variables make afterwards, where it was t
abbrev pub number_of : (Name → Option Term) → Term → List Member → Term
number_of new t ps =
    plus_all (Term.Number 0) (addends new (capacity ps) t (capacity ps) ps)

-- whether the values are in their carriers, where that isn't seen
abbrev pub tests_of : Option Term → Member → List Term
tests_of (Some x) p =
    if is_surely_within p.kind p.low p.size x then [] else (test_of p.kind p.low p.size x ∷ [])
tests_of None p = []

abbrev pub all_tests : (Name → Option Term) → List Member → List Term
all_tests new [] = []
all_tests new (p ∷ ps) = tests_of (new p.variable.name) p ++ all_tests new ps

-- x where all tests hold, else y
abbrev pub where_all : List Term → Term → Term → Term
where_all [] x y = x
where_all (t ∷ ts) x y = either t (where_all ts x y) y

-- the number afterwards, and one outside the range where a variable leaves its carrier
abbrev pub joined_term : (Name → Option Term) → Term → List Member → Term
joined_term new t ps =
    where_all (all_tests new ps) (number_of new t ps) (Term.Number (capacity ps))

-- the term that is assigned to a group, where one is to some of its variables
abbrev pub group_term : (Name → Option Term) → Group → Option Term
group_term new (Alone x) = new x.name
group_term new (Joined x ps) =
    if list_any (λ (p : Member). is_some (new p.variable.name)) ps
    then Some (joined_term new (Term.Named x.name) ps) else None

-- ---- the model

abbrev pub with_assignment : Name → Option Term → List Assignment → List Assignment
with_assignment x (Some t) rest = record { variable = x; term = t } ∷ rest
with_assignment x None rest = rest

abbrev pub assignments_of : (Name → Option Term) → List Group → List Assignment
assignments_of new [] = []
assignments_of new (g ∷ gs) =
    with_assignment (variable_of g).name (group_term new g) (assignments_of new gs)

abbrev pub option_said : Scope → Option Term → Option Term
option_said σ (Some x) = Some (said σ x)
option_said σ None = None

-- what a step assigns, said under its own variables
abbrev pub said_by : List Group → Step → Name → Option Term
said_by gs a x =
    option_said (hidden a.variables (with_groups gs [])) (assigned_term a.assignments x)

abbrev pub packed_step : List Group → Step → Step
packed_step gs a = record {
  name = a.name;
  variables = a.variables;
  guard = said (hidden a.variables (with_groups gs [])) a.guard;
  assignments = assignments_of (said_by gs a) gs;
}

-- initial terms, as what is assigned to the variables
abbrev pub initial_assignments : List Variable → Terms → List Assignment
initial_assignments (x ∷ xs) (Terms.Then t ts) =
    record { variable = x.name; term = t } ∷ initial_assignments xs ts
initial_assignments xs ts = []

-- the term that a variable begins with; no variable stands for anything there
abbrev pub begins_with : Model → Name → Option Term
begins_with m x = option_said [] (assigned_term (initial_assignments m.variables m.initial) x)

abbrev pub initial_term : (Name → Option Term) → Group → Term
initial_term new (Alone x) = term_or_name (new x.name) x.name
initial_term new (Joined x ps) = joined_term new (Term.Number 0) ps

abbrev pub initial_terms : (Name → Option Term) → List Group → Terms
initial_terms new [] = Terms.NoTerms
initial_terms new (g ∷ gs) = Terms.Then (initial_term new g) (initial_terms new gs)

-- the sort of a group, whole numbers with a range
abbrev pub with_sort : Group → List SortDeclaration → List SortDeclaration
with_sort (Alone x) rest = rest
with_sort (Joined x ps) rest = record { name = x.sort; sort = Alias (codes "Nat") } ∷ rest

abbrev pub with_sorts : List Group → List SortDeclaration → List SortDeclaration
with_sorts [] rest = rest
with_sorts (g ∷ gs) rest = with_sort g (with_sorts gs rest)

abbrev pub with_range : Group → List Range → List Range
with_range (Alone x) rest = rest
with_range (Joined x ps) rest =
    record { name = x.sort; low = pos 0; high = pos (capacity ps) -ℤ pos 1 } ∷ rest

abbrev pub with_ranges : List Group → List Range → List Range
with_ranges [] rest = rest
with_ranges (g ∷ gs) rest = with_range g (with_ranges gs rest)

-- a formula over the variables of the packed model
abbrev pub formula_said : Scope → Formula → Formula
formula_said σ (Formula.Truth b) = Formula.Truth b
formula_said σ (Formula.Data x) = Formula.Data (said σ x)
formula_said σ (Formula.Named X) = Formula.Named X
formula_said σ (Formula.Not f) = Formula.Not (formula_said σ f)
formula_said σ (Formula.And f g) = Formula.And (formula_said σ f) (formula_said σ g)
formula_said σ (Formula.Or f g) = Formula.Or (formula_said σ f) (formula_said σ g)
formula_said σ (Formula.Implies f g) = Formula.Implies (formula_said σ f) (formula_said σ g)
formula_said σ (Formula.Box A f) = Formula.Box A (formula_said σ f)
formula_said σ (Formula.Diamond A f) = Formula.Diamond A (formula_said σ f)
formula_said σ (Formula.Fixpoint sign X f) = Formula.Fixpoint sign X (formula_said σ f)

abbrev pub packed_formula : List Group → Formula → Formula
packed_formula gs f = formula_said (with_groups gs []) f

abbrev pub packed_property : List Group → Property → Property
packed_property gs p = record { name = p.name; formula = packed_formula gs p.formula }

-- a model with its variables in these groups
abbrev pub packed_by : List Group → Model → Model
packed_by gs m = record {
  sorts = with_sorts gs m.sorts;
  ranges = with_ranges gs m.ranges;
  variables = map variable_of gs;
  steps = map (packed_step gs) m.steps;
  initial = initial_terms (begins_with m) gs;
  properties = map (packed_property gs) m.properties;
}
