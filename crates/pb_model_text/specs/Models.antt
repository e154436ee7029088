-- The grammar of models, one production for each row (this project's own): constants, sorts, the
-- state, definitions, steps, the initial state and properties. Enumerators, variables and data
-- terms are those of texts. What a model says is a protocol, with its constants and bounds: arrays
-- and definitions stand in it as they are written.
use Rattle.std.specs.Prelude.{◌≡◌, ℕ, if◌then◌else◌, List, [], ◌∷◌}
use Rattle.std.specs.Prelude.{◌++◌, map, flat_map, codes, Option, Some, None}
use Rattle.std.specs.Str.{bytes_eq}
use Rattle.pb_text_tree.specs.declared.place.Place.{Place}
use Rattle.pb_text_tree.specs.Form.{Named, VariableForm, TermForm, RangeForm}
use Rattle.pb_text_tree.specs.Form.{SortForm, struct, alias, SortDeclarationForm}
use Rattle.pb_text_lexer.specs.declared.kind.Kind.{Kind}
use Rattle.pb_text_lexer.specs.declared.kind.Kind.TheVariants as k
use Rattle.pb_text_lexer.specs.Grammar.{Reads, ◌>>=◌, Is, Nothing, One, First, Series}
use Rattle.pb_text_lexer.specs.Grammar.{CountedApart}
use Rattle.pb_text_lexer.specs.LeftGrammar.{Extended, Listed}
use Rattle.pb_text_lexer.specs.Tokens.{Tok}
use Rattle.pb_text_terms.specs.Grammar.{Name, Placed, arguments_of}
use Rattle.pb_text_terms.specs.Grammar.{Equated, IsUnary, IsTerm, Variables}
use Rattle.pb_text_formulas.specs.Grammar.{Enumerator}
use Rattle.pb_text.specs.Grammar.{Declared}
use Rattle.pb_model_tree.specs.Form.{InitialForm}
use Rattle.pb_protocol_tree.specs.Form.{StateVariableForm}
use Rattle.pb_protocol_tree.specs.Form.{DefinitionForm, CopiesForm, AssignmentForm, StepForm}
use Rattle.pb_protocol_tree.specs.Form.{PropertyForm, ConstantForm, BoundsForm, ModelTextForm}
use Rattle.pb_model_text.specs.Grammar.{Beginning, IsFormula, IsInstance, Word}

-- ---- constants

-- the name that begins them, which is one everywhere else
abbrev pub const_of : List ℕ → Option (Unit {0})
const_of text = if bytes_eq text (codes "const") then Some tt else None

-- a name and the data whose value it stands for
abbrev pub IsConstant : ℕ → Reads ConstantForm
IsConstant depth = do
  name ← Name
  is ← One k.Is
  value ← Placed (IsTerm depth)
  Is (record { name = name; place = value.0; value = value.1 })

abbrev pub ConstantPart : ℕ → Reads (List ConstantForm)
ConstantPart depth = do
  word ← Word const_of
  constants ← Listed (IsConstant depth) (One k.Comma)
  semicolon ← One k.Semicolon
  Is constants

-- with all the operators that are allowed, if there are any
abbrev pub Constants : ℕ → Reads (List ConstantForm)
Constants depth = Extended (Is []) (λ none. CountedApart (ConstantPart depth))

-- ---- sorts

-- a declaration, and the sort's bounds where it is declared by them
pub record DeclaredSort : Type 0 where
  pub declaration : SortDeclarationForm
  pub bounds : Option BoundsForm

abbrev pub declared_as : Named → SortForm → DeclaredSort
declared_as name sort =
    record { declaration = record { name = name; sort = sort }; bounds = None }

-- a sort of the whole numbers within bounds is another name of Int, where the first of them stands
abbrev pub integers_at : Place → Named
integers_at place = record { place = place; text = codes "Int" }

abbrev pub declared_within : Named → Place × TermForm → Place × TermForm → DeclaredSort
declared_within name low high = record {
  declaration = record { name = name; sort = alias (integers_at low.0) };
  bounds = Some (record {
    sort = name;
    low_place = low.0;
    low = low.1;
    high_place = high.0;
    high = high.1;
  });
}

-- data without connectives, with the place of its first token
abbrev pub IsBound : ℕ → Reads (Place × TermForm)
IsBound depth = Placed (Equated (IsUnary depth))

-- what stands behind the least value: two periods, the greatest value, and the semicolon
abbrev pub Greatest : ℕ → Reads (Place × TermForm)
Greatest depth = do
  first_period ← One k.Period
  second_period ← One k.Period
  high ← IsBound depth
  semicolon ← One k.Semicolon
  Is high

abbrev pub UpTo : ℕ → Named → Place × TermForm → Reads DeclaredSort
UpTo depth name low = do
  high ← Greatest depth
  Is (declared_within name low high)

-- the name that a term is alone
abbrev pub name_alone : TermForm → Option Named
name_alone (TermForm.name name) = Some name
name_alone term = None

-- what stands behind data that begins with a name: that alone is another name of its sort
abbrev pub SortNamed : Named → TermForm → Reads DeclaredSort
SortNamed name (TermForm.name target) = do
  semicolon ← One k.Semicolon
  Is (declared_as name (alias target))
SortNamed name term = Nothing

abbrev pub SortBehind : ℕ → Named → Place × TermForm → Kind → Reads DeclaredSort
SortBehind depth name low k.Semicolon = SortNamed name low.1
SortBehind depth name low k.Period = UpTo depth name low
SortBehind depth name low _ = Nothing

-- a sort by its bounds, of which the first begins with a token of this kind
abbrev pub SortWithin : ℕ → Named → Kind → Reads DeclaredSort
SortWithin depth name kind = do
  low ← Beginning kind (IsBound depth)
  UpTo depth name low

-- what a sort is declared to be, up to the semicolon, by its first token
abbrev pub SortBy : ℕ → Named → Kind → Reads DeclaredSort
SortBy depth name k.Struct = do
  word ← One k.Struct
  enumerators ← Listed Enumerator (One k.Bar)
  semicolon ← One k.Semicolon
  Is (declared_as name (struct enumerators))
SortBy depth name k.Name = do
  first ← Beginning k.Name (IsBound depth)
  First (SortBehind depth name first)
SortBy depth name k.Number = SortWithin depth name k.Number
SortBy depth name k.Minus = SortWithin depth name k.Minus
SortBy depth name k.Open = SortWithin depth name k.Open
SortBy depth name _ = Nothing

abbrev pub IsSort : ℕ → Reads DeclaredSort
IsSort depth = do
  name ← Name
  is ← One k.Is
  First (SortBy depth name)

-- one sort or more, each with all the operators that are allowed
abbrev pub SortPart : ℕ → Reads (List DeclaredSort)
SortPart depth = do
  word ← One k.Sort
  sorts ← Listed (CountedApart (IsSort depth)) (Is {X = Unit {0}} tt)
  Is sorts

-- any number of sort parts
abbrev pub Sorts : ℕ → Reads (List DeclaredSort)
Sorts depth =
    Extended (Is [])
    (λ none.
    Series (SortPart depth) (Is {X = Unit {0}} tt) (λ sorts. sorts) (λ sorts u rest. sorts ++ rest))

abbrev pub declaration_in : DeclaredSort → SortDeclarationForm
declaration_in sort = sort.declaration

abbrev pub listed_bounds : Option BoundsForm → List BoundsForm
listed_bounds None = []
listed_bounds (Some bounds) = bounds ∷ []

abbrev pub bounds_in : DeclaredSort → List BoundsForm
bounds_in sort = listed_bounds sort.bounds

-- ---- the state and definitions

-- a state variable's name with its indices
abbrev pub Indexed : ℕ → Reads (Named × List VariableForm)
Indexed depth = do
  name ← Name
  indices ← Extended (Is []) (λ none. Declared depth)
  Is (name, indices)

-- state variables whose values are of one sort
abbrev pub of_sort : Named → Named × List VariableForm → StateVariableForm
of_sort sort x = record { name = x.0; indices = x.1; sort = sort }

abbrev pub StateGroup : ℕ → Reads (List StateVariableForm)
StateGroup depth = do
  variables ← Listed (Indexed depth) (One k.Comma)
  colon ← One k.Colon
  sort ← Name
  Is (map (of_sort sort) variables)

-- state variables, each with its indices and its sort
abbrev pub StateVariables : ℕ → Reads (List StateVariableForm)
StateVariables depth = do
  groups ← Listed (StateGroup depth) (One k.Comma)
  Is (flat_map (λ group. group) groups)

-- a name with parameters, and the term that it stands for
abbrev pub IsDefinition : ℕ → Reads DefinitionForm
IsDefinition depth = do
  name ← Name
  parameters ← Extended (Is []) (λ none. Declared depth)
  is ← One k.Is
  term ← IsTerm depth
  semicolon ← One k.Semicolon
  Is (record { name = name; parameters = parameters; term = term })

-- What stands behind the state, up to `step`: definitions, one or more, each with all the operators
-- that are allowed, or none.
abbrev pub DefinedBy : ℕ → Kind → Reads (List DefinitionForm)
DefinedBy depth k.Step = do
  step ← One k.Step
  Is []
DefinedBy depth k.Define = do
  define ← One k.Define
  definitions ← Listed (CountedApart (IsDefinition depth)) (Is {X = Unit {0}} tt)
  step ← One k.Step
  Is definitions
DefinedBy depth _ = Nothing

abbrev pub Definitions : ℕ → Reads (List DefinitionForm)
Definitions depth = First (DefinedBy depth)

-- ---- steps, the initial state, properties

-- a state variable, with its index, and the term whose value it gets, with the place of its first
-- token
abbrev pub IsAssigned : ℕ → Reads AssignmentForm
IsAssigned depth = do
  assigned ← IsInstance depth
  assign ← One k.Assign
  value ← Placed (IsTerm depth)
  Is (record {
    copies = None;
    variable = assigned.name;
    index = assigned.arguments;
    place = value.0;
    value = value.1;
  })

abbrev pub with_copies : CopiesForm → AssignmentForm → AssignmentForm
with_copies c a = record {
  copies = Some c;
  variable = a.variable;
  index = a.index;
  place = a.place;
  value = a.value;
}

-- `forall`, variables and a period, which no level opens: none stands in another
abbrev pub IsCopies : Reads CopiesForm
IsCopies = do
  word ← One k.Forall
  variables ← Variables
  period ← One k.Period
  Is (record { place = word.place; variables = variables })

-- one alone, or for all values of variables
abbrev pub AssignmentBy : ℕ → Kind → Reads AssignmentForm
AssignmentBy depth k.Name = IsAssigned depth
AssignmentBy depth k.Forall = do
  copies ← IsCopies
  assigned ← IsAssigned depth
  Is (with_copies copies assigned)
AssignmentBy depth _ = Nothing

abbrev pub IsAssignment : ℕ → Reads AssignmentForm
IsAssignment depth = First (AssignmentBy depth)

abbrev pub SomeAssigned : ℕ → Reads (List AssignmentForm)
SomeAssigned depth = do
  assignments ← Listed (IsAssignment depth) (One k.Comma)
  semicolon ← One k.Semicolon
  Is assignments

-- what is assigned, up to `;`: nothing, or one assignment or more, by the first token
abbrev pub AssignedBy : ℕ → Kind → Reads (List AssignmentForm)
AssignedBy depth k.Skip = do
  skip ← One k.Skip
  semicolon ← One k.Semicolon
  Is []
AssignedBy depth k.Name = Beginning k.Name (SomeAssigned depth)
AssignedBy depth k.Forall = Beginning k.Forall (SomeAssigned depth)
AssignedBy depth _ = Nothing

abbrev pub Assigned : ℕ → Reads (List AssignmentForm)
Assigned depth = First (AssignedBy depth)

-- a name with variables of its own, a guard and what is assigned
abbrev pub IsStep : ℕ → Reads StepForm
IsStep depth = do
  name ← Name
  variables ← Extended (Is []) (λ none. Declared depth)
  colon ← One k.Colon
  guard ← IsTerm depth
  arrow ← One k.Arrow
  assignments ← Assigned depth
  Is (record { name = name; variables = variables; guard = guard; assignments = assignments })

-- one step or more, each with all the operators that are allowed
abbrev pub Steps : ℕ → Reads (List StepForm)
Steps depth = Listed (CountedApart (IsStep depth)) (Is {X = Unit {0}} tt)

-- the values of the state variables, in order
abbrev pub IsInitialState : ℕ → Reads InitialForm
IsInitialState depth = do
  word ← One k.Init
  values ← Listed (Placed (IsTerm depth)) (One k.Comma)
  semicolon ← One k.Semicolon
  Is (record { place = word.place; values = arguments_of values })

abbrev pub IsProperty : ℕ → Reads PropertyForm
IsProperty depth = do
  word ← One k.Property
  name ← Name
  is ← One k.Is
  formula ← IsFormula [] depth
  semicolon ← One k.Semicolon
  Is (record { name = name; formula = formula })

-- one property or more, each with all the operators that are allowed
abbrev pub Properties : ℕ → Reads (List PropertyForm)
Properties depth = Listed (CountedApart (IsProperty depth)) (Is {X = Unit {0}} tt)

-- ---- models

-- The ranges are those of the range lines, which stand among the tokens as white space.
abbrev pub IsModel : List RangeForm → ℕ → Reads ModelTextForm
IsModel ranges depth = do
  constants ← Constants depth
  sorts ← Sorts depth
  model ← One k.Model
  state ← One k.State
  variables ← StateVariables depth
  semicolon ← One k.Semicolon
  definitions ← Definitions depth
  steps ← Steps depth
  initial ← CountedApart (IsInitialState depth)
  properties ← Properties depth
  Is (record {
    constants = constants;
    bounds = flat_map bounds_in sorts;
    protocol = record {
      sorts = map declaration_in sorts;
      ranges = ranges;
      variables = variables;
      definitions = definitions;
      steps = steps;
      initial = initial;
      properties = properties;
    };
  })

-- The tokens are this model, and then the end. So many levels may open; the constants, each sort,
-- each definition, each step, the initial state and each property may have so many operators.
abbrev pub IsModelText : ℕ → ℕ → List Tok → List RangeForm → ModelTextForm → Type 0
IsModelText depth operators tokens ranges model =
    (m : ℕ) × (end : Tok)
    × IsModel ranges depth (record { tokens = tokens; operators = operators }) model
    (record { tokens = end ∷ []; operators = m })
    × (end.kind ≡ k.End)
