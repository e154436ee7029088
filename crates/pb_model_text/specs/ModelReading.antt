-- Reading constants, sorts, the state, definitions, steps, properties and whole models, as
-- functions.
use Rattle.std.specs.Prelude.{ℕ, suc, if◌then◌else◌}
use Rattle.std.specs.Prelude.{List, [], ◌++◌}
use Rattle.std.specs.Prelude.{length, map, flat_map, None}
use Rattle.pb_text_tree.specs.declared.place.Place.{Place}
use Rattle.pb_text_tree.specs.Form.{Named, VariableForm, TermForm, RangeForm}
use Rattle.pb_text_tree.specs.Form.{struct, alias}
use Rattle.pb_text_lexer.specs.declared.fault.ReadingRule.TheVariants.{Unexpected}
use Rattle.pb_text_lexer.specs.declared.kind.Kind.{Kind}
use Rattle.pb_text_lexer.specs.declared.kind.Kind.TheVariants as k
use Rattle.pb_text_lexer.specs.Kinds.{same_kind}
use Rattle.pb_text_lexer.specs.Steps.{Step, alone, ◌>>=◌, pure, peek, refuse, take_token, expect}
use Rattle.pb_text_lexer.specs.Steps.{extended, unless_next, listed, nothing_between, series}
use Rattle.pb_text_terms.specs.Grammar.{arguments_of}
use Rattle.pb_text_terms.specs.Reading.{name, is_comma, with_place, argument_list, equated}
use Rattle.pb_text_terms.specs.Reading.{unary, term, instance, variables}
use Rattle.pb_text_formulas.specs.Reading.{is_name_kind, is_sort, enumerators}
use Rattle.pb_text.specs.Reading.{parameters}
use Rattle.pb_model_tree.specs.Form.{InitialForm}
use Rattle.pb_protocol_tree.specs.Form.{StateVariableForm, DefinitionForm}
use Rattle.pb_protocol_tree.specs.Form.{CopiesForm, AssignmentForm, StepForm, PropertyForm}
use Rattle.pb_protocol_tree.specs.Form.{ConstantForm, ModelTextForm}
use Rattle.pb_model_text.specs.Models.{const_of, DeclaredSort, declared_as, declared_within}
use Rattle.pb_model_text.specs.Models.{declaration_in, bounds_in, of_sort, with_copies}
use Rattle.pb_model_text.specs.Reading.{formula, is_property, take_word}

-- ---- constants

unfoldable pub constant : ℕ → Step ConstantForm
constant depth = do
  found ← name
  is ← expect k.Is
  value ← with_place (term depth)
  pure (record { name = found; place = value.0; value = value.1 })

abbrev pub constant_list : ℕ → Step (List ConstantForm)
constant_list depth = λ s. listed (constant depth) is_comma take_token (suc (length s.tokens)) s

unfoldable pub constant_parts : ℕ → Step (List ConstantForm)
constant_parts depth = do
  word ← take_word const_of
  found ← constant_list depth
  semicolon ← expect k.Semicolon
  pure found

-- with all the operators that are allowed
unfoldable pub constant_part : ℕ → Step (List ConstantForm)
constant_part depth = alone (constant_parts depth)

-- where they end, nothing of them goes on
unfoldable pub constants : ℕ → Step (List ConstantForm)
constants depth =
    extended is_name_kind (pure []) (λ none. unless_next is_name_kind (constant_part depth))

-- ---- sorts

unfoldable pub bound : ℕ → Step (Place × TermForm)
bound depth = with_place (equated (unary depth))

unfoldable pub greatest : ℕ → Step (Place × TermForm)
greatest depth = do
  first_period ← expect k.Period
  second_period ← expect k.Period
  high ← bound depth
  semicolon ← expect k.Semicolon
  pure high

unfoldable pub up_to : ℕ → Named → Place × TermForm → Step DeclaredSort
up_to depth found low = greatest depth >>= (λ high. pure (declared_within found low high))

abbrev pub sort_named : Named → TermForm → Step DeclaredSort
sort_named found (TermForm.name target) = do
  semicolon ← take_token
  pure (declared_as found (alias target))
sort_named found x = refuse Unexpected

abbrev pub sort_behind : ℕ → Named → Place × TermForm → Kind → Step DeclaredSort
sort_behind depth found low k.Semicolon = sort_named found low.1
sort_behind depth found low k.Period = up_to depth found low
sort_behind depth found low _ = refuse Unexpected

abbrev pub sort_within : ℕ → Named → Step DeclaredSort
sort_within depth found = bound depth >>= up_to depth found

abbrev pub sort_by : ℕ → Named → Kind → Step DeclaredSort
sort_by depth found k.Struct = do
  word ← take_token
  its_enumerators ← enumerators
  semicolon ← expect k.Semicolon
  pure (declared_as found (struct its_enumerators))
sort_by depth found k.Name = do
  first ← bound depth
  peek >>= sort_behind depth found first
sort_by depth found k.Number = sort_within depth found
sort_by depth found k.Minus = sort_within depth found
sort_by depth found k.Open = sort_within depth found
sort_by depth found _ = refuse Unexpected

unfoldable pub sort_parts : ℕ → Step DeclaredSort
sort_parts depth = do
  found ← name
  is ← expect k.Is
  peek >>= sort_by depth found

-- a sort with all the operators that are allowed
unfoldable pub sort : ℕ → Step DeclaredSort
sort depth = alone (sort_parts depth)

abbrev pub sort_list : ℕ → Step (List DeclaredSort)
sort_list depth =
    λ s. listed (sort depth) is_name_kind nothing_between (suc (length s.tokens)) s

unfoldable pub sort_part : ℕ → Step (List DeclaredSort)
sort_part depth = do
  word ← expect k.Sort
  found ← sort_list depth
  pure found

abbrev pub some_sorts : ℕ → Step (List DeclaredSort)
some_sorts depth =
    λ s. series (sort_part depth) is_sort nothing_between (λ sorts. sorts)
    (λ sorts u rest. sorts ++ rest) (suc (length s.tokens)) s

-- where no part begins, no declaration of one does
abbrev pub sorts : ℕ → Step (List DeclaredSort)
sorts depth = extended is_sort (unless_next is_name_kind (pure [])) (λ none. some_sorts depth)

-- ---- the state and definitions

unfoldable pub indexed_name : ℕ → Step (Named × List VariableForm)
indexed_name depth = do
  found ← name
  indices ← parameters depth
  pure (found, indices)

abbrev pub indexed_names : ℕ → Step (List (Named × List VariableForm))
indexed_names depth =
    λ s. listed (indexed_name depth) is_comma take_token (suc (length s.tokens)) s

unfoldable pub state_group : ℕ → Step (List StateVariableForm)
state_group depth = do
  found ← indexed_names depth
  colon ← expect k.Colon
  sort ← name
  pure (map (of_sort sort) found)

abbrev pub state_groups : ℕ → Step (List (List StateVariableForm))
state_groups depth =
    λ s. listed (state_group depth) is_comma take_token (suc (length s.tokens)) s

unfoldable pub state_variables : ℕ → Step (List StateVariableForm)
state_variables depth = do
  found ← state_groups depth
  pure (flat_map (λ group. group) found)

unfoldable pub definition_parts : ℕ → Step DefinitionForm
definition_parts depth = do
  found ← name
  its_parameters ← parameters depth
  is ← expect k.Is
  body ← term depth
  semicolon ← expect k.Semicolon
  pure (record { name = found; parameters = its_parameters; term = body })

-- a definition with all the operators that are allowed
unfoldable pub definition : ℕ → Step DefinitionForm
definition depth = alone (definition_parts depth)

abbrev pub definition_list : ℕ → Step (List DefinitionForm)
definition_list depth =
    λ s. listed (definition depth) is_name_kind nothing_between (suc (length s.tokens)) s

unfoldable pub defined_by : ℕ → Kind → Step (List DefinitionForm)
defined_by depth k.Step = do
  step ← take_token
  pure []
defined_by depth k.Define = do
  define ← take_token
  found ← definition_list depth
  step ← expect k.Step
  pure found
defined_by depth _ = refuse Unexpected

unfoldable pub definitions : ℕ → Step (List DefinitionForm)
definitions depth = peek >>= defined_by depth

-- ---- steps, the initial state, properties

unfoldable pub assigned_alone : ℕ → Step AssignmentForm
assigned_alone depth = do
  target ← instance depth
  assign ← expect k.Assign
  value ← with_place (term depth)
  pure (record {
    copies = None;
    variable = target.name;
    index = target.arguments;
    place = value.0;
    value = value.1;
  })

unfoldable pub copies : Step CopiesForm
copies = do
  word ← take_token
  found ← variables
  period ← expect k.Period
  pure (record { place = word.place; variables = found })

unfoldable pub assignment_by : ℕ → Kind → Step AssignmentForm
assignment_by depth k.Name = assigned_alone depth
assignment_by depth k.Forall = do
  found ← copies
  assigned ← assigned_alone depth
  pure (with_copies found assigned)
assignment_by depth _ = refuse Unexpected

unfoldable pub assignment : ℕ → Step AssignmentForm
assignment depth = peek >>= assignment_by depth

abbrev pub assignments : ℕ → Step (List AssignmentForm)
assignments depth = λ s. listed (assignment depth) is_comma take_token (suc (length s.tokens)) s

unfoldable pub some_assigned : ℕ → Step (List AssignmentForm)
some_assigned depth = do
  found ← assignments depth
  semicolon ← expect k.Semicolon
  pure found

unfoldable pub assigned_by : ℕ → Kind → Step (List AssignmentForm)
assigned_by depth k.Skip = do
  skip ← take_token
  semicolon ← expect k.Semicolon
  pure []
assigned_by depth k.Name = some_assigned depth
assigned_by depth k.Forall = some_assigned depth
assigned_by depth _ = refuse Unexpected

unfoldable pub assigned : ℕ → Step (List AssignmentForm)
assigned depth = peek >>= assigned_by depth

unfoldable pub step_parts : ℕ → Step StepForm
step_parts depth = do
  found ← name
  own ← parameters depth
  colon ← expect k.Colon
  guard ← term depth
  arrow ← expect k.Arrow
  its_assignments ← assigned depth
  pure (record { name = found; variables = own; guard = guard; assignments = its_assignments })

-- a step with all the operators that are allowed
unfoldable pub step : ℕ → Step StepForm
step depth = alone (step_parts depth)

abbrev pub steps : ℕ → Step (List StepForm)
steps depth = λ s. listed (step depth) is_name_kind nothing_between (suc (length s.tokens)) s

unfoldable pub initial_parts : ℕ → Step InitialForm
initial_parts depth = do
  word ← expect k.Init
  values ← argument_list (term depth)
  semicolon ← expect k.Semicolon
  pure (record { place = word.place; values = arguments_of values })

unfoldable pub initial : ℕ → Step InitialForm
initial depth = alone (initial_parts depth)

unfoldable pub property_parts : ℕ → Step PropertyForm
property_parts depth = do
  word ← expect k.Property
  found ← name
  is ← expect k.Is
  x ← formula [] depth
  semicolon ← expect k.Semicolon
  pure (record { name = found; formula = x })

unfoldable pub property : ℕ → Step PropertyForm
property depth = alone (property_parts depth)

abbrev pub properties : ℕ → Step (List PropertyForm)
properties depth =
    λ s. listed (property depth) is_property nothing_between (suc (length s.tokens)) s

-- ---- models

unfoldable pub model : List RangeForm → ℕ → Step ModelTextForm
model ranges depth = do
  its_constants ← constants depth
  its_sorts ← sorts depth
  model ← expect k.Model
  state ← expect k.State
  its_variables ← state_variables depth
  semicolon ← expect k.Semicolon
  its_definitions ← definitions depth
  found ← steps depth
  start ← initial depth
  asked ← properties depth
  pure (record {
    constants = its_constants;
    bounds = flat_map bounds_in its_sorts;
    protocol = record {
      sorts = map declaration_in its_sorts;
      ranges = ranges;
      variables = its_variables;
      definitions = its_definitions;
      steps = found;
      initial = start;
      properties = asked;
    };
  })

-- and nothing behind it
unfoldable pub whole_model : List RangeForm → ℕ → Step ModelTextForm
whole_model ranges depth = do
  found ← model ranges depth
  last ← peek
  if same_kind last k.End then pure found else refuse Unexpected
