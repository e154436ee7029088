-- What is read of a text: entries of its names, in order, where it has no fault.
use Rattle.std.specs.Prelude.{◌≡◌, ◌≤◌, ◌+◌, nat_le, suc, ℤ, length, All, ℕ, List, [], ◌∷◌, ◌++◌}
use Rattle.std.specs.Prelude.{map, flat_map, Option, position}
use Rattle.pb_text_tree.specs.Form.{Named, EnumeratorForm, SortDeclarationForm, RangeForm}
use Rattle.pb_text_tree.specs.Form.{EquationForm, VariableForm}
use Rattle.pb_text_meaning.specs.Erase.{erased_enumerator, erased_declaration, erased_recogniser}
use Rattle.pb_text_meaning.specs.Erase.{erased_sort, erased_range, erased_equation}
use Rattle.pb_text_meaning.specs.Erase.{erased_variables}
use Rattle.pb_typing_declarations.specs.declared.entry.Entry.{Entry}
use Rattle.pb_typing_declarations.specs.declared.definition.Definition.{Definition}
use Rattle.pb_typing_declarations.specs.declared.definition.DataName.{DataName}
use Rattle.pb_typing_declarations.specs.declared.definition.Definitions.{Definitions}
use Rattle.pb_typing_declarations.specs.declared.definition.DefinitionTables.{DefinitionTables}
use Rattle.pb_typing_declarations.specs.Shapes.{first, definition_of, definitions_from}
use Rattle.pb_typing_declarations.specs.Shapes.{range_bounds}
use Rattle.pb_typing_declarations.specs.Shapes.{sort_shape, variable_shapes}
use Rattle.pb_sorts.specs.declared.carrier.Range.{Range}
use Rattle.pb_sorts.specs.declared.carrier.Carrier.{Carrier}
use Rattle.pb_base.specs.declared.limits.TheConstants.{MAX_PARAMETERS}
use Rattle.pb_sorts.specs.Carrier.{values_of}
use Rattle.pb_sorts.specs.Layout as layouts
use Rattle.pb_base_values.specs.Carrier.{tuple_count}
use Rattle.pb_text_tree.specs.declared.place.Place.{Place}
use Rattle.pb_text_meaning.specs.Syntax.{Name, same_name, Equation, Spec}
use Rattle.pb_text_meaning.specs.Sorts.{carrier_of}
use Rattle.pb_text_meaning.specs.Formula.{carriers_of}
use Rattle.pb_typing_declarations.specs.declared.fault.TypingRule.TheVariants.{Limit}
use Rattle.pb_typing_declarations.specs.Faults.{unless, repeated}
use Rattle.pb_typing_declarations.specs.Enumerators.{Position, all_enumerators}
use Rattle.pb_typing_declarations.specs.Enumerators.{all_recognisers}
use Rattle.pb_typing_declarations.specs.Tables.{Table, entry_names, entry_values, entry_of}
use Rattle.pb_typing_declarations.specs.Entries.{shape_of, shapes_of, shown, shown_entries}
use Rattle.pb_typing_declarations.specs.Entries.{range_shown, data_of_recogniser, data_from}
use Rattle.pb_typing_declarations.specs.Entries.{data_in, all_data, definition_in, range_in}
use Rattle.pb_typing_declarations.specs.Entries.{as_enumerator, as_recogniser}
use Rattle.pb_typing_declarations.specs.Declarations.{struct_faults, structs_faults}
use Rattle.pb_typing_declarations.specs.Declarations.{recogniser_faults, recogniser_name}
use Rattle.pb_typing_declarations.specs.Declarations.{enumerator_faults, names_of_enumerator}
use Rattle.pb_typing_declarations.specs.Declarations.{sort_names}
use Rattle.pb_typing_declarations.specs.Declarations.{enumerators_of_sort, all_enumerator_forms}
use Rattle.pb_typing_declarations.specs.Declarations.{empty_faults, range_name, equation_names}
use Rattle.pb_typing_declarations.specs.Declarations.{use_faults, variables_faults, equation_faults}
use Rattle.pb_typing_declarations.specs.Declarations.{equations_faults_behind}

-- new entries are old ones and then these names with these values
pub record Adds {V : Type 0} (xs : List Named) (vs : List (List ℕ × V)) (old new : List (Entry V))
    : Type 0 where
  pub names : entry_names new ≡ entry_names old ++ xs
  pub values : entry_values new ≡ entry_values old ++ vs

pub record HasRecogniser (p : Position) (recogniser : Option Named)
    (old new : List (Entry DataName)) : Type 0 where
  pub clear : recogniser_faults recogniser ≡ []
  pub adds :
      Adds (recogniser_name recogniser) (data_of_recogniser p (erased_recogniser recogniser))
      old new

pub record HasEnumerators (sort count place : ℕ) (es : List EnumeratorForm)
    (old new : List (Entry DataName)) : Type 0 where
  pub clear : flat_map enumerator_faults es ≡ []
  pub adds :
      Adds (flat_map names_of_enumerator es) (data_from sort count place (map erased_enumerator es))
      old new

-- a sort's definition, where n structs stand before it
pub record IsDefinition (n : ℕ) (d : SortDeclarationForm) (old new : List (Entry DataName))
    (definition : Definition) : Type 0 where
  pub clear : struct_faults n d.name.place d.sort ≡ []
  pub is : shown definition ≡ definition_of n (erased_sort d.sort)
  pub adds :
      Adds (flat_map names_of_enumerator (enumerators_of_sort d.sort))
      (data_in n (erased_sort d.sort)) old new

pub record AreDefinitions (ds : List SortDeclarationForm) (definitions : Definitions) : Type 0 where
  pub clear : structs_faults 0 ds ≡ []
  pub sort_names : entry_names definitions.sorts.items
      ≡ map (λ (d : SortDeclarationForm). d.name) ds
  pub sorts : shown_entries (entry_values definitions.sorts.items)
      ≡ definitions_from 0 (map erased_declaration ds)
  pub data_names : entry_names definitions.names.items
      ≡ flat_map names_of_enumerator (all_enumerator_forms ds)
  pub data_values : entry_values definitions.names.items ≡ all_data 0 (map erased_declaration ds)

-- the same by name, where no name stands twice
pub record AreDefined (ds : List SortDeclarationForm) (tables : DefinitionTables) : Type 0 where
  pub clear : structs_faults 0 ds ≡ []
  pub data_apart : repeated (flat_map names_of_enumerator (all_enumerator_forms ds)) ≡ []
  pub sorts_apart : repeated (sort_names ds) ≡ []
  pub definitions : (x : Name) → definition_in tables.sorts x
      ≡ first (definitions_from 0 (map erased_declaration ds)) x
  pub enumerators : (x : Name) → as_enumerator (entry_of tables.names x)
      ≡ first (all_enumerators 0 (map erased_declaration ds)) x
  pub recognisers : (x : Name) → as_recogniser (entry_of tables.names x)
      ≡ first (all_recognisers 0 (map erased_declaration ds)) x

-- the ranges
pub record AreRanges (rs : List RangeForm) (entries : List (Entry Range)) : Type 0 where
  pub clear : flat_map empty_faults rs ≡ []
  pub names : entry_names entries ≡ map range_name rs
  pub values : map (λ e. (e.0, range_shown e.1)) (entry_values entries)
      ≡ range_bounds (map erased_range rs)

pub record IsRangeTable (rs : List RangeForm) (table : Table Range) : Type 0 where
  pub clear : flat_map empty_faults rs ≡ []
  pub apart : repeated (map range_name rs) ≡ []
  pub bounds : (x : Name) → range_in table x ≡ first (range_bounds (map erased_range rs)) x

-- names with their places in a list that begins at n
abbrev pub numbered_from : ℕ → List Named → List (List ℕ × ℕ)
numbered_from n [] = []
numbered_from n (x ∷ xs) = (x.text, n) ∷ numbered_from (suc n) xs

pub record AreEquations (E : List EquationForm) (entries : List (Entry ℕ)) : Type 0 where
  pub names : entry_names entries ≡ equation_names E
  pub values : entry_values entries ≡ numbered_from 0 (equation_names E)

pub record IsEquationTable (E : List EquationForm) (table : Table ℕ) : Type 0 where
  pub apart : repeated (equation_names E) ≡ []
  pub places : (x : Name) → entry_of table x
      ≡ position (λ (X : Equation). same_name X.name x) (map erased_equation E)

-- ---- carriers

pub record IsCarrier (S : Spec) (sort : Named) (carrier : Carrier) : Type 0 where
  pub clear : use_faults S sort ≡ []
  pub values : values_of carrier ≡ carrier_of S sort.text
  pub shape : shape_of carrier ≡ sort_shape S sort.text

pub record HasVariables (S : Spec) (xs : List VariableForm) (carriers : List Carrier) : Type 0 where
  pub clear : variables_faults S xs ≡ []
  pub values : map values_of carriers ≡ carriers_of S (erased_variables xs)
  pub shapes : shapes_of carriers ≡ variable_shapes S (erased_variables xs)

pub record HasParameters (S : Spec) (X : EquationForm) (carriers : List Carrier) : Type 0 where
  pub clear : equation_faults S X ≡ []
  pub values : map values_of carriers ≡ carriers_of S (erased_variables X.parameters)
  pub shapes : shapes_of carriers ≡ variable_shapes S (erased_variables X.parameters)
  pub few : length carriers ≤ MAX_PARAMETERS

-- a sum of instances, within the limit
pub record AddsInstances (limit count : ℕ) (carriers : List (List ℤ)) (place : Place) (sum : ℕ)
    : Type 0 where
  pub clear : unless (nat_le (count + tuple_count carriers) limit) Limit place ≡ []
  pub is : sum ≡ count + tuple_count carriers
  pub few : sum ≤ limit

-- the carriers of equations behind n instances
pub record HasCarriers (limit : ℕ) (S : Spec) (n : ℕ) (E : List EquationForm)
    (carriers : List (List Carrier)) : Type 0 where
  pub clear : equations_faults_behind limit S n E ≡ []
  pub values : layouts.carriers_of carriers
      ≡ map (λ (X : Equation). carriers_of S X.parameters) (map erased_equation E)
  pub shapes : map shapes_of carriers
      ≡ map (λ (X : Equation). variable_shapes S X.parameters) (map erased_equation E)
  pub few : All (λ (cs : List Carrier). length cs ≤ MAX_PARAMETERS) carriers
