-- Where each rule of declarations fails: all faults of sorts, ranges, enumerators, recognisers,
-- predicate variables and their parameters.
use Rattle.std.specs.Prelude.{ℕ, suc, ◌+◌, nat_le, nat_lt, Bool, true, false, not, ◌||◌, List, []}
use Rattle.std.specs.Prelude.{◌∷◌, ◌++◌, map, flat_map, length, ℤ, pos, int_le, Option, Some, None}
use Rattle.std.specs.Prelude.{is_some}
use Rattle.std.specs.List.{slice_get}
use Rattle.pb_text_tree.specs.declared.place.Place.{Place}
use Rattle.pb_text_tree.specs.Form.{Named, VariableForm, EnumeratorForm, SortForm, struct, alias}
use Rattle.pb_text_tree.specs.Form.{SortDeclarationForm, RangeForm, EquationForm, SpecForm}
use Rattle.pb_text_meaning.specs.Syntax.{Name, Spec}
use Rattle.pb_text_meaning.specs.Functions.{named_function}
use Rattle.pb_text_meaning.specs.Erase.{erase, erased_sort, erased_equation}
use Rattle.pb_typing_declarations.specs.declared.sorts.Integers.TheVariants as integers
use Rattle.pb_typing_declarations.specs.declared.fault.TypingRule.TheVariants.{NameTwice}
use Rattle.pb_typing_declarations.specs.declared.fault.TypingRule.TheVariants.{UnknownSort}
use Rattle.pb_typing_declarations.specs.declared.fault.TypingRule.TheVariants.{MissingRange, Limit}
use Rattle.pb_typing_declarations.specs.declared.fault.TypingFault.{TypingFault}
use Rattle.pb_typing_declarations.specs.Faults.{unless, repeated, length_faults}
use Rattle.pb_typing_declarations.specs.Shapes.{End, Shaped, Unranged, Undeclared, Endless, end_of}
use Rattle.pb_typing_declarations.specs.Shapes.{base_of, is_sort, is_built_in, number_behind}
use Rattle.pb_typing_declarations.specs.Instances.{instance_count}
use Rattle.pb_base.specs.declared.limits.TheConstants.{MAX_STRUCTS, MAX_ENUMERATORS, MAX_EQUATIONS}
use Rattle.pb_base.specs.declared.limits.TheConstants.{MAX_PARAMETERS}

-- ---- limits

-- T12: the one that comes after so many passes the limit
abbrev pub limit_fault : Option Named → List TypingFault
limit_fault None = []
limit_fault (Some x) = unless false Limit x.place

abbrev pub limit_faults : ℕ → List Named → List TypingFault
limit_faults limit xs = limit_fault (slice_get xs limit)

-- The limit isn't passed here: what stands before is beyond it already, or what is counted with
-- this is still within.
abbrev pub stays_within : ℕ → ℕ → ℕ → Bool
stays_within limit before counted = nat_lt limit before || nat_le counted limit

-- ---- enumerators and recognisers, in the order of the text

abbrev pub recogniser_name : Option Named → List Named
recogniser_name None = []
recogniser_name (Some x) = x ∷ []

abbrev pub names_of_enumerator : EnumeratorForm → List Named
names_of_enumerator e = e.name ∷ recogniser_name e.recogniser

abbrev pub enumerators_of_sort : SortForm → List EnumeratorForm
enumerators_of_sort (struct es) = es
enumerators_of_sort (alias target) = []

abbrev pub all_enumerator_forms : List SortDeclarationForm → List EnumeratorForm
all_enumerator_forms ds = flat_map (λ (d : SortDeclarationForm). enumerators_of_sort d.sort) ds

-- a function that is there in each text
abbrev pub is_named_function : Name → Bool
is_named_function f = is_some (named_function f)

-- T02: no recogniser has such a function's name
abbrev pub recogniser_faults : Option Named → List TypingFault
recogniser_faults None = []
recogniser_faults (Some x) = unless (not (is_named_function x.text)) NameTwice x.place

abbrev pub enumerator_faults : EnumeratorForm → List TypingFault
enumerator_faults e = length_faults e.name ++ recogniser_faults e.recogniser

-- ---- sorts

abbrev pub is_endless : End → Bool
is_endless Endless = true
is_endless (Shaped h) = false
is_endless (Unranged k) = false
is_endless Undeclared = false

-- T03: an alias's target is a sort, and its chain has an end
abbrev pub definition_faults : Spec → Named → SortForm → List TypingFault
definition_faults spec s (struct es) = []
definition_faults spec s (alias target) =
    unless (is_sort spec target.text) UnknownSort target.place
    ++ unless (not (is_endless (base_of spec s.text))) UnknownSort s.place

-- T02: no sort has a built-in sort's name
abbrev pub sort_faults : Spec → SortDeclarationForm → List TypingFault
sort_faults spec d =
    unless (not (is_built_in d.name.text)) NameTwice d.name.place
    ++ definition_faults spec d.name d.sort

abbrev pub own_names : List EnumeratorForm → List Named
own_names es = map (λ (e : EnumeratorForm). e.name) es

-- T12: behind n structs: the one after MAX_STRUCTS passes the limit, and each has 1 to
-- MAX_ENUMERATORS enumerators
abbrev pub struct_faults : ℕ → Place → SortForm → List TypingFault
struct_faults n place (struct es) =
    unless (stays_within MAX_STRUCTS n (suc n)) Limit place
    ++ (unless (nat_lt 0 (length es)) Limit place
    ++ (limit_faults MAX_ENUMERATORS (own_names es)
    ++ flat_map enumerator_faults es))
struct_faults n place (alias target) = []

abbrev pub structs_faults : ℕ → List SortDeclarationForm → List TypingFault
structs_faults n [] = []
structs_faults n (d ∷ ds) =
    struct_faults n d.name.place d.sort ++ structs_faults (number_behind n (erased_sort d.sort)) ds

-- a declared sort whose chain has no end that is a sort: it fails where it is declared, and its
-- uses don't fail for that
abbrev pub is_faulty : Bool → End → Bool
is_faulty declared (Shaped h) = false
is_faulty declared (Unranged k) = false
is_faulty declared Undeclared = declared
is_faulty declared Endless = declared

-- ---- ranges

abbrev pub is_integer : End → Bool
is_integer (Unranged k) = true
is_integer (Shaped h) = false
is_integer Undeclared = false
is_integer Endless = false

-- Pos begins at 1, Nat at 0
abbrev pub may_begin_at : ℤ → End → Bool
may_begin_at low (Unranged integers.Pos) = int_le (pos 1) low
may_begin_at low (Unranged integers.Nat) = int_le (pos 0) low
may_begin_at low (Unranged integers.Int) = true
may_begin_at low (Shaped h) = true
may_begin_at low Undeclared = true
may_begin_at low Endless = true

-- the range of an integer sort (T03), which begins at its least value or above (T05)
abbrev pub range_faults : Spec → RangeForm → List TypingFault
range_faults spec r =
    unless
    (is_integer (base_of spec r.name) || is_faulty (is_sort spec r.name) (base_of spec r.name))
    UnknownSort r.place
    ++ unless (may_begin_at r.low (base_of spec r.name)) MissingRange r.place

-- and isn't empty (T05)
abbrev pub empty_faults : RangeForm → List TypingFault
empty_faults r = unless (int_le r.low r.high) MissingRange r.place

abbrev pub range_name : RangeForm → Named
range_name r = record { place = r.place; text = r.name }

-- ---- variables

-- what a sort with this end lacks: a range (T05), or its declaration (T03)
abbrev pub end_faults : Bool → End → Place → List TypingFault
end_faults declared (Shaped h) place = []
end_faults declared (Unranged k) place = unless false MissingRange place
end_faults declared Undeclared place = unless declared UnknownSort place
end_faults declared Endless place = unless declared UnknownSort place

-- the sort of a variable has values
abbrev pub use_faults : Spec → Named → List TypingFault
use_faults spec s = end_faults (is_sort spec s.text) (end_of spec s.text) s.place

abbrev pub variable_faults : Spec → VariableForm → List TypingFault
variable_faults spec x = use_faults spec x.sort

abbrev pub variable_names : List VariableForm → List Named
variable_names xs = map (λ (x : VariableForm). x.name) xs

-- one list of variables: a quantifier's, or an equation's parameters
abbrev pub variables_faults : Spec → List VariableForm → List TypingFault
variables_faults spec xs = repeated (variable_names xs) ++ flat_map (variable_faults spec) xs

-- ---- predicate variables

abbrev pub equation_names : List EquationForm → List Named
equation_names E = map (λ (X : EquationForm). X.name) E

abbrev pub equation_faults : Spec → EquationForm → List TypingFault
equation_faults spec X =
    length_faults X.name
    ++ (limit_faults MAX_PARAMETERS (variable_names X.parameters)
    ++ variables_faults spec X.parameters)

-- behind so many instances: a predicate variable is as it must be, and its instances don't pass the
-- limit (T12)
abbrev pub equations_faults_behind : (limit : ℕ) → Spec → ℕ → List EquationForm → List TypingFault
equations_faults_behind limit spec n [] = []
equations_faults_behind limit spec n (X ∷ E) =
    equation_faults spec X
    ++ (unless (stays_within limit n (n + instance_count spec (erased_equation X)))
    Limit X.name.place
    ++ equations_faults_behind limit spec (n + instance_count spec (erased_equation X)) E)

-- ---- all

abbrev pub sort_names : List SortDeclarationForm → List Named
sort_names ds = map (λ (d : SortDeclarationForm). d.name) ds

-- what is found as names are gathered
abbrev pub tables_faults : SpecForm → List TypingFault
tables_faults text =
    structs_faults 0 text.sorts
    ++ (flat_map empty_faults text.ranges
    ++ (repeated (flat_map names_of_enumerator (all_enumerator_forms text.sorts))
    ++ (repeated (sort_names text.sorts)
    ++ (repeated (map range_name text.ranges)
    ++ repeated (equation_names text.equations)))))

-- what is found once all names are known
abbrev pub checks_faults : (limit : ℕ) → SpecForm → List TypingFault
checks_faults limit text =
    flat_map (sort_faults (erase text)) text.sorts
    ++ (flat_map (range_faults (erase text)) text.ranges
    ++ (limit_faults MAX_EQUATIONS (equation_names text.equations)
    ++ equations_faults_behind limit (erase text) 0 text.equations))

-- where so many instances may be declared
abbrev pub declaration_faults : (limit : ℕ) → SpecForm → List TypingFault
declaration_faults limit text = tables_faults text ++ checks_faults limit text
