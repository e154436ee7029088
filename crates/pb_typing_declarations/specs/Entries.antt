-- What sorts, ranges, enumerators and variables are declared to be, as the program holds them.
use Rattle.std.specs.Prelude.{ℕ, suc, List, [], ◌∷◌, ◌++◌, map, length, Option, Some, None}
use Rattle.std.specs.Option.{option_map}
use Rattle.pb_sorts.specs.declared.carrier.Carrier as carriers
use Rattle.pb_sorts.specs.declared.carrier.Carrier.TheVariants as carrier
use Rattle.pb_sorts.specs.declared.carrier.Range as range
use Rattle.pb_text_meaning.specs.Syntax.{Name, Enumerator, Sort, Struct, Alias, SortDeclaration}
use Rattle.pb_typing_declarations.specs.declared.definition.Definition as definition
use Rattle.pb_typing_declarations.specs.declared.definition.Definition.TheVariants as declared
use Rattle.pb_typing_declarations.specs.declared.definition.DataName.{DataName}
use Rattle.pb_typing_declarations.specs.declared.definition.DataName.TheVariants as data_name
use Rattle.pb_typing_declarations.specs.declared.chain.End as chains
use Rattle.pb_typing_declarations.specs.declared.chain.End.TheVariants as chain
use Rattle.pb_typing_declarations.specs.declared.chain.Step.{Step}
use Rattle.pb_typing_declarations.specs.declared.chain.Step.TheVariants as steps
use Rattle.pb_typing_declarations.specs.Shapes.{Shape, Unknown, Truths, Places, Wholes, Definition}
use Rattle.pb_typing_declarations.specs.Shapes.{Structure, Renaming, End, Shaped, Unranged}
use Rattle.pb_typing_declarations.specs.Shapes.{Undeclared, Endless, Bounds, number_behind}
use Rattle.pb_typing_declarations.specs.Enumerators.{Position, positioned}
use Rattle.pb_typing_declarations.specs.Tables.{Table, entry_of}

-- ---- sorts

abbrev pub shown : definition.Definition → Definition
shown (declared.Struct e) = Structure e.sort e.count
shown (declared.Alias target) = Renaming target.now

-- one for a struct, none for an alias
abbrev pub struct_count : Definition → ℕ
struct_count (Structure sort count) = 1
struct_count (Renaming s) = 0

abbrev pub shown_entries : List (Name × definition.Definition) → List (Name × Definition)
shown_entries = map (λ e. (e.0, shown e.1))

abbrev pub definition_in : Table definition.Definition → Name → Option Definition
definition_in table x = option_map shown (entry_of table x)

abbrev pub range_shown : range.Range → Bounds
range_shown r = (r.low, r.high)

abbrev pub range_in : Table range.Range → Name → Option Bounds
range_in table x = option_map range_shown (entry_of table x)

abbrev pub carrier_shape : Option carriers.Carrier → Shape
carrier_shape None = Unknown
carrier_shape (Some carrier.Bool) = Truths
carrier_shape (Some (carrier.Enum e)) = Places e.sort e.count
carrier_shape (Some (carrier.Range r)) = Wholes r.low r.high

abbrev pub shape_of : carriers.Carrier → Shape
shape_of c = carrier_shape (Some c)

abbrev pub shapes_of : List carriers.Carrier → List Shape
shapes_of cs = map shape_of cs

abbrev pub end_shown : chains.End → End
end_shown (chain.Carrier c) = Shaped (carrier_shape (Some c))
end_shown (chain.Unranged k) = Unranged k
end_shown chain.Undeclared = Undeclared
end_shown chain.Endless = Endless

-- the end behind one step
abbrev pub end_behind : Step → (Name → End) → End
end_behind (steps.Ends e) next = end_shown e
end_behind (steps.GoesOn target) next = next target.now

-- ---- enumerators

abbrev pub data_of_recogniser : Position → Option Name → List (Name × DataName)
data_of_recogniser p None = []
data_of_recogniser p (Some x) = (x, data_name.Recogniser p) ∷ []

-- an enumerator's name, and then its recogniser's
abbrev pub data_from : ℕ → ℕ → ℕ → List Enumerator → List (Name × DataName)
data_from sort count place [] = []
data_from sort count place (e ∷ es) =
    (e.name, data_name.Enumerator (positioned sort count place))
    ∷ (data_of_recogniser (positioned sort count place) e.recogniser
    ++ data_from sort count (suc place) es)

abbrev pub data_in : ℕ → Sort → List (Name × DataName)
data_in n (Struct es) = data_from n (length es) 0 es
data_in n (Alias s) = []

abbrev pub all_data : ℕ → List SortDeclaration → List (Name × DataName)
all_data n [] = []
all_data n (d ∷ ds) = data_in n d.sort ++ all_data (number_behind n d.sort) ds

abbrev pub as_enumerator : Option DataName → Option Position
as_enumerator None = None
as_enumerator (Some (data_name.Enumerator p)) = Some p
as_enumerator (Some (data_name.Recogniser p)) = None

abbrev pub as_recogniser : Option DataName → Option Position
as_recogniser None = None
as_recogniser (Some (data_name.Enumerator p)) = None
as_recogniser (Some (data_name.Recogniser p)) = Some p
