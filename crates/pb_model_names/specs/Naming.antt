-- What the names that are given so far, and those that are taken, have to do with one another.
use Rattle.std.specs.Prelude.{◌≡◌, List, [], ◌∷◌, ◌++◌}
use Rattle.pb_text_meaning.specs.Syntax.{Name}
use Rattle.pb_model_translation.specs.Names.{Wanted}
use Rattle.pb_model_names.specs.declared.naming.Naming.{Naming}
use Rattle.pb_model_names.specs.Given.{with_given}
use Rattle.pb_model_names.specs.Taken.{NameSet, IsSetOf}
use Rattle.pb_model_names.specs.View.{names_in}

-- what is taken are the names that are given, and for operands these variables too
abbrev pub IsNaming : List Name → Naming → Type 0
IsNaming variables n =
    IsSetOf (variables ++ names_in n.names.items) n.for_operands.names
    × IsSetOf (names_in n.names.items) n.for_fixpoints.names

-- no name is given, and for operands a set of variables is taken
abbrev pub Begins : NameSet → Naming → Type 0
Begins set n =
    (names_in n.names.items ≡ [])
    × ((variables : List Name) → IsSetOf variables set → IsNaming variables n)

-- one more name is given
abbrev pub GivesName : Naming → Naming → Name → Type 0
GivesName old new x =
    (names_in new.names.items ≡ names_in old.names.items ++ (x ∷ []))
    × ((variables : List Name) → IsNaming variables old → IsNaming variables new)

-- the equations that want names are given them
abbrev pub Gives : Naming → Naming → List Wanted → Type 0
Gives old new ws =
    (variables : List Name) → IsNaming variables old → IsNaming variables new
    × (names_in new.names.items ≡ with_given variables (names_in old.names.items) ws)
