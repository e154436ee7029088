-- Enumerators and recognisers, over all structs.
use Rattle.std.specs.Prelude.{ℕ, suc, List, [], ◌∷◌, ◌++◌, length, Option, Some, None}
use Rattle.std.specs.Option.{option_map}
use Rattle.pb_text_meaning.specs.Syntax.{Name, Enumerator, Sort, Struct, Alias, SortDeclaration}
use Rattle.pb_text_meaning.specs.Syntax.{Spec}
use Rattle.pb_typing_declarations.specs.declared.sorts.Enumerator as declared
use Rattle.pb_typing_declarations.specs.Shapes.{Shape, Places, first, number_behind}

-- the place of an enumerator: of which struct, how many enumerators that has, and which one it is
abbrev pub Position : Type 0
Position = declared.Enumerator

abbrev pub positioned : ℕ → ℕ → ℕ → Position
positioned sort count place = record { sort = sort; count = count; place = place }

-- the enumerators of a struct, from a place on
abbrev pub enumerators_from : ℕ → ℕ → ℕ → List Enumerator → List (Name × Position)
enumerators_from sort count place [] = []
enumerators_from sort count place (e ∷ es) =
    (e.name, positioned sort count place) ∷ enumerators_from sort count (suc place) es

abbrev pub enumerators_in : ℕ → Sort → List (Name × Position)
enumerators_in n (Struct es) = enumerators_from n (length es) 0 es
enumerators_in n (Alias s) = []

abbrev pub all_enumerators : ℕ → List SortDeclaration → List (Name × Position)
all_enumerators n [] = []
all_enumerators n (d ∷ ds) = enumerators_in n d.sort ++ all_enumerators (number_behind n d.sort) ds

-- the enumerators that have a recogniser, each by the recogniser's name
abbrev pub recogniser_entry : Option Name → Position → List (Name × Position)
recogniser_entry None p = []
recogniser_entry (Some x) p = (x, p) ∷ []

abbrev pub recognisers_from : ℕ → ℕ → ℕ → List Enumerator → List (Name × Position)
recognisers_from sort count place [] = []
recognisers_from sort count place (e ∷ es) =
    recogniser_entry e.recogniser (positioned sort count place)
    ++ recognisers_from sort count (suc place) es

abbrev pub recognisers_in : ℕ → Sort → List (Name × Position)
recognisers_in n (Struct es) = recognisers_from n (length es) 0 es
recognisers_in n (Alias s) = []

abbrev pub all_recognisers : ℕ → List SortDeclaration → List (Name × Position)
all_recognisers n [] = []
all_recognisers n (d ∷ ds) = recognisers_in n d.sort ++ all_recognisers (number_behind n d.sort) ds

-- the enumerator of this name, and the enumerator whose recogniser has this name
abbrev pub enumerator_of : Spec → Name → Option Position
enumerator_of spec x = first (all_enumerators 0 spec.sorts) x

abbrev pub recogniser_of : Spec → Name → Option Position
recogniser_of spec x = first (all_recognisers 0 spec.sorts) x

-- the shape of the sort that an enumerator is of
abbrev pub position_shape : Position → Shape
position_shape p = Places p.sort p.count

abbrev pub enumerator_shape : Spec → Name → Option Shape
enumerator_shape spec x = option_map position_shape (enumerator_of spec x)

-- the shape of what a recogniser takes
abbrev pub recogniser_shape : Spec → Name → Option Shape
recogniser_shape spec x = option_map position_shape (recogniser_of spec x)
