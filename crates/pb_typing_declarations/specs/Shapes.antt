-- What values a sort has: its kind, and for whole numbers their interval.
use Rattle.std.specs.Prelude.{ℕ, zero, suc, ℤ, pos, Bool, true, false, if◌then◌else◌, ◌||◌, List}
use Rattle.std.specs.Prelude.{[], ◌∷◌, length, map, Option, Some, None, codes, is_some}
use Rattle.pb_base_values.specs.Carrier.{Carrier, of_bool, numbers_from, interval}
use Rattle.pb_text_meaning.specs.Syntax.{Name, same_name, Variable, Sort, Struct, Alias}
use Rattle.pb_text_meaning.specs.Syntax.{SortDeclaration, Range, Spec}
use Rattle.pb_typing_declarations.specs.declared.sorts.Integers.{Integers}
use Rattle.pb_typing_declarations.specs.declared.sorts.Integers.TheVariants as integers

-- Kind and interval together: no values are known; false and true; the enumerators of the struct
-- with this number among the structs in declared order, so many as stand second; the whole numbers
-- from low to high.
pub data Shape : Type 0 where
  Unknown : Shape
  Truths : Shape
  Places : ℕ → ℕ → Shape
  Wholes : ℤ → ℤ → Shape

-- the values
abbrev pub shape_carrier : Shape → Carrier
shape_carrier Unknown = []
shape_carrier Truths = of_bool false ∷ of_bool true ∷ []
shape_carrier (Places sort count) = numbers_from (pos 0) count
shape_carrier (Wholes low high) = interval low high

-- ---- definitions of sorts, the structs numbered

-- the struct with this number and so many enumerators, or another name of a sort
pub data Definition : Type 0 where
  Structure : ℕ → ℕ → Definition
  Renaming : Name → Definition

abbrev pub definition_of : ℕ → Sort → Definition
definition_of n (Struct es) = Structure n (length es)
definition_of n (Alias s) = Renaming s

-- the number of the next struct, where n is that of this sort if it is one
abbrev pub number_behind : ℕ → Sort → ℕ
number_behind n (Struct es) = suc n
number_behind n (Alias s) = n

-- the value of the first entry with this name
abbrev pub first : {V : Type 0} → List (Name × V) → Name → Option V
first [] x = None
first ((y, v) ∷ ys) x = if same_name y x then Some v else first ys x

abbrev pub definitions_from : ℕ → List SortDeclaration → List (Name × Definition)
definitions_from n [] = []
definitions_from n (d ∷ ds) =
    (d.name, definition_of n d.sort) ∷ definitions_from (number_behind n d.sort) ds

abbrev pub definitions : Spec → List (Name × Definition)
definitions spec = definitions_from 0 spec.sorts

-- ---- the end of a chain of aliases

-- values; an integer sort without a range; a name that is no sort's; no end
pub data End : Type 0 where
  Shaped : Shape → End
  Unranged : Integers → End
  Undeclared : End
  Endless : End

-- a sort that isn't declared: one of the three built-in integer sorts, or none
abbrev pub built_in_integers : Name → End
built_in_integers s =
    if same_name s (codes "Pos") then Unranged integers.Pos else
    if same_name s (codes "Nat") then Unranged integers.Nat else
    if same_name s (codes "Int") then Unranged integers.Int else Undeclared

-- the bounds of ranges
abbrev pub Bounds : Type 0
Bounds = ℤ × ℤ

abbrev pub range_bounds : List Range → List (Name × Bounds)
range_bounds rs = map (λ (r : Range). (r.name, (r.low, r.high))) rs

-- a range that is given, else Bool, else what is declared, an alias going on to its target; else
-- what is built in
abbrev pub end_by : Option Bounds → Bool → Option Definition → End → (Name → End) → End
end_by (Some (low, high)) is_bool definition other next = Shaped (Wholes low high)
end_by None true definition other next = Shaped Truths
end_by None false (Some (Structure n count)) other next = Shaped (Places n count)
end_by None false (Some (Renaming s)) other next = next s
end_by None false None other next = other

-- through at most n sorts
abbrev pub end_within : ℕ → (Name → Option Bounds) → (Name → Option Definition) → Name → End
end_within zero bounds definition s = Endless
end_within (suc n) bounds definition s =
    end_by (bounds s) (same_name s (codes "Bool")) (definition s) (built_in_integers s)
    (end_within n bounds definition)

-- no chain of aliases is longer than the list of sorts
abbrev pub end_of : Spec → Name → End
end_of spec s =
    end_within (suc (length spec.sorts)) (first (range_bounds spec.ranges))
    (first (definitions spec)) s

-- the same without any ranges: the built-in sort or the struct behind the aliases
abbrev pub base_of : Spec → Name → End
base_of spec s = end_within (suc (length spec.sorts)) (λ r. None) (first (definitions spec)) s

abbrev pub end_shape : End → Shape
end_shape (Shaped h) = h
end_shape (Unranged k) = Unknown
end_shape Undeclared = Unknown
end_shape Endless = Unknown

-- an alias's own range wins over its target's
abbrev pub sort_shape : Spec → Name → Shape
sort_shape spec s = end_shape (end_of spec s)

-- the shapes of variables' sorts
abbrev pub variable_shapes : Spec → List Variable → List Shape
variable_shapes spec xs = map (λ (x : Variable). sort_shape spec x.sort) xs

abbrev pub is_built_in : Name → Bool
is_built_in s =
    same_name s (codes "Bool")
    || (same_name s (codes "Pos") || (same_name s (codes "Nat") || same_name s (codes "Int")))

abbrev pub is_sort : Spec → Name → Bool
is_sort spec s = is_built_in s || is_some (first (definitions spec) s)
