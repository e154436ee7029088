-- The carrier of a sort that a specification names, and the place of an enumerator.
use Rattle.std.specs.Prelude.{ℕ, zero, suc, pos, Bool, true, false, if◌then◌else◌, List, [], ◌∷◌, length, Option, Some, None, codes}
use Rattle.std.specs.List.{find}
use Rattle.pb_base_values.specs.Carrier.{Carrier, of_bool, numbers_from, interval}
use Rattle.pb_text_meaning.specs.Syntax.{Name, same_name, Enumerator, Sort, Struct, Alias, SortDeclaration, Range, Spec}

abbrev pub declared : List SortDeclaration → Name → Option Sort
declared [] s = None
declared (d ∷ ds) s = if same_name d.name s then Some d.sort else declared ds s

abbrev pub range_of : List Range → Name → Option Range
range_of rs s = find (λ r. same_name r.name s) rs

-- a range that is given, else Bool, else what is declared; an alias has its target's carrier
abbrev pub carrier_by : Option Range → Bool → Option Sort → (Name → Carrier) → Carrier
carrier_by (Some r) is_bool sort target = interval r.low r.high
carrier_by None true sort target = of_bool false ∷ of_bool true ∷ []
carrier_by None false (Some (Struct enumerators)) target = numbers_from (pos 0) (length enumerators)
carrier_by None false (Some (Alias s)) target = target s
carrier_by None false None target = []

-- through at most n sorts
abbrev pub carrier_within : ℕ → Spec → Name → Carrier
carrier_within zero spec s = []
carrier_within (suc n) spec s =
    carrier_by (range_of spec.ranges s) (same_name s (codes "Bool")) (declared spec.sorts s)
    (carrier_within n spec)

-- the carrier of a sort: no chain of aliases is longer than the list of sorts
abbrev pub carrier_of : Spec → Name → Carrier
carrier_of spec s = carrier_within (suc (length spec.sorts)) spec s

-- ---- enumerators

-- whether an enumerator has a recogniser of this name
abbrev pub is_recogniser : Name → Option Name → Bool
is_recogniser f None = false
is_recogniser f (Some g) = same_name g f

-- the place of an enumerator by this test, in a list that begins at n
abbrev pub place_from : ℕ → (Enumerator → Bool) → List Enumerator → Option ℕ
place_from n test [] = None
place_from n test (e ∷ es) = if test e then Some n else place_from (suc n) test es

abbrev pub or_else : Option ℕ → Option ℕ → Option ℕ
or_else None o = o
or_else (Some n) o = Some n

abbrev pub place_within : (Enumerator → Bool) → Sort → Option ℕ
place_within test (Struct es) = place_from 0 test es
place_within test (Alias s) = None

-- the place of the first that passes, over all structs
abbrev pub place_in : (Enumerator → Bool) → List SortDeclaration → Option ℕ
place_in test [] = None
place_in test (d ∷ ds) = or_else (place_within test d.sort) (place_in test ds)
