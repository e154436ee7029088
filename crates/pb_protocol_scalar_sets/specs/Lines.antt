-- The line that names the elements of a sort that are permuted.
use Rattle.std.specs.Prelude.{ℕ, pos, negsuc, List, [], ◌++◌, Option, Some, None, codes, flat_map}
use Rattle.std.specs.Fmt.{signed_decimal}
use Rattle.std.specs.List.{slice_get}
use Rattle.pb_base_values.specs.Carrier.{Value, Carrier}
use Rattle.pb_text_meaning.specs.Syntax.{Name, Enumerator, Sort, Struct, Alias, Spec}
use Rattle.pb_text_meaning.specs.Sorts.{declared}

-- the enumerators of a sort, of which a range has none
abbrev pub enumerators_of : Option Sort → List Enumerator
enumerators_of (Some (Struct es)) = es
enumerators_of (Some (Alias s)) = []
enumerators_of None = []

abbrev pub enumerator_at : List Enumerator → Value → Option Enumerator
enumerator_at es (pos n) = slice_get es n
enumerator_at es (negsuc n) = None

-- an element is named by its enumerator, or else by its number
abbrev pub element_name : Option Enumerator → Value → List ℕ
element_name (Some e) v = e.name
element_name None v = signed_decimal v

abbrev pub element_text : List Enumerator → Value → List ℕ
element_text es v = codes " " ++ element_name (enumerator_at es v) v

-- `symmetry Node n1 n2 n3`
abbrev pub symmetry_line : Spec → Name → Carrier → List ℕ
symmetry_line spec sort M =
    codes "symmetry " ++ sort
    ++ flat_map (element_text (enumerators_of (declared spec.sorts sort))) M ++ codes "\n"
