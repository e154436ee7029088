-- Where declarations are as they must be, each sort with an end has a value.
use Rattle.std.proofs.Common.{◌≡◌, ℕ, zero, suc, ◌<◌, ◌≤◌, Bool, true, false, cond, List, [], ◌∷◌, length, sym, subst, arith, true≢false, Option, Some, None}
use Rattle.std.specs.Prelude.{⊤, All, ℤ, pos, ◌≤ℤ◌, ◌+ℤ◌, ◌-ℤ◌, codes}
use Rattle.std.specs.Option.{IfSome}
use Rattle.std.proofs.lemmas.Int.{ints}
use Rattle.std.proofs.lemmas.List.Elements.{All-head, All-tail}
use Rattle.pb_base_values.specs.Carrier.{at_least_none, interval, numbers_from}
use Rattle.pb_sorts.proofs.Intervals.{length-numbers_from, count-interval}
use Rattle.pb_text_meaning.specs.Syntax.{Name, same_name, Sort, Struct, Alias, SortDeclaration, Range, Spec}
use Rattle.pb_text_meaning.specs.Sorts.{carrier_of}
use Rattle.pb_typing_declarations.specs.declared.sorts.Integers.{Integers}
use Rattle.pb_typing_declarations.specs.declared.sorts.Integers.TheVariants as integers
use Rattle.pb_typing_declarations.specs.Shapes.{shape_carrier, Definition, Structure, Renaming, definition_of, definitions_from, definitions, number_behind, first, Bounds, range_bounds, End, Unranged, Undeclared, built_in_integers, end_by, end_within, end_of, end_shape}
use Rattle.pb_typing_declarations.specs.WellDeclared.{IsDeclared, IsWellDefined, IsRanged, has_shape}
use Rattle.pb_typing_declarations.proofs.ShapeLaws.{shape_carrier-sort_shape}

-- ---- what is declared

abbrev IsOrdered : Bounds → Type 0
IsOrdered b = b.0 ≤ℤ b.1

abbrev HasEnumerators : Definition → Type 0
HasEnumerators (Structure n count) = 0 < count
HasEnumerators (Renaming s) = ⊤

ordered_bounds : (spec : Spec) (rs : List Range) (s : Name) → All (IsRanged spec) rs → IfSome (first (range_bounds rs) s) IsOrdered
ordered_bounds spec [] s all = tt
ordered_bounds spec (r ∷ rs) s all = by_test (same_name r.name s) (ordered_bounds spec rs s (All-tail (IsRanged spec) r rs all))
  where
    by_test : (b : Bool) → IfSome (first (range_bounds rs) s) IsOrdered → IfSome (cond b (Some (r.low, r.high)) (first (range_bounds rs) s)) IsOrdered
    by_test true rest = (All-head (IsRanged spec) r rs all).order
    by_test false rest = rest

abbrev Defined : Spec → SortDeclaration → Type 0
Defined spec d = IsWellDefined spec d.name d.sort

some_enumerators : (spec : Spec) (n : ℕ) (s : Name) (sort : Sort) → IsWellDefined spec s sort → HasEnumerators (definition_of n sort)
some_enumerators spec n s (Struct es) h = h.0
some_enumerators spec n s (Alias t) h = tt

definition_enumerators : (spec : Spec) (n : ℕ) (ds : List SortDeclaration) (s : Name) → All (Defined spec) ds → IfSome (first (definitions_from n ds) s) HasEnumerators
definition_enumerators spec n [] s all = tt
definition_enumerators spec n (d ∷ ds) s all =
    by_test (same_name d.name s) (definition_enumerators spec (number_behind n d.sort) ds s (All-tail (Defined spec) d ds all))
  where
    by_test : (b : Bool) → IfSome (first (definitions_from (number_behind n d.sort) ds) s) HasEnumerators
        → IfSome (cond b (Some (definition_of n d.sort)) (first (definitions_from (number_behind n d.sort) ds) s)) HasEnumerators
    by_test true rest = some_enumerators spec n d.name d.sort (All-head (Defined spec) d ds all)
    by_test false rest = rest

-- ---- ends of chains

abbrev HasValue : End → Type 0
HasValue e = has_shape e ≡ true → 1 ≤ length (shape_carrier (end_shape e))

interval_value : (low high : ℤ) → low ≤ℤ high → 1 ≤ length (interval low high)
interval_value low high h =
    omega (arith, ints, length-numbers_from low (at_least_none (high -ℤ low +ℤ pos 1)), count-interval low high h, h)

struct_value : (count : ℕ) → 0 < count → 1 ≤ length (numbers_from (pos 0) count)
struct_value count h = omega (arith, length-numbers_from (pos 0) count, h)

step_value : (range : Option Bounds) (is_bool : Bool) (d : Option Definition) (other : End) (next : Name → End) → IfSome range IsOrdered → IfSome d HasEnumerators
    → HasValue other → ((t : Name) → HasValue (next t)) → HasValue (end_by range is_bool d other next)
step_value (Some (low, high)) b d other next r e f g = λ h. interval_value low high r
step_value None true d other next r e f g = λ h. omega arith
step_value None false (Some (Structure n count)) other next r e f g = λ h. struct_value count e
step_value None false (Some (Renaming t)) other next r e f g = g t
step_value None false None other next r e f g = f

integers_value : (s : Name) → HasValue (built_in_integers s)
integers_value s = by_tests integers.Pos integers.Nat integers.Int (same_name s (codes "Pos")) (same_name s (codes "Nat")) (same_name s (codes "Int"))
  where
    by_tests : (i j k : Integers) (a b c : Bool) → HasValue (cond a (Unranged i) (cond b (Unranged j) (cond c (Unranged k) Undeclared)))
    by_tests i j k true b c = λ h. absurd (true≢false (sym h))
    by_tests i j k false true c = λ h. absurd (true≢false (sym h))
    by_tests i j k false false true = λ h. absurd (true≢false (sym h))
    by_tests i j k false false false = λ h. absurd (true≢false (sym h))

within_value : (n : ℕ) (bounds : Name → Option Bounds) (definition : Name → Option Definition) → ((t : Name) → IfSome (bounds t) IsOrdered) → ((t : Name) → IfSome (definition t) HasEnumerators)
    → (s : Name) → HasValue (end_within n bounds definition s)
within_value zero bounds definition r e s = λ h. absurd (true≢false (sym h))
within_value (suc n) bounds definition r e s =
    step_value (bounds s) (same_name s (codes "Bool")) (definition s) (built_in_integers s) (end_within n bounds definition) (r s) (e s)
    (integers_value s) (within_value n bounds definition r e)

-- a sort with an end has a value
pub some_value : (spec : Spec) (s : Name) → IsDeclared spec → has_shape (end_of spec s) ≡ true → 1 ≤ length (carrier_of spec s)
some_value spec s d h =
    subst (λ c. 1 ≤ length c) (shape_carrier-sort_shape spec s)
    (within_value (suc (length spec.sorts)) (first (range_bounds spec.ranges)) (first (definitions spec))
    (λ t. ordered_bounds spec spec.ranges t d.ranged) (λ t. definition_enumerators spec 0 spec.sorts t d.defined) s h)
