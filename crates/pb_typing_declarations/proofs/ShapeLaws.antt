-- The values of a sort's shape are its carrier.
use Rattle.std.proofs.Common.{◌≡◌, ◌≢◌, true≢false, ℕ, zero, suc, Bool, true, false, cond, List, [], ◌∷◌, length, refl, sym, ◌∙◌, ap}
use Rattle.std.specs.Prelude.{Option, Some, None, codes, MatchOption}
use Rattle.std.specs.Option.{option_map}
use Rattle.pb_base_values.specs.Carrier.{Carrier}
use Rattle.pb_sorts.specs.declared.carrier.Carrier as program
use Rattle.pb_sorts.specs.declared.carrier.Carrier.TheVariants as carrier
use Rattle.pb_sorts.specs.Carrier.{values_of}
use Rattle.pb_text_meaning.specs.Syntax.{Name, same_name, Sort, Struct, Alias, SortDeclaration, Range, Spec}
use Rattle.pb_text_meaning.specs.Sorts.{declared, range_of, carrier_by, carrier_within, carrier_of}
use Rattle.pb_typing_declarations.specs.declared.sorts.Integers.{Integers}
use Rattle.pb_typing_declarations.specs.declared.sorts.Integers.TheVariants as integers
use Rattle.pb_typing_declarations.specs.Shapes.{Unknown, shape_carrier, Definition, Structure, Renaming, definition_of, number_behind, first, definitions_from, definitions, End, Bounds, range_bounds, end_by, end_within, end_of, end_shape, sort_shape, built_in_integers}
use Rattle.pb_typing_declarations.specs.Entries.{carrier_shape}
use Rattle.pb_typing_declarations.specs.WellDeclared.{has_shape}

abbrev bounds : Range → Bounds
bounds r = (r.low, r.high)

-- the first range of this name
bounds-range_of : (rs : List Range) (s : Name) → first (range_bounds rs) s ≡ option_map bounds (range_of rs s)
bounds-range_of [] s = refl
bounds-range_of (r ∷ rs) s = by_test (same_name r.name s) (bounds-range_of rs s)
  where
    by_test : (b : Bool) → first (range_bounds rs) s ≡ option_map bounds (range_of rs s) → cond b (Some (bounds r)) (first (range_bounds rs) s) ≡ option_map bounds (cond b (Some r) (range_of rs s))
    by_test true rest = refl
    by_test false rest = rest

-- the first declaration of this name, the structs numbered
definition_found : (n : ℕ) (ds : List SortDeclaration) (s : Name) → (m : ℕ) × (first (definitions_from n ds) s ≡ option_map (definition_of m) (declared ds s))
definition_found n [] s = (n, refl)
definition_found n (d ∷ ds) s =
    let rest = definition_found (number_behind n d.sort) ds s in
    by_test (same_name d.name s) rest.0 rest.1
  where
    by_test : (b : Bool) (m : ℕ) → first (definitions_from (number_behind n d.sort) ds) s ≡ option_map (definition_of m) (declared ds s)
        → (m : ℕ) × ((cond b (Some (definition_of n d.sort)) (first (definitions_from (number_behind n d.sort) ds) s)) ≡ option_map (definition_of m) (cond b (Some d.sort) (declared ds s)))
    by_test true m is = (n, refl)
    by_test false m is = (m, is)

abbrev end_carrier : End → Carrier
end_carrier e = shape_carrier (end_shape e)

integers_have_none : (s : Name) → end_carrier (built_in_integers s) ≡ []
integers_have_none s =
    by_tests integers.Pos integers.Nat integers.Int (same_name s (codes "Pos")) (same_name s (codes "Nat")) (same_name s (codes "Int"))
  where
    by_tests : (i j k : Integers) (a b c : Bool) → end_carrier (cond a (End.Unranged i) (cond b (End.Unranged j) (cond c (End.Unranged k) End.Undeclared))) ≡ []
    by_tests i j k true b c = refl
    by_tests i j k false true c = refl
    by_tests i j k false false true = refl
    by_tests i j k false false false = refl

one_step : (range : Option Range) (is_bool : Bool) (m : ℕ) (sort : Option Sort) (other : End) (next : Name → End) (target : Name → Carrier)
    → end_carrier other ≡ [] → ((t : Name) → end_carrier (next t) ≡ target t)
    → end_carrier (end_by (option_map bounds range) is_bool (option_map (definition_of m) sort) other next) ≡ carrier_by range is_bool sort target
one_step (Some r) b m sort other next target none same = refl
one_step None true m sort other next target none same = refl
one_step None false m (Some (Struct es)) other next target none same = refl
one_step None false m (Some (Alias t)) other next target none same = same t
one_step None false m None other next target none same = none

carrier_behind : (S : Spec) (n : ℕ) (s : Name) → end_carrier (end_within n (first (range_bounds S.ranges)) (first (definitions S)) s) ≡ carrier_within n S s
carrier_behind S zero s = refl
carrier_behind S (suc n) s =
    let found = definition_found 0 S.sorts s in
    let next = end_within n (first (range_bounds S.ranges)) (first (definitions S)) in
    ap (λ (r : Option Bounds). end_carrier (end_by r (same_name s (codes "Bool")) (first (definitions S) s) (built_in_integers s) next)) (bounds-range_of S.ranges s)
    ∙ (ap (λ (d : Option Definition). end_carrier (end_by (option_map bounds (range_of S.ranges s)) (same_name s (codes "Bool")) d (built_in_integers s) next)) found.1
    ∙ one_step (range_of S.ranges s) (same_name s (codes "Bool")) found.0 (declared S.sorts s) (built_in_integers s) next (carrier_within n S) (integers_have_none s) (carrier_behind S n))

pub shape_carrier-sort_shape : (S : Spec) (s : Name) → shape_carrier (sort_shape S s) ≡ carrier_of S s
shape_carrier-sort_shape S s = carrier_behind S (suc (length S.sorts)) s

-- ---- carriers of the program

values_shown : (c : program.Carrier) → values_of c ≡ shape_carrier (carrier_shape (Some c))
values_shown carrier.Bool = refl
values_shown (carrier.Enum e) = refl
values_shown (carrier.Range r) = refl

pub carrier_is : (S : Spec) (s : Name) (c : program.Carrier) → End.Shaped (carrier_shape (Some c)) ≡ end_of S s → values_of c ≡ carrier_of S s
carrier_is S s c is = values_shown c ∙ (ap end_carrier is ∙ shape_carrier-sort_shape S s)

-- the carrier where there is one, and no values where there is none
pub values_found : (o : Option program.Carrier) (K : Carrier) → shape_carrier (carrier_shape o) ≡ K → MatchOption o (K ≡ []) (λ c. values_of c ≡ K)
values_found None K is = sym is
values_found (Some c) K is = values_shown c ∙ is

-- ---- a sort that has values has a shape

step_known : (range : Option Bounds) (is_bool : Bool) (d : Option Definition) (other : End) (next : Name → End)
    → (has_shape other ≡ true → end_shape other ≢ Unknown) → ((t : Name) → has_shape (next t) ≡ true → end_shape (next t) ≢ Unknown)
    → has_shape (end_by range is_bool d other next) ≡ true → end_shape (end_by range is_bool d other next) ≢ Unknown
step_known (Some (low, high)) b d other next f g h = λ e. cc
step_known None true d other next f g h = λ e. cc
step_known None false (Some (Structure n c)) other next f g h = λ e. cc
step_known None false (Some (Renaming t)) other next f g h = g t h
step_known None false None other next f g h = f h

integers_known : (s : Name) → has_shape (built_in_integers s) ≡ true → end_shape (built_in_integers s) ≢ Unknown
integers_known s = by_tests integers.Pos integers.Nat integers.Int (same_name s (codes "Pos")) (same_name s (codes "Nat")) (same_name s (codes "Int"))
  where
    by_tests : (i j k : Integers) (a b c : Bool)
        → has_shape (cond a (End.Unranged i) (cond b (End.Unranged j) (cond c (End.Unranged k) End.Undeclared))) ≡ true
        → end_shape (cond a (End.Unranged i) (cond b (End.Unranged j) (cond c (End.Unranged k) End.Undeclared))) ≢ Unknown
    by_tests i j k true b c h = absurd (true≢false (sym h))
    by_tests i j k false true c h = absurd (true≢false (sym h))
    by_tests i j k false false true h = absurd (true≢false (sym h))
    by_tests i j k false false false h = absurd (true≢false (sym h))

known_within : (n : ℕ) (bounds : Name → Option Bounds) (definition : Name → Option Definition) (s : Name)
    → has_shape (end_within n bounds definition s) ≡ true → end_shape (end_within n bounds definition s) ≢ Unknown
known_within zero bounds definition s h = absurd (true≢false (sym h))
known_within (suc n) bounds definition s h =
    step_known (bounds s) (same_name s (codes "Bool")) (definition s) (built_in_integers s) (end_within n bounds definition) (integers_known s) (known_within n bounds definition) h

pub known : (S : Spec) (s : Name) → has_shape (end_of S s) ≡ true → sort_shape S s ≢ Unknown
known S s h = known_within (suc (length S.sorts)) (first (range_bounds S.ranges)) (first (definitions S)) s h
