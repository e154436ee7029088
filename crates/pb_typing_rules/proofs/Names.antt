-- The value of a name is one of the name's shape.
use Rattle.std.proofs.Common.{◌≡◌, ℕ, suc, ◌+◌, ◌<◌, Bool, true, false, cond, List, [], ◌∷◌, ◌++◌, length, refl, sym, subst, arith, ℤ, pos, Option, Some, None}
use Rattle.std.specs.Prelude.{unwrap_or, ⊤}
use Rattle.std.specs.Option.{option_map}
use Rattle.std.proofs.lemmas.Int.{ints}
use Rattle.pb_text_meaning.specs.Syntax.{Name, same_name, Enumerator, Sort, Struct, Alias, SortDeclaration, Variable, Spec}
use Rattle.pb_text_meaning.specs.Sorts.{place_from, place_within, place_in, carrier_of}
use Rattle.pb_text_meaning.specs.Sorts as sorts
use Rattle.pb_text_meaning.specs.Value.{Assignment, looked_up, named_value}
use Rattle.pb_base_values.specs.Carrier.{contains}
use Rattle.pb_text_meaning.specs.Fits.{FitsFor}
use Rattle.pb_typing_declarations.specs.Shapes.{Shape, Places, first, number_behind, sort_shape}
use Rattle.pb_typing_declarations.specs.Enumerators.{Position, positioned, enumerators_from, enumerators_in, all_enumerators, enumerator_of, position_shape, enumerator_shape}
use Rattle.pb_typing_declarations.proofs.ShapeLaws.{shape_carrier-sort_shape}
use Rattle.pb_typing_rules.specs.Shapes.{IsValueOf}
use Rattle.pb_typing_rules.specs.Scope.{Scope, declare, bound, shape_or, named_shape, AgreeWithShape, IsWithinScope}
use Rattle.pb_typing_rules.specs.Term.{shape_or_unknown, IsNamed}
use Rattle.pb_typing_rules.proofs.Values.{Contained, bounded_value, carrier_value}

-- ---- enumerators

-- the place of an enumerator is below the count of its struct
abbrev Placed : Option Position → Option ℕ → Type 0
Placed None o = ⊤
Placed (Some p) o = (o ≡ Some p.place) × (p.place < p.count)

abbrev Entries : Type 0
Entries = List (Name × Position)

in_struct : (x : Name) (sort count place : ℕ) (es : List Enumerator) (more : Entries) (o : Option ℕ) → place + length es ≡ count → Placed (first more x) o
    → Placed (first (enumerators_from sort count place es ++ more) x) (sorts.or_else (place_from place (λ e. same_name e.name x) es) o)
in_struct x sort count place [] more o is h = h
in_struct x sort count place (e ∷ es) more o is h =
    by_test (same_name e.name x) (omega arith) (in_struct x sort count (suc place) es more o (omega arith) h)
  where
    by_test : (b : Bool) → place < count → Placed (first (enumerators_from sort count (suc place) es ++ more) x) (sorts.or_else (place_from (suc place) (λ f. same_name f.name x) es) o)
        → Placed (cond b (Some (positioned sort count place))
        (first (enumerators_from sort count (suc place) es ++ more) x))
        (sorts.or_else (cond b (Some place) (place_from (suc place) (λ f. same_name f.name x) es)) o)
    by_test true below rest = (refl, below)
    by_test false below rest = rest

in_sort : (x : Name) (n : ℕ) (s : Sort) (more : Entries) (o : Option ℕ) → Placed (first more x) o
    → Placed (first (enumerators_in n s ++ more) x) (sorts.or_else (place_within (λ e. same_name e.name x) s) o)
in_sort x n (Struct es) more o h = in_struct x n (length es) 0 es more o (omega arith) h
in_sort x n (Alias s) more o h = h

in_sorts : (x : Name) (n : ℕ) (ds : List SortDeclaration) → Placed (first (all_enumerators n ds) x) (place_in (λ e. same_name e.name x) ds)
in_sorts x n [] = tt
in_sorts x n (d ∷ ds) = in_sort x n d.sort (all_enumerators (number_behind n d.sort) ds) (place_in (λ e. same_name e.name x) ds) (in_sorts x (number_behind n d.sort) ds)

placed_value : (p : Option Position) (o : Option ℕ) (s : Shape) → Placed p o → option_map position_shape p ≡ Some s → IsValueOf s (pos (unwrap_or o 0))
placed_value None o s h e = absurd (cc)
placed_value (Some p) o s h e =
    let is : Places p.sort p.count ≡ s = cc in
    let below = h.1 in
    let here : IsValueOf (Places p.sort p.count) (pos (unwrap_or (Some p.place) 0)) = (omega (arith, ints), omega (arith, ints)) in
    let P : Option ℕ → Type 0 = λ q. IsValueOf (Places p.sort p.count) (pos (unwrap_or q 0)) in
    let Q : Shape → Type 0 = λ t. IsValueOf t (pos (unwrap_or o 0)) in
    subst Q is (subst P (sym h.0) here)

pub enumerator_value : (spec : Spec) (x : Name) (s : Shape) → enumerator_shape spec x ≡ Some s → IsValueOf s (named_value spec None x)
enumerator_value spec x s e = placed_value (enumerator_of spec x) (place_in (λ y. same_name y.name x) spec.sorts) s (in_sorts x 0 spec.sorts) e

-- ---- names

by_agreement : (spec : Spec) (x : Name) (v : Option ℤ) (s e : Option Shape) → e ≡ enumerator_shape spec x
    → AgreeWithShape v s → IsNamed (shape_or s e) → Contained (shape_or_unknown (shape_or s e)) (named_value spec v x)
by_agreement spec x (Some v) (Some s) e is h k = record { value = h; bounded = bounded_value s v k h }
by_agreement spec x None None (Some s) is h k = let p = enumerator_value spec x s (sym is) in record { value = p; bounded = bounded_value s _ k p }
by_agreement spec x None None None is h k = absurd k
by_agreement spec x None (Some s) e is h k = absurd h
by_agreement spec x (Some v) None e is h k = absurd h

pub name_contained : (spec : Spec) (scope : Scope) (a : Assignment) (x : Name) → IsWithinScope a scope
    → IsNamed (named_shape spec scope x) → Contained (shape_or_unknown (named_shape spec scope x)) (named_value spec (looked_up a x) x)
name_contained spec scope a x within k = by_agreement spec x (looked_up a x) (scope x) (enumerator_shape spec x) refl (within x) k

-- ---- bound variables

pub within_declared : (a : Assignment) (scope : Scope) (y : Name) (s : Shape) (v : ℤ) → IsValueOf s v → IsWithinScope a scope → IsWithinScope ((y, v) ∷ a) (declare y s scope)
within_declared a scope y s v h within = λ x. by_test x (same_name y x)
  where
    by_test : (x : Name) (b : Bool) → AgreeWithShape (cond b (Some v) (looked_up a x)) (cond b (Some s) (scope x))
    by_test x true = h
    by_test x false = within x

pub sort_value : (spec : Spec) (s : Name) (v : ℤ) → contains (carrier_of spec s) v ≡ true → IsValueOf (sort_shape spec s) v
sort_value spec s v e = carrier_value (sort_shape spec s) v (subst (λ c. contains c v ≡ true) (sym (shape_carrier-sort_shape spec s)) e)

-- a fact of each assignment within the variables' scope
pub for_variables : (spec : Spec) (xs : List Variable) (scope : Scope) (a : Assignment) (P : Assignment → Type 0)
    → IsWithinScope a scope → ((b : Assignment) → IsWithinScope b (bound spec xs scope) → P b) → FitsFor spec xs P a
for_variables spec [] scope a P within h = h a within
for_variables spec (x ∷ xs) scope a P within h =
    λ v e. for_variables spec xs (declare x.name (sort_shape spec x.sort) scope) ((x.name, v) ∷ a) P (within_declared a scope x.name (sort_shape spec x.sort) v (sort_value spec x.sort v e) within) h
