-- What is declared of structs, enumerators and sorts.
use Rattle.std.proofs.Common.{◌≡◌, ℕ, zero, suc, ◌+◌, ◌<◌, ◌≤◌, Bool, true, false, cond, List, [], ◌∷◌, ◌++◌, length, Option, Some, None, refl, sym, ap, ◌∙◌, subst, arith, true≢false}
use Rattle.std.specs.Prelude.{◌≤ℤ◌, slice_get, codes, All, nat_lt, unwrap_or}
use Rattle.std.proofs.lemmas.Bool.{lt-ltb}
use Rattle.pb_base.specs.declared.limits.TheConstants.{MAX_ENUMERATORS}
use Rattle.pb_text_meaning.specs.Syntax.{Name, same_name, Variable, Enumerator, Sort, Struct, Alias, SortDeclaration, Range, Equation, Spec, Formula}
use Rattle.pb_typing_declarations.specs.Shapes.{Shape, Definition, Structure, Renaming, definition_of, definitions_from, number_behind, first, Bounds, range_bounds, End, Shaped, Unranged, Undeclared, Endless, end_by, end_within, end_of, end_shape, sort_shape, built_in_integers, definitions}
use Rattle.pb_typing_declarations.specs.Enumerators.{Position, positioned, enumerators_from, enumerators_in, all_enumerators, recogniser_entry, recognisers_from, recognisers_in, all_recognisers, enumerator_of, recogniser_of}
use Rattle.pb_typing_declarations.specs.WellDeclared.{IsDeclared, IsWellDefined, IsRanged, has_shape, structs_behind}
use Rattle.pb_typing_rules.specs.WellTyped.{parameter_scope, AreProper, IsWellTyped}
use Rattle.pb_normal.specs.Expansion.{expanded}
use Rattle.pb_normal.specs.Loops.{AreShaped, IsShaped, loops, variable_shapes}
use Rattle.pb_normal.specs.Structs.{with_count, struct_counts, AreFew, has_enumerator, IsDeclaredShape, HasDeclaredShapes}
use Rattle.pb_typing_nodes.proofs.Shaped.{variables-shaped, expanded-shaped}

-- ---- entries of tables

abbrev Each : {V : Type 0} → (V → Type 0) → List (Name × V) → Type 0
Each P [] = Unit {0}
Each P (e ∷ es) = P e.1 × Each P es

each_append : {V : Type 0} → (P : V → Type 0) (xs ys : List (Name × V)) → Each P xs → Each P ys → Each P (xs ++ ys)
each_append P [] ys h k = k
each_append P (x ∷ xs) ys h k = (h.0, each_append P xs ys h.1 k)

each_map : {V : Type 0} → (P Q : V → Type 0) (xs : List (Name × V)) → ((v : V) → P v → Q v) → Each P xs → Each Q xs
each_map P Q [] f h = tt
each_map P Q (x ∷ xs) f h = (f x.1 h.0, each_map P Q xs f h.1)

first_each : {V : Type 0} → (P : V → Type 0) (xs : List (Name × V)) (x : Name) (v : V) → Each P xs → first xs x ≡ Some v → P v
first_each P [] x v h e = cc
first_each {V = V} P (y ∷ ys) x v h e = by (same_name y.0 x) e (first_each P ys x v h.1)
  where
    by : (b : Bool) → cond b (Some y.1) (first ys x) ≡ Some v → (first ys x ≡ Some v → P v) → P v
    by true k go = let same : y.1 ≡ v = cc in subst P same h.0
    by false k go = go k

-- ---- structs

-- the struct with this number has so many enumerators, the first struct having number n
pub record IsStruct (n : ℕ) (counts : List ℕ) (sort count : ℕ) : Type 0 where
  pub index : ℕ
  pub numbered : sort ≡ n + index
  pub counted : slice_get counts index ≡ Some count

pub struct_known : (counts : List ℕ) (sort count : ℕ) → IsStruct 0 counts sort count → slice_get counts sort ≡ Some count
struct_known counts sort count h = let n = h.numbered in let e : sort ≡ h.index = omega arith in ap (slice_get counts) e ∙ h.counted

struct_behind : (n : ℕ) (s : Sort) (counts : List ℕ) (sort count : ℕ) → IsStruct (number_behind n s) counts sort count → IsStruct n (with_count s counts) sort count
struct_behind n (Struct es) counts sort count h = record { index = suc h.index; numbered = let e = h.numbered in omega arith; counted = h.counted }
struct_behind n (Alias t) counts sort count h = h

-- ---- enumerators and recognisers

pub record IsPosition (n : ℕ) (counts : List ℕ) (p : Position) : Type 0 where
  pub struct : IsStruct n counts p.sort p.count
  pub below : p.place < p.count

position_behind : (n : ℕ) (s : Sort) (counts : List ℕ) (p : Position) → IsPosition (number_behind n s) counts p → IsPosition n (with_count s counts) p
position_behind n s counts p h = record { struct = struct_behind n s counts p.sort p.count h.struct; below = h.below }

here : (n count : ℕ) (counts : List ℕ) (place : ℕ) → place < count → IsPosition n (count ∷ counts) (positioned n count place)
here n count counts place l = record { struct = record { index = 0; numbered = omega arith; counted = refl }; below = l }

enumerators_known : (n count place : ℕ) (counts : List ℕ) (es : List Enumerator) → place + length es ≡ count → Each (IsPosition n (count ∷ counts)) (enumerators_from n count place es)
enumerators_known n count place counts [] l = tt
enumerators_known n count place counts (e ∷ es) l = (here n count counts place (omega arith), enumerators_known n count (suc place) counts es (omega arith))

recognisers_known : (n count place : ℕ) (counts : List ℕ) (es : List Enumerator) → place + length es ≡ count → Each (IsPosition n (count ∷ counts)) (recognisers_from n count place es)
recognisers_known n count place counts [] l = tt
recognisers_known n count place counts (e ∷ es) l =
    each_append (IsPosition n (count ∷ counts)) (recogniser_entry e.recogniser (positioned n count place))
    (recognisers_from n count (suc place) es) (by e.recogniser) (recognisers_known n count (suc place) counts es (omega arith))
  where
    by : (o : Option Name) → Each (IsPosition n (count ∷ counts)) (recogniser_entry o (positioned n count place))
    by None = tt
    by (Some x) = (here n count counts place (omega arith), tt)

sort_enumerators : (n : ℕ) (s : Sort) (counts : List ℕ) → Each (IsPosition n (with_count s counts)) (enumerators_in n s)
sort_enumerators n (Struct es) counts = enumerators_known n (length es) 0 counts es (omega arith)
sort_enumerators n (Alias t) counts = tt

sort_recognisers : (n : ℕ) (s : Sort) (counts : List ℕ) → Each (IsPosition n (with_count s counts)) (recognisers_in n s)
sort_recognisers n (Struct es) counts = recognisers_known n (length es) 0 counts es (omega arith)
sort_recognisers n (Alias t) counts = tt

all_enumerators_known : (n : ℕ) (ds : List SortDeclaration) → Each (IsPosition n (struct_counts ds)) (all_enumerators n ds)
all_enumerators_known n [] = tt
all_enumerators_known n (d ∷ ds) =
    let counts = struct_counts ds in
    let P = IsPosition n (with_count d.sort counts) in
    each_append P (enumerators_in n d.sort) (all_enumerators (number_behind n d.sort) ds) (sort_enumerators n d.sort counts)
    (each_map (IsPosition (number_behind n d.sort) counts) P (all_enumerators (number_behind n d.sort) ds) (position_behind n d.sort counts) (all_enumerators_known (number_behind n d.sort) ds))

all_recognisers_known : (n : ℕ) (ds : List SortDeclaration) → Each (IsPosition n (struct_counts ds)) (all_recognisers n ds)
all_recognisers_known n [] = tt
all_recognisers_known n (d ∷ ds) =
    let counts = struct_counts ds in
    let P = IsPosition n (with_count d.sort counts) in
    each_append P (recognisers_in n d.sort) (all_recognisers (number_behind n d.sort) ds) (sort_recognisers n d.sort counts)
    (each_map (IsPosition (number_behind n d.sort) counts) P (all_recognisers (number_behind n d.sort) ds) (position_behind n d.sort counts) (all_recognisers_known (number_behind n d.sort) ds))

pub enumerator_known : (spec : Spec) (x : Name) (p : Position) → enumerator_of spec x ≡ Some p → IsPosition 0 (struct_counts spec.sorts) p
enumerator_known spec x p e = first_each (IsPosition 0 (struct_counts spec.sorts)) (all_enumerators 0 spec.sorts) x p (all_enumerators_known 0 spec.sorts) e

pub recogniser_known : (spec : Spec) (x : Name) (p : Position) → recogniser_of spec x ≡ Some p → IsPosition 0 (struct_counts spec.sorts) p
recogniser_known spec x p e = first_each (IsPosition 0 (struct_counts spec.sorts)) (all_recognisers 0 spec.sorts) x p (all_recognisers_known 0 spec.sorts) e

-- ---- sorts

abbrev IsDefinition : ℕ → List ℕ → Definition → Type 0
IsDefinition n counts (Structure k count) = IsStruct n counts k count × (0 < count)
IsDefinition n counts (Renaming s) = Unit {0}

definition_behind : (n : ℕ) (s : Sort) (counts : List ℕ) (d : Definition) → IsDefinition (number_behind n s) counts d → IsDefinition n (with_count s counts) d
definition_behind n s counts (Structure k count) h = (struct_behind n s counts k count h.0, h.1)
definition_behind n s counts (Renaming t) h = tt

sort_defined : (spec : Spec) (n : ℕ) (x : Name) (s : Sort) (counts : List ℕ) → IsWellDefined spec x s → IsDefinition n (with_count s counts) (definition_of n s)
sort_defined spec n x (Struct es) counts h = (record { index = 0; numbered = omega arith; counted = refl }, h.0)
sort_defined spec n x (Alias t) counts h = tt

definitions_known : (spec : Spec) (n : ℕ) (ds : List SortDeclaration)
    → All (λ (d : SortDeclaration). IsWellDefined spec d.name d.sort) ds → Each (IsDefinition n (struct_counts ds)) (definitions_from n ds)
definitions_known spec n [] all = tt
definitions_known spec n (d ∷ ds) all =
    let counts = struct_counts ds in (
      sort_defined spec n d.name d.sort counts (all 0 d (omega arith)),
      each_map (IsDefinition (number_behind n d.sort) counts) (IsDefinition n (with_count d.sort counts)) (definitions_from (number_behind n d.sort) ds) (definition_behind n d.sort counts)
          (definitions_known spec (number_behind n d.sort) ds (λ k e l. all (suc k) e (omega arith))),
    )

ranges_known : (spec : Spec) (rs : List Range) → All (IsRanged spec) rs → Each (λ (b : Bounds). b.0 ≤ℤ b.1) (range_bounds rs)
ranges_known spec [] all = tt
ranges_known spec (r ∷ rs) all = ((all 0 r (omega arith)).order, ranges_known spec rs (λ k e l. all (suc k) e (omega arith)))

abbrev DeclaredEnd : List ℕ → End → Type 0
DeclaredEnd counts (Shaped h) = IsDeclaredShape counts h
DeclaredEnd counts (Unranged k) = Unit {0}
DeclaredEnd counts Undeclared = Unit {0}
DeclaredEnd counts Endless = Unit {0}

built_in_known : (counts : List ℕ) (a b c : Bool) (i j k : _) → DeclaredEnd counts (cond a (Unranged i) (cond b (Unranged j) (cond c (Unranged k) Undeclared)))
built_in_known counts true b c i j k = tt
built_in_known counts false true c i j k = tt
built_in_known counts false false true i j k = tt
built_in_known counts false false false i j k = tt

module _ (spec : Spec) (declared : IsDeclared spec) where
  abbrev counts : List ℕ
  counts = struct_counts spec.sorts

  by_known : (o : Option Bounds) (b : Bool) (d : Option Definition) (other : End) (next : Name → End)
      → ((v : Bounds) → o ≡ Some v → v.0 ≤ℤ v.1) → ((v : Definition) → d ≡ Some v → IsDefinition 0 counts v)
      → DeclaredEnd counts other → ((s : Name) → DeclaredEnd counts (next s)) → DeclaredEnd counts (end_by o b d other next)
  by_known (Some v) b d other next ho hd ot nx = ho v refl
  by_known None true d other next ho hd ot nx = tt
  by_known None false (Some (Structure n count)) other next ho hd ot nx = let h = hd (Structure n count) refl in (struct_known counts n count h.0, h.1)
  by_known None false (Some (Renaming s)) other next ho hd ot nx = nx s
  by_known None false None other next ho hd ot nx = ot

  within_known : (n : ℕ) (s : Name) → DeclaredEnd counts (end_within n (first (range_bounds spec.ranges)) (first (definitions spec)) s)
  within_known zero s = tt
  within_known (suc n) s =
      by_known (first (range_bounds spec.ranges) s) (same_name s (codes "Bool")) (first (definitions spec) s)
      (built_in_integers s) (end_within n (first (range_bounds spec.ranges)) (first (definitions spec)))
      (λ v e. first_each (λ (b : Bounds). b.0 ≤ℤ b.1) (range_bounds spec.ranges) s v (ranges_known spec spec.ranges declared.ranged) e)
      (λ v e. first_each (IsDefinition 0 counts) (definitions spec) s v (definitions_known spec 0 spec.sorts declared.defined) e)
      (built_in_known counts (same_name s (codes "Pos")) (same_name s (codes "Nat")) (same_name s (codes "Int")) _ _ _)
      (within_known n)

  pub sort_known : (s : Name) → has_shape (end_of spec s) ≡ true → IsDeclaredShape counts (sort_shape spec s)
  sort_known s e = by (end_of spec s) e (within_known (suc (length spec.sorts)) s)
    where
      by : (k : End) → has_shape k ≡ true → DeclaredEnd counts k → IsDeclaredShape counts (end_shape k)
      by (Shaped h) e d = d
      by (Unranged k) e d = absurd (true≢false (sym e))
      by Undeclared e d = absurd (true≢false (sym e))
      by Endless e d = absurd (true≢false (sym e))

-- ---- the shapes of variables

abbrev AllDeclared : List ℕ → List Shape → Type 0
AllDeclared counts ss = All (IsDeclaredShape counts) ss

all-first : (counts : List ℕ) (s : Shape) (ss : List Shape) → IsDeclaredShape counts s → AllDeclared counts ss → AllDeclared counts (s ∷ ss)
all-first counts s ss h k zero d below = h
all-first counts s ss h k (suc n) d below = k n d (omega arith)

all-none : (counts : List ℕ) → AllDeclared counts []
all-none counts k d below = absurd (omega arith)

all-append : (counts : List ℕ) (ss ts : List Shape) → AllDeclared counts ss → AllDeclared counts ts → AllDeclared counts (ss ++ ts)
all-append counts [] ts h k = k
all-append counts (s ∷ ss) ts h k = all-first counts s (ss ++ ts) (h 0 s (omega arith)) (all-append counts ss ts (λ n d below. h (suc n) d (omega arith)) k)

module _ (spec : Spec) (declared : IsDeclared spec) where
  abbrev here_counts : List ℕ
  here_counts = struct_counts spec.sorts

  variables_declared : (xs : List Variable) → AreShaped spec xs → AllDeclared here_counts (variable_shapes spec xs)
  variables_declared [] h = all-none here_counts
  variables_declared (x ∷ xs) h = all-first here_counts (sort_shape spec x.sort) (variable_shapes spec xs) (sort_known spec declared x.sort h.0) (variables_declared xs h.1)

  loops_declared : (f : Formula) → IsShaped spec f → AllDeclared here_counts (loops spec f)
  loops_declared (Formula.Truth b) h = all-none here_counts
  loops_declared (Formula.Val x) h = all-none here_counts
  loops_declared (Formula.Not f) h = loops_declared f h
  loops_declared (Formula.And f g) h = all-append here_counts (loops spec f) (loops spec g) (loops_declared f h.0) (loops_declared g h.1)
  loops_declared (Formula.Or f g) h = all-append here_counts (loops spec f) (loops spec g) (loops_declared f h.0) (loops_declared g h.1)
  loops_declared (Formula.Implies f g) h = all-append here_counts (loops spec f) (loops spec g) (loops_declared f h.0) (loops_declared g h.1)
  loops_declared (Formula.Quantified q xs f) h = all-append here_counts (variable_shapes spec xs) (loops spec f) (variables_declared xs h.0) (loops_declared f h.1)
  loops_declared (Formula.Call X es) h = all-none here_counts

  equations_declared : (E : List Equation) → All (λ (X : Equation). AreShaped spec X.parameters) E → AreProper spec E → All (HasDeclaredShapes spec) E
  equations_declared [] all proper k d below = absurd (omega arith)
  equations_declared (X ∷ E) all proper zero d below = record {
    parameters = variables_declared X.parameters (all 0 X (omega arith));
    loops = loops_declared (expanded X.right) (expanded-shaped spec true (parameter_scope spec X) X.right proper.0);
  }
  equations_declared (X ∷ E) all proper (suc k) d below = equations_declared E (λ n e low. all (suc n) e (omega arith)) proper.1 k d (omega arith)

pub shapes-declared : (spec : Spec) → IsWellTyped spec → All (HasDeclaredShapes spec) spec.equations
shapes-declared spec h =
    equations_declared spec h.declarations spec.equations
    (λ k d below. variables-shaped spec _ (h.declarations.parameters k d below).shaped) h.rights

-- ---- few structs

structs-counted : (n : ℕ) (ds : List SortDeclaration) → structs_behind n ds ≡ n + length (struct_counts ds)
structs-counted n [] = omega arith
structs-counted n (d ∷ ds) = by d.sort (structs-counted n ds) (structs-counted (suc n) ds)
  where
    by : (s : Sort) → structs_behind n ds ≡ n + length (struct_counts ds)
        → structs_behind (suc n) ds ≡ suc n + length (struct_counts ds)
        → structs_behind (number_behind n s) ds ≡ n + length (with_count s (struct_counts ds))
    by (Struct es) e f = omega (arith, f)
    by (Alias t) e f = e

abbrev IsCount : ℕ → Type 0
IsCount n = (0 < n) × (n ≤ MAX_ENUMERATORS)

count-first : (n : ℕ) (ns : List ℕ) → IsCount n → All IsCount ns → All IsCount (n ∷ ns)
count-first n ns h rest zero d below = h
count-first n ns h rest (suc k) d below = rest k d (omega arith)

sort-counts : (spec : Spec) (x : Name) (s : Sort) (ns : List ℕ) → IsWellDefined spec x s → All IsCount ns → All IsCount (with_count s ns)
sort-counts spec x (Struct es) ns h rest = count-first (length es) ns h rest
sort-counts spec x (Alias t) ns h rest = rest

counts-fit : (spec : Spec) (ds : List SortDeclaration) → All (λ (d : SortDeclaration). IsWellDefined spec d.name d.sort) ds → All IsCount (struct_counts ds)
counts-fit spec [] all = λ k d below. absurd (omega (arith, below))
counts-fit spec (d ∷ ds) all =
    sort-counts spec d.name d.sort (struct_counts ds) (all 0 d (omega arith)) (counts-fit spec ds (λ k e low. all (suc k) e (omega arith)))

pub structs-few : (spec : Spec) → IsDeclared spec → AreFew (struct_counts spec.sorts)
structs-few spec h = record {
  structs = let few = h.few_structs in let count = structs-counted 0 spec.sorts in omega (arith, few, count);
  enumerators = counts-fit spec spec.sorts h.defined;
}

-- ---- enumerators

pub position-there : (counts : List ℕ) (p : Position) → IsPosition 0 counts p → has_enumerator counts p.sort p.place ≡ true
position-there counts p h =
    ap (λ (o : Option ℕ). nat_lt p.place (unwrap_or o 0)) (struct_known counts p.sort p.count h.struct) ∙ lt-ltb p.place p.count h.below
