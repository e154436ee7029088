-- Where no sort has a fault, the chain of each declared sort has an end.
use Rattle.std.proofs.Common.{◌≡◌, ℕ, zero, suc, Bool, true, false, cond, ◌||◌, List, [], ◌∷◌, length, get_or, refl, sym, ◌∙◌, ap, subst, true≢false, Option, Some, None}
use Rattle.std.specs.Prelude.{⊤, All, flat_map, codes, not, is_some}
use Rattle.std.specs.Cmp.Lexicographic.{same_text}
use Rattle.std.proofs.lemmas.Bool.{not-true}
use Rattle.std.proofs.lemmas.List.Elements.{All-head, All-tail}
use Rattle.std.proofs.Math.Bool.{or-false}
use Rattle.pb_text_tree.specs.Form.{Named, SortForm, struct, alias, SpecForm}
use Rattle.pb_text_meaning.specs.Syntax.{Name, same_name, Sort, Struct, Alias, SortDeclaration, Spec}
use Rattle.pb_text_meaning.specs.Erase.{erase, erased_sort, erased_declaration}
use Rattle.pb_typing_declarations.specs.declared.fault.TypingRule.TheVariants.{NameTwice, UnknownSort}
use Rattle.pb_typing_declarations.specs.declared.sorts.Integers.{Integers}
use Rattle.pb_typing_declarations.specs.declared.sorts.Integers.TheVariants as integers
use Rattle.pb_typing_declarations.specs.Faults.{unless}
use Rattle.pb_typing_declarations.specs.Shapes.{Definition, Structure, Renaming, definition_of, definitions_from, definitions, number_behind, first, Bounds, range_bounds, End, Shaped, Unranged, Undeclared, Endless, built_in_integers, end_by, end_within, end_of, base_of, is_built_in, is_sort}
use Rattle.pb_typing_declarations.specs.Declarations.{is_endless, is_faulty, definition_faults, sort_faults, declaration_faults, tables_faults, checks_faults}
use Rattle.pb_typing_declarations.specs.WellDeclared.{IsWellDefined, HaveEnds}
use Rattle.pb_typing_declarations.proofs.Parts.{no_parts, holds_unless}
use Rattle.pb_typing_declarations.proofs.Exact.{each}

-- an alias's target is a sort, and its chain has an end
abbrev pub IsLinked : Spec → Name → Sort → Type 0
IsLinked S s (Struct es) = ⊤
IsLinked S s (Alias t) = (is_sort S t ≡ true) × (is_endless (base_of S s) ≡ false)

abbrev pub AreLinked : Spec → List SortDeclaration → Type 0
AreLinked S ds = All (λ (d : SortDeclaration). IsLinked S d.name d.sort) ds

abbrev Declared : Spec → SortDeclaration → Type 0
Declared S d = IsLinked S d.name d.sort

-- the first declaration of a name says so too
linked_here : (S : Spec) (n : ℕ) (x s t : Name) (sort : Sort) → x ≡ s → IsLinked S x sort → Some (definition_of n sort) ≡ Some (Renaming t) → IsLinked S s (Alias t)
linked_here S n x s t (Struct es) same h e = cc
linked_here S n x s t (Alias u) same h e =
    let target : u ≡ t = cc in
    (subst (λ (y : Name). is_sort S y ≡ true) target h.0, subst (λ (y : Name). is_endless (base_of S y) ≡ false) same h.1)

linked_at : (S : Spec) (n : ℕ) (ds : List SortDeclaration) (s t : Name) → AreLinked S ds → first (definitions_from n ds) s ≡ Some (Renaming t) → IsLinked S s (Alias t)
linked_at S n [] s t all e = cc
linked_at S n (d ∷ ds) s t all e =
    by_test (same_name d.name s) (same_text d.name s) (linked_at S (number_behind n d.sort) ds s t (All-tail (Declared S) d ds all)) e
  where
    by_test : (b : Bool) → (true ≡ b → d.name ≡ s) → (first (definitions_from (number_behind n d.sort) ds) s ≡ Some (Renaming t) → IsLinked S s (Alias t))
        → cond b (Some (definition_of n d.sort)) (first (definitions_from (number_behind n d.sort) ds) s) ≡ Some (Renaming t) → IsLinked S s (Alias t)
    by_test true same later e = linked_here S n d.name s t d.sort (same refl) (All-head (Declared S) d ds all) e
    by_test false same later e = later e

-- ---- ends

abbrev is_undeclared : End → Bool
is_undeclared (Shaped h) = false
is_undeclared (Unranged k) = false
is_undeclared Undeclared = true
is_undeclared Endless = false

neither : (e : End) → is_undeclared e ≡ false → is_endless e ≡ false → is_faulty true e ≡ false
neither (Shaped h) u l = refl
neither (Unranged k) u l = refl
neither Undeclared u l = u
neither Endless u l = l

-- no fault of a sort that isn't there
undeclared_end : (e : End) → is_faulty false e ≡ false
undeclared_end (Shaped h) = refl
undeclared_end (Unranged k) = refl
undeclared_end Undeclared = refl
undeclared_end Endless = refl

-- a built-in sort is Bool or one of the three
integers_there : (i j k : Integers) (a b c d : Bool) → (a || (b || (c || d))) ≡ true → a ≡ false → is_undeclared (cond b (Unranged i) (cond c (Unranged j) (cond d (Unranged k) Undeclared))) ≡ false
integers_there i j k true b c d h f = absurd (true≢false f)
integers_there i j k false true c d h f = refl
integers_there i j k false false true d h f = refl
integers_there i j k false false false true h f = refl
integers_there i j k false false false false h f = absurd (true≢false (sym h))

integers_end : (i j k : Integers) (b c d : Bool) → is_endless (cond b (Unranged i) (cond c (Unranged j) (cond d (Unranged k) Undeclared))) ≡ false
integers_end i j k true c d = refl
integers_end i j k false true d = refl
integers_end i j k false false true = refl
integers_end i j k false false false = refl

module _ (S : Spec) (linked : AreLinked S S.sorts) where
  abbrev look : Name → Option Definition
  look = first (definitions S)

  abbrev unranged : Name → Option Bounds
  unranged r = None

  linked_to : (s t : Name) → look s ≡ Some (Renaming t) → IsLinked S s (Alias t)
  linked_to s t e = linked_at S 0 S.sorts s t linked e

  -- no chain from a sort that is there comes to a name that isn't
  declared_behind : (n : ℕ) (s : Name) → is_sort S s ≡ true → is_undeclared (end_within n unranged look s) ≡ false
  declared_behind zero s h = refl
  declared_behind (suc n) s h = by_tests (declared_behind n) (same_name s (codes "Bool")) (look s) refl refl
    where
      by_tests : ((t : Name) → is_sort S t ≡ true → is_undeclared (end_within n unranged look t) ≡ false)
          → (b : Bool) (d : Option Definition) → same_name s (codes "Bool") ≡ b → look s ≡ d → is_undeclared (end_by None b d (built_in_integers s) (end_within n unranged look)) ≡ false
      by_tests behind true d e f = refl
      by_tests behind false (Some (Structure m count)) e f = refl
      by_tests behind false (Some (Renaming t)) e f = behind t (linked_to s t f).0
      by_tests behind false None e f =
          let there : is_built_in s ≡ true = sym (or-false (is_built_in s)) ∙ (sym (ap (λ (o : Option Definition). is_built_in s || is_some o) f) ∙ h) in
          integers_there integers.Pos integers.Nat integers.Int (same_name s (codes "Bool")) (same_name s (codes "Pos")) (same_name s (codes "Nat")) (same_name s (codes "Int")) there e

  end_behind : (s : Name) → is_endless (base_of S s) ≡ false
  end_behind s = by_tests (same_name s (codes "Bool")) (look s) refl refl
    where
      by_tests : (b : Bool) (d : Option Definition) → same_name s (codes "Bool") ≡ b → look s ≡ d → is_endless (base_of S s) ≡ false
      by_tests b (Some (Renaming t)) e f = (linked_to s t f).1
      by_tests b (Some (Structure m count)) e f =
          ap (λ (o : Option Definition). is_endless
          (end_by None (same_name s (codes "Bool")) o (built_in_integers s)
          (end_within (length S.sorts) unranged look))) f ∙ of_struct (same_name s (codes "Bool"))
        where
          of_struct : (c : Bool) → is_endless (end_by None c (Some (Structure m count)) (built_in_integers s) (end_within (length S.sorts) unranged look)) ≡ false
          of_struct true = refl
          of_struct false = refl
      by_tests b None e f =
          ap (λ (o : Option Definition). is_endless
          (end_by None (same_name s (codes "Bool")) o (built_in_integers s)
          (end_within (length S.sorts) unranged look))) f ∙ of_none (same_name s (codes "Bool"))
        where
          of_none : (c : Bool) → is_endless (end_by None c None (built_in_integers s) (end_within (length S.sorts) unranged look)) ≡ false
          of_none true = refl
          of_none false = integers_end integers.Pos integers.Nat integers.Int (same_name s (codes "Pos")) (same_name s (codes "Nat")) (same_name s (codes "Int"))

  base_there : (s : Name) → is_sort S s ≡ true → is_faulty true (base_of S s) ≡ false
  base_there s h = neither (base_of S s) (declared_behind (suc (length S.sorts)) s h) (end_behind s)

  -- a range only brings a chain's end nearer
  step : (r : Option Bounds) (b : Bool) (d : Option Definition) (other : End) (plain ranged : Name → End) → ((t : Name) → is_faulty true (plain t) ≡ false → is_faulty true (ranged t) ≡ false)
      → is_faulty true (end_by None b d other plain) ≡ false → is_faulty true (end_by r b d other ranged) ≡ false
  step (Some (low, high)) b d other plain ranged f h = refl
  step None true d other plain ranged f h = refl
  step None false (Some (Structure m count)) other plain ranged f h = refl
  step None false (Some (Renaming t)) other plain ranged f h = f t h
  step None false None other plain ranged f h = h

  with_ranges : (n : ℕ) (bounds : Name → Option Bounds) (s : Name) → is_faulty true (end_within n unranged look s) ≡ false → is_faulty true (end_within n bounds look s) ≡ false
  with_ranges zero bounds s h = h
  with_ranges (suc n) bounds s h =
      step (bounds s) (same_name s (codes "Bool")) (look s) (built_in_integers s) (end_within n unranged look) (end_within n bounds look) (with_ranges n bounds) h

  by_declared : (e : End) (b : Bool) → (b ≡ true → is_faulty true e ≡ false) → is_faulty b e ≡ false
  by_declared e true h = h refl
  by_declared e false h = undeclared_end e

  pub have_ends : HaveEnds S
  have_ends = record {
    ends = λ s. by_declared (end_of S s) (is_sort S s) (λ h. with_ranges (suc (length S.sorts)) (first (range_bounds S.ranges)) s (base_there s h));
    bases = λ s. by_declared (base_of S s) (is_sort S s) (base_there s);
  }

-- ---- where a text has no fault of its sorts

linked_of_clear : (S : Spec) (s : Named) (sort : SortForm) → definition_faults S s sort ≡ [] → IsLinked S s.text (erased_sort sort)
linked_of_clear S s (struct es) e = tt
linked_of_clear S s (alias t) e =
    let p = no_parts (unless (is_sort S t.text) UnknownSort t.place) _ e in
    (holds_unless _ _ _ p.0, not-true _ (holds_unless _ _ _ p.1))

pub sorts_have_ends : (t : SpecForm) → flat_map (sort_faults (erase t)) t.sorts ≡ [] → HaveEnds (erase t)
sorts_have_ends t e =
    have_ends (erase t) (each (sort_faults (erase t)) erased_declaration (Declared (erase t))
    (λ d h. linked_of_clear (erase t) d.name d.sort (no_parts (unless (not (is_built_in d.name.text)) NameTwice d.name.place) _ h).1) t.sorts e)

pub faultless_ends : (limit : ℕ) (t : SpecForm) → declaration_faults limit t ≡ [] → HaveEnds (erase t)
faultless_ends limit t e =
    let checks = (no_parts (tables_faults t) (checks_faults limit t) e).1 in
    sorts_have_ends t (no_parts (flat_map (sort_faults (erase t)) t.sorts) _ checks).0

-- ---- where it is declared as it must be

linked_of_defined : (S : Spec) (s : Name) (sort : Sort) → IsWellDefined S s sort → IsLinked S s sort
linked_of_defined S s (Struct es) h = tt
linked_of_defined S s (Alias t) h = h

pub defined_have_ends : (S : Spec) → All (λ (d : SortDeclaration). IsWellDefined S d.name d.sort) S.sorts → HaveEnds S
defined_have_ends S all = have_ends S (λ k d below. linked_of_defined S (get_or S.sorts k d).name (get_or S.sorts k d).sort (all k d below))
