-- The places of a model's variables are as their sorts say.
use Rattle.std.proofs.Common.{◌≡◌, ℕ, zero, suc, ℤ, pos, Bool, true, false, true≢false, ◌||◌, if◌then◌else◌, List, [], ◌∷◌, ◌++◌, map, length, flat_map, refl, sym, ap, ◌∙◌, subst}
use Rattle.std.specs.Prelude.{Option, Some, None, codes, unwrap_or}
use Rattle.std.proofs.lemmas.List.{length-map}
use Rattle.std.proofs.lemmas.Bool.{or_right}
use Rattle.pb_base_values.specs.Carrier.{Carrier, numbers_from}
use Rattle.pb_text_meaning.specs.Syntax.{Name, same_name, Variable, Enumerator, Sort, Struct, Alias, SortDeclaration, Range}
use Rattle.pb_text_meaning.specs.Sorts.{range_of, declared, carrier_by, carrier_within, carrier_of, place_from, place_within, place_in, or_else}
use Rattle.pb_model_meaning.specs.Syntax.{Model}
use Rattle.pb_model_meaning.specs.Steps.{data_of}
use Rattle.pb_protocol_packing.specs.Numbers.{Kind, Boolean, Enumeration, Whole}
use Rattle.pb_protocol_packing.specs.Apart.{Each, is_among, enumerators_of, AreAllApart, ArePlaced, IsKind, IsMember}
use Rattle.pb_protocol_packing.specs.Groups.{name_of, kind_by, kind_within, kind_of, lowest, member_for, enumerators_in}
use Rattle.pb_protocol_packing.specs.Packable.{all_enumerators}
use Rattle.pb_protocol_packing.proofs.Lists.{each-same, each-among, each-at, same-itself, apart-sym, neither, some-is, none-is}
use Rattle.pb_protocol_packing.proofs.Digits.{length-numbers}

-- ---- names that are apart

both-false : (b c : Bool) → b ≡ false → c ≡ false → (b || c) ≡ false
both-false true c e h = absurd (true≢false e)
both-false false c e h = h

among-append : (xs ys : List Name) (x : Name) → is_among (xs ++ ys) x ≡ false → (is_among xs x ≡ false) × (is_among ys x ≡ false)
among-append [] ys x e = (refl, e)
among-append (y ∷ xs) ys x e =
    let parts = neither (same_name y x) (is_among (xs ++ ys) x) e in
    let rest = among-append xs ys x parts.1 in (both-false _ _ parts.0 rest.0, rest.1)

apart-front : (xs ys : List Name) → AreAllApart (xs ++ ys) → AreAllApart xs
apart-front [] ys h = tt
apart-front (x ∷ xs) ys h = ((among-append xs ys x h.0).0, apart-front xs ys h.1)

apart-rest : (xs ys : List Name) → AreAllApart (xs ++ ys) → AreAllApart ys
apart-rest [] ys h = h
apart-rest (x ∷ xs) ys h = apart-rest xs ys h.1

-- no name of the second part is among the first
apart-between : (xs ys : List Name) → AreAllApart (xs ++ ys) → Each (λ (y : Name). is_among xs y ≡ false) ys
apart-between [] ys h = all ys
  where
    all : (ys : List Name) → Each (λ (y : Name). is_among [] y ≡ false) ys
    all [] = tt
    all (y ∷ ys) = (refl, all ys)
apart-between (x ∷ xs) ys h = all ys (among-append xs ys x h.0).1 (apart-between xs ys h.1)
  where
    all : (zs : List Name) → is_among zs x ≡ false → Each (λ (y : Name). is_among xs y ≡ false) zs → Each (λ (y : Name). is_among (x ∷ xs) y ≡ false) zs
    all [] e k = tt
    all (z ∷ zs) e k = let parts = neither (same_name z x) (is_among zs x) e in (both-false _ _ (apart-sym z x parts.0) k.0, all zs parts.1 k.1)

-- ---- enumerators

-- in a struct's enumerators from number k on, these names stand at n, n + 1 ..
abbrev PlacedOf : List Enumerator → ℕ → ℕ → List Name → Type 0
PlacedOf E k n [] = Unit {0}
PlacedOf E k n (y ∷ ys) = (place_from k (λ (e : Enumerator). same_name e.name y) E ≡ Some n) × PlacedOf E k (suc n) ys

placed-more : (e : Enumerator) (E : List Enumerator) (k n : ℕ) (ys : List Name) → is_among ys e.name ≡ false → PlacedOf E (suc k) n ys → PlacedOf (e ∷ E) k n ys
placed-more e E k n [] new placed = tt
placed-more e E k n (y ∷ ys) new placed =
    let parts = neither (same_name y e.name) (is_among ys e.name) new in
    (ap (λ (b : Bool). if b then Some k else place_from (suc k) (λ (e : Enumerator). same_name e.name y) E) (apart-sym y e.name parts.0) ∙ placed.0, placed-more e E k (suc n) ys parts.1 placed.1)

placed-own : (E : List Enumerator) (k : ℕ) → AreAllApart (map name_of E) → PlacedOf E k k (map name_of E)
placed-own [] k apart = tt
placed-own (e ∷ E) k apart = (
  ap (λ (b : Bool). if b then Some k else place_from (suc k) (λ (f : Enumerator). same_name f.name e.name) E) (same-itself e.name),
  placed-more e E k (suc k) (map name_of E) apart.0 (placed-own E (suc k) apart.1),
)

place-none : (k : ℕ) (E : List Enumerator) (y : Name) → is_among (map name_of E) y ≡ false → place_from k (λ (e : Enumerator). same_name e.name y) E ≡ None
place-none k [] y e = refl
place-none k (f ∷ E) y e =
    let parts = neither (same_name f.name y) (is_among (map name_of E) y) e in
    ap (λ (b : Bool). if b then Some k else place_from (suc k) (λ (e : Enumerator). same_name e.name y) E) parts.0 ∙ place-none (suc k) E y parts.1

within-none : (d : Sort) (y : Name) → is_among (enumerators_in d) y ≡ false → place_within (λ (e : Enumerator). same_name e.name y) d ≡ None
within-none (Struct es) y e = place-none 0 es y e
within-none (Alias s) y e = refl

-- among all sorts these names stand at n, n + 1 .. of their own
abbrev PlacedIn : List SortDeclaration → ℕ → List Name → Type 0
PlacedIn ds n [] = Unit {0}
PlacedIn ds n (y ∷ ys) = (place_in (λ (e : Enumerator). same_name e.name y) ds ≡ Some n) × PlacedIn ds (suc n) ys

placed-first : (E : List Enumerator) (d : SortDeclaration) (ds : List SortDeclaration) → d.sort ≡ Struct E → (n : ℕ) (ys : List Name) → PlacedOf E 0 n ys → PlacedIn (d ∷ ds) n ys
placed-first E d ds is n [] placed = tt
placed-first E d ds is n (y ∷ ys) placed = (
  ap (λ (s : Sort). or_else (place_within (λ (e : Enumerator). same_name e.name y) s) (place_in (λ (e : Enumerator). same_name e.name y) ds)) is
      ∙ ap (λ o. or_else o (place_in (λ (e : Enumerator). same_name e.name y) ds)) placed.0,
  placed-first E d ds is (suc n) ys placed.1,
)

placed-later : (d : SortDeclaration) (ds : List SortDeclaration) (n : ℕ) (ys : List Name)
    → Each (λ (y : Name). is_among (enumerators_in d.sort) y ≡ false) ys → PlacedIn ds n ys → PlacedIn (d ∷ ds) n ys
placed-later d ds n [] new placed = tt
placed-later d ds n (y ∷ ys) new placed =
    (ap (λ o. or_else o (place_in (λ (e : Enumerator). same_name e.name y) ds)) (within-none d.sort y new.0) ∙ placed.0, placed-later d ds (suc n) ys new.1 placed.1)

-- what is known of a struct of the model
abbrev IsStruct : List SortDeclaration → List Enumerator → Type 0
IsStruct ds E = PlacedIn ds 0 (map name_of E) × Each (λ (y : Name). is_among (flat_map (λ (d : SortDeclaration). enumerators_in d.sort) ds) y ≡ true) (map name_of E)

among-front : (xs ys : List Name) (y : Name) → is_among xs y ≡ true → is_among (xs ++ ys) y ≡ true
among-front [] ys y e = absurd (true≢false (sym e))
among-front (x ∷ xs) ys y e = by (same_name x y) e (among-front xs ys y)
  where
    by : (b : Bool) → (b || is_among xs y) ≡ true → (is_among xs y ≡ true → is_among (xs ++ ys) y ≡ true) → (b || is_among (xs ++ ys) y) ≡ true
    by true e h = refl
    by false e h = h e

pub among-rest : (xs ys : List Name) (y : Name) → is_among ys y ≡ true → is_among (xs ++ ys) y ≡ true
among-rest [] ys y e = e
among-rest (x ∷ xs) ys y e = or_right (same_name x y) _ (among-rest xs ys y e)

struct-is : (ds : List SortDeclaration) (s : Name) (E : List Enumerator) → AreAllApart (flat_map (λ (d : SortDeclaration). enumerators_in d.sort) ds) → declared ds s ≡ Some (Struct E) → IsStruct ds E
struct-is [] s E apart e = none-is (Struct E) e
struct-is (d ∷ ds) s E apart e =
    by (struct-is ds s E (apart-rest (enumerators_in d.sort) (flat_map (λ (d : SortDeclaration). enumerators_in d.sort) ds) apart)) (same_name d.name s) e
  where
    by : (declared ds s ≡ Some (Struct E) → IsStruct ds E) → (b : Bool) → (if b then Some d.sort else declared ds s) ≡ Some (Struct E) → IsStruct (d ∷ ds) E
    by next true h =
        let is = some-is d.sort (Struct E) h in
        let own : enumerators_in d.sort ≡ map name_of E = ap enumerators_in is in (
          placed-first E d ds is 0 (map name_of E) (placed-own E 0 (subst AreAllApart own (apart-front (enumerators_in d.sort) _ apart))),
          each-same _ _ (map name_of E)
              (λ y among. among-front (enumerators_in d.sort)
              (flat_map (λ (d : SortDeclaration). enumerators_in d.sort) ds) y (ap (λ xs. is_among xs y) own ∙ among))
              (each-among (map name_of E)),
        )
    by next false h =
        let rest = next h in (
          placed-later d ds 0 (map name_of E) (among-all (map name_of E) rest.1 (apart-between (enumerators_in d.sort) (flat_map (λ (d : SortDeclaration). enumerators_in d.sort) ds) apart)) rest.0,
          each-same _ _ (map name_of E) (λ y among. among-rest (enumerators_in d.sort) (flat_map (λ (d : SortDeclaration). enumerators_in d.sort) ds) y among) rest.1,
        )
      where
        among-all : (ys : List Name) → Each (λ (y : Name). is_among (flat_map (λ (d : SortDeclaration). enumerators_in d.sort) ds) y ≡ true) ys →
            Each (λ (y : Name). is_among (enumerators_in d.sort) y ≡ false)
            (flat_map (λ (d : SortDeclaration). enumerators_in d.sort) ds)
            → Each (λ (y : Name). is_among (enumerators_in d.sort) y ≡ false) ys
        among-all ys among new =
            each-same _ _ ys
            (λ y a. each-at (λ (z : Name). is_among (enumerators_in d.sort) z ≡ false)
            (flat_map (λ (d : SortDeclaration). enumerators_in d.sort) ds) y a new) among

-- ---- carriers

numbers-are : (low : ℤ) (n : ℕ) → numbers_from low n ≡ numbers_from (lowest (numbers_from low n)) (length (numbers_from low n))
numbers-are low zero = refl
numbers-are low (suc n) = ap (λ k. numbers_from low k) (sym (length-numbers low (suc n)))

lowest-zero : (n : ℕ) → lowest (numbers_from (pos 0) n) ≡ pos 0
lowest-zero zero = refl
lowest-zero (suc n) = refl

module _ (m : Model) (apart : AreAllApart (all_enumerators m)) where
  abbrev IsNumbers : Carrier → Type 0
  IsNumbers c = c ≡ numbers_from (lowest c) (length c)

  -- a carrier is as its kind says
  abbrev Fits : Kind → Carrier → Type 0
  Fits Boolean c = c ≡ numbers_from (pos 0) 2
  Fits (Enumeration es) c = (c ≡ numbers_from (pos 0) (length es)) × PlacedIn m.sorts 0 es × Each (λ (y : Name). is_among (all_enumerators m) y ≡ true) es
  Fits Whole c = Unit {0}

  carrier-by : (r : Option Range) (b : Bool) (sort : Option Sort) (k : Name → Kind) (f : Name → Carrier) → ((E : List Enumerator) → sort ≡ Some (Struct E) → IsStruct m.sorts E) →
      ((s : Name) → IsNumbers (f s) × Fits (k s) (f s)) → IsNumbers (carrier_by r b sort f) × Fits (kind_by r b sort k) (carrier_by r b sort f)
  carrier-by (Some r) b sort k f structs h = (numbers-are r.low _, tt)
  carrier-by None true sort k f structs h = (refl, refl)
  carrier-by None false (Some (Struct E)) k f structs h =
      let is = structs E refl in (numbers-are (pos 0) (length E), (ap (λ n. numbers_from (pos 0) n) (sym (length-map E name_of)), is.0, is.1))
  carrier-by None false (Some (Alias s)) k f structs h = h s
  carrier-by None false None k f structs h = (refl, tt)

  carrier-fits : (n : ℕ) (s : Name) → IsNumbers (carrier_within n (data_of m) s) × Fits (kind_within n m s) (carrier_within n (data_of m) s)
  carrier-fits zero s = (refl, tt)
  carrier-fits (suc n) s =
      carrier-by (range_of m.ranges s) (same_name s (codes "Bool")) (declared m.sorts s) (kind_within n m) (carrier_within n (data_of m)) (λ E e. struct-is m.sorts s E apart e) (carrier-fits n)

  placed : (n : ℕ) (ys : List Name) → PlacedIn m.sorts n ys → ArePlaced m n ys
  placed n [] h = tt
  placed n (y ∷ ys) h = (ap (λ (o : Option ℕ). pos (unwrap_or o 0)) h.0, placed (suc n) ys h.1)

  pub place-is : (x : Variable) → IsMember m (member_for m x)
  place-is x =
      let c = carrier_of (data_of m) x.sort in
      let both = carrier-fits (suc (length m.sorts)) x.sort in
      record { carrier = both.0; kind = by (kind_of m x.sort) both.1 }
    where
      by : (k : Kind) → Fits k (carrier_of (data_of m) x.sort) → IsKind m k (member_for m x)
      by Boolean e = (ap lowest e, ap length e)
      by (Enumeration es) e = (ap lowest e.0 ∙ lowest-zero (length es), ap length e.0 ∙ length-numbers (pos 0) (length es), placed 0 es e.1)
      by Whole e = tt

  pub place-enumerators : (x : Variable) → Each (λ (y : Name). is_among (all_enumerators m) y ≡ true) (enumerators_of (kind_of m x.sort))
  place-enumerators x = by (kind_of m x.sort) (carrier-fits (suc (length m.sorts)) x.sort).1
    where
      by : (k : Kind) → Fits k (carrier_of (data_of m) x.sort) → Each (λ (y : Name). is_among (all_enumerators m) y ≡ true) (enumerators_of k)
      by Boolean e = tt
      by (Enumeration es) e = e.2
      by Whole e = tt
