-- The sorts of a model stay, and those of groups have as many values as their variables have together.
use Rattle.std.proofs.Common.{◌≡◌, ℕ, zero, suc, ◌≤◌, ℤ, pos, ◌-ℤ◌, ◌+ℤ◌, Bool, true, false, true≢false, if◌then◌else◌, List, [], ◌∷◌, length, refl, sym, ap, ◌∙◌, arith}
use Rattle.std.specs.Prelude.{Option, Some, None, codes}
use Rattle.std.proofs.lemmas.Int.{ints}
use Rattle.pb_base_values.specs.Carrier.{Carrier, at_least_none, numbers_from}
use Rattle.pb_text_meaning.specs.Syntax.{Name, same_name, Sort, Struct, Alias, SortDeclaration, Range}
use Rattle.pb_text_meaning.specs.Sorts.{range_of, declared, carrier_by, carrier_within, carrier_of}
use Rattle.pb_model_meaning.specs.Syntax.{Model}
use Rattle.pb_model_meaning.specs.Steps.{data_of}
use Rattle.pb_protocol_packing.specs.Packing.{Group, Alone, Joined, capacity, with_sorts, with_ranges, packed_by}
use Rattle.pb_protocol_packing.specs.Apart.{Each, is_among, new_sorts, AreAllApart, HasOldSort, HasOldTarget, is_old_target, ends_by, ends_within, IsPacking}
use Rattle.pb_protocol_packing.proofs.Lists.{apart-sym, same-itself, neither, not-true, some-is, none-is}

-- the sort of a group's variable: a new one with as many values as its variables have together, and else one of the model's
abbrev pub IsPackedSort : Model → List Group → Group → Type 0
IsPackedSort m gs (Alone x) = is_among (new_sorts gs) x.sort ≡ false
IsPackedSort m gs (Joined x ps) = carrier_of (data_of (packed_by gs m)) x.sort ≡ numbers_from (pos 0) (capacity ps)

range-same : (gs : List Group) (rs : List Range) (s : Name) → is_among (new_sorts gs) s ≡ false → range_of (with_ranges gs rs) s ≡ range_of rs s
range-same [] rs s e = refl
range-same (Alone x ∷ gs) rs s e = range-same gs rs s e
range-same (Joined x ps ∷ gs) rs s e =
    let parts = neither (same_name x.sort s) (is_among (new_sorts gs) s) e in
    ap (λ (b : Bool). if b then Some (record { name = x.sort; low = pos 0; high = pos (capacity ps) -ℤ pos 1 }) else range_of (with_ranges gs rs) s) parts.0 ∙ range-same gs rs s parts.1

declared-same : (gs : List Group) (ds : List SortDeclaration) (s : Name) → is_among (new_sorts gs) s ≡ false → declared (with_sorts gs ds) s ≡ declared ds s
declared-same [] ds s e = refl
declared-same (Alone x ∷ gs) ds s e = declared-same gs ds s e
declared-same (Joined x ps ∷ gs) ds s e =
    let parts = neither (same_name x.sort s) (is_among (new_sorts gs) s) e in
    ap (λ (b : Bool). if b then Some (Alias (codes "Nat")) else declared (with_sorts gs ds) s) parts.0 ∙ declared-same gs ds s parts.1

-- where a chain ends, more sorts make no difference
by-parts : (gs : List Group) (r : Option Range) (b : Bool) (sort : Option Sort) (f g : Name → Carrier) (ends : Name → Bool) → ends_by r b sort ends ≡ true →
    ((s : Name) → sort ≡ Some (Alias s) → ends s ≡ true → f s ≡ g s) → carrier_by r b sort f ≡ carrier_by r b sort g
by-parts gs (Some r) b sort f g ends e h = refl
by-parts gs None true sort f g ends e h = refl
by-parts gs None false (Some (Struct es)) f g ends e h = refl
by-parts gs None false (Some (Alias s)) f g ends e h = h s refl e
by-parts gs None false None f g ends e h = refl

old-target : (gs : List Group) (ds : List SortDeclaration) (s t : Name) → Each (HasOldTarget gs) ds → declared ds s ≡ Some (Alias t) → is_among (new_sorts gs) t ≡ false
old-target gs [] s t old e = none-is (Alias t) e
old-target gs (d ∷ ds) s t old e = by (old-target gs ds s t old.1) (same_name d.name s) e
  where
    by : (declared ds s ≡ Some (Alias t) → is_among (new_sorts gs) t ≡ false) → (b : Bool) → (if b then Some d.sort else declared ds s) ≡ Some (Alias t) → is_among (new_sorts gs) t ≡ false
    by next true h = not-true _ (sym (ap (is_old_target gs) (some-is d.sort (Alias t) h)) ∙ old.0)
    by next false h = next h

module _ (m : Model) (gs : List Group) (old : Each (HasOldTarget gs) m.sorts) where
  within-same : (n i : ℕ) (s : Name) → n ≤ i → ends_within n m s ≡ true → is_among (new_sorts gs) s ≡ false →
      carrier_within i (data_of (packed_by gs m)) s ≡ carrier_within n (data_of m) s
  within-same zero i s below ends new = absurd (true≢false (sym ends))
  within-same (suc n) zero s below ends new = absurd (omega arith)
  within-same (suc n) (suc i) s below ends new =
      ap (λ r. carrier_by r (same_name s (codes "Bool")) (declared (with_sorts gs m.sorts) s) (carrier_within i (data_of (packed_by gs m)))) (range-same gs m.ranges s new)
      ∙ (ap (λ d. carrier_by (range_of m.ranges s) (same_name s (codes "Bool")) d (carrier_within i (data_of (packed_by gs m)))) (declared-same gs m.sorts s new)
      ∙ by-parts gs (range_of m.ranges s) (same_name s (codes "Bool")) (declared m.sorts s) (carrier_within i (data_of (packed_by gs m))) (carrier_within n (data_of m)) (ends_within n m) ends
      (λ t e h. within-same n i t (omega arith) h (old-target gs m.sorts s t old e)))

more-sorts : (gs : List Group) (ds : List SortDeclaration) → length ds ≤ length (with_sorts gs ds)
more-sorts [] ds = omega arith
more-sorts (Alone x ∷ gs) ds = more-sorts gs ds
more-sorts (Joined x ps ∷ gs) ds = omega (arith, more-sorts gs ds)

pub sorts-same : (m : Model) (gs : List Group) → IsPacking m gs → (s : Name) → is_among (new_sorts gs) s ≡ false → carrier_of (data_of (packed_by gs m)) s ≡ carrier_of (data_of m) s
sorts-same m gs packing s new = within-same m gs packing.old_targets (suc (length m.sorts)) (suc (length (with_sorts gs m.sorts))) s (omega (arith, more-sorts gs m.sorts)) (packing.chains s) new

-- ---- the sorts of groups

abbrev HasRange : List Range → Group → Type 0
HasRange rs (Alone x) = Unit {0}
HasRange rs (Joined x ps) = range_of rs x.sort ≡ Some (record { name = x.sort; low = pos 0; high = pos (capacity ps) -ℤ pos 1 })

ranges-more : (rs : List Range) (r : Range) (gs : List Group) → is_among (new_sorts gs) r.name ≡ false → Each (HasRange rs) gs → Each (HasRange (r ∷ rs)) gs
ranges-more rs r [] e has = tt
ranges-more rs r (Alone x ∷ gs) e has = (tt, ranges-more rs r gs e has.1)
ranges-more rs r (Joined x ps ∷ gs) e has =
    let parts = neither (same_name x.sort r.name) (is_among (new_sorts gs) r.name) e in
    (ap (λ (b : Bool). if b then Some r else range_of rs x.sort) (apart-sym x.sort r.name parts.0) ∙ has.0, ranges-more rs r gs parts.1 has.1)

have-ranges : (gs : List Group) (rs : List Range) → AreAllApart (new_sorts gs) → Each (HasRange (with_ranges gs rs)) gs
have-ranges [] rs apart = tt
have-ranges (Alone x ∷ gs) rs apart = (tt, have-ranges gs rs apart)
have-ranges (Joined x ps ∷ gs) rs apart =
    let r : Range = record { name = x.sort; low = pos 0; high = pos (capacity ps) -ℤ pos 1 } in
    (ap (λ (b : Bool). if b then Some r else range_of (with_ranges gs rs) x.sort) (same-itself x.sort), ranges-more (with_ranges gs rs) r gs apart.0 (have-ranges gs rs apart.1))

whole : (c : ℕ) → pos c -ℤ pos 1 -ℤ pos 0 +ℤ pos 1 ≡ pos c
whole c = omega (arith, ints)

pub packed-sorts : (m : Model) (gs : List Group) → IsPacking m gs → Each (IsPackedSort m gs) gs
packed-sorts m gs packing = each gs packing.old_sorts (have-ranges gs m.ranges packing.sorts)
  where
    each : (hs : List Group) → Each (HasOldSort gs) hs → Each (HasRange (with_ranges gs m.ranges)) hs → Each (IsPackedSort m gs) hs
    each [] old has = tt
    each (Alone x ∷ hs) old has = (old.0, each hs old.1 has.1)
    each (Joined x ps ∷ hs) old has = (
      ap (λ r. carrier_by r (same_name x.sort (codes "Bool")) (declared (with_sorts gs m.sorts) x.sort) (carrier_within (length (with_sorts gs m.sorts)) (data_of (packed_by gs m)))) has.0
          ∙ ap (λ (z : ℤ). numbers_from (pos 0) (at_least_none z)) (whole (capacity ps)),
      each hs old.1 has.1,
    )
