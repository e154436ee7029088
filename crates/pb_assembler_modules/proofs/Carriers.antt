-- A carrier is determined by its shape, and so are the carriers of slots.
use Rattle.std.proofs.Common.{◌≡◌, ℕ, suc, ◌<◌, List, [], ◌∷◌, map, Some, refl, sym, ap, ◌∙◌, subst}
use Rattle.std.specs.Prelude.{ℤ, ◌≤ℤ◌}
use Rattle.std.proofs.Props.{props}
use Rattle.pb_sorts.specs.declared.carrier.Carrier.{Carrier}
use Rattle.pb_sorts.specs.declared.carrier.Carrier.TheVariants as carrier
use Rattle.pb_typing_declarations.specs.Shapes.{Shape}
use Rattle.pb_typing_declarations.specs.Entries.{carrier_shape, shapes_of}
use Rattle.pb_assembler_scheme.specs.Correct.{slots_from}

abbrev range : (low high : ℤ) → low ≤ℤ high → Carrier
range low high h = carrier.Range (record { low = low; high = high; not_empty = h })

abbrev enumeration : (sort count : ℕ) → 0 < count → Carrier
enumeration sort count h = carrier.Enum (record { sort = sort; count = count; not_empty = h })

order_is_prop : (a b : ℤ) (p q : a ≤ℤ b) → p ≡ q
order_is_prop a b = hlevel props

below_is_prop : (a b : ℕ) (p q : a < b) → p ≡ q
below_is_prop a b = hlevel props

same_range : (a b c d : ℤ) (p : a ≤ℤ b) (q : c ≤ℤ d) → a ≡ c → b ≡ d → range a b p ≡ range c d q
same_range a b c d p q e f =
    (subst (λ (y : ℤ). (r : c ≤ℤ y) → range a b p ≡ range c y r) f
    (subst (λ (x : ℤ). (r : x ≤ℤ b) → range a b p ≡ range x b r) e (λ r. ap (range a b) (order_is_prop a b p r)))) q

same_enumeration : (s n t m : ℕ) (p : 0 < n) (q : 0 < m) → s ≡ t → n ≡ m → enumeration s n p ≡ enumeration t m q
same_enumeration s n t m p q e f =
    (subst (λ (y : ℕ). (r : 0 < y) → enumeration s n p ≡ enumeration t y r) f
    (λ r. ap (λ x. enumeration x n p) e ∙ ap (enumeration t n) (below_is_prop 0 n p r))) q

same_carrier : (c d : Carrier) → carrier_shape (Some c) ≡ carrier_shape (Some d) → c ≡ d
same_carrier carrier.Bool carrier.Bool e = refl
same_carrier carrier.Bool (carrier.Enum b) e = cc
same_carrier carrier.Bool (carrier.Range b) e = cc
same_carrier (carrier.Enum a) carrier.Bool e = cc
same_carrier (carrier.Enum a) (carrier.Enum b) e =
    let sorts : a.sort ≡ b.sort = cc in
    let counts : a.count ≡ b.count = cc in
    same_enumeration a.sort a.count b.sort b.count a.not_empty b.not_empty sorts counts
same_carrier (carrier.Enum a) (carrier.Range b) e = cc
same_carrier (carrier.Range a) carrier.Bool e = cc
same_carrier (carrier.Range a) (carrier.Enum b) e = cc
same_carrier (carrier.Range a) (carrier.Range b) e =
    let lows : a.low ≡ b.low = cc in
    let highs : a.high ≡ b.high = cc in
    same_range a.low a.high b.low b.high a.not_empty b.not_empty lows highs

pub same_carriers : (cs ds : List Carrier) → shapes_of cs ≡ shapes_of ds → cs ≡ ds
same_carriers [] [] e = refl
same_carriers [] (d ∷ ds) e = cc
same_carriers (c ∷ cs) [] e = cc
same_carriers (c ∷ cs) (d ∷ ds) e =
    let first = same_carrier c d (cc) in
    let rest = same_carriers cs ds (cc) in
    cc

slot_shapes : (n : ℕ) (cs : List Carrier) → map (λ (s : ℕ × Shape). s.1) (slots_from n cs) ≡ shapes_of cs
slot_shapes n [] = refl
slot_shapes n (c ∷ cs) = ap (λ (ss : List Shape). carrier_shape (Some c) ∷ ss) (slot_shapes (suc n) cs)

pub same_slots : (n m : ℕ) (cs ds : List Carrier) → slots_from n cs ≡ slots_from m ds → cs ≡ ds
same_slots n m cs ds e =
    same_carriers cs ds (sym (slot_shapes n cs) ∙ ap (map (λ (s : ℕ × Shape). s.1)) e ∙ slot_shapes m ds)
