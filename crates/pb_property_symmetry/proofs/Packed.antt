-- The number of a packed state: a group's value counts as the values of its variables do.
use Rattle.std.proofs.Common.{◌≡◌, ℕ, ◌+◌, ◌*◌, ◌<◌, pos, ◌+ℤ◌, ◌-ℤ◌, true, true≢false, List, [], ◌∷◌, ◌++◌, map, length, drop, flat_map, refl, sym, ap, ◌∙◌, arith}
use Rattle.std.proofs.lemmas.Int.{ints}
use Rattle.std.proofs.lemmas.Bool.{and_parts}
use Rattle.pb_base_values.specs.Carrier.{Carrier, at_least_none, numbers_from, contains, is_within, tuple_count}
use Rattle.pb_sorts.specs.Instance.{carrier_place, mixed_radix}
use Rattle.pb_text_meaning.specs.Syntax.{Variable, Spec}
use Rattle.pb_text_meaning.specs.Sorts.{carrier_of}
use Rattle.pb_text_meaning.specs.Formula.{carriers_of}
use Rattle.pb_model_meaning.specs.Syntax.{Model}
use Rattle.pb_model_meaning.specs.Steps.{State, data_of}
use Rattle.pb_protocol_packing.specs.Packing.{Member, Group, Alone, Joined, capacity, variable_of, packed_by}
use Rattle.pb_protocol_packing.specs.Apart.{Each, all_members, variables_of, group_variables, IsMember, IsPacking}
use Rattle.pb_protocol_packing.proofs.Lists.{each-front, each-rest}
use Rattle.pb_protocol_packing.proofs.Digits.{contained, length-numbers, made-below}
use Rattle.pb_protocol_packing.proofs.Sorts.{IsPackedSort, sorts-same, packed-sorts}
use Rattle.pb_protocol_packing.proofs.Unpacked.{count-same}
use Rattle.pb_protocol_symmetry_packed.specs.States.{number_in, packed_state}
use Rattle.pb_property_symmetry.specs.Laws.{PackedStatesKeepTheirNumbers}
use Rattle.pb_property_symmetry.proofs.Carriers.{place-at, place-number}

-- ---- a group

-- a group's variables have as many values together as its number
count-group : (m : Model) (ps : List Member) (ys : List Variable) → Each (IsMember m) ps →
    tuple_count (carriers_of (data_of m) (variables_of ps ++ ys)) ≡ capacity ps * tuple_count (carriers_of (data_of m) ys)
count-group m [] ys places = omega arith
count-group m (p ∷ ps) ys places =
    ap (λ (c : Carrier). length c * tuple_count (carriers_of (data_of m) (variables_of ps ++ ys))) places.0.carrier
    ∙ (ap (λ n. n * tuple_count (carriers_of (data_of m) (variables_of ps ++ ys))) (length-numbers p.low p.size)
    ∙ (ap (λ n. p.size * n) (count-group m ps ys places.1) ∙ omega arith))

-- the values of a group's variables, in front of others
record IsCounted (m : Model) (ps : List Member) (ys : List Variable) (s : State) : Type 0 where
  pub below : number_in ps s < capacity ps
  pub others : is_within (carriers_of (data_of m) ys) (drop (length ps) s) ≡ true
  pub number :
      mixed_radix (carriers_of (data_of m) (variables_of ps ++ ys)) s
      ≡ number_in ps s * tuple_count (carriers_of (data_of m) ys) + mixed_radix (carriers_of (data_of m) ys) (drop (length ps) s)

digits-counted : (d c t e r : ℕ) → d * (c * t) + (e * t + r) ≡ (d * c + e) * t + r
digits-counted d c t e r = omega arith

counted : (m : Model) (ps : List Member) (ys : List Variable) (s : State) → Each (IsMember m) ps →
    is_within (carriers_of (data_of m) (variables_of ps ++ ys)) s ≡ true → IsCounted m ps ys s
counted m [] ys s places e = record { below = omega arith; others = e; number = omega arith }
counted m (p ∷ ps) ys [] places e = absurd (true≢false (sym e))
counted m (p ∷ ps) ys (v ∷ s) places e =
    let D = data_of m in
    let cs = carriers_of D (variables_of ps ++ ys) in
    let parts = and_parts (contains (carrier_of D p.variable.sort) v) (is_within cs s) e in
    let h = counted m ps ys s places.1 parts.1 in
    let d = at_least_none (v -ℤ p.low) in
    let in-carrier : contains (numbers_from p.low p.size) v ≡ true = sym (ap (λ (c : Carrier). contains c v) places.0.carrier) ∙ parts.0 in
    let at = contained p.low p.size v in-carrier in
    let far : v -ℤ p.low ≡ pos at.0 = omega (arith, ints, at.2) in
    let small : d < p.size = omega (arith, at.1, ap at_least_none far) in
    let place : carrier_place (carrier_of D p.variable.sort) v ≡ d = ap (λ (c : Carrier). carrier_place c v) places.0.carrier ∙ place-number p.low p.size v in-carrier in
    record {
      below = made-below p.size (capacity ps) d (number_in ps s) small h.below;
      others = h.others;
      number =
          ap (λ k. k * tuple_count cs + mixed_radix cs s) place
          ∙ (ap (λ k. d * k + mixed_radix cs s) (count-group m ps ys places.1)
          ∙ (ap (λ k. d * (capacity ps * tuple_count (carriers_of D ys)) + k) h.number
          ∙ digits-counted d (capacity ps) (tuple_count (carriers_of D ys)) (number_in ps s) (mixed_radix (carriers_of D ys) (drop (length ps) s))));
    }

-- ---- whole states

module _ (m : Model) (all : List Group) (packing : IsPacking m all) where
  abbrev D : Spec
  D = data_of m

  abbrev N : Spec
  N = data_of (packed_by all m)

  numbers-same : (gs : List Group) (s : State) → Each (IsPackedSort m all) gs → Each (IsMember m) (all_members gs) →
      is_within (carriers_of D (flat_map group_variables gs)) s ≡ true →
      mixed_radix (carriers_of N (map variable_of gs)) (packed_state gs s) ≡ mixed_radix (carriers_of D (flat_map group_variables gs)) s
  numbers-same [] s sorts places e = refl
  numbers-same (Alone x ∷ gs) [] sorts places e = absurd (true≢false (sym e))
  numbers-same (Alone x ∷ gs) (v ∷ s) sorts places e =
      let parts = and_parts (contains (carrier_of D x.sort) v) (is_within (carriers_of D (flat_map group_variables gs)) s) e in
      let cs = carriers_of N (map variable_of gs) in
      ap (λ (c : Carrier). carrier_place c v * tuple_count cs + mixed_radix cs (packed_state gs s)) (sorts-same m all packing x.sort sorts.0)
      ∙ (ap (λ k. carrier_place (carrier_of D x.sort) v * k + mixed_radix cs (packed_state gs s)) (count-same m all (sorts-same m all packing) gs sorts.1 places)
      ∙ ap (λ k. carrier_place (carrier_of D x.sort) v * tuple_count (carriers_of D (flat_map group_variables gs)) + k) (numbers-same gs s sorts.1 places parts.1))
  numbers-same (Joined x ps ∷ gs) s sorts places e =
      let ys = flat_map group_variables gs in
      let rest = each-rest (IsMember m) ps (all_members gs) places in
      let h = counted m ps ys s (each-front (IsMember m) ps (all_members gs) places) e in
      let cs = carriers_of N (map variable_of gs) in
      let others = packed_state gs (drop (length ps) s) in
      let place : carrier_place (carrier_of N x.sort) (pos (number_in ps s)) ≡ number_in ps s =
      ap (λ (c : Carrier). carrier_place c (pos (number_in ps s))) sorts.0
      ∙ (ap (carrier_place (numbers_from (pos 0) (capacity ps))) (from-none (number_in ps s)) ∙ place-at (pos 0) (capacity ps) (number_in ps s) h.below) in
      ap (λ k. k * tuple_count cs + mixed_radix cs others) place
      ∙ (ap (λ k. number_in ps s * k + mixed_radix cs others) (count-same m all (sorts-same m all packing) gs sorts.1 rest)
      ∙ (ap (λ k. number_in ps s * tuple_count (carriers_of D ys) + k) (numbers-same gs (drop (length ps) s) sorts.1 rest h.others)
      ∙ sym h.number))
    where
      from-none : (k : ℕ) → pos k ≡ pos 0 +ℤ pos k
      from-none k = omega (arith, ints)

pub packed-numbers : PackedStatesKeepTheirNumbers
packed-numbers m gs packing s e =
    let within : is_within (carriers_of (data_of m) (flat_map group_variables gs)) s ≡ true = sym (ap (λ (xs : List Variable). is_within (carriers_of (data_of m) xs) s) packing.variables) ∙ e in
    numbers-same m gs packing gs s (packed-sorts m gs packing) packing.places within
    ∙ sym (ap (λ (xs : List Variable). mixed_radix (carriers_of (data_of m) xs) s) packing.variables)
