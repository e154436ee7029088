-- Packing a state and unpacking it are inverse to one another, on states of the model and of the packed model.
use Rattle.std.proofs.Common.{◌≡◌, ℕ, ◌+◌, ◌*◌, ◌/◌, ◌%◌, ◌<◌, ℤ, pos, ◌+ℤ◌, ◌-ℤ◌, true, true≢false, List, [], ◌∷◌, ◌++◌, map, length, drop, flat_map, refl, sym, ap, ◌∙◌, subst, arith}
use Rattle.std.proofs.lemmas.Int.{ints}
use Rattle.std.proofs.lemmas.Nat.{div-mul-add, mod-mul-add}
use Rattle.std.proofs.lemmas.Bool.{and_parts, and_from}
use Rattle.pb_base_values.specs.Carrier.{Carrier, Value, Tuple, at_least_none, numbers_from, contains, is_within, tuple_count}
use Rattle.pb_text_meaning.specs.Syntax.{Variable, Spec}
use Rattle.pb_text_meaning.specs.Sorts.{carrier_of}
use Rattle.pb_text_meaning.specs.Value.{is_true}
use Rattle.pb_text_meaning.specs.Formula.{carriers_of}
use Rattle.pb_text_meaning.specs.Meaning.{assigned}
use Rattle.pb_model_meaning.specs.Syntax.{Model}
use Rattle.pb_model_meaning.specs.Steps.{State, data_of, is_state, state_count}
use Rattle.pb_protocol_packing.specs.Packing.{Member, Group, Alone, Joined, capacity, variable_of, with_groups, packed_by}
use Rattle.pb_protocol_packing.specs.Apart.{Each, all_members, variables_of, group_variables, IsMember, IsPacking}
use Rattle.pb_protocol_packing.specs.Unpacked.{digits, unpacked}
use Rattle.pb_protocol_packing.proofs.Lists.{each-front, each-rest}
use Rattle.pb_protocol_packing.proofs.Digits.{positive, rest-below, made-below, contains-at, contained}
use Rattle.pb_protocol_packing.proofs.Sorts.{IsPackedSort, sorts-same, packed-sorts}
use Rattle.pb_protocol_packing.proofs.Scopes.{Fixed, fixed-stays}
use Rattle.pb_protocol_packing.proofs.Steps.{sees}
use Rattle.pb_protocol_packing.proofs.Simulation.{DataIsSame, satisfying-same}
use Rattle.pb_protocol_packing.proofs.Successors.{steps-same}
use Rattle.pb_protocol_packing.proofs.Unpacked.{count-same, number-within, unpacked-within}
use Rattle.pb_protocol_packing.proofs.Values.{value-said}
use Rattle.pb_protocol_symmetry_packed.specs.States.{number_in, packed_state}
use Rattle.pb_protocol_symmetry_packed.specs.Laws.{PackedModelsAreIsomorphic, PackedFormulasAreEquivalent}

-- ---- the number of a group

distance : (low : ℤ) (d : ℕ) → at_least_none ((low +ℤ pos d) -ℤ low) ≡ d
distance low d =
    let e : (low +ℤ pos d) -ℤ low ≡ pos d = omega (arith, ints) in
    ap at_least_none e

-- the number of a group's digits is the number that they are of
number-digits : (ps : List Member) (k : ℕ) (vs : Tuple) → k < capacity ps → number_in ps (digits ps k ++ vs) ≡ k
number-digits [] k vs below = omega (arith, below)
number-digits (p ∷ ps) k vs below =
    let c = capacity ps in
    let some : 0 < c = positive k p.size c below in
    ap (λ d. d * c + number_in ps (digits ps (k % c) ++ vs)) (distance p.low (k / c)) ∙
    (ap (λ e. (k / c) * c + e) (number-digits ps (k % c) vs (rest-below k p.size c below)) ∙ omega (arith, some))

drop-digits : (ps : List Member) (k : ℕ) (vs : Tuple) → drop (length ps) (digits ps k ++ vs) ≡ vs
drop-digits [] k vs = refl
drop-digits (p ∷ ps) k vs = drop-digits ps (k % capacity ps) vs

-- values of a group, in front of others, are the digits of their number
record IsNumbered (m : Model) (ps : List Member) (ys : List Variable) (s : State) : Type 0 where
  pub below : number_in ps s < capacity ps
  pub same : digits ps (number_in ps s) ++ drop (length ps) s ≡ s
  pub others : is_within (carriers_of (data_of m) ys) (drop (length ps) s) ≡ true

numbered : (m : Model) (ps : List Member) (ys : List Variable) (s : State) → Each (IsMember m) ps →
    is_within (carriers_of (data_of m) (variables_of ps ++ ys)) s ≡ true → IsNumbered m ps ys s
numbered m [] ys s places e = record { below = omega arith; same = refl; others = e }
numbered m (p ∷ ps) ys [] places e = absurd (true≢false (sym e))
numbered m (p ∷ ps) ys (v ∷ s) places e =
    let parts = and_parts (contains (carrier_of (data_of m) p.variable.sort) v) (is_within (carriers_of (data_of m) (variables_of ps ++ ys)) s) e in
    let d = contained p.low p.size v (sym (ap (λ (c : Carrier). contains c v) places.0.carrier) ∙ parts.0) in
    let r = numbered m ps ys s places.1 parts.1 in
    let c = capacity ps in
    let k = number_in ps s in
    let is : at_least_none (v -ℤ p.low) ≡ d.0 = ap (λ (u : Value). at_least_none (u -ℤ p.low)) d.2 ∙ distance p.low d.0 in
    let number : number_in (p ∷ ps) (v ∷ s) ≡ d.0 * c + k = ap (λ j. j * c + k) is in
    record {
      below = subst (λ j. j < p.size * c) (sym number) (made-below p.size c d.0 k d.1 r.below);
      same =
          ap (λ j. digits (p ∷ ps) j ++ drop (length ps) s) number ∙
          (ap (λ j. (p.low +ℤ pos j) ∷ (digits ps ((d.0 * c + k) % c) ++ drop (length ps) s)) (div-mul-add d.0 c k r.below) ∙
          (ap (λ j. (p.low +ℤ pos d.0) ∷ (digits ps j ++ drop (length ps) s)) (mod-mul-add d.0 c k r.below) ∙
          (ap (λ (u : Value). u ∷ (digits ps k ++ drop (length ps) s)) (sym d.2) ∙ ap (λ (l : State). v ∷ l) r.same)));
      others = r.others;
    }

number-contained : (n k : ℕ) → k < n → contains (numbers_from (pos 0) n) (pos k) ≡ true
number-contained n k below =
    let e : pos 0 +ℤ pos k ≡ pos k = omega (arith, ints) in
    subst (λ (v : Value). contains (numbers_from (pos 0) n) v ≡ true) e (contains-at (pos 0) n k below)

-- ---- whole states

module _ (m : Model) (all : List Group) (packing : IsPacking m all) where
  abbrev n : Model
  n = packed_by all m

  abbrev N : Spec
  N = data_of n

  abbrev D : Spec
  D = data_of m

  abbrev Places : List Group → Type 0
  Places gs = Each (IsMember m) (all_members gs)

  packed-within : (gs : List Group) (s : State) → Each (IsPackedSort m all) gs → Places gs → is_within (carriers_of D (flat_map group_variables gs)) s ≡ true →
      (is_within (carriers_of N (map variable_of gs)) (packed_state gs s) ≡ true) × (unpacked gs (packed_state gs s) ≡ s)
  packed-within [] [] sorts places e = (refl, refl)
  packed-within [] (v ∷ s) sorts places e = absurd (true≢false (sym e))
  packed-within (Alone x ∷ gs) [] sorts places e = absurd (true≢false (sym e))
  packed-within (Alone x ∷ gs) (v ∷ s) sorts places e =
      let parts = and_parts (contains (carrier_of D x.sort) v) (is_within (carriers_of D (flat_map group_variables gs)) s) e in
      let r = packed-within gs s sorts.1 places parts.1 in (
        and_from _ _ (ap (λ (c : Carrier). contains c v) (sorts-same m all packing x.sort sorts.0) ∙ parts.0) r.0,
        ap (λ (l : State). v ∷ l) r.1,
      )
  packed-within (Joined x ps ∷ gs) s sorts places e =
      let h = numbered m ps (flat_map group_variables gs) s (each-front (IsMember m) ps (all_members gs) places) e in
      let r = packed-within gs (drop (length ps) s) sorts.1 (each-rest (IsMember m) ps (all_members gs) places) h.others in (
        and_from _ _ (ap (λ (c : Carrier). contains c (pos (number_in ps s))) sorts.0 ∙ number-contained (capacity ps) (number_in ps s) h.below) r.0,
        ap (λ (l : State). digits ps (number_in ps s) ++ l) r.1 ∙ h.same,
      )

  packed-back : (gs : List Group) (t : State) → Each (IsPackedSort m all) gs → is_within (carriers_of N (map variable_of gs)) t ≡ true → packed_state gs (unpacked gs t) ≡ t
  packed-back [] [] sorts e = refl
  packed-back [] (v ∷ t) sorts e = absurd (true≢false (sym e))
  packed-back (g ∷ gs) [] sorts e = absurd (true≢false (sym e))
  packed-back (Alone x ∷ gs) (v ∷ t) sorts e = ap (λ (l : State). v ∷ l) (packed-back gs t sorts.1 (and_parts (contains (carrier_of N x.sort) v) _ e).1)
  packed-back (Joined x ps ∷ gs) (v ∷ t) sorts e =
      let parts = and_parts (contains (carrier_of N x.sort) v) (is_within (carriers_of N (map variable_of gs)) t) e in
      let k = number-within m all (sorts-same m all packing) ps v (sym (ap (λ (c : Carrier). contains c v) sorts.0) ∙ parts.0) in
      let rest = unpacked gs t in
      ap (λ j. pos j ∷ packed_state gs (drop (length ps) (digits ps (at_least_none v) ++ rest))) (number-digits ps (at_least_none v) rest k.1) ∙
      (ap (λ (l : State). pos (at_least_none v) ∷ packed_state gs l) (drop-digits ps (at_least_none v) rest) ∙
      (ap (λ (u : Value). u ∷ packed_state gs rest) (sym k.0) ∙ ap (λ (l : State). v ∷ l) (packed-back gs t sorts.1 parts.1)))

  state-within : (s : State) → is_state m s ≡ is_within (carriers_of D (flat_map group_variables all)) s
  state-within s = ap (λ (xs : List Variable). is_within (carriers_of D xs) s) packing.variables

  data-same : DataIsSame m n (unpacked all) all
  data-same x t apart e =
      let b = assigned (map variable_of all) t [] in
      ap is_true
      (value-said m all (Fixed all b) (sorts-same m all packing) (fixed-stays all b) x (with_groups all [])
      (assigned m.variables (unpacked all t) []) b apart (sees m all packing t e) (λ r h. refl))

  count : state_count n ≡ state_count m
  count = count-same m all (sorts-same m all packing) all (packed-sorts m all packing) packing.places ∙ ap (λ (xs : List Variable). tuple_count (carriers_of D xs)) (sym packing.variables)

pub isomorphic : PackedModelsAreIsomorphic
isomorphic m gs packing =
    let sorts = packed-sorts m gs packing in
    let packs = λ (s : State) (e : is_state m s ≡ true). packed-within m gs packing gs s sorts packing.places (sym (state-within m gs packing s) ∙ e) in
    record {
      successors = λ A t e. steps-same m gs packing A t e;
      there = λ t e. state-within m gs packing (unpacked gs t) ∙ unpacked-within m gs (sorts-same m gs packing) gs t sorts packing.places e;
      packed = λ s e. (packs s e).0;
      unpacked = λ s e. (packs s e).1;
      back = λ t e. packed-back m gs packing gs t sorts e;
    }

pub equivalent : PackedFormulasAreEquivalent
equivalent m gs packing g apart ρ τ h t e =
    satisfying-same m (packed_by gs m) (unpacked gs) gs (count m gs packing) (data-same m gs packing) (steps-same m gs packing) g apart ρ τ h t e
