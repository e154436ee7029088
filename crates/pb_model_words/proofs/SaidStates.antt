-- The values of groups in a state of a packed model are their numbers.
use Rattle.std.proofs.Common.{◌≡◌, ℕ, ◌<◌, pos, Bool, true, false, true≢false, if◌then◌else◌, List, [], ◌∷◌, map, refl, sym, ap, ◌∙◌, arith}
use Rattle.std.proofs.lemmas.Int.{ints}
use Rattle.std.proofs.lemmas.Bool.{and_parts, and_from, le-leb, lt-ltb}
use Rattle.pb_base_values.specs.Carrier.{Carrier, Value, Tuple, numbers_from, contains, is_within}
use Rattle.pb_text_meaning.specs.Sorts.{carrier_of}
use Rattle.pb_text_meaning.specs.Formula.{carriers_of}
use Rattle.pb_model_meaning.specs.Syntax.{Model}
use Rattle.pb_model_meaning.specs.Steps.{State, data_of, is_state}
use Rattle.pb_protocol_packing.specs.Packing.{Group, Alone, Joined, capacity, variable_of, packed_by}
use Rattle.pb_protocol_packing.specs.Unpacked.{unpacked}
use Rattle.pb_protocol_packing.specs.Groups.{groups_of}
use Rattle.pb_protocol_packing.specs.Apart.{Each, IsPacking}
use Rattle.pb_protocol_packing.proofs.Digits.{contained}
use Rattle.pb_protocol_packing.proofs.Sorts.{IsPackedSort, packed-sorts}
use Rattle.pb_protocol_packing.proofs.Packable.{is-packing}
use Rattle.pb_model_words.specs.States.{is_below, numbers_after}
use Rattle.pb_model_words.specs.Laws.{StatesSayTheirValues}

below-number : (n k : ℕ) → k < n → is_below n (pos k) ≡ true
below-number n k h = and_from _ _ (le-leb 0 k (omega arith)) (lt-ltb k n h)

below-contained : (n : ℕ) (v : Value) → contains (numbers_from (pos 0) n) v ≡ true → is_below n v ≡ true
below-contained n v e =
    let h = contained (pos 0) n v e in
    let is : v ≡ pos h.0 = h.2 ∙ omega (arith, ints) in
    ap (is_below n) is ∙ below-number n h.0 h.1

number-kept : (g : Group) (u v : Value) (b : Bool) → b ≡ true → (if b then v else u) ≡ v
number-kept g u v true e = refl
number-kept g u v false e = absurd (true≢false (sym e))

module _ (m : Model) (all : List Group) where
  numbers-kept : (gs : List Group) (us : Tuple) (t : State) → Each (IsPackedSort m all) gs →
      is_within (carriers_of (data_of (packed_by all m)) (map variable_of gs)) t ≡ true → numbers_after gs us t ≡ t
  numbers-kept [] us [] sorts e = refl
  numbers-kept [] us (v ∷ t) sorts e = absurd (true≢false (sym e))
  numbers-kept (g ∷ gs) us [] sorts e = absurd (true≢false (sym e))
  numbers-kept (Alone x ∷ gs) [] (v ∷ t) sorts e =
      ap (λ (ws : Tuple). v ∷ ws) (numbers-kept gs [] t sorts.1 (and_parts (contains (carrier_of (data_of (packed_by all m)) x.sort) v) _ e).1)
  numbers-kept (Alone x ∷ gs) (u ∷ us) (v ∷ t) sorts e =
      ap (λ (ws : Tuple). v ∷ ws) (numbers-kept gs us t sorts.1 (and_parts (contains (carrier_of (data_of (packed_by all m)) x.sort) v) _ e).1)
  numbers-kept (Joined x ps ∷ gs) [] (v ∷ t) sorts e =
      let parts = and_parts (contains (carrier_of (data_of (packed_by all m)) x.sort) v) _ e in
      let within = below-contained (capacity ps) v (sym (ap (λ (c : Carrier). contains c v) sorts.0) ∙ parts.0) in
      ap (λ (w : Value). w ∷ numbers_after gs [] t) (number-kept (Joined x ps) _ v (is_below (capacity ps) v) within)
      ∙ ap (λ (ws : Tuple). v ∷ ws) (numbers-kept gs [] t sorts.1 parts.1)
  numbers-kept (Joined x ps ∷ gs) (u ∷ us) (v ∷ t) sorts e =
      let parts = and_parts (contains (carrier_of (data_of (packed_by all m)) x.sort) v) _ e in
      let within = below-contained (capacity ps) v (sym (ap (λ (c : Carrier). contains c v) sorts.0) ∙ parts.0) in
      ap (λ (w : Value). w ∷ numbers_after gs us t) (number-kept (Joined x ps) _ v (is_below (capacity ps) v) within)
      ∙ ap (λ (ws : Tuple). v ∷ ws) (numbers-kept gs us t sorts.1 parts.1)

-- of any groups that pack a model
pub kept-in-states : (m : Model) (gs : List Group) (before : Tuple) (t : State) → IsPacking m gs → is_state (packed_by gs m) t ≡ true → unpacked gs (numbers_after gs before t) ≡ unpacked gs t
kept-in-states m gs before t packing e = ap (unpacked gs) (numbers-kept m gs gs before t (packed-sorts m gs packing) e)

pub states_say_their_values : StatesSayTheirValues
states_say_their_values m v before t able e =
    let packing = is-packing m able in
    (kept-in-states m (groups_of m) [] t packing e, kept-in-states m (groups_of m) before t packing e)
