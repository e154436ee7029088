-- The protocol of a text that has words has words: its constants are written numbers.
use Rattle.std.proofs.Common.{◌≡◌, ℕ, zero, suc, true, List, [], ◌∷◌, ◌++◌, map, refl, sym, subst, arith}
use Rattle.std.specs.Prelude.{ℤ, pos, negsuc, int_le, Contains}
use Rattle.std.proofs.lemmas.Int.{ints}
use Rattle.std.proofs.lemmas.List.{map-append}
use Rattle.pb_text_tree.specs.declared.place.Place.{Place}
use Rattle.pb_text_meaning.specs.Syntax.{Range}
use Rattle.pb_text_meaning.specs.Erase.{erased_range, erased_term}
use Rattle.pb_text_printer.specs.Sayable.{Each, IsBound}
use Rattle.pb_protocol_tree.specs.Form.{ConstantForm, BoundsForm, ModelTextForm, DefinitionForm, ProtocolForm}
use Rattle.pb_protocol_meaning.specs.Syntax.{Definition}
use Rattle.pb_protocol_meaning.specs.Erase.{erase, erased_definition}
use Rattle.pb_model_spelling.specs.Writable.{RangeWritable}
use Rattle.pb_model_spelling.specs.Protocols.{DataWritable, DefinitionWritable, ProtocolWritable, ConstantWritable, BoundsWritable, ModelTextWritable}
use Rattle.pb_protocol_constants.specs.Settled.{HasFewBits, HasSmallNumbers, constants_alone, definition_of_constant, number_at, place_of_constant, range_of, settled, settled_by, value_of}
use Rattle.pb_protocol_laws.proofs.Unfolded.{both}

-- ---- numbers

few-bound : (v : ℤ) → HasFewBits v → IsBound v
few-bound (pos n) h = let low = h.0 in let high = h.1 in omega (arith, ints)
few-bound (negsuc n) h = let low = h.0 in let high = h.1 in omega (arith, ints)

number-writable : (p : Place) (v : ℤ) → IsBound v → DataWritable (erased_term (number_at p v))
number-writable p (pos n) h = omega arith
number-writable p (negsuc n) h = omega arith

-- what holds of each of a list, by what it contains
here : {X : Type 0} (x : X) (xs : List X) → Contains (x ∷ xs) x
here x xs = (zero, omega arith, refl)

later : {X : Type 0} (y : X) (xs : List X) (x : X) → Contains xs x → Contains (y ∷ xs) x
later y xs x (k, within, e) = (suc k, omega (arith, within), e)

-- ---- constants

module _ (m : ProtocolForm) where
  abbrev AreFew : List ConstantForm → Type 0
  AreFew cs = (c : ConstantForm) → Contains cs c → HasFewBits (value_of m c.value)

  definitions-writable : (cs : List ConstantForm) → AreFew cs → Each ConstantWritable cs
      → Each DefinitionWritable (map erased_definition (settled_by m (map definition_of_constant cs) (map place_of_constant cs)))
  definitions-writable [] few h = tt
  definitions-writable (c ∷ cs) few h = (
    (h.0, tt, number-writable c.place (value_of m c.value) (few-bound (value_of m c.value) (few c (here c cs)))),
    definitions-writable cs (λ d among. few d (later c cs d among)) h.1,
  )

  -- ---- bounds

  record AreInOrder (bounds : List BoundsForm) : Type 0 where
    low : (b : BoundsForm) → Contains bounds b → HasFewBits (value_of m b.low)
    high : (b : BoundsForm) → Contains bounds b → HasFewBits (value_of m b.high)
    order : (b : BoundsForm) → Contains bounds b → int_le (value_of m b.low) (value_of m b.high) ≡ true

  others : (b : BoundsForm) (bounds : List BoundsForm) → AreInOrder (b ∷ bounds) → AreInOrder bounds
  others b bounds h = record {
    low = λ x among. h.low x (later b bounds x among);
    high = λ x among. h.high x (later b bounds x among);
    order = λ x among. h.order x (later b bounds x among);
  }

  ranges-writable : (bounds : List BoundsForm) → AreInOrder bounds → Each BoundsWritable bounds → Each RangeWritable (map erased_range (map (range_of m) bounds))
  ranges-writable [] few h = tt
  ranges-writable (b ∷ bounds) few h = (
    record {
      name = h.0;
      low = few-bound (value_of m b.low) (few.low b (here b bounds));
      high = few-bound (value_of m b.high) (few.high b (here b bounds));
      order = few.order b (here b bounds);
    },
    ranges-writable bounds (others b bounds few) h.1,
  )

-- ---- the whole

pub settled-writable : (t : ModelTextForm) → HasSmallNumbers t → ModelTextWritable t → ProtocolWritable (erase (settled t))
settled-writable t numbers h =
    let m = constants_alone t.constants in
    let own = settled_by m (map definition_of_constant t.constants) (map place_of_constant t.constants) in
    let ranges = map (range_of m) t.bounds in
    let ordered : AreInOrder m t.bounds = record { low = numbers.low; high = numbers.high; order = numbers.order } in
    record {
      sorts = h.protocol.sorts;
      ranges = subst (λ (rs : List Range). Each RangeWritable rs) (sym (map-append erased_range ranges t.protocol.ranges))
          (both RangeWritable (map erased_range ranges) (map erased_range t.protocol.ranges) (ranges-writable m t.bounds ordered h.bounds) h.protocol.ranges);
      variables = h.protocol.variables;
      definitions = subst (λ (ds : List Definition). Each DefinitionWritable ds) (sym (map-append erased_definition own t.protocol.definitions))
          (both DefinitionWritable (map erased_definition own) (map erased_definition t.protocol.definitions)
          (definitions-writable m t.constants numbers.constants h.constants) h.protocol.definitions);
      steps = h.protocol.steps;
      initial = h.protocol.initial;
      properties = h.protocol.properties;
    }
