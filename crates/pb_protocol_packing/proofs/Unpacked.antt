-- The state of a model that a state of the packed model stands for.
use Rattle.std.proofs.Common.{◌≡◌, ℕ, ◌*◌, ◌%◌, ◌<◌, pos, true, false, true≢false, ◌&&◌, List, [], ◌∷◌, ◌++◌, map, length, flat_map, refl, sym, ap, ◌∙◌, arith}
use Rattle.std.specs.Prelude.{Option}
use Rattle.std.proofs.lemmas.Int.{ints}
use Rattle.std.proofs.lemmas.Bool.{and_parts, and_from}
use Rattle.pb_base_values.specs.Carrier.{Carrier, Value, Tuple, at_least_none, numbers_from, contains, is_within, tuple_count}
use Rattle.pb_text_meaning.specs.Syntax.{Name, Variable, Term, Spec}
use Rattle.pb_text_meaning.specs.Sorts.{carrier_of}
use Rattle.pb_text_meaning.specs.Value.{Assignment, value}
use Rattle.pb_text_meaning.specs.Formula.{carriers_of}
use Rattle.pb_text_meaning.specs.Meaning.{assigned}
use Rattle.pb_model_meaning.specs.Syntax.{Model}
use Rattle.pb_model_meaning.specs.Steps.{State, data_of, value_after}
use Rattle.pb_protocol_packing.specs.Packing.{Member, Group, Alone, Joined, capacity, variable_of, packed_by}
use Rattle.pb_protocol_packing.specs.Apart.{Each, is_among, all_members, variables_of, group_variables, new_sorts, IsMember}
use Rattle.pb_protocol_packing.proofs.Sorts.{IsPackedSort}
use Rattle.pb_protocol_packing.proofs.Lists.{each-front, each-rest, and-assoc}
use Rattle.pb_protocol_packing.proofs.Digits.{carriers_at, digits-within, contained, length-numbers}
use Rattle.pb_protocol_packing.proofs.Group.{after, SaysAfter}
use Rattle.pb_protocol_packing.specs.Unpacked.{digits, unpacked}

-- ---- the values of a group, in front of others

-- as many values as places
abbrev pub Fills : List Member → Tuple → Type 0
Fills [] [] = Unit {0}
Fills (p ∷ ps) (v ∷ vs) = Fills ps vs
Fills [] (v ∷ vs) = ⊥
Fills (p ∷ ps) [] = ⊥

pub digits-fill : (ps : List Member) (k : ℕ) → Fills ps (digits ps k)
digits-fill [] k = tt
digits-fill (p ∷ ps) k = digits-fill ps (k % capacity ps)

pub assigned-group : (ps : List Member) (vs : Tuple) (ys : List Variable) (ws : Tuple) (a : Assignment) → Fills ps vs →
    assigned (variables_of ps ++ ys) (vs ++ ws) a ≡ assigned ys ws (assigned (variables_of ps) vs a)
assigned-group [] [] ys ws a fills = refl
assigned-group (p ∷ ps) (v ∷ vs) ys ws a fills = assigned-group ps vs ys ws ((p.variable.name, v) ∷ a) fills
assigned-group [] (v ∷ vs) ys ws a fills = absurd fills
assigned-group (p ∷ ps) [] ys ws a fills = absurd fills

module _ (N : Spec) (b : Assignment) (new : Name → Option Term) where
  after-fills : (ps : List Member) (vs : Tuple) → Fills ps vs → Fills ps (after N b new (variables_of ps) vs)
  after-fills [] [] fills = tt
  after-fills (p ∷ ps) (v ∷ vs) fills = after-fills ps vs fills
  after-fills [] (v ∷ vs) fills = absurd fills
  after-fills (p ∷ ps) [] fills = absurd fills

  after-group : (ps : List Member) (vs : Tuple) (ys : List Variable) (ws : Tuple) → Fills ps vs →
      after N b new (variables_of ps ++ ys) (vs ++ ws) ≡ after N b new (variables_of ps) vs ++ after N b new ys ws
  after-group [] [] ys ws fills = refl
  after-group (p ∷ ps) (v ∷ vs) ys ws fills = ap (λ (us : Tuple). value_after (value N b) (new p.variable.name) v ∷ us) (after-group ps vs ys ws fills)
  after-group [] (v ∷ vs) ys ws fills = absurd fills
  after-group (p ∷ ps) [] ys ws fills = absurd fills

module _ (m : Model) where
  within-group : (ps : List Member) (vs : Tuple) (ys : List Variable) (ws : Tuple) → Each (IsMember m) ps → Fills ps vs →
      is_within (carriers_of (data_of m) (variables_of ps ++ ys)) (vs ++ ws) ≡ (is_within (carriers_at ps) vs && is_within (carriers_of (data_of m) ys) ws)
  within-group [] [] ys ws places fills = refl
  within-group (p ∷ ps) (v ∷ vs) ys ws places fills =
      ap (λ (c : Carrier). contains c v && is_within (carriers_of (data_of m) (variables_of ps ++ ys)) (vs ++ ws)) places.0.carrier
      ∙ (ap (λ c. contains (numbers_from p.low p.size) v && c) (within-group ps vs ys ws places.1 fills)
      ∙ and-assoc (contains (numbers_from p.low p.size) v) (is_within (carriers_at ps) vs) (is_within (carriers_of (data_of m) ys) ws))
  within-group [] (v ∷ vs) ys ws places fills = absurd fills
  within-group (p ∷ ps) [] ys ws places fills = absurd fills

  count-group : (ps : List Member) (ys : List Variable) → Each (IsMember m) ps →
      tuple_count (carriers_of (data_of m) (variables_of ps ++ ys)) ≡ capacity ps * tuple_count (carriers_of (data_of m) ys)
  count-group [] ys places = omega arith
  count-group (p ∷ ps) ys places =
      ap (λ (c : Carrier). length c * tuple_count (carriers_of (data_of m) (variables_of ps ++ ys))) places.0.carrier
      ∙ (ap (λ n. n * tuple_count (carriers_of (data_of m) (variables_of ps ++ ys))) (length-numbers p.low p.size)
      ∙ (ap (λ n. p.size * n) (count-group ps ys places.1) ∙ omega arith))

-- ---- whole states

module _ (m : Model) (all : List Group) (sorts : (s : Name) → is_among (new_sorts all) s ≡ false → carrier_of (data_of (packed_by all m)) s ≡ carrier_of (data_of m) s) where
  abbrev N : Spec
  N = data_of (packed_by all m)

  abbrev D : Spec
  D = data_of m

  -- there are as many states
  pub count-same : (gs : List Group) → Each (IsPackedSort m all) gs → Each (IsMember m) (all_members gs) →
      tuple_count (carriers_of N (map variable_of gs)) ≡ tuple_count (carriers_of D (flat_map group_variables gs))
  count-same [] packed places = refl
  count-same (Alone x ∷ gs) packed places =
      ap (λ (c : Carrier). length c * tuple_count (carriers_of N (map variable_of gs))) (sorts x.sort packed.0)
      ∙ ap (λ n. length (carrier_of D x.sort) * n) (count-same gs packed.1 places)
  count-same (Joined x ps ∷ gs) packed places =
      ap (λ (c : Carrier). length c * tuple_count (carriers_of N (map variable_of gs))) packed.0
      ∙ (ap (λ n. n * tuple_count (carriers_of N (map variable_of gs))) (length-numbers (pos 0) (capacity ps))
      ∙ (ap (λ n. capacity ps * n) (count-same gs packed.1 (each-rest (IsMember m) ps (all_members gs) places))
      ∙ sym (count-group m ps (flat_map group_variables gs) (each-front (IsMember m) ps (all_members gs) places))))

  -- the values of groups are numbers below their capacities
  pub number-within : (ps : List Member) (v : Value) → contains (numbers_from (pos 0) (capacity ps)) v ≡ true → (v ≡ pos (at_least_none v)) × (at_least_none v < capacity ps)
  number-within ps v e =
      let h = contained (pos 0) (capacity ps) v e in
      let is : v ≡ pos h.0 = h.2 ∙ omega (arith, ints) in
      let same : at_least_none v ≡ h.0 = ap at_least_none is in
      (is ∙ ap pos (sym same), omega (arith, h.1))

  pub unpacked-within : (gs : List Group) (t : State) → Each (IsPackedSort m all) gs → Each (IsMember m) (all_members gs) →
      is_within (carriers_of N (map variable_of gs)) t ≡ true → is_within (carriers_of D (flat_map group_variables gs)) (unpacked gs t) ≡ true
  unpacked-within [] [] packed places e = refl
  unpacked-within [] (v ∷ t) packed places e = absurd (true≢false (sym e))
  unpacked-within (g ∷ gs) [] packed places e = absurd (true≢false (sym e))
  unpacked-within (Alone x ∷ gs) (v ∷ t) packed places e =
      let parts = and_parts (contains (carrier_of N x.sort) v) _ e in
      and_from _ _ (sym (ap (λ (c : Carrier). contains c v) (sorts x.sort packed.0)) ∙ parts.0) (unpacked-within gs t packed.1 places parts.1)
  unpacked-within (Joined x ps ∷ gs) (v ∷ t) packed places e =
      let parts = and_parts (contains (carrier_of N x.sort) v) _ e in
      let k = number-within ps v (sym (ap (λ (c : Carrier). contains c v) packed.0) ∙ parts.0) in
      within-group m ps (digits ps (at_least_none v)) (flat_map group_variables gs) (unpacked gs t) (each-front (IsMember m) ps (all_members gs) places) (digits-fill ps (at_least_none v))
      ∙ and_from _ _ (digits-within ps (at_least_none v) k.1) (unpacked-within gs t packed.1 (each-rest (IsMember m) ps (all_members gs) places) parts.1)

  module _ (b : Assignment) (new : Name → Option Term) where
    -- each value of w says what the variables of its group have after a step from t
    abbrev pub Says : List Group → State → State → Type 0
    Says [] [] [] = Unit {0}
    Says (Alone x ∷ gs) (v ∷ t) (u ∷ w) = (u ≡ value_after (value N b) (new x.name) v) × Says gs t w
    Says (Joined x ps ∷ gs) (v ∷ t) (u ∷ w) = SaysAfter N b new ps (at_least_none v) u × Says gs t w
    Says [] [] (u ∷ w) = ⊥
    Says [] (v ∷ t) w = ⊥
    Says (g ∷ gs) [] w = ⊥
    Says (g ∷ gs) (v ∷ t) [] = ⊥

    -- w is a state where the variables are, and then stands for that state
    abbrev pub Agrees : List Group → State → State → Type 0
    Agrees gs t w =
        (is_within (carriers_of N (map variable_of gs)) w ≡ is_within (carriers_of D (flat_map group_variables gs)) (after N b new (flat_map group_variables gs) (unpacked gs t))) ×
        (is_within (carriers_of N (map variable_of gs)) w ≡ true → unpacked gs w ≡ after N b new (flat_map group_variables gs) (unpacked gs t))

    pub says-agrees : (gs : List Group) (t w : State) → Each (IsPackedSort m all) gs → Each (IsMember m) (all_members gs) → Says gs t w → Agrees gs t w
    says-agrees [] [] [] packed places says = (refl, (λ e. refl))
    says-agrees (Alone x ∷ gs) (v ∷ t) (u ∷ w) packed places says =
        let next = says-agrees gs t w packed.1 places says.1 in
        let within = is_within (carriers_of N (map variable_of gs)) w in (
          ap (λ (c : Carrier). contains c u && within) (sorts x.sort packed.0)
              ∙ (ap (λ (z : Value). contains (carrier_of D x.sort) z && within) says.0
              ∙ ap (λ c. contains (carrier_of D x.sort) (value_after (value N b) (new x.name) v) && c) next.0),
          (λ e. ap (λ (z : Value). z ∷ unpacked gs w) says.0 ∙ ap (λ (us : Tuple). value_after (value N b) (new x.name) v ∷ us) (next.1 (and_parts (contains (carrier_of N x.sort) u) within e).1)),
        )
    says-agrees (Joined x ps ∷ gs) (v ∷ t) (u ∷ w) packed places says =
        let here = each-front (IsMember m) ps (all_members gs) places in
        let next = says-agrees gs t w packed.1 (each-rest (IsMember m) ps (all_members gs) places) says.1 in
        let within = is_within (carriers_of N (map variable_of gs)) w in
        let k = at_least_none v in
        let fills = digits-fill ps k in
        let whole = after-group N b new ps (digits ps k) (flat_map group_variables gs) (unpacked gs t) fills in
        let front = after N b new (variables_of ps) (digits ps k) in
        let others = after N b new (flat_map group_variables gs) (unpacked gs t) in (
          ap (λ (c : Carrier). contains c u && within) packed.0
              ∙ (ap (λ c. c && within) says.0.0 ∙ (ap (λ c. is_within (carriers_at ps) front && c) next.0
              ∙ (sym (within-group m ps front (flat_map group_variables gs) others here (after-fills N b new ps (digits ps k) fills))
              ∙ sym (ap (is_within (carriers_of D (variables_of ps ++ flat_map group_variables gs))) whole)))),
          (λ e.
              let parts = and_parts (contains (carrier_of N x.sort) u) within e in
              ap (λ (us : Tuple). us ++ unpacked gs w) (says.0.1 (sym (ap (λ (c : Carrier). contains c u) packed.0) ∙ parts.0))
              ∙ (ap (λ (us : Tuple). front ++ us) (next.1 parts.1) ∙ sym whole)),
        )
    says-agrees [] [] (u ∷ w) packed places says = absurd says
    says-agrees [] (v ∷ t) w packed places says = absurd says
    says-agrees (g ∷ gs) [] w packed places says = absurd says
    says-agrees (g ∷ gs) (v ∷ t) [] packed places says = absurd says
