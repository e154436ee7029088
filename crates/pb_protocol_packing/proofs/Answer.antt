-- A packed model satisfies what the model does.
use Rattle.std.proofs.Common.{◌≡◌, ℕ, zero, suc, ◌<◌, pos, Bool, true, false, true≢false, ◌&&◌, if◌then◌else◌, List, [], ◌∷◌, ◌++◌, map, length, flat_map, refl, sym, ap, ◌∙◌, subst, arith}
use Rattle.std.specs.Prelude.{Option, Some, None}
use Rattle.std.proofs.lemmas.Bool.{and_parts}
use Rattle.pb_base_values.specs.Carrier.{Tuple, numbers_from, contains, is_within, tuple_count}
use Rattle.pb_text_meaning.specs.Syntax.{Name, same_name, Variable, Term, Terms, Spec}
use Rattle.pb_text_meaning.specs.Value.{is_true, value, values}
use Rattle.pb_text_meaning.specs.Formula.{carriers_of}
use Rattle.pb_text_meaning.specs.Meaning.{assigned}
use Rattle.pb_model_meaning.specs.Syntax.{Assignment, Model}
use Rattle.pb_model_meaning.specs.Steps.{State, data_of, is_state, state_count, initial_state, assigned_term, value_after, state_after}
use Rattle.pb_model_meaning.specs.Satisfaction.{no_sets, satisfying}
use Rattle.pb_model_translation.specs.Apart.{IsNew, AreApart}
use Rattle.pb_model_translation.specs.Translation.{term_or_name}
use Rattle.pb_protocol_packing.specs.Said.{said}
use Rattle.pb_protocol_packing.specs.Packing.{Member, Group, Alone, Joined, capacity, variable_of, with_groups, joined_term, option_said, initial_assignments, begins_with, initial_terms, packed_by}
use Rattle.pb_protocol_packing.specs.Apart.{Each, all_members, variables_of, group_variables, is_apart, all_apart, IsPacking, term_count}
use Rattle.pb_protocol_packing.specs.Laws.{PackedModelsSatisfyTheSame}
use Rattle.pb_protocol_packing.proofs.Sorts.{sorts-same, packed-sorts}
use Rattle.pb_protocol_packing.proofs.Lists.{each-front, each-rest, same-itself, apart-sym, none-is, some-is}
use Rattle.pb_protocol_packing.proofs.Simulation.{DataIsSame, satisfying-same}
use Rattle.pb_protocol_packing.proofs.Values.{value-said}
use Rattle.pb_protocol_packing.proofs.Digits.{carriers_at, contained, made-below}
use Rattle.pb_protocol_packing.proofs.Group.{after, SaysAfter, touched}
use Rattle.pb_protocol_packing.proofs.Unpacked.{Fills, digits-fill, count-same, Says, says-agrees}
use Rattle.pb_protocol_packing.proofs.Scopes.{Fixed, fixed-stays, IsSaid, kinds-at}
use Rattle.pb_protocol_packing.proofs.Steps.{all-said, after-same, sees}
use Rattle.pb_protocol_packing.proofs.Successors.{steps-same}
use Rattle.pb_protocol_packing.specs.Unpacked.{digits, unpacked, StandsFor}

-- ---- initial assignments give the initial values

-- each variable gets its term
abbrev Gives : List Assignment → List Variable → Terms → Type 0
Gives L [] Terms.NoTerms = Unit {0}
Gives L (x ∷ xs) (Terms.Then t ts) = (assigned_term L x.name ≡ Some t) × Gives L xs ts
Gives L [] (Terms.Then t ts) = ⊥
Gives L (x ∷ xs) Terms.NoTerms = ⊥

gives-more : (L : List Assignment) (y : Name) (u : Term) (xs : List Variable) (ts : Terms) → IsNew y xs → Gives L xs ts → Gives (record { variable = y; term = u } ∷ L) xs ts
gives-more L y u [] Terms.NoTerms h gives = tt
gives-more L y u (x ∷ xs) (Terms.Then t ts) h gives =
    (ap (λ (b : Bool). if b then Some u else assigned_term L x.name) (apart-sym x.name y h.0) ∙ gives.0, gives-more L y u xs ts h.1 gives.1)
gives-more L y u [] (Terms.Then t ts) h gives = absurd gives
gives-more L y u (x ∷ xs) Terms.NoTerms h gives = absurd gives

gives-own : (xs : List Variable) (ts : Terms) → AreApart xs → term_count ts ≡ length xs → Gives (initial_assignments xs ts) xs ts
gives-own [] Terms.NoTerms apart e = tt
gives-own (x ∷ xs) (Terms.Then t ts) apart e = (
  ap (λ (b : Bool). if b then Some t else assigned_term (initial_assignments xs ts) x.name) (same-itself x.name),
  gives-more (initial_assignments xs ts) x.name t xs ts apart.0 (gives-own xs ts apart.1 (omega arith)),
)
gives-own [] (Terms.Then t ts) apart e = absurd (omega arith)
gives-own (x ∷ xs) Terms.NoTerms apart e = absurd (omega arith)

-- as many values as variables
abbrev IsAsLong : List Variable → Tuple → Type 0
IsAsLong xs vs = length vs ≡ length xs

given-values : (D : Spec) (L : List Assignment) (xs : List Variable) (ts : Terms) (vs : Tuple) → IsAsLong xs vs → Gives L xs ts → state_after (value D []) L xs vs ≡ values D [] ts
given-values D L [] Terms.NoTerms vs long gives = refl
given-values D L (x ∷ xs) (Terms.Then t ts) (v ∷ vs) long gives =
    ap (λ o. value_after (value D []) o v ∷ state_after (value D []) L xs vs) gives.0 ∙ ap (λ (us : Tuple). value D [] t ∷ us) (given-values D L xs ts vs (omega arith) gives.1)
given-values D L (x ∷ xs) (Terms.Then t ts) [] long gives = absurd (omega arith)
given-values D L [] (Terms.Then t ts) vs long gives = absurd gives
given-values D L (x ∷ xs) Terms.NoTerms vs long gives = absurd gives

-- an assigned term is one of them
given-apart : (all : List Group) (xs : List Variable) (ts : Terms) → all_apart all ts ≡ true → (x : Name) (t : Term) → assigned_term (initial_assignments xs ts) x ≡ Some t → is_apart all t ≡ true
given-apart all [] ts e x t h = none-is t h
given-apart all (y ∷ xs) Terms.NoTerms e x t h = none-is t h
given-apart all (y ∷ xs) (Terms.Then u ts) e x t h =
    let parts = and_parts (is_apart all u) (all_apart all ts) e in by (given-apart all xs ts parts.1 x t) parts.0 (same_name y.name x) h
  where
    by : (assigned_term (initial_assignments xs ts) x ≡ Some t → is_apart all t ≡ true) → is_apart all u ≡ true
        → (c : Bool) → (if c then Some u else assigned_term (initial_assignments xs ts) x) ≡ Some t → is_apart all t ≡ true
    by next here true h = subst (λ (w : Term). is_apart all w ≡ true) (some-is u t h) here
    by next here false h = next h

-- ---- a state of numbers 0, which no initial term reads

abbrev zeros : List Group → State
zeros [] = []
zeros (g ∷ gs) = pos 0 ∷ zeros gs

long-group : (ps : List Member) (vs : Tuple) (ys : List Variable) (us : Tuple) → Fills ps vs → length us ≡ length ys → length (vs ++ us) ≡ length (variables_of ps ++ ys)
long-group [] [] ys us fills e = e
long-group (p ∷ ps) (v ∷ vs) ys us fills e = ap suc (long-group ps vs ys us fills e)
long-group [] (v ∷ vs) ys us fills e = absurd fills
long-group (p ∷ ps) [] ys us fills e = absurd fills

zeros-long : (gs : List Group) → length (unpacked gs (zeros gs)) ≡ length (flat_map group_variables gs)
zeros-long [] = refl
zeros-long (Alone x ∷ gs) = ap suc (zeros-long gs)
zeros-long (Joined x ps ∷ gs) = long-group ps (digits ps 0) (flat_map group_variables gs) (unpacked gs (zeros gs)) (digits-fill ps 0) (zeros-long gs)

-- where a group has no values, none of its variables' values are in their carriers
some-value : (ps : List Member) (vs : Tuple) → is_within (carriers_at ps) vs ≡ true → 0 < capacity ps
some-value [] vs e = omega arith
some-value (p ∷ ps) [] e = absurd (true≢false (sym e))
some-value (p ∷ ps) (v ∷ vs) e =
    let parts = and_parts (contains (numbers_from p.low p.size) v) (is_within (carriers_at ps) vs) e in
    let d = contained p.low p.size v parts.0 in
    let rest = some-value ps vs parts.1 in
    omega (arith, made-below p.size (capacity ps) d.0 0 d.1 rest)

false-where : (b : Bool) → (b ≡ true → ⊥) → b ≡ false
false-where true h = absurd (h refl)
false-where false h = refl

module _ (m : Model) (all : List Group) (packing : IsPacking m all) where
  abbrev n : Model
  n = packed_by all m

  abbrev N : Spec
  N = data_of n

  abbrev D : Spec
  D = data_of m

  data-same : DataIsSame m n (unpacked all) all
  data-same x t apart e =
      let b = assigned (map variable_of all) t [] in
      ap is_true
      (value-said m all (Fixed all b) (sorts-same m all packing) (fixed-stays all b) x (with_groups all [])
      (assigned m.variables (unpacked all t) []) b apart (sees m all packing t e) (λ r h. refl))

  count : state_count n ≡ state_count m
  count = count-same m all (sorts-same m all packing) all (packed-sorts m all packing) packing.places ∙ ap (λ (xs : List Variable). tuple_count (carriers_of D xs)) (sym packing.variables)

  -- ---- the initial state

  abbrev L : List Assignment
  L = initial_assignments m.variables m.initial

  value-same : (t : Term) → is_apart all t ≡ true → value N [] (said [] t) ≡ value D [] t
  value-same t h = value-said m all (Fixed all []) (sorts-same m all packing) (fixed-stays all []) t [] [] [] h (λ y new. refl) (λ r e. refl)

  -- a variable has a term to begin with
  abbrev IsGiven : Variable → Type 0
  IsGiven x = (t : Term) × (assigned_term L x.name ≡ Some t)

  are-given : (K : List Assignment) (xs : List Variable) (ts : Terms) → Gives K xs ts → Each (λ (x : Variable). (t : Term) × (assigned_term K x.name ≡ Some t)) xs
  are-given K [] Terms.NoTerms gives = tt
  are-given K (x ∷ xs) (Terms.Then t ts) gives = ((t, gives.0), are-given K xs ts gives.1)
  are-given K [] (Terms.Then t ts) gives = absurd gives
  are-given K (x ∷ xs) Terms.NoTerms gives = absurd gives

  alone : (o : Option Term) (y : Name) (t : Term) → o ≡ Some t → value N [] (term_or_name (option_said [] o) y) ≡ value_after (value N []) (option_said [] o) (pos 0)
  alone (Some u) y t e = refl
  alone None y t e = none-is t e

  joined : (ps : List Member) → Each (IsSaid m all) ps →
      SaysAfter N [] (begins_with m) ps 0 (value N [] (joined_term (begins_with m) (Term.Number 0) ps))
  joined ps said = by (capacity ps) refl
    where
      by : (c : ℕ) → capacity ps ≡ c → SaysAfter N [] (begins_with m) ps 0 (value N [] (joined_term (begins_with m) (Term.Number 0) ps))
      by zero e =
          let v = value N [] (joined_term (begins_with m) (Term.Number 0) ps) in
          let none : contains (numbers_from (pos 0) (capacity ps)) v ≡ false = ap (λ c. contains (numbers_from (pos 0) c) v) e in
          let within = is_within (carriers_at ps) (after N [] (begins_with m) (variables_of ps) (digits ps 0)) in
          (none ∙ sym (false-where within (λ w. let some = some-value ps _ w in absurd (omega (arith, some, e)))), (λ h. absurd (true≢false (sym h ∙ none))))
      by (suc c) e = touched N [] (begins_with m) ps (Term.Number 0) 0 (kinds-at m all [] (λ x new. refl) [] (λ r h. refl) ps said) refl (omega (arith, e))

  says-initial : (gs : List Group) → Each (IsSaid m all) (all_members gs) →
      Each IsGiven (flat_map group_variables gs) → Says m all (sorts-same m all packing) [] (begins_with m) gs (zeros gs) (values N [] (initial_terms (begins_with m) gs))
  says-initial [] places given = tt
  says-initial (Alone x ∷ gs) places given = (alone (assigned_term L x.name) x.name given.0.0 given.0.1, says-initial gs places given.1)
  says-initial (Joined x ps ∷ gs) places given = (
    joined ps (each-front (IsSaid m all) ps (all_members gs) places),
    says-initial gs (each-rest (IsSaid m all) ps (all_members gs) places) (each-rest IsGiven (variables_of ps) (flat_map group_variables gs) given),
  )

  pub initial-same : StandsFor m n (unpacked all) (initial_state m) (initial_state n)
  initial-same =
      let gives = gives-own m.variables m.initial packing.before packing.count in
      let given : Each IsGiven (flat_map group_variables all) = subst (Each IsGiven) packing.variables (are-given L m.variables m.initial gives) in
      let apart = given-apart all m.variables m.initial packing.initial in
      let says = says-initial all (all-said m all packing) given in
      let agrees = says-agrees m all (sorts-same m all packing) [] (begins_with m) all (zeros all) (initial_state n) (packed-sorts m all packing) packing.places says in
      let gives_all : Gives L (flat_map group_variables all) m.initial = subst (λ (xs : List Variable). Gives L xs m.initial) packing.variables gives in
      let same : after N [] (begins_with m) (flat_map group_variables all) (unpacked all (zeros all)) ≡ initial_state m =
      after-same m all packing [] [] [] value-same L apart (flat_map group_variables all) (unpacked all (zeros all))
      ∙ given-values D L (flat_map group_variables all) m.initial (unpacked all (zeros all)) (zeros-long all) gives_all in (
        agrees.0 ∙ (ap (is_within (carriers_of D (flat_map group_variables all))) same ∙ ap (λ (xs : List Variable). is_within (carriers_of D xs) (initial_state m)) (sym packing.variables)),
        (λ e. agrees.1 e ∙ same),
      )

and-same : (b c x y : Bool) → b ≡ c → (b ≡ true → x ≡ y) → (b && x) ≡ (c && y)
and-same true true x y e h = h refl
and-same false false x y e h = refl
and-same true false x y e h = absurd (true≢false e)
and-same false true x y e h = absurd (true≢false (sym e))

pub packed_models_satisfy_the_same : PackedModelsSatisfyTheSame
packed_models_satisfy_the_same m gs f packing apart =
    let n = packed_by gs m in
    let same = initial-same m gs packing in
    and-same (is_state n (initial_state n)) (is_state m (initial_state m)) _ _ same.0
    (λ e. satisfying-same m n (unpacked gs) gs (count m gs packing) (data-same m gs packing) (steps-same m gs packing) f apart no_sets no_sets (λ X t h. refl) (initial_state n) e
    ∙ ap (satisfying m no_sets f) (same.1 e))
