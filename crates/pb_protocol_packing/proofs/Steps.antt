-- Steps of the packed model lead where the model's steps lead.
use Rattle.std.proofs.Common.{◌≡◌, Bool, true, false, true≢false, ◌&&◌, if◌then◌else◌, List, [], ◌∷◌, map, flat_map, refl, sym, ap, ◌∙◌, subst}
use Rattle.std.specs.Prelude.{Option, Some, None}
use Rattle.std.specs.List.{list_all}
use Rattle.std.proofs.lemmas.Bool.{and_parts}
use Rattle.pb_base_values.specs.Carrier.{Carrier, Value, Tuple, at_least_none, contains, is_within}
use Rattle.pb_text_meaning.specs.Syntax.{Name, same_name, Variable, Term, Spec}
use Rattle.pb_text_meaning.specs.Sorts.{carrier_of}
use Rattle.pb_text_meaning.specs.Value.{is_true, value}
use Rattle.pb_text_meaning.specs.Value as data_value
use Rattle.pb_text_meaning.specs.Formula.{carriers_of}
use Rattle.pb_text_meaning.specs.Meaning.{assigned}
use Rattle.pb_model_meaning.specs.Syntax.{Assignment, Step, Model}
use Rattle.pb_model_meaning.specs.Steps.{State, data_of, is_state, assigned_term, value_after, state_after, is_enabled, next_state}
use Rattle.pb_model_translation.specs.Apart.{IsNew, AreApart}
use Rattle.pb_model_translation.proofs.Data.{Assigns, assigned-assigns}
use Rattle.pb_protocol_packing.specs.Said.{Scope, hidden, said}
use Rattle.pb_protocol_packing.specs.Packing.{Member, Group, Alone, Joined, variable_of, with_groups, group_term, with_assignment, assignments_of, option_said, said_by, packed_step, packed_by}
use Rattle.pb_protocol_packing.specs.Apart.{Each, is_among, all_members, group_variables, new_names, enumerators_of, used_enumerators, may_bind, is_apart, is_apart_step, IsMember, IsPacking}
use Rattle.pb_protocol_packing.proofs.Sorts.{IsPackedSort, sorts-same, packed-sorts}
use Rattle.pb_protocol_packing.proofs.Lists.{each-both, each-front, each-rest, each-flat, same-itself, apart-sym, each-among, some-is, none-is}
use Rattle.pb_protocol_packing.proofs.Values.{Sees, value-said}
use Rattle.pb_protocol_packing.proofs.Group.{after, SaysAfter, says-after}
use Rattle.pb_protocol_packing.proofs.Unpacked.{number-within, unpacked-within, Says, says-agrees}
use Rattle.pb_protocol_packing.proofs.Scopes.{Fixed, fixed-stays, IsSaid, NotHidden, kinds-at, group-number, sees-groups, sees-own, not-hidden}
use Rattle.pb_protocol_packing.specs.Unpacked.{unpacked, StandsFor}

-- ---- what is assigned to a group

abbrev Finds : List Assignment → (Name → Option Term) → List Group → Type 0
Finds L new [] = Unit {0}
Finds L new (g ∷ gs) = (assigned_term L (variable_of g).name ≡ group_term new g) × Finds L new gs

one-more : (y x : Name) (o : Option Term) (L : List Assignment) → same_name y x ≡ false → assigned_term (with_assignment y o L) x ≡ assigned_term L x
one-more y x None L e = refl
one-more y x (Some t) L e = ap (λ (b : Bool). if b then Some t else assigned_term L x) e

assignments-new : (new : Name → Option Term) (gs : List Group) (x : Name) → IsNew x (map variable_of gs) → assigned_term (assignments_of new gs) x ≡ None
assignments-new new [] x h = refl
assignments-new new (g ∷ gs) x h = one-more (variable_of g).name x (group_term new g) (assignments_of new gs) h.0 ∙ assignments-new new gs x h.1

finds-more : (L : List Assignment) (new : Name → Option Term) (gs : List Group) (y : Name) (o : Option Term) → IsNew y (map variable_of gs) → Finds L new gs → Finds (with_assignment y o L) new gs
finds-more L new [] y o h finds = tt
finds-more L new (g ∷ gs) y o h finds = (one-more y (variable_of g).name o L (apart-sym (variable_of g).name y h.0) ∙ finds.0, finds-more L new gs y o h.1 finds.1)

finds-own : (new : Name → Option Term) (gs : List Group) → AreApart (map variable_of gs) → Finds (assignments_of new gs) new gs
finds-own new [] apart = tt
finds-own new (g ∷ gs) apart = (first (group_term new g), finds-more (assignments_of new gs) new gs (variable_of g).name (group_term new g) apart.0 (finds-own new gs apart.1))
  where
    first : (o : Option Term) → assigned_term (with_assignment (variable_of g).name o (assignments_of new gs)) (variable_of g).name ≡ o
    first None = assignments-new new gs (variable_of g).name apart.0
    first (Some t) = ap (λ (b : Bool). if b then Some t else assigned_term (assignments_of new gs) (variable_of g).name) (same-itself (variable_of g).name)

-- ---- said terms of assignments

apart-assigned : (all : List Group) (L : List Assignment) (x : Name) (t : Term) → list_all (λ (b : Assignment). is_apart all b.term) L ≡ true → assigned_term L x ≡ Some t → is_apart all t ≡ true
apart-assigned all [] x t e h = none-is t h
apart-assigned all (a ∷ L) x t e h =
    let parts = and_parts (is_apart all a.term) _ e in by (apart-assigned all L x t parts.1) parts.0 (same_name a.variable x) h
  where
    by : (assigned_term L x ≡ Some t → is_apart all t ≡ true) → is_apart all a.term ≡ true → (c : Bool) → (if c then Some a.term else assigned_term L x) ≡ Some t → is_apart all t ≡ true
    by next here true h = subst (λ (y : Term). is_apart all y ≡ true) (some-is a.term t h) here
    by next here false h = next h

-- each place has enumerators that no variable hides
pub all-said : (m : Model) (all : List Group) → IsPacking m all → Each (IsSaid m all) (all_members all)
all-said m all packing =
    each-both (IsMember m) (λ p. Each (λ (e : Name). (is_among (used_enumerators all) e ≡ true) × IsNew e (map variable_of all)) (enumerators_of p.kind)) (all_members all) packing.places
    (each-flat (λ (e : Name). (is_among (used_enumerators all) e ≡ true) × IsNew e (map variable_of all)) (λ (p : Member). enumerators_of p.kind) (all_members all)
    (each-both (λ (e : Name). is_among (used_enumerators all) e ≡ true) (λ (e : Name). IsNew e (map variable_of all)) (used_enumerators all) (each-among (used_enumerators all)) packing.enumerators))

module _ (m : Model) (all : List Group) (packing : IsPacking m all) where
  abbrev n : Model
  n = packed_by all m

  abbrev N : Spec
  N = data_of n

  abbrev D : Spec
  D = data_of m

  -- ---- the values of assigned terms

  module _ (σ : Scope) (a c : data_value.Assignment) (value_same : (t : Term) → is_apart all t ≡ true → value N c (said σ t) ≡ value D a t) (L : List Assignment)
      (apart : (x : Name) (t : Term) → assigned_term L x ≡ Some t → is_apart all t ≡ true) where
    -- what is assigned, as the packed model says it
    abbrev new : Name → Option Term
    new x = option_said σ (assigned_term L x)

    pub after-same : (xs : List Variable) (vs : Tuple) → after N c new xs vs ≡ state_after (value D a) L xs vs
    after-same [] vs = refl
    after-same (x ∷ xs) [] = refl
    after-same (x ∷ xs) (v ∷ vs) =
        ap (λ (u : Value). u ∷ after N c new xs vs) (one (assigned_term L x.name) (apart x.name))
        ∙ ap (λ (us : Tuple). value_after (value D a) (assigned_term L x.name) v ∷ us) (after-same xs vs)
      where
        one : (o : Option Term) → ((t : Term) → o ≡ Some t → is_apart all t ≡ true) → value_after (value N c) (option_said σ o) v ≡ value_after (value D a) o v
        one None h = refl
        one (Some t) h = value_same t (h t refl)

  -- ---- a step

  -- the variables of groups after assignments
  says-step : (b c : data_value.Assignment) → NotHidden m all b → Fixed all b c → (new : Name → Option Term) (L : List Assignment) (gs : List Group) (t : State) →
      Each (IsPackedSort m all) gs → Each (IsSaid m all) (all_members gs) → Each (λ (x : Name). is_among (new_names all) x ≡ true) (new_names gs) → Assigns b (map variable_of gs) t →
      is_within (carriers_of N (map variable_of gs)) t ≡ true → Finds L new gs →
      Says m all (sorts-same m all packing) c new gs t (state_after (value N c) L (map variable_of gs) t)
  says-step b c free fixed new L [] [] packed said among at e finds = tt
  says-step b c free fixed new L [] (v ∷ t) packed said among at e finds = absurd (true≢false (sym e))
  says-step b c free fixed new L (g ∷ gs) [] packed said among at e finds = absurd (true≢false (sym e))
  says-step b c free fixed new L (Alone x ∷ gs) (v ∷ t) packed said among at e finds =
      (ap (λ o. value_after (value N c) o v) finds.0, says-step b c free fixed new L gs t packed.1 said among at.1 (and_parts _ _ e).1 finds.1)
  says-step b c free fixed new L (Joined x ps ∷ gs) (v ∷ t) packed said among at e finds =
      let parts = and_parts (contains (carrier_of N x.sort) v) _ e in
      let number = number-within m all (sorts-same m all packing) ps v (sym (ap (λ (d : Carrier). contains d v) packed.0) ∙ parts.0) in
      let k = at_least_none v in (
        subst (SaysAfter N c new ps k) (ap (value_after (value N c) (group_term new (Joined x ps))) (sym number.0) ∙ ap (λ o. value_after (value N c) o v) (sym finds.0))
            (says-after N c new x ps k (kinds-at m all b free c fixed ps (each-front (IsSaid m all) ps (all_members gs) said))
            (group-number m all b x.name v k among.0 at.0 number.0 c fixed) number.1),
        says-step b c free fixed new L gs t packed.1 (each-rest (IsSaid m all) ps (all_members gs) said) among.1 at.1 parts.1 finds.1,
      )

  module _ (t : State) (e : is_state n t ≡ true) where
    -- the state that t stands for
    abbrev s : State
    s = unpacked all t

    -- what names stand for at t, and at s
    abbrev b : data_value.Assignment
    b = assigned (map variable_of all) t []

    abbrev a : data_value.Assignment
    a = assigned m.variables s []

    at : Assigns b (map variable_of all) t
    at = assigned-assigns N (map variable_of all) t [] packing.after e

    pub sees : Sees m all (Fixed all b) (with_groups all []) a b
    sees = subst (λ (xs : List Variable). Sees m all (Fixed all b) (with_groups all []) (assigned xs s []) b) (sym packing.variables)
        (sees-groups m all (sorts-same m all packing) b (not-hidden m all t) all t [] [] [] (packed-sorts m all packing) (all-said m all packing) (each-among (new_names all)) at e (λ y new. refl))

    pub state : is_state m s ≡ true
    state = subst (λ (xs : List Variable). is_within (carriers_of D xs) s ≡ true) (sym packing.variables)
        (unpacked-within m all (sorts-same m all packing) all t (packed-sorts m all packing) packing.places e)

    module _ (step : Step) (apart : is_apart_step all step ≡ true) (own : Tuple) (within : is_within (carriers_of D step.variables) own ≡ true) where
      abbrev σ : Scope
      σ = hidden step.variables (with_groups all [])

      parts : (list_all (may_bind all) step.variables ≡ true) × (is_apart all step.guard ≡ true) × (list_all (λ (d : Assignment). is_apart all d.term) step.assignments ≡ true)
      parts = let outer = and_parts (list_all (may_bind all) step.variables && is_apart all step.guard) _ apart in
          let inner = and_parts (list_all (may_bind all) step.variables) (is_apart all step.guard) outer.0 in (inner.0, inner.1, outer.1)

      under : Sees m all (Fixed all b) σ (assigned step.variables own a) (assigned step.variables own b) × Fixed all b (assigned step.variables own b)
      under = sees-own m all (sorts-same m all packing) b (not-hidden m all t) step.variables own (with_groups all []) a b parts.0 within sees (λ r h. refl)

      value-same : (x : Term) → is_apart all x ≡ true → value N (assigned step.variables own b) (said σ x) ≡ value D (assigned step.variables own a) x
      value-same x h = value-said m all (Fixed all b) (sorts-same m all packing) (fixed-stays all b) x σ (assigned step.variables own a) (assigned step.variables own b) h under.0 under.1

      pub enabled-same : is_enabled n t (packed_step all step) own ≡ is_enabled m s step own
      enabled-same = ap is_true (value-same step.guard parts.1)

      pub next-same : StandsFor m n (unpacked all) (next_state m s step own) (next_state n t (packed_step all step) own)
      next-same =
          let c = assigned step.variables own b in
          let free = not-hidden m all t in
          let L = step.assignments in
          let found = (λ (x : Name) (u : Term). apart-assigned all L x u parts.2) in
          let says = says-step b c free under.1 (said_by all step) (assignments_of (said_by all step) all) all t (packed-sorts m all packing) (all-said m all packing) (each-among (new_names all)) at e
          (finds-own (said_by all step) all packing.after) in
          let agrees =
          says-agrees m all (sorts-same m all packing) c (said_by all step) all t
          (state_after (value N c) (assignments_of (said_by all step) all) (map variable_of all) t)
          (packed-sorts m all packing) packing.places says in
          let same = (λ (xs : List Variable). after-same σ (assigned step.variables own a) c value-same L found xs s) in
          subst (λ (xs : List Variable).
          (is_state n (next_state n t (packed_step all step) own)
          ≡ is_within (carriers_of D m.variables) (state_after (value D (assigned step.variables own a)) L xs s)) ×
          (is_state n (next_state n t (packed_step all step) own) ≡ true
          → unpacked all (next_state n t (packed_step all step) own)
          ≡ state_after (value D (assigned step.variables own a)) L xs s)) (sym packing.variables) (
            agrees.0 ∙
                (ap (λ (vs : Tuple). is_within (carriers_of D (flat_map group_variables all)) vs)
                (same (flat_map group_variables all))
                ∙ ap (λ (xs : List Variable). is_within (carriers_of D xs)
                (state_after (value D (assigned step.variables own a)) L (flat_map group_variables all) s)) (sym packing.variables)),
            (λ h. agrees.1 h ∙ same (flat_map group_variables all)),
          )
