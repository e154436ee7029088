-- What names stand for at a state of the packed model.
use Rattle.std.proofs.Common.{◌≡◌, ℕ, suc, ◌<◌, ◌/◌, ◌%◌, pos, ◌+ℤ◌, Bool, true, false, true≢false, not, if◌then◌else◌, ◌&&◌, ◌||◌, List, [], ◌∷◌, map, flat_map, refl, sym, ap, ◌∙◌, subst, arith}
use Rattle.std.specs.Prelude.{Some, None}
use Rattle.std.specs.List.{list_all}
use Rattle.std.specs.Cmp.Lexicographic.{same_text}
use Rattle.std.proofs.Math.Nat.{mod-lt, mod-eq_of_lt}
use Rattle.std.proofs.lemmas.Bool.{and_parts, or_right}
use Rattle.pb_base_values.specs.Carrier.{Carrier, Value, Tuple, at_least_none, contains, is_within}
use Rattle.pb_text_meaning.specs.Syntax.{Name, same_name, Variable, Term}
use Rattle.pb_text_meaning.specs.Sorts.{carrier_of}
use Rattle.pb_text_meaning.specs.Value.{Assignment, looked_up, named_value, value}
use Rattle.pb_text_meaning.specs.Formula.{carriers_of}
use Rattle.pb_text_meaning.specs.Meaning.{assigned}
use Rattle.pb_model_meaning.specs.Syntax.{Model}
use Rattle.pb_model_meaning.specs.Steps.{State, data_of}
use Rattle.pb_model_translation.specs.Apart.{IsNew}
use Rattle.pb_model_translation.proofs.Data.{Assigns}
use Rattle.pb_protocol_packing.specs.Numbers.{Kind, Boolean, Enumeration, Whole, between}
use Rattle.pb_protocol_packing.specs.Said.{Scope, hidden}
use Rattle.pb_protocol_packing.specs.Packing.{Member, Group, Alone, Joined, capacity, variable_of, with_members, with_groups, packed_by, digit_at}
use Rattle.pb_protocol_packing.specs.Apart.{Each, is_among, all_members, variables_of, group_variables, new_names, new_sorts, enumerators_of, used_enumerators, may_bind, ArePlaced, IsKind, IsMember}
use Rattle.pb_protocol_packing.proofs.Sorts.{IsPackedSort}
use Rattle.pb_protocol_packing.proofs.Lists.{each-front, each-rest, not-true}
use Rattle.pb_protocol_packing.proofs.Values.{Sees, Stays, sees-itself, sees-digit, sees-new, named-same}
use Rattle.pb_protocol_packing.proofs.Digits.{positive, quotient-below, rest-rest}
use Rattle.pb_protocol_packing.proofs.Terms.{Placed, KindAt, value-between, value-from_number, digit-at}
use Rattle.pb_protocol_packing.proofs.Unpacked.{number-within, digits-fill, assigned-group}
use Rattle.pb_protocol_packing.specs.Unpacked.{digits, unpacked}

-- a name that no variable has stands for what it stood for
looked_up-new : (xs : List Variable) (vs : Tuple) (a : Assignment) (y : Name) → IsNew y xs → looked_up (assigned xs vs a) y ≡ looked_up a y
looked_up-new [] vs a y new = refl
looked_up-new (x ∷ xs) [] a y new = refl
looked_up-new (x ∷ xs) (v ∷ vs) a y new =
    looked_up-new xs vs ((x.name, v) ∷ a) y new.1 ∙ ap (λ (b : Bool). if b then Some v else looked_up a y) new.0

-- the names that terms are said by stand for the same in c as in b
abbrev pub Fixed : List Group → Assignment → Assignment → Type 0
Fixed gs b c = (r : Name) → (is_among (new_names gs) r || is_among (used_enumerators gs) r) ≡ true → looked_up c r ≡ looked_up b r

pub fixed-stays : (gs : List Group) (b : Assignment) → Stays gs (Fixed gs b)
fixed-stays gs b x v c may fixed r e = by (same_name x.name r) refl
  where
    parts : (not (is_among (new_names gs) x.name) ≡ true) × (not (is_among (used_enumerators gs) x.name) ≡ true)
    parts = and_parts _ _ (and_parts (not (is_among (new_names gs) x.name) && not (is_among (used_enumerators gs) x.name)) (not (is_among (new_sorts gs) x.sort)) may).0

    neither : (p q : Bool) → p ≡ false → q ≡ false → (p || q) ≡ false
    neither true q f g = absurd (true≢false f)
    neither false q f g = g

    by : (d : Bool) → same_name x.name r ≡ d → (if d then Some v else looked_up c r) ≡ looked_up b r
    by true h =
        let here = ap (λ (y : Name). is_among (new_names gs) y || is_among (used_enumerators gs) y) (same_text x.name r (sym h)) in
        absurd (true≢false (sym e ∙ (sym here ∙ neither _ _ (not-true _ parts.0) (not-true _ parts.1))))
    by false h = fixed r e

-- a place of the model, with enumerators that no variable hides
abbrev pub IsSaid : Model → List Group → Member → Type 0
IsSaid m all p = IsMember m p × Each (λ (e : Name). (is_among (used_enumerators all) e ≡ true) × IsNew e (map variable_of all)) (enumerators_of p.kind)

module _ (m : Model) (all : List Group) (b : Assignment) where
  -- the enumerators stand for themselves in b
  abbrev pub NotHidden : Type 0
  NotHidden = (e : Name) → IsNew e (map variable_of all) → looked_up b e ≡ None

  placed-at : NotHidden → (c : Assignment) → Fixed all b c → (n : ℕ) (es : List Name) → ArePlaced m n es →
      Each (λ (e : Name). (is_among (used_enumerators all) e ≡ true) × IsNew e (map variable_of all)) es → Placed (data_of (packed_by all m)) c n es
  placed-at free c fixed n [] placed among = tt
  placed-at free c fixed n (e ∷ es) placed among = (
    ap (λ o. named_value (data_of (packed_by all m)) o e) (fixed e (or_right (is_among (new_names all) e) _ among.0.0) ∙ free e among.0.1) ∙ (named-same m all (Fixed all b) None e ∙ placed.0),
    placed-at free c fixed (suc n) es placed.1 among.1,
  )

  pub kind-at : NotHidden → (c : Assignment) → Fixed all b c → (p : Member) → IsSaid m all p → KindAt (data_of (packed_by all m)) c p.kind p.low p.size
  kind-at free c fixed p said = by p.kind said.0.kind said.1
    where
      by : (k : Kind) → IsKind m k p
          → Each (λ (e : Name). (is_among (used_enumerators all) e ≡ true) × IsNew e (map variable_of all))
          (enumerators_of k) → KindAt (data_of (packed_by all m)) c k p.low p.size
      by Boolean kind among = kind
      by (Enumeration es) kind among = (kind.0, kind.1, placed-at free c fixed 0 es kind.2 among)
      by Whole kind among = tt

  pub kinds-at : NotHidden → (c : Assignment) → Fixed all b c → (ps : List Member) → Each (IsSaid m all) ps → Each (λ (p : Member). KindAt (data_of (packed_by all m)) c p.kind p.low p.size) ps
  kinds-at free c fixed [] said = tt
  kinds-at free c fixed (p ∷ ps) said = (kind-at free c fixed p said.0, kinds-at free c fixed ps said.1)

  -- the last variables of a group stand for the last digits of its number
  sees-last : NotHidden → (limit : ℕ) (ps : List Member) (t : Term) (k : ℕ) (σ : Scope) (a d : Assignment) → ((c : Assignment) → Fixed all b c → value (data_of (packed_by all m)) c t ≡ pos k) →
      k < limit → 0 < capacity ps → Each (IsSaid m all) ps → Sees m all (Fixed all b) σ a d →
      Sees m all (Fixed all b) (with_members limit t ps σ) (assigned (variables_of ps) (digits ps (k % capacity ps)) a) d
  sees-last free limit [] t k σ a d is below some said sees = sees
  sees-last free limit (p ∷ ps) t k σ a d is below some said sees =
      let n = capacity ps in
      let left = k % capacity (p ∷ ps) in
      let under : left < capacity (p ∷ ps) = mod-lt k some in
      let more : 0 < n = positive left p.size n under in
      let x = between limit (capacity (p ∷ ps)) n t in
      let τ : Scope = (p.variable.name, Some (digit_at p x)) ∷ σ in
      let f : Assignment = (p.variable.name, p.low +ℤ pos (left / n)) ∷ a in
      subst (λ j. Sees m all (Fixed all b) (with_members limit t ps τ) (assigned (variables_of ps) (digits ps j) f) d)
      (sym (rest-rest k p.size n))
      (sees-last free limit ps t k τ f d is below more said.1
      (sees-digit m all (Fixed all b) p.variable.name (p.low +ℤ pos (left / n)) (digit_at p x) σ a d
      (λ c fixed.
      let kind = kind-at free c fixed p said.0 in
      let small = quotient-below left p.size n under in
      let digit = value-between (data_of (packed_by all m)) c t k limit (capacity (p ∷ ps)) n some more below (is c fixed) in (
        value-from_number (data_of (packed_by all m)) c p.kind p.low p.size x (left / n) kind small digit,
        digit-at (data_of (packed_by all m)) c p.kind p.low p.size x (left / n) kind small digit,
      )) sees))

  -- and all of them for all digits
  sees-places : NotHidden → (ps : List Member) (t : Term) (k : ℕ) (σ : Scope) (a d : Assignment) → ((c : Assignment) → Fixed all b c → value (data_of (packed_by all m)) c t ≡ pos k) →
      k < capacity ps → Each (IsSaid m all) ps → Sees m all (Fixed all b) σ a d →
      Sees m all (Fixed all b) (with_members (capacity ps) t ps σ) (assigned (variables_of ps) (digits ps k) a) d
  sees-places free ps t k σ a d is below said sees =
      subst (λ j. Sees m all (Fixed all b) (with_members (capacity ps) t ps σ) (assigned (variables_of ps) (digits ps j) a) d)
      (mod-eq_of_lt below)
      (sees-last free (capacity ps) ps t k σ a d is below (omega arith) said sees)

  -- the variable of a group has its number wherever the fixed names stand for the same
  pub group-number : (x : Name) (v : Value) (k : ℕ) → is_among (new_names all) x ≡ true → looked_up b x ≡ Some v → v ≡ pos k →
      (c : Assignment) → Fixed all b c → value (data_of (packed_by all m)) c (Term.Named x) ≡ pos k
  group-number x v k among at is c fixed =
      ap (λ o. named_value (data_of (packed_by all m)) o x) (fixed x (ap (λ e. e || is_among (used_enumerators all) x) among) ∙ at) ∙ is

module _ (m : Model) (all : List Group)
    (sorts : (s : Name) → is_among (new_sorts all) s ≡ false
    → carrier_of (data_of (packed_by all m)) s ≡ carrier_of (data_of m) s) (b : Assignment) (free : NotHidden m all b) where
  pub sees-groups : (gs : List Group) (t : State) (σ : Scope) (a d : Assignment) → Each (IsPackedSort m all) gs → Each (IsSaid m all) (all_members gs) →
      Each (λ (x : Name). is_among (new_names all) x ≡ true) (new_names gs) → Assigns b (map variable_of gs) t →
      is_within (carriers_of (data_of (packed_by all m)) (map variable_of gs)) t ≡ true → Sees m all (Fixed all b) σ a d →
      Sees m all (Fixed all b) (with_groups gs σ) (assigned (flat_map group_variables gs) (unpacked gs t) a) (assigned (map variable_of gs) t d)
  sees-groups [] t σ a d packed said among at e sees = sees
  sees-groups (g ∷ gs) [] σ a d packed said among at e sees = absurd (true≢false (sym e))
  sees-groups (Alone x ∷ gs) (v ∷ t) σ a d packed said among at e sees =
      sees-groups gs t ((x.name, None) ∷ σ) ((x.name, v) ∷ a) ((x.name, v) ∷ d) packed.1 said among at.1 (and_parts _ _ e).1
      (sees-itself m all (Fixed all b) x.name v σ a d sees)
  sees-groups (Joined x ps ∷ gs) (v ∷ t) σ a d packed said among at e sees =
      let parts = and_parts (contains (carrier_of (data_of (packed_by all m)) x.sort) v) _ e in
      let number = number-within m all sorts ps v (sym (ap (λ (c : Carrier). contains c v) packed.0) ∙ parts.0) in
      let k = at_least_none v in
      subst (λ (f : Assignment). Sees m all (Fixed all b) (with_groups gs (with_members (capacity ps) (Term.Named x.name) ps σ)) f (assigned (map variable_of gs) t ((x.name, v) ∷ d)))
      (sym (assigned-group ps (digits ps k) (flat_map group_variables gs) (unpacked gs t) a (digits-fill ps k)))
      (sees-groups gs t (with_members (capacity ps) (Term.Named x.name) ps σ) (assigned (variables_of ps) (digits ps k) a)
      ((x.name, v) ∷ d) packed.1 (each-rest (IsSaid m all) ps (all_members gs) said) among.1 at.1 parts.1
      (sees-places m all b free ps (Term.Named x.name) k σ a ((x.name, v) ∷ d) (group-number m all b x.name v k among.0 at.0 number.0) number.1 (each-front (IsSaid m all) ps (all_members gs) said)
      (sees-new m all (Fixed all b) x.name v σ a d among.0 sees)))

  -- the own variables of a step stand for themselves
  pub sees-own : (xs : List Variable) (us : Tuple) (σ : Scope) (a d : Assignment) → list_all (may_bind all) xs ≡ true → is_within (carriers_of (data_of m) xs) us ≡ true →
      Sees m all (Fixed all b) σ a d → Fixed all b d → Sees m all (Fixed all b) (hidden xs σ) (assigned xs us a) (assigned xs us d) × Fixed all b (assigned xs us d)
  sees-own [] us σ a d may e sees fixed = (sees, fixed)
  sees-own (x ∷ xs) [] σ a d may e sees fixed = absurd (true≢false (sym e))
  sees-own (x ∷ xs) (u ∷ us) σ a d may e sees fixed =
      let parts = and_parts (may_bind all x) (list_all (may_bind all) xs) may in
      sees-own xs us ((x.name, None) ∷ σ) ((x.name, u) ∷ a) ((x.name, u) ∷ d) parts.1 (and_parts _ _ e).1
      (sees-itself m all (Fixed all b) x.name u σ a d sees) (fixed-stays all b x u d parts.0 fixed)

-- the names of enumerators stand for no variable at a state
pub not-hidden : (m : Model) (all : List Group) (t : State) → NotHidden m all (assigned (map variable_of all) t [])
not-hidden m all t e new = looked_up-new (map variable_of all) t [] e new
