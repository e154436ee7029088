-- Where a step of the flat model leads that stays whole.
use Rattle.std.proofs.Common.{◌≡◌, suc, Bool, true, false, true≢false, not, ◌&&◌, ◌||◌, cond, if◌then◌else◌, List, [], ◌∷◌, ◌++◌, map, flat_map, refl, sym, ap, ◌∙◌, subst, zero, arith}
use Rattle.std.specs.Prelude.{Some, filter, Contains}
use Rattle.std.specs.List.{list_all}
use Rattle.pb_base_values.specs.Carrier.{Value, Tuple, Carrier, tuples}
use Rattle.pb_text_meaning.specs.Syntax.{Name, same_name, Variable, Spec}
use Rattle.pb_text_meaning.specs.Sorts.{carrier_of}
use Rattle.pb_text_meaning.specs.Value as data_value
use Rattle.pb_text_meaning.specs.Value.{looked_up, named_value, value, values}
use Rattle.pb_text_meaning.specs.Formula.{carriers_of}
use Rattle.pb_text_meaning.specs.Meaning.{assigned}
use Rattle.pb_model_meaning.specs.Steps.{State}
use Rattle.pb_model_meaning.specs.Steps as flat_steps
use Rattle.pb_protocol_folding.specs.Names.{IsNot, AreDistinct, AreNot, names_of, enumerators_in, HidesNoEnumerator}
use Rattle.pb_protocol_folding.proofs.FoldedModels.{are-not-left, are-not-right, same-self, enumerator-is-not}
use Rattle.pb_protocol_meaning.specs.Syntax.{Step, StepSet, Property, Protocol}
use Rattle.pb_protocol_meaning.specs.Steps.{data_of, own_values, is_enabled, next_state, has_step, fits}
use Rattle.pb_protocol_unfolding.specs.Whole.{is_among, is_data, assigns_data, are_fresh, valued_in, valued_in_set, valued_by, stays_whole}
use Rattle.pb_protocol_unfolding.specs.Unfolding.{name_of, all_elements, flat_names, has_many_steps, is_whole, terms_of, own_terms, written, valued, whole_step, unfolded_step, unfolded}
use Rattle.pb_protocol_unfolding.specs.Hygiene.{HidesNothing}
use Rattle.pb_protocol_unfolding.specs.TermLaws.{elements_at}
use Rattle.pb_protocol_unfolding.specs.ModelLaws.{PropertiesNameNoWhole}
use Rattle.pb_protocol_unfolding.proofs.Reading.{Finds, rest, standing-assigned}
use Rattle.pb_protocol_unfolding.proofs.States.{same-not, hides-here, found-here}
use Rattle.pb_protocol_unfolding.proofs.NextStates.{IndicesAreSettled, next-at, enabled-at}

-- ---- two tests

and-first : (a b : Bool) → (a && b) ≡ true → a ≡ true
and-first true b h = refl
and-first false b h = h

and-second : (a b : Bool) → (a && b) ≡ true → b ≡ true
and-second true b h = h
and-second false b h = absurd (true≢false (sym h))

not-true : (b : Bool) → not b ≡ true → b ≡ false
not-true true h = absurd (true≢false (sym h))
not-true false h = refl

pub or-first : (a b : Bool) → (a || b) ≡ false → a ≡ false
or-first true b h = h
or-first false b h = refl

pub or-second : (a b : Bool) → (a || b) ≡ false → b ≡ false
or-second true b h = absurd (true≢false h)
or-second false b h = h

-- ---- fresh names

-- x is none of these
not-among : (x : Name) (xs : List Name) → is_among xs x ≡ false → IsNot x xs
not-among x [] h = tt
not-among x (y ∷ xs) h = (same-not x y (or-first (same_name x y) (is_among xs x) h), not-among x xs (or-second (same_name x y) (is_among xs x) h))

-- one more is none of the others
one-more : (x : Name) (xs others : List Name) → is_among others x ≡ false → AreNot others xs → AreNot others (x ∷ xs)
one-more x xs [] h k = tt
one-more x xs (y ∷ others) h k = ((or-first (same_name x y) (is_among others x) h, k.0), one-more x xs others (or-second (same_name x y) (is_among others x) h) k.1)

pub none-of-none : (others : List Name) → AreNot others []
none-of-none [] = tt
none-of-none (x ∷ others) = (tt, none-of-none others)

fresh-others : (others xs : List Name) → are_fresh others xs ≡ true → AreNot others xs
fresh-others others [] h = none-of-none others
fresh-others others (x ∷ xs) h =
    one-more x xs others (not-true (is_among others x) (and-first (not (is_among others x)) (not (is_among xs x)) (and-first (not (is_among others x) && not (is_among xs x)) (are_fresh others xs) h)))
    (fresh-others others xs (and-second (not (is_among others x) && not (is_among xs x)) (are_fresh others xs) h))

fresh-distinct : (others xs : List Name) → are_fresh others xs ≡ true → AreDistinct xs
fresh-distinct others [] h = tt
fresh-distinct others (x ∷ xs) h = (
  not-among x xs (not-true (is_among xs x) (and-second (not (is_among others x)) (not (is_among xs x)) (and-first (not (is_among others x) && not (is_among xs x)) (are_fresh others xs) h))),
  fresh-distinct others xs (and-second (not (is_among others x) && not (is_among xs x)) (are_fresh others xs) h),
)

module _ (m : Protocol) (a : Step) (whole : is_whole m a ≡ true) where
  abbrev unnamed : Bool
  unnamed = not (is_among (valued_by m.properties) a.name)

  abbrev guard_data : Bool
  guard_data = is_data (names_of a.variables) true a.guard

  named : (unnamed && are_fresh (flat_names m) (names_of a.variables)) ≡ true
  named =
      and-first (unnamed && are_fresh (flat_names m) (names_of a.variables)) guard_data
      (and-first ((unnamed && are_fresh (flat_names m) (names_of a.variables)) && guard_data) (list_all (assigns_data (names_of a.variables)) a.assignments)
      (and-second (has_many_steps m) (stays_whole (flat_names m) (valued_by m.properties) a) whole))

  fresh : are_fresh (flat_names m) (names_of a.variables) ≡ true
  fresh = and-second unnamed (are_fresh (flat_names m) (names_of a.variables)) named

  pub not-valued : is_among (valued_by m.properties) a.name ≡ false
  not-valued = not-true (is_among (valued_by m.properties) a.name) (and-first unnamed (are_fresh (flat_names m) (names_of a.variables)) named)

  -- the own variables of a step that stays whole have names that are apart, and none is an element's or an enumerator's
  pub own-distinct : AreDistinct (names_of a.variables)
  own-distinct = fresh-distinct (flat_names m) (names_of a.variables) fresh

  pub own-no-elements : AreNot (map name_of (all_elements m)) (names_of a.variables)
  own-no-elements = are-not-left (map name_of (all_elements m)) (enumerators_in m.sorts) (names_of a.variables) (fresh-others (flat_names m) (names_of a.variables) fresh)

  pub own-no-enumerators : AreNot (enumerators_in m.sorts) (names_of a.variables)
  own-no-enumerators = are-not-right (map name_of (all_elements m)) (enumerators_in m.sorts) (names_of a.variables) (fresh-others (flat_names m) (names_of a.variables) fresh)

-- ---- own variables stand for their values

looked_up-other : (xs : List Variable) (vs : Tuple) (a : data_value.Assignment) (x : Name) → IsNot x (names_of xs) → looked_up (assigned xs vs a) x ≡ looked_up a x
looked_up-other [] vs a x new = refl
looked_up-other (y ∷ xs) [] a x new = refl
looked_up-other (y ∷ xs) (v ∷ vs) a x new = looked_up-other xs vs ((y.name, v) ∷ a) x new.1 ∙ by (same_name y.name x) new.0
  where
    by : (b : Bool) → b ≡ false → (if b then Some v else looked_up a x) ≡ looked_up a x
    by true h = absurd (true≢false h)
    by false h = refl

-- a value for each variable
abbrev pub AreAsMany : List Variable → Tuple → Type 0
AreAsMany [] [] = Unit {0}
AreAsMany (x ∷ xs) (v ∷ vs) = AreAsMany xs vs
AreAsMany [] (v ∷ vs) = ⊥
AreAsMany (x ∷ xs) [] = ⊥

own-found : (spec : Spec) (xs : List Variable) (vs : Tuple) (a : data_value.Assignment) → AreDistinct (names_of xs) → AreAsMany xs vs →
    values spec (assigned xs vs a) (terms_of (own_terms true xs [])) ≡ vs
own-found spec [] [] a apart many = refl
own-found spec [] (v ∷ vs) a apart many = absurd many
own-found spec (x ∷ xs) [] a apart many = absurd many
own-found spec (x ∷ xs) (v ∷ vs) a apart many =
    ap (λ o. named_value spec o x.name ∷ values spec (assigned xs vs ((x.name, v) ∷ a)) (terms_of (own_terms true xs [])))
    (looked_up-other xs vs ((x.name, v) ∷ a) x.name apart.0 ∙ ap (λ b. if b then Some v else looked_up a x.name) (same-self x.name)) ∙
    ap (λ us. v ∷ us) (own-found spec xs vs ((x.name, v) ∷ a) apart.1 many)

-- and hide no other names
others-found : (spec : Spec) (xs : List Variable) (vs : Tuple) (a : data_value.Assignment) (ys : List Name) (s : State) → AreNot ys (names_of xs) → Finds spec a ys s →
    Finds spec (assigned xs vs a) ys s
others-found spec xs vs a [] s new h = tt
others-found spec xs vs a (y ∷ ys) s new h = (ap (λ o. named_value spec o y) (looked_up-other xs vs a y new.0) ∙ h.0, others-found spec xs vs a ys (rest s) new.1 h.1)

module _ (m : Protocol) (hides : HidesNothing m) (s : State) (a : Step) (whole : is_whole m a ≡ true) (own : Tuple) (many : AreAsMany a.variables own) where
  -- what is in scope at the step
  abbrev scope : data_value.Assignment
  scope = assigned a.variables own (elements_at m s)

  hidden : HidesNoEnumerator (data_of m) scope
  hidden x n h =
      looked_up-other a.variables own (elements_at m s) x (enumerator-is-not x (names_of a.variables) n m.sorts (own-no-enumerators m a whole) h) ∙ hides-here m hides s x n h

  found : Finds (data_of m) scope (map name_of (all_elements m)) s
  found = others-found (data_of m) a.variables own (elements_at m s) (map name_of (all_elements m)) s (own-no-elements m a whole) (found-here m hides s)

  scope-is : valued (data_of m) scope (written a.variables (own_terms true a.variables [])) ≡ own_values a own
  scope-is =
      standing-assigned (data_of m) scope a.variables (terms_of (own_terms true a.variables [])) [] ∙
      ap (λ vs. assigned a.variables vs []) (own-found (data_of m) a.variables own (elements_at m s) (own-distinct m a whole) many)

  pub whole-next : IndicesAreSettled m (all_elements m) → flat_steps.next_state (unfolded m) s (unfolded_step m (whole_step a)) own ≡ next_state m s a own
  whole-next indices =
      next-at m hides s scope hidden found a (written a.variables (own_terms true a.variables [])) (own_values a own) scope-is indices

  pub whole-enabled : flat_steps.is_enabled (unfolded m) s (unfolded_step m (whole_step a)) own ≡ is_enabled m s a own
  whole-enabled =
      enabled-at m hides s scope hidden found a (written a.variables (own_terms true a.variables [])) (own_values a own) scope-is

-- ---- tuples of values

abbrev pub AreAllAsMany : List Variable → List Tuple → Type 0
AreAllAsMany xs [] = Unit {0}
AreAllAsMany xs (vs ∷ ts) = AreAsMany xs vs × AreAllAsMany xs ts

both-many : (xs : List Variable) (ts us : List Tuple) → AreAllAsMany xs ts → AreAllAsMany xs us → AreAllAsMany xs (ts ++ us)
both-many xs [] us h k = k
both-many xs (vs ∷ ts) us h k = (h.0, both-many xs ts us h.1 k)

pub tuples-many : (spec : Spec) (xs : List Variable) → AreAllAsMany xs (tuples (carriers_of spec xs))
tuples-many spec [] = (tt, tt)
tuples-many spec (x ∷ xs) = all (carrier_of spec x.sort) (tuples-many spec xs)
  where
    each : (v : Value) (ts : List Tuple) → AreAllAsMany xs ts → AreAllAsMany (x ∷ xs) (map (λ (vs : Tuple). v ∷ vs) ts)
    each v [] h = tt
    each v (vs ∷ ts) h = (h.0, each v ts h.1)

    all : (c : Carrier) → AreAllAsMany xs (tuples (carriers_of spec xs)) → AreAllAsMany (x ∷ xs) (flat_map (λ v. map (λ (vs : Tuple). v ∷ vs) (tuples (carriers_of spec xs))) c)
    all [] h = tt
    all (v ∷ c) h =
        both-many (x ∷ xs) (map (λ (vs : Tuple). v ∷ vs) (tuples (carriers_of spec xs))) (flat_map (λ v. map (λ (vs : Tuple). v ∷ vs) (tuples (carriers_of spec xs))) c)
        (each v (tuples (carriers_of spec xs)) h) (all c h)

-- ---- sets of steps

pub among-front : (xs ys : List Name) (x : Name) → is_among (xs ++ ys) x ≡ false → is_among xs x ≡ false
among-front [] ys x h = refl
among-front (y ∷ xs) ys x h =
    ap (λ b. b || is_among xs x) (or-first (same_name x y) (is_among (xs ++ ys) x) h) ∙ among-front xs ys x (or-second (same_name x y) (is_among (xs ++ ys) x) h)

pub among-behind : (xs ys : List Name) (x : Name) → is_among (xs ++ ys) x ≡ false → is_among ys x ≡ false
among-behind [] ys x h = h
among-behind (y ∷ xs) ys x h = among-behind xs ys x (or-second (same_name x y) (is_among (xs ++ ys) x) h)

-- a set that doesn't name a step by values has the step with all values, or with none
pub any-values : (m : Protocol) (c : data_value.Assignment) (A : StepSet) (x : Name) → is_among (valued_in_set A) x ≡ false → (own others : Tuple) → has_step m c A x own ≡ has_step m c A x others
any-values m c StepSet.All x h own others = refl
any-values m c (StepSet.Only y) x h own others = refl
any-values m c (StepSet.With y xs) x h own others = by (same_name y x) (same-not x y (or-first (same_name x y) false h))
  where
    by : (b : Bool) → b ≡ false → (b && fits m c xs own) ≡ (b && fits m c xs others)
    by true e = absurd (true≢false e)
    by false e = refl
any-values m c (StepSet.Complement A) x h own others = ap not (any-values m c A x h own others)
any-values m c (StepSet.Union A B) x h own others =
    ap (λ b. b || has_step m c B x own) (any-values m c A x (among-front (valued_in_set A) (valued_in_set B) x h) own others) ∙
    ap (λ b. has_step m c A x others || b) (any-values m c B x (among-behind (valued_in_set A) (valued_in_set B) x h) own others)

-- ---- where the step leads

abbrev no_states : List State
no_states = []

module _ (m : Protocol) (hides : HidesNothing m) (s : State) (a : Step) (whole : is_whole m a ≡ true) (indices : IndicesAreSettled m (all_elements m)) where
  abbrev flat_next : Tuple → State
  flat_next own = flat_steps.next_state (unfolded m) s (unfolded_step m (whole_step a)) own

  abbrev flat_enabled : Tuple → Bool
  flat_enabled own = flat_steps.is_enabled (unfolded m) s (unfolded_step m (whole_step a)) own

  -- where all these values are in the set
  pub all-lead : (q : Tuple → Bool) → ((own : Tuple) → q own ≡ true) → (ts : List Tuple) → AreAllAsMany a.variables ts →
      map flat_next (filter flat_enabled ts) ≡ map (next_state m s a) (filter (λ (own : Tuple). q own && is_enabled m s a own) ts)
  all-lead q all [] h = refl
  all-lead q all (own ∷ ts) h =
      ap (λ b. map flat_next (cond b (own ∷ filter flat_enabled ts) (filter flat_enabled ts))) (whole-enabled m hides s a whole own h.0) ∙
      (by (is_enabled m s a own) (all-lead q all ts h.1) ∙
      ap (λ b. map (next_state m s a)
      (cond (b && is_enabled m s a own) (own ∷ filter (λ (own : Tuple). q own && is_enabled m s a own) ts) (filter (λ (own : Tuple). q own && is_enabled m s a own) ts))) (sym (all own)))
    where
      by : (b : Bool) → map flat_next (filter flat_enabled ts) ≡ map (next_state m s a) (filter (λ (own : Tuple). q own && is_enabled m s a own) ts) →
          map flat_next (cond b (own ∷ filter flat_enabled ts) (filter flat_enabled ts))
          ≡ map (next_state m s a) (cond b (own ∷ filter (λ (own : Tuple). q own && is_enabled m s a own) ts) (filter (λ (own : Tuple). q own && is_enabled m s a own) ts))
      by true e = ap (λ t. t ∷ map flat_next (filter flat_enabled ts)) (whole-next m hides s a whole own h.0 indices) ∙ ap (λ l. next_state m s a own ∷ l) e
      by false e = e

  -- where none is
  pub none-leads : (q : Tuple → Bool) → ((own : Tuple) → q own ≡ false) → (ts : List Tuple) → no_states ≡ map (next_state m s a) (filter (λ (own : Tuple). q own && is_enabled m s a own) ts)
  none-leads q none [] = refl
  none-leads q none (own ∷ ts) =
      none-leads q none ts ∙
      ap (λ b. map (next_state m s a)
      (cond (b && is_enabled m s a own) (own ∷ filter (λ (own : Tuple). q own && is_enabled m s a own) ts) (filter (λ (own : Tuple). q own && is_enabled m s a own) ts))) (sym (none own))

-- ---- properties

-- a name that is among none of these lists together is among none of each
in-none : (ps : List Property) (p : Property) (x : Name) → Contains ps p → is_among (flat_map (λ (q : Property). valued_in q.formula) ps) x ≡ false → is_among (valued_in p.formula) x ≡ false
in-none [] p x (k, within, e) h = absurd (omega (arith, within))
in-none (q ∷ ps) p x (zero, within, e) h =
    subst (λ (r : Property). is_among (valued_in r.formula) x ≡ false) e (among-front (valued_in q.formula) (flat_map (λ (q : Property). valued_in q.formula) ps) x h)
in-none (q ∷ ps) p x (suc k, within, e) h = in-none ps p x (k, omega (arith, within), e) (among-behind (valued_in q.formula) (flat_map (λ (q : Property). valued_in q.formula) ps) x h)

pub properties_name_no_whole : PropertiesNameNoWhole
properties_name_no_whole m p among a whole = in-none m.properties p a.name among (not-valued m a whole)
