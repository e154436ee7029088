-- What terms of the flat model say of its states.
use Rattle.std.proofs.Common.{◌≡◌, ℕ, Bool, true, false, true≢false, ◌&&◌, if◌then◌else◌, List, [], ◌∷◌, ◌++◌, map, flat_map, length, drop, refl, sym, ap, ◌∙◌, subst}
use Rattle.std.specs.Prelude.{pos, Option, Some, None, unwrap_or}
use Rattle.std.proofs.lemmas.List.{map-append}
use Rattle.pb_base_values.specs.Carrier.{Value, Tuple, tuples}
use Rattle.pb_text_meaning.specs.Syntax.{Name, same_name, Variable, Term, Spec}
use Rattle.pb_text_meaning.specs.Sorts.{carrier_of, place_in}
use Rattle.pb_text_meaning.specs.Value as data_value
use Rattle.pb_text_meaning.specs.Value.{looked_up, is_true, named_value, value, values}
use Rattle.pb_text_meaning.specs.Formula.{carriers_of}
use Rattle.pb_text_meaning.specs.Meaning.{assigned}
use Rattle.pb_model_meaning.specs.Steps.{State}
use Rattle.pb_model_meaning.specs.Steps as flat_steps
use Rattle.pb_protocol_folding.specs.Names.{IsNot, AreDistinct, AreNot, enumerators_in, HidesNoEnumerator}
use Rattle.pb_protocol_meaning.specs.Syntax.{StateVariable, Protocol}
use Rattle.pb_protocol_meaning.specs.Meaning.{meaning}
use Rattle.pb_protocol_meaning.specs.Steps.{data_of, indices_of, Position, positions_of, positions, state_carriers, function_at, variables_at, functions_at, value_at}
use Rattle.pb_protocol_unfolding.specs.Written.{written_values, written_tuples, element, element_of}
use Rattle.pb_protocol_unfolding.specs.PutIn.{TermScope, standing, are_as_many, read, reads}
use Rattle.pb_protocol_unfolding.specs.Unfolding.{Element, name_of, variable_of, elements_of, all_elements, forms_of, unfolded_term, terms_of, written, values_of, valued, unfolded}
use Rattle.pb_protocol_unfolding.specs.Hygiene.{HidesNothing}
use Rattle.pb_protocol_unfolding.specs.TermLaws.{KeepsWrittenValues, HasValue, FormsMean, Means, elements_at, ElementsAreRead}
use Rattle.pb_protocol_unfolding.proofs.PutIn.{put_in-value}
use Rattle.pb_protocol_unfolding.proofs.Reading.{element_names, Finds, finds-left, finds-right, names-counted, read-value, definitions_are_put_in, standing-assigned, as-many}
use Rattle.pb_protocol_folding.proofs.FoldedModels.{same-names, same-self, enumerator-is-not}
use Rattle.pb_protocol_unfolding.proofs.WrittenLaws.{written_values_are_kept}

pub same-not : (x y : Name) → same_name x y ≡ false → same_name y x ≡ false
same-not x y h = by (same_name y x) refl
  where
    by : (b : Bool) → same_name y x ≡ b → b ≡ false
    by false e = refl
    by true e =
        let e' : same_name x y ≡ true = ap (same_name x) (same-names y x e) ∙ same-self x in
        absurd (true≢false (sym e' ∙ h))

-- ---- names

looked_up-new : (es : List Element) (s : Tuple) (a : data_value.Assignment) (x : Name) → IsNot x (map name_of es) →
    looked_up (assigned (map variable_of es) s a) x ≡ looked_up a x
looked_up-new [] s a x new = refl
looked_up-new (e ∷ es) [] a x new = refl
looked_up-new (e ∷ es) (v ∷ s) a x new =
    looked_up-new es s ((name_of e, v) ∷ a) x new.1 ∙ by (same_name (name_of e) x) new.0
  where
    by : (b : Bool) → b ≡ false → (if b then Some v else looked_up a x) ≡ looked_up a x
    by true h = absurd (true≢false h)
    by false h = refl

-- ---- elements have the values of a state, in order

-- these names stand for nothing, and none is an enumerator's
abbrev AreUnknown : Spec → data_value.Assignment → List Name → Type 0
AreUnknown spec a [] = Unit {0}
AreUnknown spec a (x ∷ xs) = (looked_up a x ≡ None) × (place_in (λ e. same_name e.name x) spec.sorts ≡ None) × AreUnknown spec a xs

none-found : (spec : Spec) (a : data_value.Assignment) (xs : List Name) → AreUnknown spec a xs → Finds spec a xs []
none-found spec a [] h = tt
none-found spec a (x ∷ xs) h = (
  ap (λ o. named_value spec o x) h.0 ∙ ap (λ (o : Option ℕ). pos (unwrap_or o 0)) h.1,
  none-found spec a xs h.2,
)

unknown-behind : (spec : Spec) (a : data_value.Assignment) (x : Name) (v : Value) (xs : List Name) → IsNot x xs → AreUnknown spec a xs → AreUnknown spec ((x, v) ∷ a) xs
unknown-behind spec a x v [] new h = tt
unknown-behind spec a x v (y ∷ xs) new h = (
  ap (λ b. if b then Some v else looked_up a y) (same-not y x new.0) ∙ h.0,
  h.1,
  unknown-behind spec a x v xs new.1 h.2,
)

elements-found : (spec : Spec) (es : List Element) (s : State) (a : data_value.Assignment) → AreDistinct (map name_of es) → AreUnknown spec a (map name_of es) →
    Finds spec (assigned (map variable_of es) s a) (map name_of es) s
elements-found spec [] s a apart unknown = tt
elements-found spec (e ∷ es) [] a apart unknown = none-found spec a (map name_of (e ∷ es)) unknown
elements-found spec (e ∷ es) (v ∷ s) a apart unknown = (
  ap (λ o. named_value spec o (name_of e))
      (looked_up-new es s ((name_of e, v) ∷ a) (name_of e) apart.0 ∙ ap (λ b. if b then Some v else looked_up a (name_of e)) (same-self (name_of e))),
  elements-found spec es s ((name_of e, v) ∷ a) apart.1 (unknown-behind spec a (name_of e) v (map name_of es) apart.0 unknown.2),
)

elements-unknown : (spec : Spec) (zs : List Name) → AreNot (enumerators_in spec.sorts) zs → (xs : List Name) → ((x : Name) → IsNot x zs → IsNot x xs) → AreUnknown spec [] xs
elements-unknown spec zs new [] h = tt
elements-unknown spec zs new (x ∷ xs) h = (refl, by (place_in (λ e. same_name e.name x) spec.sorts) refl, elements-unknown spec zs new xs (λ y n. (h y n).1))
  where
    by : (o : Option ℕ) → place_in (λ e. same_name e.name x) spec.sorts ≡ o → o ≡ None
    by None e = refl
    by (Some k) e = absurd (true≢false (sym (same-self x) ∙ (h x (enumerator-is-not x zs k spec.sorts new e)).0))

-- ---- names of elements

map-of : {A B C : Type 0} (g : B → C) (f : A → B) (xs : List A) → map g (map f xs) ≡ map (λ x. g (f x)) xs
map-of g f [] = refl
map-of g f (x ∷ xs) = ap (λ l. g (f x) ∷ l) (map-of g f xs)

tuples-named : (spec : Spec) (is : List Variable) (x : Name) → map (element_of x) (written_tuples spec is) ≡ element_names spec x is
tuples-named spec [] x = refl
tuples-named spec (i ∷ is) x = over (λ y. tuples-named spec is y) (written_values spec i.sort)
  where
    over : ((y : Name) → map (element_of y) (written_tuples spec is) ≡ element_names spec y is) → (ks : List Term) →
        map (element_of x) (flat_map (λ k. map (λ (ls : List Term). k ∷ ls) (written_tuples spec is)) ks) ≡ flat_map (λ k. element_names spec (element x k) is) ks
    over each [] = refl
    over each (k ∷ ks) =
        let here = map (λ (ls : List Term). k ∷ ls) (written_tuples spec is) in
        let others = flat_map (λ k. map (λ (ls : List Term). k ∷ ls) (written_tuples spec is)) ks in
        map-append (element_of x) here others ∙
        (ap (λ l. l ++ map (element_of x) others) (map-of (element_of x) (λ (ls : List Term). k ∷ ls) (written_tuples spec is) ∙ each (element x k)) ∙
        ap (λ l. element_names spec (element x k) is ++ l) (over each ks))

abbrev all_names : Spec → List StateVariable → List Name
all_names spec ys = flat_map (λ (y : StateVariable). element_names spec y.name y.indices) ys

elements-named : (spec : Spec) (ys : List StateVariable) → map name_of (flat_map (elements_of spec) ys) ≡ all_names spec ys
elements-named spec [] = refl
elements-named spec (y ∷ ys) =
    let mine : List Term → Element = λ ks. record { array = y.name; index = ks; sort = y.sort } in
    map-append name_of (elements_of spec y) (flat_map (elements_of spec) ys) ∙
    (ap (λ l. l ++ map name_of (flat_map (elements_of spec) ys)) (map-of name_of mine (written_tuples spec y.indices) ∙ tuples-named spec y.indices y.name) ∙
    ap (λ l. element_names spec y.name y.indices ++ l) (elements-named spec ys))

-- each variable reads the values that are its own
reads-mean : (spec : Spec) (a : data_value.Assignment) → KeepsWrittenValues spec a → (ys : List StateVariable) (s : State) → Finds spec a (all_names spec ys) s →
    FormsMean spec a (reads spec ys) (variables_at spec ys s)
reads-mean spec a keeps [] s found x ts = tt
reads-mean spec a keeps (y ∷ ys) s found x ts =
    subst (λ b. HasValue spec a (reads spec (y ∷ ys) x ts)
    (if same_name y.name x && b then Some (function_at spec y s (values spec a ts)) else variables_at spec ys (drop (length (indices_of spec y)) s) x (values spec a ts)))
    (as-many spec a y.indices ts)
    (by (same_name y.name x && are_as_many y.indices ts) (reads-mean spec a keeps ys (drop (length (indices_of spec y)) s) behind x ts))
  where
    behind : Finds spec a (all_names spec ys) (drop (length (indices_of spec y)) s)
    behind =
        subst (λ n. Finds spec a (all_names spec ys) (drop n s)) (names-counted spec a keeps y.name y.indices)
        (finds-right spec a (element_names spec y.name y.indices) (all_names spec ys) s found)

    by : (b : Bool) → HasValue spec a (reads spec ys x ts) (variables_at spec ys (drop (length (indices_of spec y)) s) x (values spec a ts)) →
        HasValue spec a (if b then Some (read spec y.name y.indices ts) else reads spec ys x ts)
        (if b then Some (function_at spec y s (values spec a ts)) else variables_at spec ys (drop (length (indices_of spec y)) s) x (values spec a ts))
    by true others = read-value spec a keeps y.indices y.name ts s (finds-left spec a (element_names spec y.name y.indices) (all_names spec ys) s found)
    by false others = others

-- ---- written values mean the same in all states

abbrev first_value : List Value → Value
first_value [] = pos 0
first_value (v ∷ vs) = v

abbrev other_values : List Value → List Value
other_values [] = []
other_values (v ∷ vs) = vs

module _ (m : Protocol) where
  abbrev pub IsSettled : Term → Type 0
  IsSettled k = (a : data_value.Assignment) → HidesNoEnumerator (data_of m) a → value (data_of m) a k ≡ value (data_of m) [] k

  abbrev pub AreSettled : List Term → Type 0
  AreSettled [] = Unit {0}
  AreSettled (k ∷ ks) = IsSettled k × AreSettled ks

  abbrev pub ScopeIsSettled : TermScope → Type 0
  ScopeIsSettled [] = Unit {0}
  ScopeIsSettled ((x, k) ∷ ρ) = IsSettled k × ScopeIsSettled ρ

  settled-by : (ks : List Term) → ((a : data_value.Assignment) → HidesNoEnumerator (data_of m) a → map (value (data_of m) a) ks ≡ map (value (data_of m) []) ks) → AreSettled ks
  settled-by [] h = tt
  settled-by (k ∷ ks) h = ((λ a e. ap first_value (h a e)), settled-by ks (λ a e. ap other_values (h a e)))

  pub settled-values : (ks : List Term) → AreSettled ks → (a : data_value.Assignment) → HidesNoEnumerator (data_of m) a → map (value (data_of m) a) ks ≡ values_of m ks
  settled-values [] h a e = refl
  settled-values (k ∷ ks) h a e = ap (λ v. v ∷ map (value (data_of m) a) ks) (h.0 a e) ∙ ap (λ vs. value (data_of m) [] k ∷ vs) (settled-values ks h.1 a e)

  pub scope-values : (ρ : TermScope) → ScopeIsSettled ρ → (a : data_value.Assignment) → HidesNoEnumerator (data_of m) a → valued (data_of m) a ρ ≡ valued (data_of m) [] ρ
  scope-values [] h a e = refl
  scope-values ((x, k) ∷ ρ) h a e =
      ap (λ v. (x, v) ∷ valued (data_of m) a ρ) (h.0 a e) ∙ ap (λ c. (x, value (data_of m) [] k) ∷ c) (scope-values ρ h.1 a e)

  pub standing-settled : (xs : List Variable) (ks : List Term) (ρ : TermScope) → AreSettled ks → ScopeIsSettled ρ → ScopeIsSettled (standing xs (terms_of ks) ρ)
  standing-settled [] ks ρ h r = r
  standing-settled (x ∷ xs) [] ρ h r = r
  standing-settled (x ∷ xs) (k ∷ ks) ρ h r = standing-settled xs ks ((x.name, k) ∷ ρ) h.1 (h.0, r)

  pub terms-values : (ks : List Term) → values (data_of m) [] (terms_of ks) ≡ values_of m ks
  terms-values [] = refl
  terms-values (k ∷ ks) = ap (λ vs. value (data_of m) [] k ∷ vs) (terms-values ks)

  pub written-scope : (xs : List Variable) (ks : List Term) → valued (data_of m) [] (written xs ks) ≡ assigned xs (values_of m ks) []
  written-scope xs ks = standing-assigned (data_of m) [] xs (terms_of ks) [] ∙ ap (λ vs. assigned xs vs []) (terms-values ks)

-- ---- values at states

module _ (m : Protocol) (hides : HidesNothing m) where
  pub hides-here : (s : State) → HidesNoEnumerator (data_of m) (elements_at m s)
  hides-here s x n h = looked_up-new (all_elements m) s [] x (enumerator-is-not x (map name_of (all_elements m)) n m.sorts hides.values h)

  pub hides-nowhere : HidesNoEnumerator (data_of m) []
  hides-nowhere x n h = refl

  pub keeps-here : (s : State) → KeepsWrittenValues (data_of m) (elements_at m s)
  keeps-here s = written_values_are_kept (data_of m) (elements_at m s) hides.enumerators (hides-here s)

  pub keeps-nowhere : KeepsWrittenValues (data_of m) []
  keeps-nowhere = written_values_are_kept (data_of m) [] hides.enumerators hides-nowhere

  pub found-here : (s : State) → Finds (data_of m) (elements_at m s) (map name_of (all_elements m)) s
  found-here s =
      let zs = map name_of (all_elements m) in
      elements-found (data_of m) (all_elements m) s [] hides.elements (elements-unknown (data_of m) zs hides.values zs (λ x n. n))

  -- so it is where further names stand for values
  pub keeps-at : (a : data_value.Assignment) → HidesNoEnumerator (data_of m) a → KeepsWrittenValues (data_of m) a
  keeps-at a e = written_values_are_kept (data_of m) a hides.enumerators e

  pub reads-at : (a : data_value.Assignment) → HidesNoEnumerator (data_of m) a → (s : State) → Finds (data_of m) a (map name_of (all_elements m)) s →
      Means (data_of m) a (reads (data_of m) m.variables) (variables_at (data_of m) m.variables s)
  reads-at a e s found = record {
    written = keeps-at a e;
    enumerators = e;
    named = reads-mean (data_of m) a (keeps-at a e) m.variables s (subst (λ xs. Finds (data_of m) a xs s) (elements-named (data_of m) m.variables) found);
  }

  pub means-at : (a : data_value.Assignment) → HidesNoEnumerator (data_of m) a → (s : State) → Finds (data_of m) a (map name_of (all_elements m)) s →
      Means (data_of m) a (forms_of m) (functions_at m s)
  means-at a e s found =
      definitions_are_put_in (data_of m) a (reads (data_of m) m.variables) (variables_at (data_of m) m.variables s) (reads-at a e s found) m.definitions

  pub reads-here : (s : State) → Means (data_of m) (elements_at m s) (reads (data_of m) m.variables) (variables_at (data_of m) m.variables s)
  reads-here s = reads-at (elements_at m s) (hides-here s) s (found-here s)

  pub means-here : (s : State) → Means (data_of m) (elements_at m s) (forms_of m) (functions_at m s)
  means-here s = means-at (elements_at m s) (hides-here s) s (found-here s)

  pub written-settled : (s : Name) → AreSettled m (written_values (data_of m) s)
  written-settled s = settled-by m (written_values (data_of m) s) (λ a e. keeps-at a e s ∙ sym (keeps-nowhere s))

  pub put_in-here : (s : State) (ρ : TermScope) → ScopeIsSettled m ρ → (x : Term) →
      value (data_of m) (elements_at m s) (unfolded_term m ρ x) ≡ value_at m s (valued (data_of m) [] ρ) x
  put_in-here s ρ h x =
      put_in-value (data_of m) (elements_at m s) (forms_of m) (functions_at m s) (means-here s) x ρ ∙
      ap (λ c. meaning (data_of m) (functions_at m s) c x) (scope-values m ρ h (elements_at m s) (hides-here s))

  -- ---- tuples of written values

  pub tuples-written : (xs : List Variable) → tuples (carriers_of (data_of m) xs) ≡ map (values_of m) (written_tuples (data_of m) xs)
  tuples-written [] = refl
  tuples-written (x ∷ xs) =
      let others = written_tuples (data_of m) xs in
      ap (λ (ts : List Tuple). flat_map (λ v. map (λ (vs : Tuple). v ∷ vs) ts) (carrier_of (data_of m) x.sort)) (tuples-written xs) ∙
      (ap (λ c. flat_map (λ v. map (λ (vs : Tuple). v ∷ vs) (map (values_of m) others)) c) (sym (keeps-nowhere x.sort)) ∙
      all others (written_values (data_of m) x.sort))
    where
      each : (k : Term) (others : List (List Term)) → map (λ (vs : Tuple). value (data_of m) [] k ∷ vs) (map (values_of m) others) ≡ map (values_of m) (map (λ (ks : List Term). k ∷ ks) others)
      each k [] = refl
      each k (ks ∷ others) = ap (λ l. values_of m (k ∷ ks) ∷ l) (each k others)

      all : (others : List (List Term)) (ks : List Term) →
          flat_map (λ v. map (λ (vs : Tuple). v ∷ vs) (map (values_of m) others)) (map (value (data_of m) []) ks)
          ≡ map (values_of m) (flat_map (λ k. map (λ (ls : List Term). k ∷ ls) others) ks)
      all others [] = refl
      all others (k ∷ ks) =
          ap (λ l. l ++ flat_map (λ v. map (λ (vs : Tuple). v ∷ vs) (map (values_of m) others)) (map (value (data_of m) []) ks)) (each k others) ∙
          (ap (λ l. map (values_of m) (map (λ (ls : List Term). k ∷ ls) others) ++ l) (all others ks) ∙
          sym (map-append (values_of m) (map (λ (ls : List Term). k ∷ ls) others) (flat_map (λ k. map (λ (ls : List Term). k ∷ ls) others) ks)))

  -- an element's position in a state
  abbrev pub position_of : Element → Position
  position_of e = record { variable = e.array; index = values_of m e.index; sort = e.sort }

  elements-positioned : (ys : List StateVariable) → map position_of (flat_map (elements_of (data_of m)) ys) ≡ flat_map (positions_of (data_of m)) ys
  elements-positioned [] = refl
  elements-positioned (y ∷ ys) =
      let mine : List Term → Element = λ ks. record { array = y.name; index = ks; sort = y.sort } in
      let at : Tuple → Position = λ index. record { variable = y.name; index = index; sort = y.sort } in
      let all = written_tuples (data_of m) y.indices in
      map-append position_of (elements_of (data_of m) y) (flat_map (elements_of (data_of m)) ys) ∙
      (ap (λ l. l ++ map position_of (flat_map (elements_of (data_of m)) ys))
      (map-of position_of mine all ∙ (sym (map-of at (values_of m) all) ∙ ap (map at) (sym (tuples-written y.indices)))) ∙
      ap (λ l. positions_of (data_of m) y ++ l) (elements-positioned ys))

  pub positions-are : map position_of (all_elements m) ≡ positions m
  positions-are = elements-positioned m.variables

  -- ---- states

  pub carriers-same : flat_steps.state_carriers (unfolded m) ≡ state_carriers m
  carriers-same =
      map-of (λ (x : Variable). carrier_of (data_of m) x.sort) variable_of (all_elements m) ∙
      (sym (map-of (λ (p : Position). carrier_of (data_of m) p.sort) position_of (all_elements m)) ∙
      ap (map (λ (p : Position). carrier_of (data_of m) p.sort)) positions-are)

pub elements_are_read : ElementsAreRead
elements_are_read m hides s = reads-here m hides s
