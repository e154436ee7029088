-- An assignment for all values of its variables leads to the permuted values where elements are permuted: copies for different elements assign at different
-- indices, so that it doesn't matter in which order elements come.
use Rattle.std.proofs.Common.{◌≡◌, Bool, true, false, true≢false, ◌&&◌, ◌||◌, if◌then◌else◌, List, [], ◌∷◌, ◌++◌, flat_map, refl, sym, ap, ◌∙◌, subst}
use Rattle.std.specs.Prelude.{pos, Some}
use Rattle.std.specs.Ordering.{int_eq}
use Rattle.std.proofs.lemmas.Bool.{and_parts, and_right, or_parts}
use Rattle.std.proofs.lemmas.Bool.Decides.{Decides-int_eq}
use Rattle.std.proofs.lemmas.Slice.Eq.{bytes_eq-Decides}
use Rattle.pb_base_values.specs.Carrier.{Value, Carrier, Tuple, contains}
use Rattle.pb_text_meaning.specs.Syntax.{Name, same_name, Variable, Term, Terms, Spec}
use Rattle.pb_text_meaning.specs.Sorts.{carrier_of}
use Rattle.pb_text_meaning.specs.Value.{looked_up}
use Rattle.pb_text_meaning.specs.Value as data_value
use Rattle.pb_protocol_meaning.specs.Syntax.{StateVariable, Assignment}
use Rattle.pb_protocol_meaning.specs.Meaning.{Functions, same_values, named_meaning, meaning, meanings, for_each}
use Rattle.pb_protocol_meaning.specs.Steps.{Update, update_by, updates_by, updates, value_after}
use Rattle.pb_protocol_symmetry.specs.Permutation.{IsPermutation, AreElements, Kind, Element, Plain, kind_of, moved, all_moved, IsInKind}
use Rattle.pb_protocol_symmetry.specs.Kinds.{Signature, extended, HasKind, HaveKinds}
use Rattle.pb_protocol_symmetry.specs.Laws.{AreCarried, AreFunctionsCarried}
use Rattle.pb_protocol_symmetry.specs.Steps.{is_name, is_index, is_hidden, AreIndices, AssignmentHasKinds, AssignmentsHaveKinds}
use Rattle.pb_protocol_symmetry.proofs.Distinct.{IsDistinct, not-equal, differ, carrier-distinct}
use Rattle.pb_protocol_symmetry.proofs.Counts.{contains-moved}
use Rattle.pb_protocol_symmetry.proofs.Terms.{kind-carrier, term-moved, terms-moved}
use Rattle.pb_protocol_symmetry.proofs.Elements.{same_values-moved}

-- ---- one update after another

-- what comes of a value by each of a carrier, in order
abbrev over : (Value → Value → Value) → Carrier → Value → Value
over G [] e = e
over G (v ∷ c) e = over G c (G v e)

after-append : (us ws : List Update) (n : Name) (i : Tuple) (e : Value) → value_after (us ++ ws) n i e ≡ value_after ws n i (value_after us n i e)
after-append [] ws n i e = refl
after-append (u ∷ us) ws n i e = after-append us ws n i (if same_name u.variable n && same_values u.index i then u.value else e)

after-over : (f : Value → List Update) (c : Carrier) (n : Name) (i : Tuple) (e : Value) → value_after (flat_map f c) n i e ≡ over (λ v e. value_after (f v) n i e) c e
after-over f [] n i e = refl
after-over f (v ∷ c) n i e = after-append (f v) (flat_map f c) n i e ∙ after-over f c n i (value_after (f v) n i e)

over-idle : (G : Value → Value → Value) (c : Carrier) → ((v : Value) (e : Value) → G v e ≡ e) → (e : Value) → over G c e ≡ e
over-idle G [] h e = refl
over-idle G (v ∷ c) h e = over-idle G c h (G v e) ∙ h v e

over-alike : (G H : Value → Value → Value) (m : Value → Value) (c : Carrier) → ((v : Value) (e : Value) → H v (m e) ≡ m (G v e)) → (e : Value) → over H c (m e) ≡ m (over G c e)
over-alike G H m [] h e = refl
over-alike G H m (v ∷ c) h e = ap (over H c) (h v e) ∙ over-alike G H m c h (G v e)

-- of values that differ only one does something
over-one : (G : Value → Value → Value) (w : Value) (c : Carrier) → IsDistinct c → ((v : Value) → (v ≡ w → ⊥) → (e : Value) → G v e ≡ e) → (e : Value) →
    over G c e ≡ (if contains c w then G w e else e)
over-one G w [] distinct idle e = refl
over-one G w (v ∷ c) distinct idle e = by (int_eq v w) refl (over-one G w c distinct.1 idle (G v e))
  where
    by : (b : Bool) → int_eq v w ≡ b → over G c (G v e) ≡ (if contains c w then G w (G v e) else G v e) → over G c (G v e) ≡ (if b || contains c w then G w e else e)
    by true h later =
        let same : v ≡ w = (Decides-int_eq v w).0 h in
        later ∙ (ap (λ b. if b then G w (G v e) else G v e) (ap (contains c) (sym same) ∙ distinct.0) ∙ ap (λ u. G u e) same)
    by false h later = later ∙ ap (λ u. if contains c w then G w u else u) (idle v (differ v w h) e)

-- ---- assignments for all values

module _ (spec : Spec) (f : data_value.Assignment → Update) (n : Name) (i : Tuple) where
  abbrev Idle : data_value.Assignment → Type 0
  Idle a = (e : Value) → value_after (f a ∷ []) n i e ≡ e

  -- no copy does anything
  all-idle : (xs : List Variable) → ((a : data_value.Assignment) → Idle a) → (a : data_value.Assignment) (e : Value) → value_after (for_each spec xs f a) n i e ≡ e
  all-idle [] h a e = h a e
  all-idle (x ∷ xs) h a e =
      after-over (λ v. for_each spec xs f ((x.name, v) ∷ a)) (carrier_of spec x.sort) n i e ∙
      over-idle (λ v e. value_after (for_each spec xs f ((x.name, v) ∷ a)) n i e) (carrier_of spec x.sort) (λ v e. all-idle xs h ((x.name, v) ∷ a) e) e

  -- none where a name that isn't hidden has this value
  idle-at : (xs : List Variable) (y : Name) (u : Value) → is_hidden y xs ≡ false → ((a : data_value.Assignment) → looked_up a y ≡ Some u → Idle a) →
      (a : data_value.Assignment) → looked_up a y ≡ Some u → (e : Value) → value_after (for_each spec xs f a) n i e ≡ e
  idle-at [] y u free h a at e = h a at e
  idle-at (x ∷ xs) y u free h a at e =
      let r = or_parts (same_name x.name y) (is_hidden y xs) free in
      after-over (λ v. for_each spec xs f ((x.name, v) ∷ a)) (carrier_of spec x.sort) n i e ∙
      over-idle (λ v e. value_after (for_each spec xs f ((x.name, v) ∷ a)) n i e) (carrier_of spec x.sort)
      (λ v e. idle-at xs y u r.1 h ((x.name, v) ∷ a) (ap (λ b. if b then Some v else looked_up a y) r.0 ∙ at) e) e

-- ---- where a variable is an index

named : (y : Name) (t : Term) → is_name y t ≡ true → t ≡ Term.Named y
named y (Term.Named x) e = ap Term.Named ((bytes_eq-Decides x y).0 e)
named y (Term.Truth b) e = absurd (true≢false (sym e))
named y (Term.Number k) e = absurd (true≢false (sym e))
named y (Term.Not x) e = absurd (true≢false (sym e))
named y (Term.Negative x) e = absurd (true≢false (sym e))
named y (Term.Binary o x z) e = absurd (true≢false (sym e))
named y (Term.Apply g xs) e = absurd (true≢false (sym e))
named y (Term.Quantified q xs x) e = absurd (true≢false (sym e))

module _ (spec : Spec) (sort : Name) (p : Value → Value) where
  -- The index is another one wherever the variable has another value than this, and so is the permuted index.
  record IsRead (zs : List Variable) (ts : Terms) (j : Tuple) (y : Name) : Type 0 where
    pub value : Value
    pub before : (functions : Functions) (a : data_value.Assignment) (v : Value) → looked_up a y ≡ Some v → (v ≡ value → ⊥) → same_values (meanings spec functions a ts) j ≡ false
    pub after : (functions : Functions) (a : data_value.Assignment) (v : Value) → looked_up a y ≡ Some v → (v ≡ p value → ⊥) →
        same_values (meanings spec functions a ts) (all_moved sort p zs j) ≡ false

  at-name : (functions : Functions) (a : data_value.Assignment) (y : Name) (v : Value) → looked_up a y ≡ Some v → meaning spec functions a (Term.Named y) ≡ v
  at-name functions a y v at = ap (λ o. named_meaning spec o (functions y []) y) at

  other-first : (t : Term) (ts : Terms) (y : Name) → t ≡ Term.Named y → (functions : Functions) (a : data_value.Assignment) (v w : Value) → looked_up a y ≡ Some v → (v ≡ w → ⊥) → (j : Tuple) →
      same_values (meanings spec functions a (Terms.Then t ts)) (w ∷ j) ≡ false
  other-first t ts y is functions a v w at h j =
      ap (λ (u : Value). int_eq u w && same_values (meanings spec functions a ts) j) (ap (meaning spec functions a) is ∙ at-name functions a y v at) ∙
      ap (λ b. b && same_values (meanings spec functions a ts) j) (not-equal v w h)

  read : (zs : List Variable) (ts : Terms) (j : Tuple) (y : Name) → is_index sort y zs ts ≡ true → IsRead zs ts j y
  read [] ts j y e = absurd (true≢false (sym e))
  read (z ∷ zs) Terms.NoTerms j y e = absurd (true≢false (sym e))
  read (z ∷ zs) (Terms.Then t ts) [] y e = record {
    value = pos 0;
    before = λ functions a v at h. refl;
    after = λ functions a v at h. refl;
  }
  read (z ∷ zs) (Terms.Then t ts) (w ∷ j) y e = by (same_name z.sort sort && is_name y t) refl (read zs ts j y) e
    where
      by : (b : Bool) → (same_name z.sort sort && is_name y t) ≡ b → (is_index sort y zs ts ≡ true → IsRead zs ts j y) →
          (b || is_index sort y zs ts) ≡ true → IsRead (z ∷ zs) (Terms.Then t ts) (w ∷ j) y
      by true h later e =
          let r = and_parts (same_name z.sort sort) (is_name y t) h in
          let is = named y t r.1 in
          record {
            value = w;
            before = λ functions a v at k. other-first t ts y is functions a v w at k j;
            after = λ functions a v at k.
                ap (λ b. same_values (meanings spec functions a (Terms.Then t ts)) (moved p (if b then Element else Plain) w ∷ all_moved sort p zs j)) r.0 ∙
                other-first t ts y is functions a v (p w) at k (all_moved sort p zs j);
          }
      by false h later e =
          let r = later e in
          record {
            value = r.value;
            before = λ functions a v at k. and_right (int_eq (meaning spec functions a t) w) _ (r.before functions a v at k);
            after = λ functions a v at k. and_right (int_eq (meaning spec functions a t) (moved p (kind_of sort z.sort) w)) _ (r.after functions a v at k);
          }

-- ---- copies

module _ (spec : Spec) (sort : Name) (M : Carrier) (p back : Value → Value)
    (permutes : IsPermutation M p back) (elements : AreElements (carrier_of spec sort) M) where
  abbrev C : Carrier
  C = carrier_of spec sort

  abbrev Carried : List Variable → data_value.Assignment → data_value.Assignment → Type 0
  Carried scope a b = AreCarried C sort p scope a b

  is-sort : (s : Name) → kind_of sort s ≡ Element → same_name s sort ≡ true
  is-sort s e = by (same_name s sort) e
    where
      plain≢element : {P : Type 0} → Plain ≡ Element → P
      plain≢element e = absurd (true≢false (sym (ap is_element e)))
        where
          is_element : Kind → Bool
          is_element Element = true
          is_element Plain = false

      by : (d : Bool) → (if d then Element else Plain) ≡ Element → d ≡ true
      by true e = refl
      by false e = plain≢element e

  module _ (f g : data_value.Assignment → Update) (n : Name) (i j : Tuple) (k : Kind) where
    -- where a variable of the sort has another value than this, nothing is assigned
    record IsApart (x : Variable) (xs : List Variable) : Type 0 where
      pub free : is_hidden x.name xs ≡ false
      pub value : Value
      pub before : (v : Value) → (v ≡ value → ⊥) → (a : data_value.Assignment) → looked_up a x.name ≡ Some v → Idle spec f n i a
      pub after : (v : Value) → (v ≡ p value → ⊥) → (a : data_value.Assignment) → looked_up a x.name ≡ Some v → Idle spec g n j a

    abbrev AreApart : List Variable → Type 0
    AreApart [] = Unit {0}
    AreApart (x ∷ xs) = (kind_of sort x.sort ≡ Element → IsApart x xs) × AreApart xs

    copies-moved : (xs scope : List Variable) → AreApart xs →
        ((a b : data_value.Assignment) → Carried (extended xs scope) a b → (e : Value) → value_after (g b ∷ []) n j (moved p k e) ≡ moved p k (value_after (f a ∷ []) n i e)) →
        (a b : data_value.Assignment) → Carried scope a b → (e : Value) →
        value_after (for_each spec xs g b) n j (moved p k e) ≡ moved p k (value_after (for_each spec xs f a) n i e)
    copies-moved [] scope apart h a b ab e = h a b ab e
    copies-moved (x ∷ xs) scope apart h a b ab e =
        after-over (λ v. for_each spec xs g ((x.name, v) ∷ b)) (carrier_of spec x.sort) n j (moved p k e) ∙
        (by (kind_of sort x.sort) (kind-carrier spec sort M p back permutes elements x.sort) apart.0
        (λ v kind e. copies-moved xs (x ∷ scope) apart.1 h ((x.name, v) ∷ a) ((x.name, moved p (kind_of sort x.sort) v) ∷ b) (refl, refl, refl, kind, ab) e) ∙
        ap (moved p k) (sym (after-over (λ v. for_each spec xs f ((x.name, v) ∷ a)) (carrier_of spec x.sort) n i e)))
      where
        self : (v : Value) (c : data_value.Assignment) → looked_up ((x.name, v) ∷ c) x.name ≡ Some v
        self v c = ap (λ b. if b then Some v else looked_up c x.name) ((bytes_eq-Decides x.name x.name).1 refl)

        by : (l : Kind) → (l ≡ Element → carrier_of spec x.sort ≡ C) → (l ≡ Element → IsApart x xs) →
            ((v : Value) → IsInKind C l v → (e : Value) → value_after (for_each spec xs g ((x.name, moved p l v) ∷ b)) n j (moved p k e) ≡
            moved p k (value_after (for_each spec xs f ((x.name, v) ∷ a)) n i e)) →
            over (λ v e. value_after (for_each spec xs g ((x.name, v) ∷ b)) n j e) (carrier_of spec x.sort) (moved p k e) ≡
            moved p k (over (λ v e. value_after (for_each spec xs f ((x.name, v) ∷ a)) n i e) (carrier_of spec x.sort) e)
        by Plain same apart later =
            over-alike (λ v e. value_after (for_each spec xs f ((x.name, v) ∷ a)) n i e) (λ v e. value_after (for_each spec xs g ((x.name, v) ∷ b)) n j e) (moved p k) (carrier_of spec x.sort)
            (λ v e. later v tt e) e
        by Element same apart later =
            let r = apart refl in
            let F : Value → Value → Value = λ v e. value_after (for_each spec xs f ((x.name, v) ∷ a)) n i e in
            let G : Value → Value → Value = λ v e. value_after (for_each spec xs g ((x.name, v) ∷ b)) n j e in
            subst (λ (c : Carrier). over G c (moved p k e) ≡ moved p k (over F c e)) (sym (same refl))
            (over-one G (p r.value) C (carrier-distinct spec sort) (λ v h e. idle-at spec g n j xs x.name v r.free (r.after v h) ((x.name, v) ∷ b) (self v b) e) (moved p k e) ∙
            (ap (λ d. if d then G (p r.value) (moved p k e) else moved p k e) (contains-moved C M p back permutes elements r.value) ∙
            (one (contains C r.value) refl ∙
            ap (moved p k) (sym (over-one F r.value C (carrier-distinct spec sort) (λ v h e. idle-at spec f n i xs x.name v r.free (r.before v h) ((x.name, v) ∷ a) (self v a) e) e)))))
          where
            one : (d : Bool) → contains C (apart refl).value ≡ d →
                (if d then value_after (for_each spec xs g ((x.name, p (apart refl).value) ∷ b)) n j (moved p k e) else moved p k e) ≡
                moved p k (if d then value_after (for_each spec xs f ((x.name, (apart refl).value) ∷ a)) n i e else e)
            one true h = later (apart refl).value h e
            one false h = refl

  -- ---- one assignment, and all

  module _ (signatures : List Signature) (before after : Functions) (fs : AreFunctionsCarried C sort p signatures before after) where
    -- an update that isn't of the variable
    of-another : (functions : Functions) (x : Assignment) (n : Name) (i : Tuple) → same_name x.variable n ≡ false → (a : data_value.Assignment) (e : Value) →
        value_after (updates_by spec functions a x) n i e ≡ e
    of-another functions x n i h a e =
        all-idle spec (update_by spec functions x) n i x.variables
        (λ c e. ap (λ b. if b && same_values (meanings spec functions c x.index) i then meaning spec functions c x.term else e) h) a e

    module _ (scope : List Variable) (a b : data_value.Assignment) (ab : Carried scope a b) where
      one-moved : (y : StateVariable) (ys : List StateVariable) (x : Assignment) → AssignmentHasKinds spec sort M signatures scope (y ∷ ys) x → (i : Tuple) (e : Value) →
          value_after (updates_by spec after b x) y.name (all_moved sort p y.indices i) (moved p (kind_of sort y.sort) e) ≡
          moved p (kind_of sort y.sort) (value_after (updates_by spec before a x) y.name i e)
      one-moved y ys x kinds i e = by (same_name x.variable y.name) refl kinds.0
        where
          k : Kind
          k = kind_of sort y.sort

          step : HaveKinds spec sort M signatures (extended x.variables scope) y.indices x.index → HasKind spec sort M signatures (extended x.variables scope) (kind_of sort y.sort) x.term →
              same_name x.variable y.name ≡ true → (c d : data_value.Assignment) → Carried (extended x.variables scope) c d → (e : Value) →
              value_after (update_by spec after x d ∷ []) y.name (all_moved sort p y.indices i) (moved p (kind_of sort y.sort) e) ≡
              moved p (kind_of sort y.sort) (value_after (update_by spec before x c ∷ []) y.name i e)
          step hi ht t c d cd e =
              let index = (terms-moved spec sort M p back permutes elements signatures before after fs (extended x.variables scope) y.indices x.index hi c d cd).0 in
              let term = (term-moved spec sort M p back permutes elements signatures before after fs (extended x.variables scope) (kind_of sort y.sort) x.term ht c d cd).0 in
              ap (λ (s : Tuple). if same_name x.variable y.name && same_values s (all_moved sort p y.indices i) then meaning spec after d x.term else moved p (kind_of sort y.sort) e) index ∙
              (ap (λ b. if same_name x.variable y.name && b then meaning spec after d x.term else moved p (kind_of sort y.sort) e)
              (same_values-moved spec sort M p back permutes elements y.indices (meanings spec before c x.index) i) ∙
              chosen (same_name x.variable y.name && same_values (meanings spec before c x.index) i) term)
            where
              chosen : (b : Bool) → meaning spec after d x.term ≡ moved p (kind_of sort y.sort) (meaning spec before c x.term) →
                  (if b then meaning spec after d x.term else moved p (kind_of sort y.sort) e) ≡ moved p (kind_of sort y.sort) (if b then meaning spec before c x.term else e)
              chosen true h = h
              chosen false h = refl

          idle : (functions : Functions) (c : data_value.Assignment) (j : Tuple) → same_values (meanings spec functions c x.index) j ≡ false → Idle spec (update_by spec functions x) y.name j c
          idle functions c j h e = ap (λ b. if b then meaning spec functions c x.term else e) (and_right (same_name x.variable y.name) _ h)

          apart : (xs : List Variable) → AreIndices sort y.indices x.index xs →
              AreApart (update_by spec before x) (update_by spec after x) y.name i (all_moved sort p y.indices i) (kind_of sort y.sort) xs
          apart [] h = tt
          apart (z ∷ xs) h = (
            (λ e. let s = h.0 (is-sort z.sort e) in
                let r = read spec sort p y.indices x.index i z.name s.0 in
                record {
                  free = s.1;
                  value = r.value;
                  before = λ v n c at. idle before c i (r.before before c v at n);
                  after = λ v n c at. idle after c (all_moved sort p y.indices i) (r.after after c v at n);
                }),
            apart xs h.1,
          )

          by : (d : Bool) → same_name x.variable y.name ≡ d →
              (d ≡ true → HaveKinds spec sort M signatures (extended x.variables scope) y.indices x.index ×
              HasKind spec sort M signatures (extended x.variables scope) (kind_of sort y.sort) x.term × AreIndices sort y.indices x.index x.variables) →
              value_after (updates_by spec after b x) y.name (all_moved sort p y.indices i) (moved p (kind_of sort y.sort) e) ≡
              moved p (kind_of sort y.sort) (value_after (updates_by spec before a x) y.name i e)
          by false t h =
              of-another after x y.name (all_moved sort p y.indices i) t b (moved p (kind_of sort y.sort) e) ∙
              ap (moved p (kind_of sort y.sort)) (sym (of-another before x y.name i t a e))
          by true t h =
              let r = h refl in
              copies-moved (update_by spec before x) (update_by spec after x) y.name i (all_moved sort p y.indices i) (kind_of sort y.sort) x.variables scope
              (apart x.variables r.2) (step r.0 r.1 t) a b ab e

      pub value-moved : (y : StateVariable) (ys : List StateVariable) (xs : List Assignment) → AssignmentsHaveKinds spec sort M signatures scope (y ∷ ys) xs → (i : Tuple) (e : Value) →
          value_after (updates spec after b xs) y.name (all_moved sort p y.indices i) (moved p (kind_of sort y.sort) e) ≡
          moved p (kind_of sort y.sort) (value_after (updates spec before a xs) y.name i e)
      value-moved y ys [] kinds i e = refl
      value-moved y ys (x ∷ xs) kinds i e =
          let k = kind_of sort y.sort in
          after-append (updates_by spec after b x) (updates spec after b xs) y.name (all_moved sort p y.indices i) (moved p k e) ∙
          (ap (value_after (updates spec after b xs) y.name (all_moved sort p y.indices i)) (one-moved y ys x kinds.0 i e) ∙
          (value-moved y ys xs kinds.1 i _ ∙
          ap (moved p k) (sym (after-append (updates_by spec before a x) (updates spec before a xs) y.name i e))))
