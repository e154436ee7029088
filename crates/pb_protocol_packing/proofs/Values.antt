-- The value of a said term is the value of the term, where what stands for its names has the values of the names.
use Rattle.std.proofs.Common.{◌≡◌, ℕ, pos, Bool, true, false, true≢false, not, if◌then◌else◌, ◌&&◌, List, [], ◌∷◌, refl, sym, ap, ◌∙◌}
use Rattle.std.specs.Prelude.{Option, Some, None, neg_ℤ, unwrap_or}
use Rattle.std.specs.List.{list_all}
use Rattle.std.specs.Cmp.Lexicographic.{same_text}
use Rattle.std.proofs.Math.Path.{fun_ext}
use Rattle.std.proofs.lemmas.Bool.{and_parts}
use Rattle.pb_base_values.specs.Carrier.{Value, Carrier, of_bool}
use Rattle.pb_text_tree.specs.declared.operator.Quantifier.{Quantifier}
use Rattle.pb_text_meaning.specs.Syntax.{Name, same_name, Variable, Enumerator, Term, Terms, SortDeclaration, Spec}
use Rattle.pb_text_meaning.specs.Sorts.{carrier_of, place_in, is_recogniser}
use Rattle.pb_text_meaning.specs.declared.function.NamedFunction.{NamedFunction}
use Rattle.pb_text_meaning.specs.Functions.{named_function}
use Rattle.pb_text_meaning.specs.Value.{Assignment, looked_up, of_values, quantified, is_true, binary, is_place, function_of_one, function_value, named_value, value, values}
use Rattle.pb_model_meaning.specs.Syntax.{Model}
use Rattle.pb_model_meaning.specs.Steps.{data_of}
use Rattle.pb_protocol_packing.specs.Numbers.{from_number}
use Rattle.pb_protocol_packing.specs.Said.{Scope, term_for, hidden, said, all_said, Digit, digit_for, digit_in}
use Rattle.pb_protocol_packing.specs.Packing.{Group, Alone, Joined, with_sorts, packed_by}
use Rattle.pb_protocol_packing.specs.Apart.{is_among, new_names, new_sorts, used_enumerators, may_bind, is_apart, all_apart}
use Rattle.pb_protocol_packing.proofs.Terms.{EnumerationIs, DigitIs, value-compared}
use Rattle.pb_protocol_packing.proofs.Lists.{not-true}

place_in-same : (test : Enumerator → Bool) (gs : List Group) (ds : List SortDeclaration) → place_in test (with_sorts gs ds) ≡ place_in test ds
place_in-same test [] ds = refl
place_in-same test (Alone x ∷ gs) ds = place_in-same test gs ds
place_in-same test (Joined x ps ∷ gs) ds = place_in-same test gs ds

-- a name stands for what it says itself, or for a digit whose term has its value wherever F holds
abbrev pub Stands : Spec → (Assignment → Type 0) → Option Digit → Option Value → Option Value → Type 0
Stands N F None a b = b ≡ a
Stands N F (Some d) a b =
    (v : Value) × (a ≡ Some v) × ((c : Assignment) → F c → (value N c (from_number d.kind d.low d.term) ≡ v) × EnumerationIs N c d.kind d.term (from_number d.kind d.low d.term))

-- each name that the model may have stands for its value
abbrev pub Sees : Model → List Group → (Assignment → Type 0) → Scope → Assignment → Assignment → Type 0
Sees m gs F σ a b = (y : Name) → is_among (new_names gs) y ≡ false → Stands (data_of (packed_by gs m)) F (digit_for σ y) (looked_up a y) (looked_up b y)

-- what F says stays where a variable is bound that may be
abbrev pub Stays : List Group → (Assignment → Type 0) → Type 0
Stays gs F = (x : Variable) (v : Value) (b : Assignment) → may_bind gs x ≡ true → F b → F ((x.name, v) ∷ b)

module _ (m : Model) (gs : List Group) (F : Assignment → Type 0) where
  abbrev N : Spec
  N = data_of (packed_by gs m)

  abbrev D : Spec
  D = data_of m

  -- ---- a variable more

  pub sees-itself : (z : Name) (v : Value) (σ : Scope) (a b : Assignment) → Sees m gs F σ a b → Sees m gs F ((z, None) ∷ σ) ((z, v) ∷ a) ((z, v) ∷ b)
  sees-itself z v σ a b sees y new = by (same_name z y) refl
    where
      by : (e : Bool) → same_name z y ≡ e → Stands N F (if e then None else digit_for σ y) (if e then Some v else looked_up a y) (if e then Some v else looked_up b y)
      by true e = refl
      by false e = sees y new

  pub sees-digit : (z : Name) (v : Value) (d : Digit) (σ : Scope) (a b : Assignment) →
      ((c : Assignment) → F c
      → (value N c (from_number d.kind d.low d.term) ≡ v)
      × EnumerationIs N c d.kind d.term (from_number d.kind d.low d.term)) → Sees m gs F σ a b
      → Sees m gs F ((z, Some d) ∷ σ) ((z, v) ∷ a) b
  sees-digit z v d σ a b has sees y new = by (same_name z y)
    where
      by : (e : Bool) → Stands N F (if e then Some d else digit_for σ y) (if e then Some v else looked_up a y) (looked_up b y)
      by true = (v, refl, has)
      by false = sees y new

  pub sees-new : (z : Name) (v : Value) (σ : Scope) (a b : Assignment) → is_among (new_names gs) z ≡ true → Sees m gs F σ a b → Sees m gs F σ a ((z, v) ∷ b)
  sees-new z v σ a b among sees y new = by (same_name z y) refl
    where
      by : (e : Bool) → same_name z y ≡ e → Stands N F (digit_for σ y) (looked_up a y) (if e then Some v else looked_up b y)
      by true e = absurd (true≢false (sym among ∙ (ap (is_among (new_names gs)) (same_text z y (sym e)) ∙ new)))
      by false e = sees y new

  -- ---- data that stays

  pub named-same : (o : Option Value) (x : Name) → named_value N o x ≡ named_value D o x
  named-same (Some v) x = refl
  named-same None x = ap (λ o. named_value_of o) (place_in-same (λ e. same_name e.name x) gs m.sorts)
    where
      named_value_of : Option ℕ → Value
      named_value_of o = pos (unwrap_or o 0)

  one-same : (f : Name) (g : Option NamedFunction) (x : Value) → function_of_one N f g x ≡ function_of_one D f g x
  one-same f (Some g) x = refl
  one-same f None x = ap (λ o. of_bool (is_place o x)) (place_in-same (λ e. is_recogniser f e.recogniser) gs m.sorts)

  function-same : (f : Name) (vs : List Value) → function_value N f vs ≡ function_value D f vs
  function-same f [] = refl
  function-same f (x ∷ []) = one-same f (named_function f) x
  function-same f (x ∷ y ∷ []) = refl
  function-same f (x ∷ y ∷ z ∷ []) = refl
  function-same f (x ∷ y ∷ z ∷ w ∷ vs) = refl

module _ (m : Model) (gs : List Group) (F : Assignment → Type 0)
    (sorts : (s : Name) → is_among (new_sorts gs) s ≡ false → carrier_of (data_of (packed_by gs m)) s ≡ carrier_of (data_of m) s) (stays : Stays gs F) where
  quantified-same : (q : Quantifier) (xs : List Variable) (p r : Assignment → Bool) (σ : Scope) (a b : Assignment) → list_all (may_bind gs) xs ≡ true →
      Sees m gs F σ a b → F b → ((c d : Assignment) → Sees m gs F (hidden xs σ) c d → F d → p d ≡ r c) →
      quantified (data_of (packed_by gs m)) q xs p b ≡ quantified (data_of m) q xs r a
  quantified-same q [] p r σ a b apart sees f same = same a b sees f
  quantified-same q (x ∷ xs) p r σ a b apart sees f same =
      let parts = and_parts (may_bind gs x) (list_all (may_bind gs) xs) apart in
      let sort = (and_parts (not (is_among (new_names gs) x.name) && not (is_among (used_enumerators gs) x.name)) (not (is_among (new_sorts gs) x.sort)) parts.0).1 in
      ap (λ (c : Carrier). of_values q (λ v. quantified (data_of (packed_by gs m)) q xs p ((x.name, v) ∷ b)) c) (sorts x.sort (not-true _ sort))
      ∙ ap (λ (g : Value → Bool). of_values q g (carrier_of (data_of m) x.sort))
      (fun_ext (λ v. quantified-same q xs p r ((x.name, None) ∷ σ) ((x.name, v) ∷ a) ((x.name, v) ∷ b) parts.1
      (sees-itself m gs F x.name v σ a b sees) (stays x v b parts.0 f) same))

  said-named : (x : Name) (d : Option Digit) (a b : Assignment) → Stands (data_of (packed_by gs m)) F d (looked_up a x) (looked_up b x) → F b →
      value (data_of (packed_by gs m)) b (term_for d x) ≡ value (data_of m) a (Term.Named x)
  said-named x None a b h f = ap (λ o. named_value (data_of (packed_by gs m)) o x) h ∙ named-same m gs F (looked_up a x) x
  said-named x (Some d) a b h f = (h.2 b f).0 ∙ ap (λ o. named_value (data_of m) o x) (sym h.1)

  -- what is compared is said by a digit of its value
  digit-is : (x : Term) (σ : Scope) (a b : Assignment) → is_apart gs x ≡ true → Sees m gs F σ a b → F b → DigitIs (data_of (packed_by gs m)) b (digit_in σ x) (said σ x)
  digit-is (Term.Named x) σ a b apart sees f = by (digit_for σ x) (sees x (not-true _ apart))
    where
      by : (d : Option Digit) → Stands (data_of (packed_by gs m)) F d (looked_up a x) (looked_up b x) → DigitIs (data_of (packed_by gs m)) b d (term_for d x)
      by None h = tt
      by (Some d) h = (h.2 b f).1
  digit-is x σ a b apart sees f = tt

  mutual
    pub value-said : (x : Term) (σ : Scope) (a b : Assignment) → is_apart gs x ≡ true → Sees m gs F σ a b → F b → value (data_of (packed_by gs m)) b (said σ x) ≡ value (data_of m) a x
    value-said (Term.Truth c) σ a b apart sees f = refl
    value-said (Term.Number k) σ a b apart sees f = refl
    value-said (Term.Named x) σ a b apart sees f = said-named x (digit_for σ x) a b (sees x (not-true _ apart)) f
    value-said (Term.Not x) σ a b apart sees f = ap (λ v. of_bool (not (is_true v))) (value-said x σ a b apart sees f)
    value-said (Term.Negative x) σ a b apart sees f = ap neg_ℤ (value-said x σ a b apart sees f)
    value-said (Term.Binary o x y) σ a b apart sees f =
        let parts = and_parts (is_apart gs x) (is_apart gs y) apart in
        value-compared (data_of (packed_by gs m)) b o (digit_in σ x) (said σ x) (said σ y) (digit-is x σ a b parts.0 sees f)
        ∙ ap (λ v. binary o v (value (data_of (packed_by gs m)) b (said σ y))) (value-said x σ a b parts.0 sees f) ∙ ap (λ v. binary o (value (data_of m) a x) v) (value-said y σ a b parts.1 sees f)
    value-said (Term.Apply g xs) σ a b apart sees f = ap (λ vs. function_value (data_of (packed_by gs m)) g vs) (values-said xs σ a b apart sees f) ∙ function-same m gs F g (values (data_of m) a xs)
    value-said (Term.Quantified q xs x) σ a b apart sees f =
        let parts = and_parts (list_all (may_bind gs) xs) (is_apart gs x) apart in
        ap of_bool (quantified-same q xs (λ d. is_true (value (data_of (packed_by gs m)) d (said (hidden xs σ) x))) (λ c. is_true (value (data_of m) c x)) σ a b parts.0 sees f
        (λ c d s g. ap is_true (value-said x (hidden xs σ) c d parts.1 s g)))

    pub values-said : (xs : Terms) (σ : Scope) (a b : Assignment) → all_apart gs xs ≡ true → Sees m gs F σ a b → F b → values (data_of (packed_by gs m)) b (all_said σ xs) ≡ values (data_of m) a xs
    values-said Terms.NoTerms σ a b apart sees f = refl
    values-said (Terms.Then x xs) σ a b apart sees f =
        let parts = and_parts (is_apart gs x) (all_apart gs xs) apart in
        ap (λ v. v ∷ values (data_of (packed_by gs m)) b (all_said σ xs)) (value-said x σ a b parts.0 sees f) ∙ ap (λ vs. value (data_of m) a x ∷ vs) (values-said xs σ a b parts.1 sees f)
