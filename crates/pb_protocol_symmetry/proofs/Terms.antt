-- A term's value is permuted with the values of its names.
use Rattle.std.proofs.Common.{◌≡◌, ℕ, Bool, true, false, true≢false, not, if◌then◌else◌, List, [], ◌∷◌, refl, sym, ap, ◌∙◌, subst}
use Rattle.std.specs.Prelude.{pos, neg_ℤ, Option, Some, None}
use Rattle.std.specs.Ordering.{int_eq}
use Rattle.std.proofs.lemmas.Slice.Eq.{bytes_eq-Decides}
use Rattle.pb_base_values.specs.Carrier.{Value, Carrier, Tuple, of_bool, contains}
use Rattle.pb_text_tree.specs.declared.operator.Quantifier.{Quantifier}
use Rattle.pb_text_meaning.specs.declared.function.NamedFunction.{NamedFunction}
use Rattle.pb_text_meaning.specs.declared.function.NamedFunction.TheVariants.{If}
use Rattle.pb_text_meaning.specs.Functions.{named_function}
use Rattle.pb_text_meaning.specs.Syntax.{Name, same_name, Variable, Term, Terms, Spec}
use Rattle.pb_text_meaning.specs.Sorts.{carrier_of}
use Rattle.pb_text_meaning.specs.Value.{Assignment, looked_up, of_values, quantified, is_true, binary, function_of_three, function_value}
use Rattle.pb_text_counting.specs.Counting.{is_counting}
use Rattle.pb_protocol_meaning.specs.Meaning.{Functions, named_meaning, given_arguments, applied_meaning, meaning, meanings, count, for_each, true_count}
use Rattle.pb_protocol_symmetry.specs.Permutation.{IsPermutation, AreElements, Kind, Element, Plain, kind_of, moved, all_moved, IsInKind, AreInKinds}
use Rattle.pb_protocol_symmetry.specs.Kinds.{Signature, IsAmong, IsUnknown, sort_in, extended, enumerator_value, HasKind, ArePlain, HaveKinds}
use Rattle.pb_protocol_symmetry.specs.Kinds as kinds
use Rattle.pb_protocol_symmetry.specs.Laws.{AreCarried, AreFunctionsCarried, TermsAreCarried}
use Rattle.pb_protocol_symmetry.proofs.Carriers.{values-moved, values-same, same_when_moved}
use Rattle.pb_protocol_symmetry.proofs.Distinct.{carrier-distinct}
use Rattle.pb_protocol_symmetry.proofs.Counts.{total, count-total, total-same, total-moved}

pub some≢none : {P : Type 0} {A : Type 0} (x : A) → Some x ≡ None → P
some≢none x e = absurd (true≢false (ap is_some e))
  where
    is_some : {A : Type 0} → Option A → Bool
    is_some (Some x) = true
    is_some None = false

pub some_same : {A : Type 0} (x y : A) → Some x ≡ Some y → x ≡ y
some_same x y e = ap (λ o. or o x) e
  where
    or : {A : Type 0} → Option A → A → A
    or (Some x) d = x
    or None d = d

choice-moved : (p : Value → Value) (k : Kind) (b : Bool) (x y : Value) → (if b then moved p k x else moved p k y) ≡ moved p k (if b then x else y)
choice-moved p k true x y = refl
choice-moved p k false x y = refl

module _ (spec : Spec) (sort : Name) (M : Carrier) (p back : Value → Value)
    (permutes : IsPermutation M p back) (elements : AreElements (carrier_of spec sort) M) where
  abbrev C : Carrier
  C = carrier_of spec sort

  abbrev Carried : List Variable → Assignment → Assignment → Type 0
  Carried scope a b = AreCarried C sort p scope a b

  -- ---- variables

  pub record Looked (s : Name) (a b : Assignment) (x : Name) : Type 0 where
    pub value : Value
    pub first : looked_up a x ≡ Some value
    pub second : looked_up b x ≡ Some (moved p (kind_of sort s) value)
    pub kind : IsInKind C (kind_of sort s) value

  looked : (scope : List Variable) (a b : Assignment) → Carried scope a b → (x s : Name) → sort_in scope x ≡ Some s → Looked s a b x
  looked [] [] [] h x s e = some≢none s (sym e)
  looked [] [] (_ ∷ b) h x s e = absurd h
  looked [] (_ ∷ a) b h x s e = absurd h
  looked (z ∷ scope) [] b h x s e = absurd h
  looked (z ∷ scope) (_ ∷ a) [] h x s e = absurd h
  looked (z ∷ scope) ((y, v) ∷ a) ((y', w) ∷ b) h x s e = by (same_name z.name x) refl (looked scope a b h.4 x s) e
    where
      by : (d : Bool) → same_name z.name x ≡ d → (sort_in scope x ≡ Some s → Looked s a b x) → (if d then Some z.sort else sort_in scope x) ≡ Some s → Looked s ((y, v) ∷ a) ((y', w) ∷ b) x
      by true t later e =
          subst (λ (n : Name). Looked n ((y, v) ∷ a) ((y', w) ∷ b) x) (some_same z.sort s e) (record {
            value = v;
            first = ap (λ d. if d then Some v else looked_up a x) (ap (λ n. same_name n x) h.0 ∙ t);
            second = ap (λ d. if d then Some w else looked_up b x) (ap (λ n. same_name n x) h.1 ∙ t) ∙ ap (λ u. Some u) h.2;
            kind = h.3;
          })
      by false t later e =
          let r = later e in
          record {
            value = r.value;
            first = ap (λ d. if d then Some v else looked_up a x) (ap (λ n. same_name n x) h.0 ∙ t) ∙ r.first;
            second = ap (λ d. if d then Some w else looked_up b x) (ap (λ n. same_name n x) h.1 ∙ t) ∙ r.second;
            kind = r.kind;
          }

  not-looked : (scope : List Variable) (a b : Assignment) → Carried scope a b → (x : Name) → sort_in scope x ≡ None → (looked_up a x ≡ None) × (looked_up b x ≡ None)
  not-looked [] [] [] h x e = (refl, refl)
  not-looked [] [] (_ ∷ b) h x e = absurd h
  not-looked [] (_ ∷ a) b h x e = absurd h
  not-looked (z ∷ scope) [] b h x e = absurd h
  not-looked (z ∷ scope) (_ ∷ a) [] h x e = absurd h
  not-looked (z ∷ scope) ((y, v) ∷ a) ((y', w) ∷ b) h x e = by (same_name z.name x) refl (not-looked scope a b h.4 x) e
    where
      by : (d : Bool) → same_name z.name x ≡ d → (sort_in scope x ≡ None → (looked_up a x ≡ None) × (looked_up b x ≡ None)) →
          (if d then Some z.sort else sort_in scope x) ≡ None → (looked_up ((y, v) ∷ a) x ≡ None) × (looked_up ((y', w) ∷ b) x ≡ None)
      by true t later e = some≢none z.sort e
      by false t later e =
          let r = later e in (
            ap (λ d. if d then Some v else looked_up a x) (ap (λ n. same_name n x) h.0 ∙ t) ∙ r.0,
            ap (λ d. if d then Some w else looked_up b x) (ap (λ n. same_name n x) h.1 ∙ t) ∙ r.1,
          )

  -- ---- quantifiers

  pub over-values : (k : Kind) (c : Carrier) → ((k ≡ Element) → c ≡ C) → (q : Quantifier) (Q R : Value → Bool) → ((v : Value) → IsInKind C k v → Q (moved p k v) ≡ R v) →
      of_values q Q c ≡ of_values q R c
  over-values Element c same q Q R h =
      subst (λ (d : Carrier). of_values q Q d ≡ of_values q R d) (sym (same refl)) (values-moved C M p back permutes elements q Q R h)
  over-values Plain c same q Q R h = values-same q Q R c (λ v. h v tt)

  pub kind-carrier : (s : Name) → kind_of sort s ≡ Element → carrier_of spec s ≡ C
  kind-carrier s = by (same_name s sort) refl
    where
      plain≢element : {P : Type 0} → Plain ≡ Element → P
      plain≢element e = absurd (true≢false (sym (ap is_element e)))
        where
          is_element : Kind → Bool
          is_element Element = true
          is_element Plain = false

      by : (d : Bool) → same_name s sort ≡ d → (if d then Element else Plain) ≡ Element → carrier_of spec s ≡ C
      by true t e = ap (carrier_of spec) ((bytes_eq-Decides s sort).0 t)
      by false t e = plain≢element e

  pub quantified-moved : (q : Quantifier) (xs scope : List Variable) (P Q : Assignment → Bool) →
      ((a b : Assignment) → Carried (extended xs scope) a b → Q b ≡ P a) →
      (a b : Assignment) → Carried scope a b → quantified spec q xs Q b ≡ quantified spec q xs P a
  quantified-moved q [] scope P Q h a b ab = h a b ab
  quantified-moved q (x ∷ xs) scope P Q h a b ab =
      over-values (kind_of sort x.sort) (carrier_of spec x.sort) (kind-carrier x.sort) q
      (λ v. quantified spec q xs Q ((x.name, v) ∷ b)) (λ v. quantified spec q xs P ((x.name, v) ∷ a))
      (λ v k. quantified-moved q xs (x ∷ scope) P Q h ((x.name, v) ∷ a) ((x.name, moved p (kind_of sort x.sort) v) ∷ b) (refl, refl, refl, k, ab))

  -- ---- counts

  over-totals : (k : Kind) (c : Carrier) → ((k ≡ Element) → c ≡ C) → (F G : Value → ℕ) → ((v : Value) → IsInKind C k v → F (moved p k v) ≡ G v) → total F c ≡ total G c
  over-totals Element c same F G h =
      subst (λ (d : Carrier). total F d ≡ total G d) (sym (same refl)) (total-moved C M p back permutes elements (carrier-distinct spec sort) F G h)
  over-totals Plain c same F G h = total-same F G c (λ v e. h v tt)

  counted-moved : (xs scope : List Variable) (P Q : Assignment → Bool) →
      ((a b : Assignment) → Carried (extended xs scope) a b → Q b ≡ P a) →
      (a b : Assignment) → Carried scope a b → true_count (for_each spec xs Q b) ≡ true_count (for_each spec xs P a)
  counted-moved [] scope P Q h a b ab = ap (λ (t : Bool). true_count (t ∷ [])) (h a b ab)
  counted-moved (x ∷ xs) scope P Q h a b ab =
      count-total (λ v. for_each spec xs Q ((x.name, v) ∷ b)) (carrier_of spec x.sort) ∙
      (over-totals (kind_of sort x.sort) (carrier_of spec x.sort) (kind-carrier x.sort)
      (λ v. true_count (for_each spec xs Q ((x.name, v) ∷ b))) (λ v. true_count (for_each spec xs P ((x.name, v) ∷ a)))
      (λ v k. counted-moved xs (x ∷ scope) P Q h ((x.name, v) ∷ a) ((x.name, moved p (kind_of sort x.sort) v) ∷ b) (refl, refl, refl, k, ab)) ∙
      sym (count-total (λ v. for_each spec xs P ((x.name, v) ∷ a)) (carrier_of spec x.sort)))

  -- ---- functions

  module _ (signatures : List Signature) (before after : Functions) (fs : AreFunctionsCarried C sort p signatures before after) where
    given-none : (f : Name) → IsUnknown signatures f → (vs : Tuple) → (given_arguments before f vs ≡ None) × (given_arguments after f vs ≡ None)
    given-none f new [] = (refl, refl)
    given-none f new (v ∷ vs) = fs.unknown f new (v ∷ vs)

    abbrev pub IsMoved : Kind → Value → Value → Type 0
    IsMoved k v w = (w ≡ moved p k v) × IsInKind C k v

    called : (f : Name) (z : Variable) (zs : List Variable) (k : Kind) → IsAmong signatures (record { name = f; parameters = z ∷ zs; kind = Some k }) →
        (vs ws : Tuple) → ws ≡ all_moved sort p (z ∷ zs) vs → AreInKinds C sort (z ∷ zs) vs →
        IsMoved k (applied_meaning spec (given_arguments before f vs) f vs) (applied_meaning spec (given_arguments after f ws) f ws)
    called f z zs k among [] ws e h = absurd h
    called f z zs k among (v ∷ vs) ws e h =
        let r = fs.known _ among k refl (v ∷ vs) h in
        subst (λ (us : Tuple). IsMoved k (applied_meaning spec (given_arguments before f (v ∷ vs)) f (v ∷ vs)) (applied_meaning spec (given_arguments after f us) f us)) (sym e) (
          ap (λ o. applied_meaning spec o f (all_moved sort p (z ∷ zs) (v ∷ vs))) r.then_moved ∙ ap (moved p k) (sym (ap (λ o. applied_meaning spec o f (v ∷ vs)) r.first)),
          subst (IsInKind C k) (sym (ap (λ o. applied_meaning spec o f (v ∷ vs)) r.first)) r.kind,
        )

    -- a function of data
    data-function : (f : Name) → IsUnknown signatures f → (vs : Tuple) →
        (applied_meaning spec (given_arguments before f vs) f vs ≡ function_value spec f vs) × (applied_meaning spec (given_arguments after f vs) f vs ≡ function_value spec f vs)
    data-function f new vs =
        let n = given-none f new vs in (ap (λ o. applied_meaning spec o f vs) n.0, ap (λ o. applied_meaning spec o f vs) n.1)

    choice : (f : Name) → named_function f ≡ Some If → IsUnknown signatures f → (c x y : Value) →
        (applied_meaning spec (given_arguments before f (c ∷ x ∷ y ∷ [])) f (c ∷ x ∷ y ∷ []) ≡ (if is_true c then x else y)) ×
        (applied_meaning spec (given_arguments after f (c ∷ x ∷ y ∷ [])) f (c ∷ x ∷ y ∷ []) ≡ (if is_true c then x else y))
    choice f e new c x y =
        let d = data-function f new (c ∷ x ∷ y ∷ []) in
        let same = ap (λ (o : Option NamedFunction). function_of_three o c x y) e in
        (d.0 ∙ same, d.1 ∙ same)

    in-choice : (k : Kind) (b : Bool) (x y : Value) → IsInKind C k x → IsInKind C k y → IsInKind C k (if b then x else y)
    in-choice k true x y h i = h
    in-choice k false x y h i = i

    -- ---- applications that don't count

    abbrev applied : Functions → Name → Tuple → Value
    applied functions f vs = applied_meaning spec (given_arguments functions f vs) f vs

    not-counted : (functions : Functions) (a : Assignment) (f : Name) (xs : Terms) → is_counting f ≡ false →
        meaning spec functions a (Term.Apply f xs) ≡ applied functions f (meanings spec functions a xs)
    not-counted functions a f xs e = ap (λ b. if b then pos (count spec functions a xs) else applied functions f (meanings spec functions a xs)) e

    counted : (functions : Functions) (a : Assignment) (f : Name) (xs : Terms) → is_counting f ≡ true →
        meaning spec functions a (Term.Apply f xs) ≡ pos (count spec functions a xs)
    counted functions a f xs e = ap (λ b. if b then pos (count spec functions a xs) else applied functions f (meanings spec functions a xs)) e

    -- as the applications are, so are the terms
    by-applications : (k : Kind) (f : Name) (xs : Terms) (a b : Assignment) → is_counting f ≡ false →
        IsMoved k (applied before f (meanings spec before a xs)) (applied after f (meanings spec after b xs)) →
        IsMoved k (meaning spec before a (Term.Apply f xs)) (meaning spec after b (Term.Apply f xs))
    by-applications k f xs a b e r = (
      not-counted after b f xs e ∙ (r.0 ∙ ap (moved p k) (sym (not-counted before a f xs e))),
      subst (IsInKind C k) (sym (not-counted before a f xs e)) r.1,
    )

    -- ---- terms

    equal-moved : (v w v' w' : Value) → v' ≡ p v → w' ≡ p w → int_eq v' w' ≡ int_eq v w
    equal-moved v w v' w' hv hw =
        ap (λ u. int_eq u w') hv ∙ (ap (int_eq (p v)) hw ∙ same_when_moved C M p back permutes elements v w)

    enumerator : (scope : List Variable) (x : Name) → sort_in scope x ≡ None → IsUnknown signatures x → (a b : Assignment) → Carried scope a b →
        (meaning spec before a (Term.Named x) ≡ enumerator_value spec x) × (meaning spec after b (Term.Named x) ≡ enumerator_value spec x)
    enumerator scope x e new a b ab =
        let n = not-looked scope a b ab x e in
        let u = fs.unknown x new [] in (
          ap (λ o. named_meaning spec o (before x []) x) n.0 ∙ ap (λ o. named_meaning spec None o x) u.0,
          ap (λ o. named_meaning spec o (after x []) x) n.1 ∙ ap (λ o. named_meaning spec None o x) u.1,
        )

    mutual
      pub term-moved : (scope : List Variable) (k : Kind) (x : Term) → HasKind spec sort M signatures scope k x →
          (a b : Assignment) → Carried scope a b → IsMoved k (meaning spec before a x) (meaning spec after b x)
      term-moved _ _ _ (kinds.OfTruth scope t) a b ab = (refl, tt)
      term-moved _ _ _ (kinds.OfNumber scope n) a b ab = (refl, tt)
      term-moved _ _ _ (kinds.OfVariable scope x s e) a b ab =
          let r = looked scope a b ab x s e in
          let here = ap (λ o. named_meaning spec o (before x []) x) r.first in (
            ap (λ o. named_meaning spec o (after x []) x) r.second ∙ ap (moved p (kind_of sort s)) (sym here),
            subst (IsInKind C (kind_of sort s)) (sym here) r.kind,
          )
      term-moved _ _ _ (kinds.OfScalar scope x k e among) a b ab =
          let n = not-looked scope a b ab x e in
          let r = fs.known _ among k refl [] tt in
          let here = ap (λ o. named_meaning spec o (before x []) x) n.0 ∙ ap (λ o. named_meaning spec None o x) r.first in (
            ap (λ o. named_meaning spec o (after x []) x) n.1 ∙ (ap (λ o. named_meaning spec None o x) r.then_moved ∙ ap (moved p k) (sym here)),
            subst (IsInKind C k) (sym here) r.kind,
          )
      term-moved _ _ _ (kinds.OfEnumerator scope x e new) a b ab =
          let r = enumerator scope x e new a b ab in (r.1 ∙ sym r.0, tt)
      term-moved _ _ _ (kinds.OfFixed scope x e new stays is_element) a b ab =
          let r = enumerator scope x e new a b ab in (
            r.1 ∙ (sym (permutes.fixes (enumerator_value spec x) stays) ∙ ap p (sym r.0)),
            ap (contains C) r.0 ∙ is_element,
          )
      term-moved _ _ _ (kinds.OfNot scope x h) a b ab = (ap (λ v. of_bool (not (is_true v))) (term-moved scope Plain x h a b ab).0, tt)
      term-moved _ _ _ (kinds.OfNegative scope x h) a b ab = (ap neg_ℤ (term-moved scope Plain x h a b ab).0, tt)
      term-moved _ _ _ (kinds.OfBinary scope o x y h i) a b ab =
          (ap (λ v. binary o v (meaning spec after b y)) (term-moved scope Plain x h a b ab).0 ∙ ap (binary o (meaning spec before a x)) (term-moved scope Plain y i a b ab).0, tt)
      term-moved _ _ _ (kinds.OfEqual scope x y h i) a b ab = (ap of_bool (equal-moved _ _ _ _ (term-moved scope Element x h a b ab).0 (term-moved scope Element y i a b ab).0), tt)
      term-moved _ _ _ (kinds.OfDifferent scope x y h i) a b ab = (ap (λ t. of_bool (not t)) (equal-moved _ _ _ _ (term-moved scope Element x h a b ab).0 (term-moved scope Element y i a b ab).0), tt)
      term-moved _ _ _ (kinds.OfChoice scope k f c x y e uncounted new hc hx hy) a b ab =
          by-applications k f (Terms.Then c (Terms.Then x (Terms.Then y Terms.NoTerms))) a b uncounted (
          let rc = term-moved scope Plain c hc a b ab in
          let rx = term-moved scope k x hx a b ab in
          let ry = term-moved scope k y hy a b ab in
          let vc = meaning spec before a c in
          let vx = meaning spec before a x in
          let vy = meaning spec before a y in
          let here = (choice f e new vc vx vy).0 in
          let there = (choice f e new (meaning spec after b c) (meaning spec after b x) (meaning spec after b y)).1 in
          let both : IsMoved k (applied before f (vc ∷ vx ∷ vy ∷ [])) (applied after f (meaning spec after b c ∷ meaning spec after b x ∷ meaning spec after b y ∷ [])) = (
            there ∙ (ap (λ v. if is_true v then meaning spec after b x else meaning spec after b y) rc.0 ∙
                (ap (λ v. if is_true vc then v else meaning spec after b y) rx.0 ∙
                (ap (λ v. if is_true vc then moved p k vx else v) ry.0 ∙
                (choice-moved p k (is_true vc) vx vy ∙ ap (moved p k) (sym here))))),
            subst (IsInKind C k) (sym here) (in-choice k (is_true vc) vx vy rx.1 ry.1),
          ) in both)
      term-moved _ _ _ (kinds.OfFunction scope f xs uncounted new h) a b ab =
          let vs = meanings spec before a xs in
          let same = plain-moved scope xs h a b ab in
          by-applications Plain f xs a b uncounted (ap (λ (us : Tuple). applied after f us) same ∙ ((data-function f new vs).1 ∙ sym (data-function f new vs).0), tt)
      term-moved _ _ _ (kinds.OfCall scope f z zs k xs uncounted among h) a b ab =
          let r = terms-moved scope (z ∷ zs) xs h a b ab in
          by-applications k f xs a b uncounted (called f z zs k among (meanings spec before a xs) (meanings spec after b xs) r.0 r.1)
      term-moved _ _ _ (kinds.OfCount scope f q xs x counts h) a b ab =
          let ts = Terms.Then (Term.Quantified q xs x) Terms.NoTerms in (
            counted after b f ts counts ∙
                (ap pos (counted-moved xs scope (λ c. is_true (meaning spec before c x)) (λ c. is_true (meaning spec after c x))
                (λ c d cd. ap is_true (term-moved (extended xs scope) Plain x h c d cd).0) a b ab) ∙
                sym (counted before a f ts counts)),
            tt,
          )
      term-moved _ _ _ (kinds.OfQuantified scope q xs x h) a b ab = (
        ap of_bool (quantified-moved q xs scope (λ c. is_true (meaning spec before c x)) (λ c. is_true (meaning spec after c x))
            (λ c d cd. ap is_true (term-moved (extended xs scope) Plain x h c d cd).0) a b ab),
        tt,
      )

      plain-moved : (scope : List Variable) (xs : Terms) → ArePlain spec sort M signatures scope xs →
          (a b : Assignment) → Carried scope a b → meanings spec after b xs ≡ meanings spec before a xs
      plain-moved _ _ (kinds.NonePlain scope) a b ab = refl
      plain-moved _ _ (kinds.ThenPlain scope x xs h hs) a b ab =
          ap (λ v. v ∷ meanings spec after b xs) (term-moved scope Plain x h a b ab).0 ∙
          ap (λ (vs : Tuple). meaning spec before a x ∷ vs) (plain-moved scope xs hs a b ab)

      pub terms-moved : (scope params : List Variable) (xs : Terms) → HaveKinds spec sort M signatures scope params xs →
          (a b : Assignment) → Carried scope a b →
          (meanings spec after b xs ≡ all_moved sort p params (meanings spec before a xs)) × AreInKinds C sort params (meanings spec before a xs)
      terms-moved _ _ _ (kinds.NoKinds scope) a b ab = (refl, tt)
      terms-moved _ _ _ (kinds.ThenKind scope z zs x xs h hs) a b ab =
          let r = term-moved scope (kind_of sort z.sort) x h a b ab in
          let rs = terms-moved scope zs xs hs a b ab in (
            ap (λ v. v ∷ meanings spec after b xs) r.0 ∙ ap (λ (vs : Tuple). moved p (kind_of sort z.sort) (meaning spec before a x) ∷ vs) rs.0,
            (r.1, rs.1),
          )

pub carried : TermsAreCarried
carried spec sort M p back permutes elements signatures before after fs scope k x h a b ab =
    term-moved spec sort M p back permutes elements signatures before after fs scope k x h a b ab
