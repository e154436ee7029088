-- A term that passes the test has the kind.
use Rattle.std.proofs.Common.{◌≡◌, inl, inr, Bool, true, false, true≢false, not, ◌&&◌, if◌then◌else◌, List, [], ◌∷◌, refl, sym, ap, ◌∙◌, subst}
use Rattle.std.specs.Prelude.{⊤, Option, Some, None}
use Rattle.std.proofs.lemmas.Bool.{and_parts, not-true}
use Rattle.std.proofs.lemmas.Slice.Eq.{bytes_eq-Decides}
use Rattle.pb_base_values.specs.Carrier.{Carrier, contains}
use Rattle.pb_text_meaning.specs.declared.function.NamedFunction.{NamedFunction}
use Rattle.pb_text_meaning.specs.declared.function.NamedFunction.TheVariants.{If, Succ, Pred, Abs, Max, Min, Pos2Nat, Pos2Int, Nat2Int}
use Rattle.pb_text_meaning.specs.Functions.{named_function}
use Rattle.pb_text_meaning.specs.Syntax.{Name, same_name, Variable, Operator, Term, Terms, Spec}
use Rattle.pb_text_meaning.specs.Sorts.{carrier_of, declared}
use Rattle.pb_text_counting.specs.Counting.{is_counting}
use Rattle.pb_protocol_symmetry.specs.Permutation.{Kind, Element, Plain, kind_of}
use Rattle.pb_protocol_symmetry.specs.Kinds.{Signature, IsAmong, IsUnknown, sort_in, extended, enumerator_value, HasKind, ArePlain, HaveKinds}
use Rattle.pb_protocol_symmetry.specs.Kinds as kinds
use Rattle.pb_protocol_symmetry.proofs.Terms.{some_same}
use Rattle.pb_protocol_symmetry.specs.Test.{signature_in, when, same_kind, is_plain, is_equality, operator_kind, has_enumerator, enumerator_kind, bare_kind, scalar_kind, name_kind, are_for, are_plain, both_kinds, choice_kind, is_choice, call_kind, applied_kind, kind_in, kinds_in, count_kind, body_kind, TestedTermsHaveKinds}

none≢some : {P : Type 0} {A : Type 0} (x : A) → None ≡ Some x → P
none≢some x e = absurd (true≢false (sym (ap is_some e)))
  where
    is_some : {A : Type 0} → Option A → Bool
    is_some (Some x) = true
    is_some None = false

-- what `when` gives
when-some : (b : Bool) (j k : Kind) → when b j ≡ Some k → (b ≡ true) × (j ≡ k)
when-some true j k e = (refl, some_same j k e)
when-some false j k e = none≢some k e

pub plain-some : (o : Option Kind) → is_plain o ≡ true → o ≡ Some Plain
plain-some (Some Plain) e = refl
plain-some (Some Element) e = absurd (true≢false (sym e))
plain-some None e = absurd (true≢false (sym e))

pub same-kinds : (j k : Kind) → same_kind j k ≡ true → j ≡ k
same-kinds Element Element e = refl
same-kinds Plain Plain e = refl
same-kinds Element Plain e = absurd (true≢false (sym e))
same-kinds Plain Element e = absurd (true≢false (sym e))

choice-is-if : (g : Option NamedFunction) → is_choice g ≡ true → g ≡ Some If
choice-is-if (Some If) e = refl
choice-is-if (Some Succ) e = absurd (true≢false (sym e))
choice-is-if (Some Pred) e = absurd (true≢false (sym e))
choice-is-if (Some Abs) e = absurd (true≢false (sym e))
choice-is-if (Some Max) e = absurd (true≢false (sym e))
choice-is-if (Some Min) e = absurd (true≢false (sym e))
choice-is-if (Some Pos2Nat) e = absurd (true≢false (sym e))
choice-is-if (Some Pos2Int) e = absurd (true≢false (sym e))
choice-is-if (Some Nat2Int) e = absurd (true≢false (sym e))
choice-is-if None e = absurd (true≢false (sym e))

-- ---- names

among-of : (signatures : List Signature) (x : Name) (s : Signature) → signature_in signatures x ≡ Some s → IsAmong signatures s × (s.name ≡ x)
among-of [] x s e = none≢some s e
among-of (t ∷ signatures) x s e = by (same_name t.name x) refl (among-of signatures x s) e
  where
    by : (b : Bool) → same_name t.name x ≡ b → (signature_in signatures x ≡ Some s → IsAmong signatures s × (s.name ≡ x)) →
        (if b then Some t else signature_in signatures x) ≡ Some s → IsAmong (t ∷ signatures) s × (s.name ≡ x)
    by true h later e = (inl (sym (some_same t s e)), ap (λ (u : Signature). u.name) (sym (some_same t s e)) ∙ (bytes_eq-Decides t.name x).0 h)
    by false h later e = let r = later e in (inr r.0, r.1)

new-of : (signatures : List Signature) (x : Name) → signature_in signatures x ≡ None → IsUnknown signatures x
new-of [] x e = tt
new-of (t ∷ signatures) x e = by (same_name t.name x) refl (new-of signatures x) e
  where
    by : (b : Bool) → same_name t.name x ≡ b → (signature_in signatures x ≡ None → IsUnknown signatures x) →
        (if b then Some t else signature_in signatures x) ≡ None → (same_name t.name x ≡ false) × IsUnknown signatures x
    by true h later e = none≢some t (sym e)
    by false h later e = (h, later e)

module _ (spec : Spec) (sort : Name) (M : Carrier) (signatures : List Signature) where
  abbrev Has : List Variable → Kind → Term → Type 0
  Has scope k x = HasKind spec sort M signatures scope k x

  enumerator-sound : (scope : List Variable) (x : Name) (k : Kind) → sort_in scope x ≡ None → IsUnknown signatures x → enumerator_kind spec sort M x ≡ Some k → Has scope k (Term.Named x)
  enumerator-sound scope x k none new e = by (has_enumerator (declared spec.sorts sort) x) e
    where
      by : (b : Bool) → (if b then when (not (contains M (enumerator_value spec x)) && contains (carrier_of spec sort) (enumerator_value spec x)) Element else Some Plain) ≡ Some k →
          Has scope k (Term.Named x)
      by true e =
          let w = when-some _ Element k e in
          let h = and_parts (not (contains M (enumerator_value spec x))) (contains (carrier_of spec sort) (enumerator_value spec x)) w.0 in
          subst (λ j. Has scope j (Term.Named x)) w.1 (kinds.OfFixed scope x none new (not-true (contains M (enumerator_value spec x)) h.0) h.1)
      by false e = subst (λ j. Has scope j (Term.Named x)) (some_same Plain k e) (kinds.OfEnumerator scope x none new)

  name-sound : (scope : List Variable) (x : Name) (k : Kind) (o : Option Name) → sort_in scope x ≡ o → (t : Option Signature) → signature_in signatures x ≡ t →
      name_kind sort (scalar_kind (enumerator_kind spec sort M x) t) o ≡ Some k → Has scope k (Term.Named x)
  name-sound scope x k (Some s) h t f e = subst (λ j. Has scope j (Term.Named x)) (some_same (kind_of sort s) k e) (kinds.OfVariable scope x s h)
  name-sound scope x k None h None f e = enumerator-sound scope x k h (new-of signatures x f) e
  name-sound scope x k None h (Some s) f e =
      let r = among-of signatures x s f in
      scalar s.parameters s.kind (subst (λ (n : Name). IsAmong signatures (record { name = n; parameters = s.parameters; kind = s.kind })) r.1 r.0) e
    where
      scalar : (ps : List Variable) (j : Option Kind) → IsAmong signatures (record { name = x; parameters = ps; kind = j }) → bare_kind ps j ≡ Some k → Has scope k (Term.Named x)
      scalar [] j among e =
          kinds.OfScalar scope x k h (subst (λ (o : Option Kind). IsAmong signatures (record { name = x; parameters = []; kind = o })) e among)
      scalar (p ∷ ps) j among e = none≢some k e

  -- ---- operators

  equality-sound : (scope : List Variable) (o : Operator) (x y : Term) → is_equality o ≡ true → Has scope Element x → Has scope Element y → Has scope Plain (Term.Binary o x y)
  equality-sound scope Operator.Equal x y e h i = kinds.OfEqual scope x y h i
  equality-sound scope Operator.NotEqual x y e h i = kinds.OfDifferent scope x y h i
  equality-sound scope Operator.And x y e h i = absurd (true≢false (sym e))
  equality-sound scope Operator.Or x y e h i = absurd (true≢false (sym e))
  equality-sound scope Operator.Implies x y e h i = absurd (true≢false (sym e))
  equality-sound scope Operator.Less x y e h i = absurd (true≢false (sym e))
  equality-sound scope Operator.LessEqual x y e h i = absurd (true≢false (sym e))
  equality-sound scope Operator.Greater x y e h i = absurd (true≢false (sym e))
  equality-sound scope Operator.GreaterEqual x y e h i = absurd (true≢false (sym e))
  equality-sound scope Operator.Plus x y e h i = absurd (true≢false (sym e))
  equality-sound scope Operator.Minus x y e h i = absurd (true≢false (sym e))
  equality-sound scope Operator.Times x y e h i = absurd (true≢false (sym e))
  equality-sound scope Operator.Div x y e h i = absurd (true≢false (sym e))
  equality-sound scope Operator.Mod x y e h i = absurd (true≢false (sym e))

  -- a term has any kind that its test may have given
  abbrev IsSound : List Variable → Term → Option Kind → Type 0
  IsSound scope x o = (k : Kind) → o ≡ Some k → Has scope k x

  operator-sound : (scope : List Variable) (o : Operator) (x y : Term) (a b : Option Kind) → IsSound scope x a → IsSound scope y b → IsSound scope (Term.Binary o x y) (operator_kind o a b)
  operator-sound scope o x y (Some Plain) (Some Plain) h i k e = subst (λ j. Has scope j (Term.Binary o x y)) (some_same Plain k e) (kinds.OfBinary scope o x y (h Plain refl) (i Plain refl))
  operator-sound scope o x y (Some Element) (Some Element) h i k e =
      let w = when-some (is_equality o) Plain k e in
      subst (λ j. Has scope j (Term.Binary o x y)) w.1 (equality-sound scope o x y w.0 (h Element refl) (i Element refl))
  operator-sound scope o x y (Some Plain) (Some Element) h i k e = none≢some k e
  operator-sound scope o x y (Some Element) (Some Plain) h i k e = none≢some k e
  operator-sound scope o x y None b h i k e = none≢some k e
  operator-sound scope o x y (Some j) None h i k e = none≢some k e

  -- ---- arguments

  abbrev AreSound : List Variable → Terms → List (Option Kind) → Type 0
  AreSound scope Terms.NoTerms [] = ⊤
  AreSound scope (Terms.Then x xs) (o ∷ os) = IsSound scope x o × AreSound scope xs os
  AreSound scope Terms.NoTerms (o ∷ os) = ⊥
  AreSound scope (Terms.Then x xs) [] = ⊥

  pub arguments-sound : (scope zs : List Variable) (xs : Terms) (os : List (Option Kind)) → AreSound scope xs os → are_for sort zs os ≡ true → HaveKinds spec sort M signatures scope zs xs
  arguments-sound scope [] Terms.NoTerms [] h e = kinds.NoKinds scope
  arguments-sound scope (z ∷ zs) Terms.NoTerms [] h e = absurd (true≢false (sym e))
  arguments-sound scope zs Terms.NoTerms (o ∷ os) h e = absurd h
  arguments-sound scope zs (Terms.Then x xs) [] h e = absurd h
  arguments-sound scope [] (Terms.Then x xs) (o ∷ os) h e = absurd (true≢false (sym e))
  arguments-sound scope (z ∷ zs) (Terms.Then x xs) (None ∷ os) h e = absurd (true≢false (sym e))
  arguments-sound scope (z ∷ zs) (Terms.Then x xs) (Some k ∷ os) h e =
      let r = and_parts (same_kind (kind_of sort z.sort) k) (are_for sort zs os) e in
      kinds.ThenKind scope z zs x xs (subst (λ j. Has scope j x) (sym (same-kinds (kind_of sort z.sort) k r.0)) (h.0 k refl)) (arguments-sound scope zs xs os h.1 r.1)

  plains-sound : (scope : List Variable) (xs : Terms) (os : List (Option Kind)) → AreSound scope xs os → are_plain os ≡ true → ArePlain spec sort M signatures scope xs
  plains-sound scope Terms.NoTerms [] h e = kinds.NonePlain scope
  plains-sound scope Terms.NoTerms (o ∷ os) h e = absurd h
  plains-sound scope (Terms.Then x xs) [] h e = absurd h
  plains-sound scope (Terms.Then x xs) (o ∷ os) h e =
      let r = and_parts (is_plain o) (are_plain os) e in
      kinds.ThenPlain scope x xs (h.0 Plain (plain-some o r.0)) (plains-sound scope xs os h.1 r.1)

  both-some : (a b : Option Kind) (k : Kind) → both_kinds a b ≡ Some k → (a ≡ Some k) × (b ≡ Some k)
  both-some (Some i) (Some j) k e =
      let w = when-some (same_kind i j) i k e in
      (ap (λ l. Some l) w.1, ap (λ l. Some l) (sym (same-kinds i j w.0) ∙ w.1))
  both-some None b k e = none≢some k e
  both-some (Some i) None k e = none≢some k e

  choice-sound : (scope : List Variable) (f : Name) → named_function f ≡ Some If → is_counting f ≡ false → IsUnknown signatures f → (xs : Terms) (os : List (Option Kind)) → AreSound scope xs os →
      IsSound scope (Term.Apply f xs) (choice_kind os)
  choice-sound scope f is uncounted new Terms.NoTerms [] h k e = none≢some k e
  choice-sound scope f is uncounted new Terms.NoTerms (o ∷ os) h k e = absurd h
  choice-sound scope f is uncounted new (Terms.Then x xs) [] h k e = absurd h
  choice-sound scope f is uncounted new (Terms.Then x Terms.NoTerms) (a ∷ []) h k e = none≢some k e
  choice-sound scope f is uncounted new (Terms.Then x Terms.NoTerms) (a ∷ b ∷ os) h k e = absurd h.1
  choice-sound scope f is uncounted new (Terms.Then x (Terms.Then y ys)) (a ∷ []) h k e = absurd h.1
  choice-sound scope f is uncounted new (Terms.Then x (Terms.Then y Terms.NoTerms)) (a ∷ b ∷ []) h k e = none≢some k e
  choice-sound scope f is uncounted new (Terms.Then x (Terms.Then y Terms.NoTerms)) (a ∷ b ∷ c ∷ os) h k e = absurd h.1.1
  choice-sound scope f is uncounted new (Terms.Then x (Terms.Then y (Terms.Then z zs))) (a ∷ b ∷ []) h k e = absurd h.1.1
  choice-sound scope f is uncounted new (Terms.Then x (Terms.Then y (Terms.Then z (Terms.Then w ws)))) (a ∷ b ∷ c ∷ []) h k e = absurd h.1.1.1
  choice-sound scope f is uncounted new (Terms.Then x (Terms.Then y (Terms.Then z zs))) (a ∷ b ∷ c ∷ d ∷ os) h k e = none≢some k e
  choice-sound scope f is uncounted new (Terms.Then x (Terms.Then y (Terms.Then z Terms.NoTerms))) (a ∷ b ∷ c ∷ []) h k e = by (is_plain a) refl e
    where
      by : (t : Bool) → is_plain a ≡ t → (if t then both_kinds b c else None) ≡ Some k → Has scope k (Term.Apply f (Terms.Then x (Terms.Then y (Terms.Then z Terms.NoTerms))))
      by true p e =
          let r = both-some b c k e in
          kinds.OfChoice scope k f x y z is uncounted new (h.0 Plain (plain-some a p)) (h.1.0 k r.0) (h.1.1.0 k r.1)
      by false p e = none≢some k e

  applied-sound : (scope : List Variable) (f : Name) → is_counting f ≡ false → (xs : Terms) (os : List (Option Kind)) → AreSound scope xs os →
      (t : Option Signature) → signature_in signatures f ≡ t → (c : Bool) → is_choice (named_function f) ≡ c →
      IsSound scope (Term.Apply f xs) (applied_kind sort t c os)
  applied-sound scope f uncounted xs os h (Some s) is c ic k e =
      let r = among-of signatures f s is in
      call s.parameters s.kind (subst (λ (n : Name). IsAmong signatures (record { name = n; parameters = s.parameters; kind = s.kind })) r.1 r.0) e
    where
      call : (ps : List Variable) (j : Option Kind) → IsAmong signatures (record { name = f; parameters = ps; kind = j }) → call_kind sort ps j os ≡ Some k → Has scope k (Term.Apply f xs)
      call [] j among e = none≢some k e
      call (z ∷ zs) j among e = by (are_for sort (z ∷ zs) os) refl e
        where
          by : (b : Bool) → are_for sort (z ∷ zs) os ≡ b → (if b then j else None) ≡ Some k → Has scope k (Term.Apply f xs)
          by true t e =
              kinds.OfCall scope f z zs k xs uncounted (subst (λ (o : Option Kind). IsAmong signatures (record { name = f; parameters = z ∷ zs; kind = o })) e among)
              (arguments-sound scope (z ∷ zs) xs os h t)
          by false t e = none≢some k e
  applied-sound scope f uncounted xs os h None is true ic k e = choice-sound scope f (choice-is-if (named_function f) ic) uncounted (new-of signatures f is) xs os h k e
  applied-sound scope f uncounted xs os h None is false ic k e =
      let w = when-some (are_plain os) Plain k e in
      subst (λ j. Has scope j (Term.Apply f xs)) w.1 (kinds.OfFunction scope f xs uncounted (new-of signatures f is) (plains-sound scope xs os h w.0))

  application-sound : (scope : List Variable) (f : Name) (xs : Terms) (b : Bool) → is_counting f ≡ b →
      ((g : Name) → is_counting g ≡ true → IsSound scope (Term.Apply g xs) (count_kind spec sort M signatures scope xs)) →
      AreSound scope xs (kinds_in spec sort M signatures scope xs) →
      IsSound scope (Term.Apply f xs) (if b then count_kind spec sort M signatures scope xs else
      applied_kind sort (signature_in signatures f) (is_choice (named_function f)) (kinds_in spec sort M signatures scope xs))
  application-sound scope f xs true counts count all k e = count f counts k e
  application-sound scope f xs false uncounted count all k e =
      applied-sound scope f uncounted xs (kinds_in spec sort M signatures scope xs) all (signature_in signatures f) refl (is_choice (named_function f)) refl k e

  mutual
    pub sound : (x : Term) (scope : List Variable) → IsSound scope x (kind_in spec sort M signatures scope x)
    sound (Term.Truth b) scope k e = subst (λ j. Has scope j (Term.Truth b)) (some_same Plain k e) (kinds.OfTruth scope b)
    sound (Term.Number n) scope k e = subst (λ j. Has scope j (Term.Number n)) (some_same Plain k e) (kinds.OfNumber scope n)
    sound (Term.Named x) scope k e = name-sound scope x k (sort_in scope x) refl (signature_in signatures x) refl e
    sound (Term.Not x) scope k e =
        let w = when-some (is_plain (kind_in spec sort M signatures scope x)) Plain k e in
        subst (λ j. Has scope j (Term.Not x)) w.1 (kinds.OfNot scope x (sound x scope Plain (plain-some _ w.0)))
    sound (Term.Negative x) scope k e =
        let w = when-some (is_plain (kind_in spec sort M signatures scope x)) Plain k e in
        subst (λ j. Has scope j (Term.Negative x)) w.1 (kinds.OfNegative scope x (sound x scope Plain (plain-some _ w.0)))
    sound (Term.Binary o x y) scope k e =
        operator-sound scope o x y (kind_in spec sort M signatures scope x) (kind_in spec sort M signatures scope y) (sound x scope) (sound y scope) k e
    sound (Term.Apply f xs) scope k e = application-sound scope f xs (is_counting f) refl (count-sound xs scope) (all-sound xs scope) k e
    sound (Term.Quantified q xs x) scope k e =
        let w = when-some (is_plain (kind_in spec sort M signatures (extended xs scope) x)) Plain k e in
        subst (λ j. Has scope j (Term.Quantified q xs x)) w.1 (kinds.OfQuantified scope q xs x (sound x (extended xs scope) Plain (plain-some _ w.0)))

    pub all-sound : (xs : Terms) (scope : List Variable) → AreSound scope xs (kinds_in spec sort M signatures scope xs)
    all-sound Terms.NoTerms scope = tt
    all-sound (Terms.Then x xs) scope = (sound x scope, all-sound xs scope)

    -- what counts has the kind that is computed of its arguments
    count-sound : (xs : Terms) (scope : List Variable) → (f : Name) → is_counting f ≡ true → IsSound scope (Term.Apply f xs) (count_kind spec sort M signatures scope xs)
    count-sound Terms.NoTerms scope f counts k e = none≢some k e
    count-sound (Terms.Then x Terms.NoTerms) scope f counts k e = body-sound x scope f counts k e
    count-sound (Terms.Then x (Terms.Then y xs)) scope f counts k e = none≢some k e

    body-sound : (x : Term) (scope : List Variable) → (f : Name) → is_counting f ≡ true →
        IsSound scope (Term.Apply f (Terms.Then x Terms.NoTerms)) (body_kind spec sort M signatures scope x)
    body-sound (Term.Quantified q xs x) scope f counts k e =
        let w = when-some (is_plain (kind_in spec sort M signatures (extended xs scope) x)) Plain k e in
        subst (λ j. Has scope j (Term.Apply f (Terms.Then (Term.Quantified q xs x) Terms.NoTerms))) w.1
        (kinds.OfCount scope f q xs x counts (sound x (extended xs scope) Plain (plain-some _ w.0)))
    body-sound (Term.Truth b) scope f counts k e = none≢some k e
    body-sound (Term.Number n) scope f counts k e = none≢some k e
    body-sound (Term.Named x) scope f counts k e = none≢some k e
    body-sound (Term.Not x) scope f counts k e = none≢some k e
    body-sound (Term.Negative x) scope f counts k e = none≢some k e
    body-sound (Term.Binary o x y) scope f counts k e = none≢some k e
    body-sound (Term.Apply g xs) scope f counts k e = none≢some k e

pub tested : TestedTermsHaveKinds
tested spec sort M signatures scope x k e = sound spec sort M signatures x scope k e
