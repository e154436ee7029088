-- Folded terms keep their values.
use Rattle.std.proofs.Common.{◌≡◌, ℕ, List, Bool, true, false, true≢false, not, ◌&&◌, ◌||◌, if◌then◌else◌, refl, sym, ap, ◌∙◌}
use Rattle.std.specs.Prelude.{pos, negsuc, neg_ℤ, [], ◌∷◌, Option, Some, None, unwrap_or}
use Rattle.pb_base_values.specs.Carrier.{Value, of_bool}
use Rattle.pb_text_meaning.specs.Syntax.{Name, same_name, Operator, Term, Terms, Spec}
use Rattle.pb_text_meaning.specs.Sorts.{place_in}
use Rattle.pb_text_meaning.specs.Value.{Assignment, is_true, binary, function_value, named_value, value, values}
use Rattle.pb_text_meaning.specs.declared.function.NamedFunction.{NamedFunction}
use Rattle.pb_text_meaning.specs.declared.function.NamedFunction.TheVariants as named
use Rattle.pb_text_meaning.specs.Functions.{named_function}
use Rattle.pb_text_meaning.specs.Sorts.{is_recogniser}
use Rattle.pb_text_meaning.specs.Value as meaning
use Rattle.pb_text_meaning.proofs.Truths.{is_true-of_bool}
use Rattle.pb_protocol_folding.specs.Folding.{number, is_small, small_value, place_value, written_value, truth_value, and_of, or_of, implies_of, not_of, negative_of, computed, may_compute, operation_of, recogniser_of, function_of_one, function_of_two, function_of_three, folded_application, is_if, is_test, settled, folded, folded_arguments}
use Rattle.pb_protocol_folding.specs.Names.{HidesNoEnumerator}
use Rattle.pb_protocol_folding.specs.Laws.{FoldingKeepsValues}

pub number-value : (spec : Spec) (a : Assignment) (v : Value) → value spec a (number v) ≡ v
number-value spec a (pos n) = refl
number-value spec a (negsuc n) = refl

some-is : (v w : Value) → Some v ≡ Some w → v ≡ w
some-is v w e = cc

small-is : (v w : Value) → small_value v ≡ Some w → v ≡ w
small-is v w e = by (is_small v) e
  where
    by : (b : Bool) → (if b then Some v else None) ≡ Some w → v ≡ w
    by true h = some-is v w h
    by false h = absurd (cc)

module _ (spec : Spec) (a : Assignment) (hides : HidesNoEnumerator spec a) where
  written-value : (x : Term) (v : Value) → written_value spec x ≡ Some v → value spec a x ≡ v
  written-value (Term.Truth b) v e = some-is (of_bool b) v e
  written-value (Term.Number n) v e = small-is (pos n) v e
  written-value (Term.Negative (Term.Number n)) v e = small-is (neg_ℤ (pos n)) v e
  written-value (Term.Named x) v e = by (place_in (λ e. same_name e.name x) spec.sorts) refl e
    where
      by : (o : Option ℕ) → place_in (λ e. same_name e.name x) spec.sorts ≡ o → place_value o ≡ Some v → value spec a (Term.Named x) ≡ v
      by (Some n) at e =
          ap (λ o. named_value spec o x) (hides x n at) ∙ (ap (λ o. pos (unwrap_or o 0)) at ∙ small-is (pos n) v e)
      by None at e = absurd (cc)
  written-value x v e = absurd (cc e)

  truth-value : (x : Term) (b : Bool) → truth_value x ≡ Some b → value spec a x ≡ of_bool b
  truth-value (Term.Truth c) b e = let same : c ≡ b = cc in ap of_bool same
  truth-value x b e = absurd (cc e)

  test-value : (x : Term) → is_test x ≡ true → value spec a x ≡ of_bool (is_true (value spec a x))
  test-value (Term.Truth b) e = boolean b
    where
      boolean : (b : Bool) → of_bool b ≡ of_bool (is_true (of_bool b))
      boolean b = sym (ap of_bool (is_true-of_bool b))
  test-value (Term.Not x) e = sym (ap of_bool (is_true-of_bool _))
  test-value (Term.Quantified q xs x) e = sym (ap of_bool (is_true-of_bool _))
  test-value (Term.Binary Operator.And x y) e = sym (ap of_bool (is_true-of_bool _))
  test-value (Term.Binary Operator.Or x y) e = sym (ap of_bool (is_true-of_bool _))
  test-value (Term.Binary Operator.Implies x y) e = sym (ap of_bool (is_true-of_bool _))
  test-value (Term.Binary Operator.Equal x y) e = sym (ap of_bool (is_true-of_bool _))
  test-value (Term.Binary Operator.NotEqual x y) e = sym (ap of_bool (is_true-of_bool _))
  test-value (Term.Binary Operator.Less x y) e = sym (ap of_bool (is_true-of_bool _))
  test-value (Term.Binary Operator.LessEqual x y) e = sym (ap of_bool (is_true-of_bool _))
  test-value (Term.Binary Operator.Greater x y) e = sym (ap of_bool (is_true-of_bool _))
  test-value (Term.Binary Operator.GreaterEqual x y) e = sym (ap of_bool (is_true-of_bool _))
  test-value x e = absurd (true≢false (sym e))

  -- ---- operators

  abbrev is : Term → Bool
  is x = is_true (value spec a x)

  truth-is : (x : Term) (b : Bool) → truth_value x ≡ Some b → is x ≡ b
  truth-is x b e = ap is_true (truth-value x b e) ∙ is_true-of_bool b

  and-is : (x y : Term) (o p : Option Bool) → truth_value x ≡ o → truth_value y ≡ p → is (and_of o p x y) ≡ (is x && is y)
  and-is x y (Some true) p e h = sym (ap (λ b. b && is y) (truth-is x true e))
  and-is x y (Some false) p e h = sym (ap (λ b. b && is y) (truth-is x false e))
  and-is x y None (Some true) e h = right (is x) ∙ sym (ap (λ b. is x && b) (truth-is y true h))
    where
      right : (b : Bool) → b ≡ (b && true)
      right true = refl
      right false = refl
  and-is x y None (Some false) e h = right (is x) ∙ sym (ap (λ b. is x && b) (truth-is y false h))
    where
      right : (b : Bool) → false ≡ (b && false)
      right true = refl
      right false = refl
  and-is x y None None e h = is_true-of_bool (is x && is y)

  or-is : (x y : Term) (o p : Option Bool) → truth_value x ≡ o → truth_value y ≡ p → is (or_of o p x y) ≡ (is x || is y)
  or-is x y (Some true) p e h = sym (ap (λ b. b || is y) (truth-is x true e))
  or-is x y (Some false) p e h = sym (ap (λ b. b || is y) (truth-is x false e))
  or-is x y None (Some true) e h = right (is x) ∙ sym (ap (λ b. is x || b) (truth-is y true h))
    where
      right : (b : Bool) → true ≡ (b || true)
      right true = refl
      right false = refl
  or-is x y None (Some false) e h = right (is x) ∙ sym (ap (λ b. is x || b) (truth-is y false h))
    where
      right : (b : Bool) → b ≡ (b || false)
      right true = refl
      right false = refl
  or-is x y None None e h = is_true-of_bool (is x || is y)

  implies-is : (x y : Term) (o p : Option Bool) → truth_value x ≡ o → truth_value y ≡ p → is (implies_of o p x y) ≡ (not (is x) || is y)
  implies-is x y (Some true) p e h = sym (ap (λ b. not b || is y) (truth-is x true e))
  implies-is x y (Some false) p e h = sym (ap (λ b. not b || is y) (truth-is x false e))
  implies-is x y None (Some true) e h = right (is x) ∙ sym (ap (λ b. not (is x) || b) (truth-is y true h))
    where
      right : (b : Bool) → true ≡ (not b || true)
      right true = refl
      right false = refl
  implies-is x y None (Some false) e h = is_true-of_bool (not (is x)) ∙ (right (is x) ∙ sym (ap (λ b. not (is x) || b) (truth-is y false h)))
    where
      right : (b : Bool) → not b ≡ (not b || false)
      right true = refl
      right false = refl
  implies-is x y None None e h = is_true-of_bool (not (is x) || is y)

  not-value : (x : Term) (o : Option Bool) → truth_value x ≡ o → value spec a (not_of o x) ≡ of_bool (not (is x))
  not-value x (Some b) e = ap (λ c. of_bool (not c)) (sym (truth-is x b e))
  not-value x None e = refl

  computed-value : (o : Operator) (v w : Value) → value spec a (computed o v w) ≡ binary o v w
  computed-value Operator.And v w = number-value spec a (binary Operator.And v w)
  computed-value Operator.Or v w = number-value spec a (binary Operator.Or v w)
  computed-value Operator.Implies v w = number-value spec a (binary Operator.Implies v w)
  computed-value Operator.Equal v w = ap of_bool (is_true-of_bool _)
  computed-value Operator.NotEqual v w = ap of_bool (is_true-of_bool _)
  computed-value Operator.Less v w = ap of_bool (is_true-of_bool _)
  computed-value Operator.LessEqual v w = ap of_bool (is_true-of_bool _)
  computed-value Operator.Greater v w = ap of_bool (is_true-of_bool _)
  computed-value Operator.GreaterEqual v w = ap of_bool (is_true-of_bool _)
  computed-value Operator.Plus v w = number-value spec a (binary Operator.Plus v w)
  computed-value Operator.Minus v w = number-value spec a (binary Operator.Minus v w)
  computed-value Operator.Times v w = number-value spec a (binary Operator.Times v w)
  computed-value Operator.Div v w = number-value spec a (binary Operator.Div v w)
  computed-value Operator.Mod v w = number-value spec a (binary Operator.Mod v w)

  operation-value : (o : Operator) (x y : Term) (p r : Option Value) → written_value spec x ≡ p → written_value spec y ≡ r →
      value spec a (operation_of o p r x y) ≡ binary o (value spec a x) (value spec a y)
  operation-value o x y (Some v) (Some w) e h = by (may_compute o w)
    where
      by : (b : Bool) → value spec a (if b then computed o v w else Term.Binary o x y) ≡ binary o (value spec a x) (value spec a y)
      by true = computed-value o v w ∙ (ap (λ u. binary o u w) (sym (written-value x v e)) ∙ ap (binary o (value spec a x)) (sym (written-value y w h)))
      by false = refl
  operation-value o x y (Some v) None e h = refl
  operation-value o x y None (Some w) e h = refl
  operation-value o x y None None e h = refl

  negative-value : (x : Term) (o : Option Value) → written_value spec x ≡ o → value spec a (negative_of o x) ≡ neg_ℤ (value spec a x)
  negative-value x (Some v) e = number-value spec a (neg_ℤ v) ∙ ap neg_ℤ (sym (written-value x v e))
  negative-value x None e = refl

  one-value : (f : Name) (x : Term) (g : Option NamedFunction) (o : Option Value) → named_function f ≡ g → written_value spec x ≡ o →
      value spec a (function_of_one spec f g o (Term.Apply f (Terms.Then x Terms.NoTerms))) ≡ function_value spec f (value spec a x ∷ [])
  one-value f x (Some g) (Some v) e h =
      number-value spec a (meaning.named_of_one g v) ∙ (ap (meaning.named_of_one g) (sym (written-value x v h)) ∙ sym (ap (λ k. meaning.function_of_one spec f k (value spec a x)) e))
  one-value f x None (Some v) e h = by (place_in (λ e. is_recogniser f e.recogniser) spec.sorts) refl
    where
      by : (p : Option ℕ) → place_in (λ e. is_recogniser f e.recogniser) spec.sorts ≡ p →
          value spec a (recogniser_of p v (Term.Apply f (Terms.Then x Terms.NoTerms))) ≡ function_value spec f (value spec a x ∷ [])
      by (Some n) at =
          ap (λ u. of_bool (meaning.is_place (Some n) u)) (sym (written-value x v h)) ∙ (ap (λ p. of_bool (meaning.is_place p (value spec a x))) (sym at)
          ∙ sym (ap (λ k. meaning.function_of_one spec f k (value spec a x)) e))
      by None at = refl
  one-value f x (Some g) None e h = refl
  one-value f x None None e h = refl

  two-value : (f : Name) (x y : Term) (g : Option NamedFunction) (o p : Option Value) → named_function f ≡ g → written_value spec x ≡ o → written_value spec y ≡ p →
      value spec a (function_of_two g o p (Term.Apply f (Terms.Then x (Terms.Then y Terms.NoTerms)))) ≡ function_value spec f (value spec a x ∷ value spec a y ∷ [])
  two-value f x y (Some g) (Some v) (Some w) e h k =
      number-value spec a (meaning.named_of_two g v w) ∙ (ap (λ u. meaning.named_of_two g u w) (sym (written-value x v h)) ∙ (ap (meaning.named_of_two g (value spec a x)) (sym (written-value y w k))
      ∙ sym (ap (λ n. meaning.function_of_two n (value spec a x) (value spec a y)) e)))
  two-value f x y (Some g) (Some v) None e h k = refl
  two-value f x y (Some g) None p e h k = refl
  two-value f x y None o p e h k = refl

  abbrev three : Name → Term → Term → Term → Term
  three f x y z = Term.Apply f (Terms.Then x (Terms.Then y (Terms.Then z Terms.NoTerms)))

  three-value : (f : Name) (x y z : Term) (g : Option NamedFunction) (o : Option Bool) → named_function f ≡ g → truth_value x ≡ o →
      value spec a (function_of_three g o y z (three f x y z)) ≡ function_value spec f (value spec a x ∷ value spec a y ∷ value spec a z ∷ [])
  three-value f x y z (Some named.If) (Some true) e h =
      sym (ap (λ g. meaning.function_of_three g (value spec a x) (value spec a y) (value spec a z)) e ∙ ap (λ b. if b then value spec a y else value spec a z) (truth-is x true h))
  three-value f x y z (Some named.If) (Some false) e h =
      sym (ap (λ g. meaning.function_of_three g (value spec a x) (value spec a y) (value spec a z)) e ∙ ap (λ b. if b then value spec a y else value spec a z) (truth-is x false h))
  three-value f x y z g o e h = refl

  application-value : (f : Name) (xs : Terms) → value spec a (folded_application spec f xs) ≡ function_value spec f (values spec a xs)
  application-value f Terms.NoTerms = refl
  application-value f (Terms.Then x Terms.NoTerms) = one-value f x (named_function f) (written_value spec x) refl refl
  application-value f (Terms.Then x (Terms.Then y Terms.NoTerms)) = two-value f x y (named_function f) (written_value spec x) (written_value spec y) refl refl refl
  application-value f (Terms.Then x (Terms.Then y (Terms.Then z Terms.NoTerms))) = three-value f x y z (named_function f) (truth_value x) refl refl
  application-value f (Terms.Then x (Terms.Then y (Terms.Then z (Terms.Then w xs)))) = refl

  -- of `if` only the truth of the first argument counts
  if-values : (f : Name) (v w : Value) (vs : List Value) (g : Option NamedFunction) → named_function f ≡ g
      → is_if g ≡ true → is_true v ≡ is_true w → function_value spec f (v ∷ vs) ≡ function_value spec f (w ∷ vs)
  if-values f v w [] (Some named.If) e t h = ap (λ g. meaning.function_of_one spec f g v) e ∙ sym (ap (λ g. meaning.function_of_one spec f g w) e)
  if-values f v w (x ∷ []) (Some named.If) e t h = ap (λ g. meaning.function_of_two g v x) e ∙ sym (ap (λ g. meaning.function_of_two g w x) e)
  if-values f v w (x ∷ y ∷ []) (Some named.If) e t h =
      ap (λ g. meaning.function_of_three g v x y) e ∙ (ap (λ b. if b then x else y) h ∙ sym (ap (λ g. meaning.function_of_three g w x y) e))
  if-values f v w (x ∷ y ∷ z ∷ vs) (Some named.If) e t h = refl
  if-values f v w vs g e t h = absurd (true≢false (sym t))

  -- ---- terms

  -- only the truth is kept, or the value
  abbrev Kept : Bool → Value → Value → Type 0
  Kept true v w = is_true v ≡ is_true w
  Kept false v w = v ≡ w

  kept : (b : Bool) (v w : Value) → v ≡ w → Kept b v w
  kept true v w e = ap is_true e
  kept false v w e = e

  settled-kept : (truth : Bool) (x whole : Term) (b : Bool) → is x ≡ b → value spec a whole ≡ of_bool b → Kept truth (value spec a (settled truth x whole)) (of_bool b)
  settled-kept true x whole b e h = e ∙ sym (is_true-of_bool b)
  settled-kept false x whole b e h = by (is_test x) refl
    where
      by : (c : Bool) → is_test x ≡ c → value spec a (if c then x else whole) ≡ of_bool b
      by true t = test-value x t ∙ ap of_bool e
      by false t = h

  mutual
    folded-kept : (x : Term) (truth : Bool) → Kept truth (value spec a (folded spec truth x)) (value spec a x)
    folded-kept (Term.Truth b) truth = kept truth _ _ refl
    folded-kept (Term.Number n) truth = kept truth _ _ refl
    folded-kept (Term.Named x) truth = kept truth _ _ refl
    folded-kept (Term.Quantified q xs x) truth = kept truth _ _ refl
    folded-kept (Term.Not x) truth =
        kept truth _ _ (not-value (folded spec true x) (truth_value (folded spec true x)) refl ∙ ap (λ b. of_bool (not b)) (folded-kept x true))
    folded-kept (Term.Negative x) truth =
        kept truth _ _ (negative-value (folded spec false x) (written_value spec (folded spec false x)) refl ∙ ap neg_ℤ (folded-kept x false))
    folded-kept (Term.Binary Operator.And x y) truth =
        let u = folded spec true x in
        let v = folded spec true y in
        let same : (is u && is v) ≡ (is x && is y) = ap (λ b. b && is v) (folded-kept x true) ∙ ap (λ b. is x && b) (folded-kept y true) in
        settled-kept truth (and_of (truth_value u) (truth_value v) u v) (Term.Binary Operator.And u v) (is x && is y)
        (and-is u v (truth_value u) (truth_value v) refl refl ∙ same) (ap of_bool same)
    folded-kept (Term.Binary Operator.Or x y) truth =
        let u = folded spec true x in
        let v = folded spec true y in
        let same : (is u || is v) ≡ (is x || is y) = ap (λ b. b || is v) (folded-kept x true) ∙ ap (λ b. is x || b) (folded-kept y true) in
        settled-kept truth (or_of (truth_value u) (truth_value v) u v) (Term.Binary Operator.Or u v) (is x || is y)
        (or-is u v (truth_value u) (truth_value v) refl refl ∙ same) (ap of_bool same)
    folded-kept (Term.Binary Operator.Implies x y) truth =
        let u = folded spec true x in
        let v = folded spec true y in
        let same : (not (is u) || is v) ≡ (not (is x) || is y) = ap (λ b. not b || is v) (folded-kept x true) ∙ ap (λ b. not (is x) || b) (folded-kept y true) in
        settled-kept truth (implies_of (truth_value u) (truth_value v) u v) (Term.Binary Operator.Implies u v) (not (is x) || is y)
        (implies-is u v (truth_value u) (truth_value v) refl refl ∙ same) (ap of_bool same)
    folded-kept (Term.Binary o x y) truth =
        let u = folded spec false x in
        let v = folded spec false y in
        kept truth _ _
        (operation-value o u v (written_value spec u) (written_value spec v) refl refl ∙
        (ap (λ w. binary o w (value spec a v)) (folded-kept x false) ∙ ap (binary o (value spec a x)) (folded-kept y false)))
    folded-kept (Term.Apply f xs) truth =
        kept truth _ _ (application-value f (folded_arguments spec (is_if (named_function f)) xs) ∙ arguments-kept f (is_if (named_function f)) refl xs)

    arguments-kept : (f : Name) (b : Bool) → is_if (named_function f) ≡ b → (xs : Terms) → function_value spec f (values spec a (folded_arguments spec b xs)) ≡ function_value spec f (values spec a xs)
    arguments-kept f b e Terms.NoTerms = refl
    arguments-kept f true e (Terms.Then x xs) =
        if-values f _ _ (values spec a (folded_arguments spec false xs)) (named_function f) refl e (folded-kept x true)
        ∙ ap (λ vs. function_value spec f (value spec a x ∷ vs)) (all-kept xs)
    arguments-kept f false e (Terms.Then x xs) =
        ap (λ v. function_value spec f (v ∷ values spec a (folded_arguments spec false xs))) (folded-kept x false)
        ∙ ap (λ vs. function_value spec f (value spec a x ∷ vs)) (all-kept xs)

    all-kept : (xs : Terms) → values spec a (folded_arguments spec false xs) ≡ values spec a xs
    all-kept Terms.NoTerms = refl
    all-kept (Terms.Then x xs) =
        ap (λ v. v ∷ values spec a (folded_arguments spec false xs)) (folded-kept x false) ∙ ap (λ vs. value spec a x ∷ vs) (all-kept xs)

pub truth-kept : (spec : Spec) (a : Assignment) → HidesNoEnumerator spec a → (x : Term) → is_true (value spec a (folded spec true x)) ≡ is_true (value spec a x)
truth-kept spec a hides x = folded-kept spec a hides x true

pub value-kept : (spec : Spec) (a : Assignment) → HidesNoEnumerator spec a → (x : Term) → value spec a (folded spec false x) ≡ value spec a x
value-kept spec a hides x = folded-kept spec a hides x false

pub values-kept : (spec : Spec) (a : Assignment) → HidesNoEnumerator spec a → (xs : Terms) → values spec a (folded_arguments spec false xs) ≡ values spec a xs
values-kept spec a hides xs = all-kept spec a hides xs

pub folding_keeps_values : FoldingKeepsValues
folding_keeps_values spec a hides x = (truth-kept spec a hides x, value-kept spec a hides x)
