-- A term has the value that it had, where the variables of its quantifiers have the values that they had.
use Rattle.std.proofs.Common.{◌≡◌, Bool, ◌&&◌, ◌||◌, not, List, [], ◌∷◌, Some, None, refl, ap, ◌∙◌}
use Rattle.std.specs.Prelude.{neg_ℤ, Option}
use Rattle.std.specs.List.{list_any, list_all}
use Rattle.pb_text_tree.specs.declared.operator.Quantifier.{Quantifier}
use Rattle.pb_text_tree.specs.declared.operator.Quantifier.TheVariants.{Forall, Exists}
use Rattle.pb_base_values.specs.Carrier.{Value, Carrier, of_bool}
use Rattle.pb_text_meaning.specs.Syntax.{Name, Variable, Term, Terms, Spec}
use Rattle.pb_text_meaning.specs.declared.function.NamedFunction.{NamedFunction}
use Rattle.pb_text_meaning.specs.Functions.{named_function}
use Rattle.pb_text_meaning.specs.Sorts.{carrier_of}
use Rattle.pb_text_meaning.specs.Value.{Assignment, looked_up, of_values, quantified, is_true, binary, function_of_one, function_value, named_value, value, values}
use Rattle.pb_model_wider_ranges.specs.Ranges.{AreUnchanged, IsUnchanged, IsEachUnchanged}

all-alike : {X : Type 0} (p q : X → Bool) → ((x : X) → p x ≡ q x) → (xs : List X) → list_all p xs ≡ list_all q xs
all-alike p q h [] = refl
all-alike p q h (x ∷ xs) = ap (λ b. b && list_all p xs) (h x) ∙ ap (λ b. q x && b) (all-alike p q h xs)

any-alike : {X : Type 0} (p q : X → Bool) → ((x : X) → p x ≡ q x) → (xs : List X) → list_any p xs ≡ list_any q xs
any-alike p q h [] = refl
any-alike p q h (x ∷ xs) = ap (λ b. b || list_any p xs) (h x) ∙ ap (λ b. q x || b) (any-alike p q h xs)

of_values-same : (q : Quantifier) (p r : Value → Bool) → ((v : Value) → p v ≡ r v) → (c : Carrier) → of_values q p c ≡ of_values q r c
of_values-same Forall p r h c = all-alike p r h c
of_values-same Exists p r h c = any-alike p r h c

module _ (d e : Spec) (sorts : e.sorts ≡ d.sorts) where
  quantified-same : (q : Quantifier) (xs : List Variable) (p r : Assignment → Bool) → AreUnchanged d e xs → ((a : Assignment) → p a ≡ r a) →
      (a : Assignment) → quantified e q xs p a ≡ quantified d q xs r a
  quantified-same q [] p r u h a = h a
  quantified-same q (x ∷ xs) p r u h a =
      ap (of_values q (λ v. quantified e q xs p ((x.name, v) ∷ a))) u.0
      ∙ of_values-same q (λ v. quantified e q xs p ((x.name, v) ∷ a)) (λ v. quantified d q xs r ((x.name, v) ∷ a))
      (λ v. quantified-same q xs p r u.1 h ((x.name, v) ∷ a)) (carrier_of d x.sort)

  named-same : (o : Option Value) (x : Name) → named_value e o x ≡ named_value d o x
  named-same (Some v) x = refl
  named-same None x = ap (λ s. named_value (record e { sorts = s }) None x) sorts

  function-of-one-same : (f : Name) (o : Option NamedFunction) (x : Value) → function_of_one e f o x ≡ function_of_one d f o x
  function-of-one-same f (Some g) x = refl
  function-of-one-same f None x = ap (λ s. function_of_one (record e { sorts = s }) f None x) sorts

  function-same : (f : Name) (vs : List Value) → function_value e f vs ≡ function_value d f vs
  function-same f [] = refl
  function-same f (x ∷ []) = function-of-one-same f (named_function f) x
  function-same f (x ∷ y ∷ []) = refl
  function-same f (x ∷ y ∷ z ∷ []) = refl
  function-same f (x ∷ y ∷ z ∷ u ∷ vs) = refl

  mutual
    pub value-same : (x : Term) → IsUnchanged d e x → (a : Assignment) → value e a x ≡ value d a x
    value-same (Term.Truth b) u a = refl
    value-same (Term.Number n) u a = refl
    value-same (Term.Named x) u a = named-same (looked_up a x) x
    value-same (Term.Not x) u a = ap (λ v. of_bool (not (is_true v))) (value-same x u a)
    value-same (Term.Negative x) u a = ap neg_ℤ (value-same x u a)
    value-same (Term.Binary o x y) u a =
        ap (λ v. binary o v (value e a y)) (value-same x u.0 a) ∙ ap (λ v. binary o (value d a x) v) (value-same y u.1 a)
    value-same (Term.Apply f xs) u a = ap (function_value e f) (values-same xs u a) ∙ function-same f (values d a xs)
    value-same (Term.Quantified q xs x) u a =
        ap of_bool (quantified-same q xs (λ b. is_true (value e b x)) (λ b. is_true (value d b x)) u.0 (λ b. ap is_true (value-same x u.1 b)) a)

    pub values-same : (xs : Terms) → IsEachUnchanged d e xs → (a : Assignment) → values e a xs ≡ values d a xs
    values-same Terms.NoTerms u a = refl
    values-same (Terms.Then x xs) u a =
        ap (λ v. v ∷ values e a xs) (value-same x u.0 a) ∙ ap (λ vs. value d a x ∷ vs) (values-same xs u.1 a)
