-- Truth values of which not both are true, or not both false.
use Rattle.std.proofs.Common.{◌≡◌, Bool, true, false, true≢false, not, ◌&&◌, ◌||◌, if◌then◌else◌, List, [], ◌∷◌, refl, sym, ap, ◌∙◌}
use Rattle.std.specs.List.{list_any, list_all}
use Rattle.std.proofs.lemmas.Bool.{and_from, or_left, or_right}
use Rattle.pb_base_values.specs.Carrier.{Value, Carrier}
use Rattle.pb_text_tree.specs.declared.operator.Quantifier.{Quantifier}
use Rattle.pb_text_tree.specs.declared.operator.Quantifier.TheVariants.{Forall, Exists}
use Rattle.pb_text_meaning.specs.Syntax.{Variable, Spec}
use Rattle.pb_text_meaning.specs.Sorts.{carrier_of}
use Rattle.pb_text_meaning.specs.Value.{Assignment, of_values, quantified}
use Rattle.pb_protocol_negation.specs.Dual.{dual_quantifier}

-- not both are true; where `even` is false, not both are false
abbrev pub Opposed : Bool → Bool → Bool → Type 0
Opposed even a b = a ≡ even → b ≡ not even

pub at-true : (even a b : Bool) → even ≡ true → Opposed true a b → Opposed even a b
at-true true a b e h = h
at-true false a b e h = absurd (true≢false (sym e))

pub opposed-not : (even a b : Bool) → Opposed (not even) a b → Opposed even (not a) (not b)
opposed-not true true b h e = absurd (true≢false (sym e))
opposed-not true false b h e = ap not (h refl)
opposed-not false true b h e = ap not (h refl)
opposed-not false false b h e = absurd (true≢false e)

and-false : (b : Bool) → (b && false) ≡ false
and-false true = refl
and-false false = refl

pub opposed-and : (even x y u v : Bool) → Opposed even x u → Opposed even y v → Opposed even (x && y) (u || v)
opposed-and true true true u v h k e = ap (λ b. b || v) (h refl) ∙ k refl
opposed-and true true false u v h k e = absurd (true≢false (sym e))
opposed-and true false y u v h k e = absurd (true≢false (sym e))
opposed-and false true y u v h k e = or_right u v (k e)
opposed-and false false y u v h k e = or_left u v (h refl)

pub opposed-or : (even x y u v : Bool) → Opposed even x u → Opposed even y v → Opposed even (x || y) (u && v)
opposed-or true true y u v h k e = ap (λ b. b && v) (h refl)
opposed-or true false y u v h k e = ap (λ b. u && b) (k e) ∙ and-false u
opposed-or false true y u v h k e = absurd (true≢false e)
opposed-or false false y u v h k e = and_from u v (h refl) (k e)

pub opposed-choice : (even b x y u v : Bool) → Opposed even x u → Opposed even y v → Opposed even (if b then x else y) (if b then u else v)
opposed-choice even true x y u v h k = h
opposed-choice even false x y u v h k = k

module _ {X : Type 0} (even : Bool) (p q : X → Bool) (h : (x : X) → Opposed even (p x) (q x)) where
  pub opposed-all : (xs : List X) → Opposed even (list_all p xs) (list_any q xs)
  opposed-all [] e = ap not e
  opposed-all (x ∷ xs) e = opposed-and even (p x) (list_all p xs) (q x) (list_any q xs) (h x) (opposed-all xs) e

  pub opposed-any : (xs : List X) → Opposed even (list_any p xs) (list_all q xs)
  opposed-any [] e = ap not e
  opposed-any (x ∷ xs) e = opposed-or even (p x) (list_any p xs) (q x) (list_all q xs) (h x) (opposed-any xs) e

opposed-values : (even : Bool) (quantifier : Quantifier) (p q : Value → Bool) → ((v : Value) → Opposed even (p v) (q v)) → (c : Carrier) →
    Opposed even (of_values quantifier p c) (of_values (dual_quantifier quantifier) q c)
opposed-values even Forall p q h c = opposed-all even p q h c
opposed-values even Exists p q h c = opposed-any even p q h c

pub opposed-quantified : (even : Bool) (spec : Spec) (quantifier : Quantifier) (xs : List Variable) (p q : Assignment → Bool) → ((a : Assignment) → Opposed even (p a) (q a)) →
    (a : Assignment) → Opposed even (quantified spec quantifier xs p a) (quantified spec (dual_quantifier quantifier) xs q a)
opposed-quantified even spec quantifier [] p q h a = h a
opposed-quantified even spec quantifier (x ∷ xs) p q h a =
    opposed-values even quantifier (λ v. quantified spec quantifier xs p ((x.name, v) ∷ a)) (λ v. quantified spec (dual_quantifier quantifier) xs q ((x.name, v) ∷ a))
    (λ v. opposed-quantified even spec quantifier xs p q h ((x.name, v) ∷ a)) (carrier_of spec x.sort)
