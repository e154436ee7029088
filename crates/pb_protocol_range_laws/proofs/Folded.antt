-- Folding keeps duals and what is bound.
use Rattle.std.proofs.Common.{◌≡◌, Bool, true, false, true≢false, not, if◌then◌else◌, List, ◌∷◌, inl, inr, refl, sym, ap, ◌∙◌, subst}
use Rattle.std.specs.Prelude.{Option, Some, None}
use Rattle.pb_text_meaning.specs.Syntax.{Name, Term, Spec}
use Rattle.pb_model_meaning.specs.Syntax.{Formula}
use Rattle.pb_model_translation.specs.Positive.{is_constant}
use Rattle.pb_model_range_laws.specs.Negation.{IsBound, IsDual, IsNegated, IsNegatedTest, IsNegation}
use Rattle.pb_protocol_folding.specs.Folding.{folded, truth_value}
use Rattle.pb_protocol_folding.specs.FoldedModels.{decided, unless_constant, and_formula, or_formula, implies_formula, not_formula, folded_not_formula, folded_formula}

-- ---- what is decided

-- a test that is decided becomes the other truth value, one that isn't gets `!`
abbrev IsFoldedBy : Option Bool → Term → Formula → Type 0
IsFoldedBy (Some b) x g = g ≡ Formula.Data (Term.Truth (not b))
IsFoldedBy None x g = g ≡ Formula.Not (Formula.Data x)

abbrev IsFoldedTest : Term → Formula → Type 0
IsFoldedTest x g = IsFoldedBy (truth_value x) x g

abbrev IsFoldedDual : Formula → Formula → Type 0
IsFoldedDual f g = IsDual IsFoldedTest f g

abbrev value_or : Bool → Option Bool → Bool
value_or d (Some b) = b
value_or d None = d

abbrev is_there : Option Bool → Bool
is_there (Some b) = true
is_there None = false

none-some : (b : Bool) → None ≡ Some b → ⊥
none-some b e = true≢false (sym (ap is_there e))

written-term : (x : Term) (b : Bool) → truth_value x ≡ Some b → x ≡ Term.Truth b
written-term (Term.Truth c) b e = ap Term.Truth (ap (value_or c) e)
written-term (Term.Number n) b e = absurd (none-some b e)
written-term (Term.Named y) b e = absurd (none-some b e)
written-term (Term.Not y) b e = absurd (none-some b e)
written-term (Term.Negative y) b e = absurd (none-some b e)
written-term (Term.Binary o y z) b e = absurd (none-some b e)
written-term (Term.Apply f xs) b e = absurd (none-some b e)
written-term (Term.Quantified q xs y) b e = absurd (none-some b e)

written : (f : Formula) (b : Bool) → decided f ≡ Some b → f ≡ Formula.Data (Term.Truth b)
written (Formula.Data x) b e = ap Formula.Data (written-term x b e)
written (Formula.Truth c) b e = absurd (none-some b e)
written (Formula.Named X) b e = absurd (none-some b e)
written (Formula.Not f) b e = absurd (none-some b e)
written (Formula.And f g) b e = absurd (none-some b e)
written (Formula.Or f g) b e = absurd (none-some b e)
written (Formula.Implies f g) b e = absurd (none-some b e)
written (Formula.Box A f) b e = absurd (none-some b e)
written (Formula.Diamond A f) b e = absurd (none-some b e)
written (Formula.Fixpoint sign X f) b e = absurd (none-some b e)

abbrev opposite : Option Bool → Option Bool
opposite (Some b) = Some (not b)
opposite None = None

not-not : (b : Bool) → not (not b) ≡ b
not-not true = refl
not-not false = refl

decided-test : (x : Term) (g : Formula) → IsFoldedTest x g → decided g ≡ opposite (truth_value x)
decided-test x g h = by (truth_value x) h
  where
    by : (o : Option Bool) → IsFoldedBy o x g → decided g ≡ opposite o
    by (Some b) e = ap decided e
    by None e = ap decided e

decided-dual : (f g : Formula) → IsFoldedDual f g → decided g ≡ opposite (decided f)
decided-dual (Formula.Data x) g h = decided-test x g h
decided-dual (Formula.Truth b) g e = ap decided e
decided-dual (Formula.Named X) g e = ap decided e
decided-dual (Formula.Not f) g (h, e, o) = ap decided e
decided-dual (Formula.And f₁ f₂) g (h₁, h₂, e, o₁, o₂) = ap decided e
decided-dual (Formula.Or f₁ f₂) g (h₁, h₂, e, o₁, o₂) = ap decided e
decided-dual (Formula.Implies f₁ f₂) g (h₁, h₂, e, o₁, o₂) = ap decided e
decided-dual (Formula.Box A f) g (h, e, o) = ap decided e
decided-dual (Formula.Diamond A f) g (h, e, o) = ap decided e
decided-dual (Formula.Fixpoint sign X f) g (other, h, d, e, o) = ap decided e

constant-test : (x : Term) (g : Formula) → IsFoldedTest x g → is_constant g ≡ false
constant-test x g h = by (truth_value x) h
  where
    by : (o : Option Bool) → IsFoldedBy o x g → is_constant g ≡ false
    by (Some b) e = ap is_constant e
    by None e = ap is_constant e

constant-dual : (f g : Formula) → IsFoldedDual f g → is_constant g ≡ is_constant f
constant-dual (Formula.Data x) g h = constant-test x g h
constant-dual (Formula.Truth b) g e = ap is_constant e
constant-dual (Formula.Named X) g e = ap is_constant e
constant-dual (Formula.Not f) g (h, e, o) = ap is_constant e
constant-dual (Formula.And f₁ f₂) g (h₁, h₂, e, o₁, o₂) = ap is_constant e
constant-dual (Formula.Or f₁ f₂) g (h₁, h₂, e, o₁, o₂) = ap is_constant e
constant-dual (Formula.Implies f₁ f₂) g (h₁, h₂, e, o₁, o₂) = ap is_constant e
constant-dual (Formula.Box A f) g (h, e, o) = ap is_constant e
constant-dual (Formula.Diamond A f) g (h, e, o) = ap is_constant e
constant-dual (Formula.Fixpoint sign X f) g (other, h, d, e, o) = ap is_constant e

-- ---- connectives of duals

unless-dual : (f g : Formula) → IsFoldedDual f g → (whole other : Formula) → IsFoldedDual whole other → IsFoldedDual (unless_constant f whole) (unless_constant g other)
unless-dual f g h whole other k =
    subst (λ b. IsFoldedDual (unless_constant f whole) (if b then other else g)) (sym (constant-dual f g h)) (by (is_constant f))
  where
    by : (b : Bool) → IsFoldedDual (if b then whole else f) (if b then other else g)
    by true = k
    by false = h

and-dual : (o p : Option Bool) (f₁ f₂ g₁ g₂ : Formula) → IsFoldedDual f₁ g₁ → IsFoldedDual f₂ g₂ → IsFoldedDual (and_formula o p f₁ f₂) (or_formula (opposite o) (opposite p) g₁ g₂)
and-dual (Some true) p f₁ f₂ g₁ g₂ h k = unless-dual f₂ g₂ k (Formula.And f₁ f₂) (Formula.Or g₁ g₂) (g₁, g₂, refl, h, k)
and-dual (Some false) p f₁ f₂ g₁ g₂ h k = h
and-dual None (Some true) f₁ f₂ g₁ g₂ h k = unless-dual f₁ g₁ h (Formula.And f₁ f₂) (Formula.Or g₁ g₂) (g₁, g₂, refl, h, k)
and-dual None (Some false) f₁ f₂ g₁ g₂ h k = k
and-dual None None f₁ f₂ g₁ g₂ h k = (g₁, g₂, refl, h, k)

or-dual : (o p : Option Bool) (f₁ f₂ g₁ g₂ : Formula) → IsFoldedDual f₁ g₁ → IsFoldedDual f₂ g₂ → IsFoldedDual (or_formula o p f₁ f₂) (and_formula (opposite o) (opposite p) g₁ g₂)
or-dual (Some true) p f₁ f₂ g₁ g₂ h k = h
or-dual (Some false) p f₁ f₂ g₁ g₂ h k = unless-dual f₂ g₂ k (Formula.Or f₁ f₂) (Formula.And g₁ g₂) (g₁, g₂, refl, h, k)
or-dual None (Some true) f₁ f₂ g₁ g₂ h k = k
or-dual None (Some false) f₁ f₂ g₁ g₂ h k = unless-dual f₁ g₁ h (Formula.Or f₁ f₂) (Formula.And g₁ g₂) (g₁, g₂, refl, h, k)
or-dual None None f₁ f₂ g₁ g₂ h k = (g₁, g₂, refl, h, k)

-- what a formula with `!` in front of its dual is folded to: the formula itself, where that is decided
abbrev IsFoldedNegated : Option Bool → Formula → Formula → Type 0
IsFoldedNegated (Some b) f g = (f ≡ Formula.Data (Term.Truth b)) × (g ≡ Formula.Data (Term.Truth b))
IsFoldedNegated None f g = (h : Formula) × (g ≡ Formula.Not h) × IsFoldedDual f h

not-dual : (o : Option Bool) (f g : Formula) → IsFoldedNegated o f g → IsFoldedDual (not_formula o f) g
not-dual (Some b) f g (e, e') = e' ∙ ap (λ c. Formula.Data (Term.Truth c)) (sym (not-not b))
not-dual None f g h = h

negated-decided : (o : Option Bool) (f g : Formula) → IsFoldedNegated o f g → decided g ≡ o
negated-decided (Some b) f g (e, e') = ap decided e'
negated-decided None f g (h, e, d) = ap decided e

implies-dual : (o p : Option Bool) (f₁ f₂ g₁ g₂ : Formula) → IsFoldedNegated o f₁ g₁ → IsFoldedDual f₂ g₂ → IsFoldedDual (implies_formula o p f₁ f₂) (and_formula o (opposite p) g₁ g₂)
implies-dual (Some true) p f₁ f₂ g₁ g₂ (e, e') k = unless-dual f₂ g₂ k (Formula.Implies f₁ f₂) (Formula.And g₁ g₂) (g₁, g₂, refl, inr (true, e, e'), k)
implies-dual (Some false) p f₁ f₂ g₁ g₂ (e, e') k = e'
implies-dual None (Some true) f₁ f₂ g₁ g₂ h k = k
implies-dual None (Some false) f₁ f₂ g₁ g₂ (h, e, d) k = (h, ap (λ g. unless_constant g (Formula.And g g₂)) e, d)
implies-dual None None f₁ f₂ g₁ g₂ h k = (g₁, g₂, refl, inl h, k)

-- ---- formulas

module _ (spec : Spec) (left : Name → Bool) where
  abbrev fold : Formula → Formula
  fold f = folded_formula spec left f

  fold-test : (x : Term) (g : Formula) → IsNegatedTest x g → IsFoldedTest (folded spec true x) (fold g)
  fold-test x g (inl e) = by (truth_value (folded spec true x)) (ap fold e)
    where
      by : (o : Option Bool) → fold g ≡ not_formula o (Formula.Data (folded spec true x)) → IsFoldedBy o (folded spec true x) (fold g)
      by (Some b) k = k
      by None k = k
  fold-test x g (inr (b, e, e')) = subst (λ y. IsFoldedTest (folded spec true y) (fold g)) (sym e) (ap fold e')

  -- with `!` in front of a dual
  fold-not : (f h : Formula) → IsFoldedDual f h → IsFoldedNegated (decided f) f (folded_not_formula h)
  fold-not f h d = by (decided f) refl (ap (λ o. not_formula o h) (decided-dual f h d))
    where
      by : (o : Option Bool) → decided f ≡ o → folded_not_formula h ≡ not_formula (opposite o) h → IsFoldedNegated o f (folded_not_formula h)
      by (Some b) e k = (written f b e, k ∙ ap (λ c. Formula.Data (Term.Truth c)) (not-not b))
      by None e k = (h, k, d)

  fold-negated : (f g : Formula) → IsNegated f (IsNegation f) g → ((h : Formula) → IsNegation f h → IsFoldedDual (fold f) (fold h)) → IsFoldedNegated (decided (fold f)) (fold f) (fold g)
  fold-negated f g (inl (h, e, o)) rec = subst (λ k. IsFoldedNegated (decided (fold f)) (fold f) k) (sym (ap fold e)) (fold-not (fold f) (fold h) (rec h o))
  fold-negated f g (inr (b, e, e')) rec = subst (λ k. IsFoldedNegated (decided (fold k)) (fold k) (fold g)) (sym e) (refl, ap fold e')

  pub fold-dual : (f g : Formula) → IsNegation f g → IsFoldedDual (fold f) (fold g)
  fold-dual (Formula.Truth b) g e = ap fold e
  fold-dual (Formula.Data x) g h = fold-test x g h
  fold-dual (Formula.Named X) g e = ap fold e
  fold-dual (Formula.Not f) g (h, e, o) =
      let d = fold-dual f h o in
      subst (λ k. IsFoldedDual (folded_not_formula (fold f)) k) (sym (ap fold e))
      (not-dual (decided (fold f)) (fold f) (folded_not_formula (fold h)) (fold-not (fold f) (fold h) d))
  fold-dual (Formula.And f₁ f₂) g (h₁, h₂, e, o₁, o₂) =
      let one = fold-dual f₁ h₁ o₁ in
      let two = fold-dual f₂ h₂ o₂ in
      let F : Formula = and_formula (decided (fold f₁)) (decided (fold f₂)) (fold f₁) (fold f₂) in
      subst (IsFoldedDual F)
      (sym (ap fold e ∙ ap (λ o. or_formula o (decided (fold h₂)) (fold h₁) (fold h₂)) (decided-dual (fold f₁) (fold h₁) one)
      ∙ ap (λ o. or_formula (opposite (decided (fold f₁))) o (fold h₁) (fold h₂)) (decided-dual (fold f₂) (fold h₂) two)))
      (and-dual (decided (fold f₁)) (decided (fold f₂)) (fold f₁) (fold f₂) (fold h₁) (fold h₂) one two)
  fold-dual (Formula.Or f₁ f₂) g (h₁, h₂, e, o₁, o₂) =
      let one = fold-dual f₁ h₁ o₁ in
      let two = fold-dual f₂ h₂ o₂ in
      let F : Formula = or_formula (decided (fold f₁)) (decided (fold f₂)) (fold f₁) (fold f₂) in
      subst (IsFoldedDual F)
      (sym (ap fold e ∙ ap (λ o. and_formula o (decided (fold h₂)) (fold h₁) (fold h₂)) (decided-dual (fold f₁) (fold h₁) one)
      ∙ ap (λ o. and_formula (opposite (decided (fold f₁))) o (fold h₁) (fold h₂)) (decided-dual (fold f₂) (fold h₂) two)))
      (or-dual (decided (fold f₁)) (decided (fold f₂)) (fold f₁) (fold f₂) (fold h₁) (fold h₂) one two)
  fold-dual (Formula.Implies f₁ f₂) g (h₁, h₂, e, o₁, o₂) =
      let one = fold-negated f₁ h₁ o₁ (λ h o. fold-dual f₁ h o) in
      let two = fold-dual f₂ h₂ o₂ in
      let F : Formula = implies_formula (decided (fold f₁)) (decided (fold f₂)) (fold f₁) (fold f₂) in
      subst (IsFoldedDual F)
      (sym (ap fold e ∙ ap (λ o. and_formula o (decided (fold h₂)) (fold h₁) (fold h₂)) (negated-decided (decided (fold f₁)) (fold f₁) (fold h₁) one)
      ∙ ap (λ o. and_formula (decided (fold f₁)) o (fold h₁) (fold h₂)) (decided-dual (fold f₂) (fold h₂) two)))
      (implies-dual (decided (fold f₁)) (decided (fold f₂)) (fold f₁) (fold f₂) (fold h₁) (fold h₂) one two)
  fold-dual (Formula.Box A f) g (h, e, o) = (fold h, ap fold e, fold-dual f h o)
  fold-dual (Formula.Diamond A f) g (h, e, o) = (fold h, ap fold e, fold-dual f h o)
  fold-dual (Formula.Fixpoint sign X f) g (other, h, d, e, o) = (other, fold h, d, ap fold e, fold-dual f h o)

-- ---- a folded dual is a negation

is-test : (x : Term) (g : Formula) → IsFoldedTest x g → IsNegatedTest x g
is-test x g h = by (truth_value x) refl h
  where
    by : (o : Option Bool) → truth_value x ≡ o → IsFoldedBy o x g → IsNegatedTest x g
    by (Some b) e k = inr (b, written-term x b e, k)
    by None e k = inl k

is-negated : (f g : Formula) → IsNegated f (IsFoldedDual f) g → ((h : Formula) → IsFoldedDual f h → IsNegation f h) → IsNegated f (IsNegation f) g
is-negated f g (inl (h, e, o)) rec = inl (h, e, rec h o)
is-negated f g (inr (b, e, e')) rec = inr (b, e, e')

pub is-negation : (f g : Formula) → IsFoldedDual f g → IsNegation f g
is-negation (Formula.Truth b) g e = e
is-negation (Formula.Data x) g h = is-test x g h
is-negation (Formula.Named X) g e = e
is-negation (Formula.Not f) g (h, e, o) = (h, e, is-negation f h o)
is-negation (Formula.And f₁ f₂) g (h₁, h₂, e, o₁, o₂) = (h₁, h₂, e, is-negation f₁ h₁ o₁, is-negation f₂ h₂ o₂)
is-negation (Formula.Or f₁ f₂) g (h₁, h₂, e, o₁, o₂) = (h₁, h₂, e, is-negation f₁ h₁ o₁, is-negation f₂ h₂ o₂)
is-negation (Formula.Implies f₁ f₂) g (h₁, h₂, e, o₁, o₂) =
    (h₁, h₂, e, is-negated f₁ h₁ o₁ (λ h o. is-negation f₁ h o), is-negation f₂ h₂ o₂)
is-negation (Formula.Box A f) g (h, e, o) = (h, e, is-negation f h o)
is-negation (Formula.Diamond A f) g (h, e, o) = (h, e, is-negation f h o)
is-negation (Formula.Fixpoint sign X f) g (other, h, d, e, o) = (other, h, d, e, is-negation f h o)

-- ---- variables

unless-closed : (bound : List Name) (f whole : Formula) → IsBound bound f → IsBound bound whole → IsBound bound (unless_constant f whole)
unless-closed bound f whole h k = by (is_constant f)
  where
    by : (b : Bool) → IsBound bound (if b then whole else f)
    by true = k
    by false = h

and-closed : (bound : List Name) (f g : Formula) (o p : Option Bool) → IsBound bound f → IsBound bound g → IsBound bound (and_formula o p f g)
and-closed bound f g (Some true) p h k = unless-closed bound g (Formula.And f g) k (h, k)
and-closed bound f g (Some false) p h k = h
and-closed bound f g None (Some true) h k = unless-closed bound f (Formula.And f g) h (h, k)
and-closed bound f g None (Some false) h k = k
and-closed bound f g None None h k = (h, k)

or-closed : (bound : List Name) (f g : Formula) (o p : Option Bool) → IsBound bound f → IsBound bound g → IsBound bound (or_formula o p f g)
or-closed bound f g (Some true) p h k = h
or-closed bound f g (Some false) p h k = unless-closed bound g (Formula.Or f g) k (h, k)
or-closed bound f g None (Some true) h k = k
or-closed bound f g None (Some false) h k = unless-closed bound f (Formula.Or f g) h (h, k)
or-closed bound f g None None h k = (h, k)

implies-closed : (bound : List Name) (f g : Formula) (o p : Option Bool) → IsBound bound f → IsBound bound g → IsBound bound (implies_formula o p f g)
implies-closed bound f g (Some true) p h k = unless-closed bound g (Formula.Implies f g) k (h, k)
implies-closed bound f g (Some false) p h k = tt
implies-closed bound f g None (Some true) h k = k
implies-closed bound f g None (Some false) h k = h
implies-closed bound f g None None h k = (h, k)

not-closed : (bound : List Name) (f : Formula) (o : Option Bool) → IsBound bound f → IsBound bound (not_formula o f)
not-closed bound f (Some b) h = tt
not-closed bound f None h = h

module _ (spec : Spec) (left : Name → Bool) where
  pub fold-closed : (f : Formula) (bound : List Name) → IsBound bound f → IsBound bound (folded_formula spec left f)
  fold-closed (Formula.Truth b) bound h = tt
  fold-closed (Formula.Data x) bound h = tt
  fold-closed (Formula.Named X) bound h = h
  fold-closed (Formula.Not f) bound h = let u = folded_formula spec left f in not-closed bound u (decided u) (fold-closed f bound h)
  fold-closed (Formula.And f g) bound h =
      let u = folded_formula spec left f in
      let v = folded_formula spec left g in
      and-closed bound u v (decided u) (decided v) (fold-closed f bound h.0) (fold-closed g bound h.1)
  fold-closed (Formula.Or f g) bound h =
      let u = folded_formula spec left f in
      let v = folded_formula spec left g in
      or-closed bound u v (decided u) (decided v) (fold-closed f bound h.0) (fold-closed g bound h.1)
  fold-closed (Formula.Implies f g) bound h =
      let u = folded_formula spec left f in
      let v = folded_formula spec left g in
      implies-closed bound u v (decided u) (decided v) (fold-closed f bound h.0) (fold-closed g bound h.1)
  fold-closed (Formula.Box A f) bound h = fold-closed f bound h
  fold-closed (Formula.Diamond A f) bound h = fold-closed f bound h
  fold-closed (Formula.Fixpoint sign X f) bound h = fold-closed f (X ∷ bound) h
