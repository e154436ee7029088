-- Packing keeps duals and what is bound.
use Rattle.std.proofs.Common.{◌≡◌, true, List, ◌∷◌, inl, inr, ap, ◌∙◌}
use Rattle.std.proofs.lemmas.Bool.{and_from, and_parts}
use Rattle.pb_text_meaning.specs.Syntax.{Name, Term}
use Rattle.pb_model_meaning.specs.Syntax.{Formula}
use Rattle.pb_model_range_laws.specs.Negation.{IsBound, IsNegated, IsNegatedTest, IsNegation}
use Rattle.pb_protocol_packing.specs.Said.{Scope, said}
use Rattle.pb_protocol_packing.specs.Packing.{Group, formula_said}
use Rattle.pb_protocol_packing.specs.Apart.{is_apart, is_apart_formula}

module _ (σ : Scope) where
  said-test : (x : Term) (g : Formula) → IsNegatedTest x g → IsNegatedTest (said σ x) (formula_said σ g)
  said-test x g (inl e) = inl (ap (formula_said σ) e)
  said-test x g (inr (b, e, e')) = inr (b, ap (said σ) e, ap (formula_said σ) e')

  said-negated : (f g : Formula) → IsNegated f (IsNegation f) g → ((h : Formula) → IsNegation f h → IsNegation (formula_said σ f) (formula_said σ h))
      → IsNegated (formula_said σ f) (IsNegation (formula_said σ f)) (formula_said σ g)
  said-negated f g (inl (h, e, o)) rec = inl (formula_said σ h, ap (formula_said σ) e, rec h o)
  said-negated f g (inr (b, e, e')) rec = inr (b, ap (formula_said σ) e, ap (formula_said σ) e')

  pub said-dual : (f g : Formula) → IsNegation f g → IsNegation (formula_said σ f) (formula_said σ g)
  said-dual (Formula.Truth b) g e = ap (formula_said σ) e
  said-dual (Formula.Data x) g h = said-test x g h
  said-dual (Formula.Named X) g e = ap (formula_said σ) e
  said-dual (Formula.Not f) g (h, e, o) = (formula_said σ h, ap (formula_said σ) e, said-dual f h o)
  said-dual (Formula.And f₁ f₂) g (h₁, h₂, e, o₁, o₂) = (formula_said σ h₁, formula_said σ h₂, ap (formula_said σ) e, said-dual f₁ h₁ o₁, said-dual f₂ h₂ o₂)
  said-dual (Formula.Or f₁ f₂) g (h₁, h₂, e, o₁, o₂) = (formula_said σ h₁, formula_said σ h₂, ap (formula_said σ) e, said-dual f₁ h₁ o₁, said-dual f₂ h₂ o₂)
  said-dual (Formula.Implies f₁ f₂) g (h₁, h₂, e, o₁, o₂) =
      (formula_said σ h₁, formula_said σ h₂, ap (formula_said σ) e, said-negated f₁ h₁ o₁ (λ h o. said-dual f₁ h o), said-dual f₂ h₂ o₂)
  said-dual (Formula.Box A f) g (h, e, o) = (formula_said σ h, ap (formula_said σ) e, said-dual f h o)
  said-dual (Formula.Diamond A f) g (h, e, o) = (formula_said σ h, ap (formula_said σ) e, said-dual f h o)
  said-dual (Formula.Fixpoint sign X f) g (other, h, d, e, o) = (other, formula_said σ h, d, ap (formula_said σ) e, said-dual f h o)

  pub said-closed : (f : Formula) (bound : List Name) → IsBound bound f → IsBound bound (formula_said σ f)
  said-closed (Formula.Truth b) bound h = tt
  said-closed (Formula.Data x) bound h = tt
  said-closed (Formula.Named X) bound h = h
  said-closed (Formula.Not f) bound h = said-closed f bound h
  said-closed (Formula.And f g) bound h = (said-closed f bound h.0, said-closed g bound h.1)
  said-closed (Formula.Or f g) bound h = (said-closed f bound h.0, said-closed g bound h.1)
  said-closed (Formula.Implies f g) bound h = (said-closed f bound h.0, said-closed g bound h.1)
  said-closed (Formula.Box A f) bound h = said-closed f bound h
  said-closed (Formula.Diamond A f) bound h = said-closed f bound h
  said-closed (Formula.Fixpoint sign X f) bound h = said-closed f (X ∷ bound) h

module _ (gs : List Group) where
  abbrev Apart : Formula → Type 0
  Apart f = is_apart_formula gs f ≡ true

  apart-test : (x : Term) (g : Formula) → IsNegatedTest x g → is_apart gs x ≡ true → Apart g
  apart-test x g (inl e) h = ap (is_apart_formula gs) e ∙ h
  apart-test x g (inr (b, e, e')) h = ap (is_apart_formula gs) e'

  apart-negated : (f g : Formula) → IsNegated f (IsNegation f) g → ((h : Formula) → IsNegation f h → Apart h) → Apart g
  apart-negated f g (inl (h, e, o)) rec = ap (is_apart_formula gs) e ∙ rec h o
  apart-negated f g (inr (b, e, e')) rec = ap (is_apart_formula gs) e'

  pub apart-dual : (f g : Formula) → IsNegation f g → Apart f → Apart g
  apart-dual (Formula.Truth b) g e h = ap (is_apart_formula gs) e
  apart-dual (Formula.Data x) g o h = apart-test x g o h
  apart-dual (Formula.Named X) g e h = ap (is_apart_formula gs) e
  apart-dual (Formula.Not f) g (k, e, o) h = ap (is_apart_formula gs) e ∙ apart-dual f k o h
  apart-dual (Formula.And f₁ f₂) g (h₁, h₂, e, o₁, o₂) h =
      let parts = and_parts (is_apart_formula gs f₁) (is_apart_formula gs f₂) h in
      ap (is_apart_formula gs) e ∙ and_from (is_apart_formula gs h₁) (is_apart_formula gs h₂) (apart-dual f₁ h₁ o₁ parts.0) (apart-dual f₂ h₂ o₂ parts.1)
  apart-dual (Formula.Or f₁ f₂) g (h₁, h₂, e, o₁, o₂) h =
      let parts = and_parts (is_apart_formula gs f₁) (is_apart_formula gs f₂) h in
      ap (is_apart_formula gs) e ∙ and_from (is_apart_formula gs h₁) (is_apart_formula gs h₂) (apart-dual f₁ h₁ o₁ parts.0) (apart-dual f₂ h₂ o₂ parts.1)
  apart-dual (Formula.Implies f₁ f₂) g (h₁, h₂, e, o₁, o₂) h =
      let parts = and_parts (is_apart_formula gs f₁) (is_apart_formula gs f₂) h in
      ap (is_apart_formula gs) e
      ∙ and_from (is_apart_formula gs h₁) (is_apart_formula gs h₂) (apart-negated f₁ h₁ o₁ (λ k o. apart-dual f₁ k o parts.0)) (apart-dual f₂ h₂ o₂ parts.1)
  apart-dual (Formula.Box A f) g (k, e, o) h = ap (is_apart_formula gs) e ∙ apart-dual f k o h
  apart-dual (Formula.Diamond A f) g (k, e, o) h = ap (is_apart_formula gs) e ∙ apart-dual f k o h
  apart-dual (Formula.Fixpoint sign X f) g (other, k, d, e, o) h = ap (is_apart_formula gs) e ∙ apart-dual f k o h
