-- What the negation of a formula is unfolded to is the dual of what the formula is unfolded to.
use Rattle.std.proofs.Common.{◌≡◌, ◌∙◌, ap, subst, true, false, List, [], ◌∷◌, ◌++◌, flat_map, inl, inr, refl}
use Rattle.pb_text_tree.specs.declared.operator.Quantifier.{Quantifier}
use Rattle.pb_text_tree.specs.declared.operator.Quantifier.TheVariants.{Forall, Exists}
use Rattle.pb_text_meaning.specs.Syntax.{Name, Variable, Term, Spec}
use Rattle.pb_model_meaning.specs.Syntax as flat
use Rattle.pb_model_range_laws.specs.Negation.{IsNegation}
use Rattle.pb_model_range_laws.specs.Negation as flat_negation
use Rattle.pb_protocol_meaning.specs.Syntax.{Formula, Protocol}
use Rattle.pb_protocol_meaning.specs.Steps.{data_of}
use Rattle.pb_protocol_unfolding.specs.Written.{written_values}
use Rattle.pb_protocol_unfolding.specs.PutIn.{TermScope, copies}
use Rattle.pb_protocol_unfolding.specs.Whole.{valued_in, valued_in_set}
use Rattle.pb_protocol_unfolding.specs.Unfolding.{joined_formulas, unfolded_formula}
use Rattle.pb_protocol_unfolding.specs.ModelLaws.{NamesNoWhole}
use Rattle.pb_protocol_negation.specs.Dual.{dual_quantifier, dual_sign}
use Rattle.pb_protocol_negation.specs.Negation.{negation}
use Rattle.pb_protocol_negation.specs.Verdict.{IsClosed}
use Rattle.pb_protocol_range_laws.proofs.Plain.{other-sign}

-- ---- sets of steps

-- a negation names the same steps by values
valued-negated : (f : Formula) → valued_in f ≡ valued_in (negation f)
valued-negated (Formula.Truth b) = refl
valued-negated (Formula.Data x) = refl
valued-negated (Formula.Named X) = refl
valued-negated (Formula.Not f) = valued-negated f
valued-negated (Formula.And f g) = ap (λ xs. xs ++ valued_in g) (valued-negated f) ∙ ap (λ xs. valued_in (negation f) ++ xs) (valued-negated g)
valued-negated (Formula.Or f g) = ap (λ xs. xs ++ valued_in g) (valued-negated f) ∙ ap (λ xs. valued_in (negation f) ++ xs) (valued-negated g)
valued-negated (Formula.Implies f g) = ap (λ xs. xs ++ valued_in g) (valued-negated f) ∙ ap (λ xs. valued_in (negation f) ++ xs) (valued-negated g)
valued-negated (Formula.Box A f) = ap (λ xs. valued_in_set A ++ xs) (valued-negated f)
valued-negated (Formula.Diamond A f) = ap (λ xs. valued_in_set A ++ xs) (valued-negated f)
valued-negated (Formula.Fixpoint sign X f) = valued-negated f
valued-negated (Formula.Quantified q xs f) = valued-negated f

pub negation-names : (m : Protocol) (f : Formula) → NamesNoWhole m (valued_in f) → NamesNoWhole m (valued_in (negation f))
negation-names m f = subst (NamesNoWhole m) (valued-negated f)

-- ---- copies

-- R holds of two lists, one by one
abbrev Both : (flat.Formula → flat.Formula → Type 0) → List flat.Formula → List flat.Formula → Type 0
Both R [] [] = Unit {0}
Both R (f ∷ fs) (g ∷ gs) = R f g × Both R fs gs
Both R [] (g ∷ gs) = ⊥
Both R (f ∷ fs) [] = ⊥

both-appended : (R : flat.Formula → flat.Formula → Type 0) (fs gs fs' gs' : List flat.Formula) → Both R fs gs → Both R fs' gs' → Both R (fs ++ fs') (gs ++ gs')
both-appended R [] [] fs' gs' h k = k
both-appended R (f ∷ fs) (g ∷ gs) fs' gs' h k = (h.0, both-appended R fs gs fs' gs' h.1 k)
both-appended R [] (g ∷ gs) fs' gs' h k = absurd h
both-appended R (f ∷ fs) [] fs' gs' h k = absurd h

both-copies : (R : flat.Formula → flat.Formula → Type 0) (spec : Spec) (xs : List Variable) (f g : TermScope → flat.Formula) → ((σ : TermScope) → R (f σ) (g σ)) →
    (ρ : TermScope) → Both R (copies spec xs f ρ) (copies spec xs g ρ)
both-copies R spec [] f g h ρ = (h ρ, tt)
both-copies R spec (x ∷ xs) f g h ρ = all (written_values spec x.sort) (λ σ. both-copies R spec xs f g h σ)
  where
    all : (ks : List Term) → ((σ : TermScope) → Both R (copies spec xs f σ) (copies spec xs g σ)) →
        Both R (flat_map (λ k. copies spec xs f ((x.name, k) ∷ ρ)) ks) (flat_map (λ k. copies spec xs g ((x.name, k) ∷ ρ)) ks)
    all [] each = tt
    all (k ∷ ks) each =
        both-appended R (copies spec xs f ((x.name, k) ∷ ρ)) (copies spec xs g ((x.name, k) ∷ ρ)) _ _ (each ((x.name, k) ∷ ρ)) (all ks each)

joined-dual : (q : Quantifier) (fs gs : List flat.Formula) → Both IsNegation fs gs → IsNegation (joined_formulas q fs) (joined_formulas (dual_quantifier q) gs)
joined-dual Forall [] [] h = inr (true, refl, refl)
joined-dual Exists [] [] h = inr (false, refl, refl)
joined-dual Forall (f ∷ fs) (g ∷ gs) h = (g, joined_formulas Exists gs, refl, h.0, joined-dual Forall fs gs h.1)
joined-dual Exists (f ∷ fs) (g ∷ gs) h = (g, joined_formulas Forall gs, refl, h.0, joined-dual Exists fs gs h.1)
joined-dual q [] (g ∷ gs) h = absurd h
joined-dual q (f ∷ fs) [] h = absurd h

-- ---- formulas

module _ (m : Protocol) where
  pub unfolded-dual : (f : Formula) (ρ : TermScope) → IsNegation (unfolded_formula m ρ f) (unfolded_formula m ρ (negation f))
  unfolded-dual (Formula.Truth b) ρ = refl
  unfolded-dual (Formula.Data x) ρ = inl refl
  unfolded-dual (Formula.Named X) ρ = refl
  unfolded-dual (Formula.Not f) ρ = (unfolded_formula m ρ (negation f), refl, unfolded-dual f ρ)
  unfolded-dual (Formula.And f g) ρ =
      (unfolded_formula m ρ (negation f), unfolded_formula m ρ (negation g), refl, unfolded-dual f ρ, unfolded-dual g ρ)
  unfolded-dual (Formula.Or f g) ρ =
      (unfolded_formula m ρ (negation f), unfolded_formula m ρ (negation g), refl, unfolded-dual f ρ, unfolded-dual g ρ)
  unfolded-dual (Formula.Implies f g) ρ =
      let h = unfolded_formula m ρ (negation f) in
      (flat.Formula.Not h, unfolded_formula m ρ (negation g), refl, inl (h, refl, unfolded-dual f ρ), unfolded-dual g ρ)
  unfolded-dual (Formula.Box A f) ρ = (unfolded_formula m ρ (negation f), refl, unfolded-dual f ρ)
  unfolded-dual (Formula.Diamond A f) ρ = (unfolded_formula m ρ (negation f), refl, unfolded-dual f ρ)
  unfolded-dual (Formula.Fixpoint sign X f) ρ = (dual_sign sign, unfolded_formula m ρ (negation f), other-sign sign, refl, unfolded-dual f ρ)
  unfolded-dual (Formula.Quantified q xs f) ρ =
      joined-dual q (copies (data_of m) xs (λ σ. unfolded_formula m σ f) ρ) (copies (data_of m) xs (λ σ. unfolded_formula m σ (negation f)) ρ)
      (both-copies IsNegation (data_of m) xs (λ σ. unfolded_formula m σ f) (λ σ. unfolded_formula m σ (negation f)) (λ σ. unfolded-dual f σ) ρ)

  -- ---- variables

  abbrev Closed : List Name → flat.Formula → flat.Formula → Type 0
  Closed bound f g = flat_negation.IsBound bound f

  joined-closed : (bound : List Name) (q : Quantifier) (fs gs : List flat.Formula) → Both (Closed bound) fs gs → flat_negation.IsBound bound (joined_formulas q fs)
  joined-closed bound Forall [] [] h = tt
  joined-closed bound Exists [] [] h = tt
  joined-closed bound Forall (f ∷ fs) (g ∷ gs) h = (h.0, joined-closed bound Forall fs gs h.1)
  joined-closed bound Exists (f ∷ fs) (g ∷ gs) h = (h.0, joined-closed bound Exists fs gs h.1)
  joined-closed bound q [] (g ∷ gs) h = absurd h
  joined-closed bound q (f ∷ fs) [] h = absurd h

  pub unfolded-closed : (f : Formula) (bound : List Name) (ρ : TermScope) → IsClosed bound f → flat_negation.IsBound bound (unfolded_formula m ρ f)
  unfolded-closed (Formula.Truth b) bound ρ h = tt
  unfolded-closed (Formula.Data x) bound ρ h = tt
  unfolded-closed (Formula.Named X) bound ρ h = h
  unfolded-closed (Formula.Not f) bound ρ h = unfolded-closed f bound ρ h
  unfolded-closed (Formula.And f g) bound ρ h = (unfolded-closed f bound ρ h.0, unfolded-closed g bound ρ h.1)
  unfolded-closed (Formula.Or f g) bound ρ h = (unfolded-closed f bound ρ h.0, unfolded-closed g bound ρ h.1)
  unfolded-closed (Formula.Implies f g) bound ρ h = (unfolded-closed f bound ρ h.0, unfolded-closed g bound ρ h.1)
  unfolded-closed (Formula.Box A f) bound ρ h = unfolded-closed f bound ρ h
  unfolded-closed (Formula.Diamond A f) bound ρ h = unfolded-closed f bound ρ h
  unfolded-closed (Formula.Fixpoint sign X f) bound ρ h = unfolded-closed f (X ∷ bound) ρ h
  unfolded-closed (Formula.Quantified q xs f) bound ρ h =
      let fs = copies (data_of m) xs (λ σ. unfolded_formula m σ f) ρ in
      joined-closed bound q fs fs
      (both-copies (Closed bound) (data_of m) xs (λ σ. unfolded_formula m σ f) (λ σ. unfolded_formula m σ f) (λ σ. unfolded-closed f bound σ h) ρ)
