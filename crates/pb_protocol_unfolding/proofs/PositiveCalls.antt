-- What positive formulas are unfolded to is positive.
use Rattle.std.proofs.Common.{◌≡◌, Bool, true, false, true≢false, not, List, [], ◌∷◌, ◌++◌, flat_map, refl}
use Rattle.pb_text_tree.specs.declared.operator.Quantifier.{Quantifier}
use Rattle.pb_text_tree.specs.declared.operator.Quantifier.TheVariants.{Forall, Exists}
use Rattle.pb_text_meaning.specs.Syntax.{Variable, Term, Spec}
use Rattle.pb_model_meaning.specs.Syntax as flat
use Rattle.pb_model_translation.specs.Positive as flat_positive
use Rattle.pb_protocol_meaning.specs.Syntax.{Formula, Protocol}
use Rattle.pb_protocol_meaning.specs.Steps.{data_of}
use Rattle.pb_protocol_unfolding.specs.Written.{written_values}
use Rattle.pb_protocol_unfolding.specs.PutIn.{TermScope, copies}
use Rattle.pb_protocol_unfolding.specs.Unfolding.{joined_formulas, unfolded_formula}
use Rattle.pb_protocol_unfolding.specs.Positive.{is_constant, HasPositiveCalls, UnfoldedCallsArePositive}

abbrev Positive : Bool → flat.Formula → Type 0
Positive even f = flat_positive.HasPositiveCalls even f

abbrev AllPositive : Bool → List flat.Formula → Type 0
AllPositive even [] = Unit {0}
AllPositive even (f ∷ fs) = Positive even f × AllPositive even fs

joined-positive : (even : Bool) (q : Quantifier) (fs : List flat.Formula) → AllPositive even fs → Positive even (joined_formulas q fs)
joined-positive even Forall [] h = tt
joined-positive even Exists [] h = tt
joined-positive even Forall (f ∷ fs) h = (h.0, joined-positive even Forall fs h.1)
joined-positive even Exists (f ∷ fs) h = (h.0, joined-positive even Exists fs h.1)

both-positive : (even : Bool) (fs gs : List flat.Formula) → AllPositive even fs → AllPositive even gs → AllPositive even (fs ++ gs)
both-positive even [] gs h k = k
both-positive even (f ∷ fs) gs h k = (h.0, both-positive even fs gs h.1 k)

copies-positive : (spec : Spec) (even : Bool) (xs : List Variable) (f : TermScope → flat.Formula) → ((σ : TermScope) → Positive even (f σ)) → (ρ : TermScope) →
    AllPositive even (copies spec xs f ρ)
copies-positive spec even [] f h ρ = (h ρ, tt)
copies-positive spec even (x ∷ xs) f h ρ = all (written_values spec x.sort) (λ σ. copies-positive spec even xs f h σ)
  where
    all : (ks : List Term) → ((σ : TermScope) → AllPositive even (copies spec xs f σ)) → AllPositive even (flat_map (λ k. copies spec xs f ((x.name, k) ∷ ρ)) ks)
    all [] each = tt
    all (k ∷ ks) each = both-positive even (copies spec xs f ((x.name, k) ∷ ρ)) (flat_map (λ k. copies spec xs f ((x.name, k) ∷ ρ)) ks) (each ((x.name, k) ∷ ρ)) (all ks each)

module _ (m : Protocol) where
  constant-unfolded : (f : Formula) (ρ : TermScope) → flat_positive.is_constant (unfolded_formula m ρ f) ≡ false → is_constant f ≡ false
  constant-unfolded (Formula.Truth b) ρ h = absurd (true≢false h)
  constant-unfolded f ρ h = refl

  pub unfolded-positive : (f : Formula) (even : Bool) (ρ : TermScope) → HasPositiveCalls even f → Positive even (unfolded_formula m ρ f)
  unfolded-positive (Formula.Truth b) even ρ h = tt
  unfolded-positive (Formula.Data x) even ρ h = tt
  unfolded-positive (Formula.Named X) even ρ h = h
  unfolded-positive (Formula.Not f) even ρ h = unfolded-positive f (not even) ρ h
  unfolded-positive (Formula.And f g) even ρ h = (unfolded-positive f even ρ h.0, unfolded-positive g even ρ h.1)
  unfolded-positive (Formula.Or f g) even ρ h = (unfolded-positive f even ρ h.0, unfolded-positive g even ρ h.1)
  unfolded-positive (Formula.Implies f g) even ρ h = (unfolded-positive f (not even) ρ h.0, unfolded-positive g even ρ h.1)
  unfolded-positive (Formula.Box A f) even ρ h = ((λ c. h.0 (constant-unfolded f ρ c)), unfolded-positive f true ρ h.1)
  unfolded-positive (Formula.Diamond A f) even ρ h = ((λ c. h.0 (constant-unfolded f ρ c)), unfolded-positive f true ρ h.1)
  unfolded-positive (Formula.Fixpoint sign X f) even ρ h = (h.0, unfolded-positive f true ρ h.1)
  unfolded-positive (Formula.Quantified q xs f) even ρ h =
      joined-positive even q (copies (data_of m) xs (λ σ. unfolded_formula m σ f) ρ)
      (copies-positive (data_of m) even xs (λ σ. unfolded_formula m σ f) (λ σ. unfolded-positive f even σ h) ρ)

pub unfolded_calls_are_positive : UnfoldedCallsArePositive
unfolded_calls_are_positive m f h = unfolded-positive m f true [] h
