-- When a formula is the negation of another one, with `!` only in front of data and of what had it
-- already: connectives, modalities and fixpoints are its duals (Bradfield and Stirling 2007).
use Rattle.std.specs.Prelude.{◌≡◌, ◌⊎◌, Bool, true, not, ⊤, List, ◌∷◌}
use Rattle.std.specs.List.{list_any}
use Rattle.pb_fixpoint.specs.declared.Sign.{Sign}
use Rattle.pb_fixpoint.specs.declared.Sign.TheVariants.{Mu, Nu}
use Rattle.pb_text_meaning.specs.Syntax.{Name, same_name, Term}
use Rattle.pb_model_meaning.specs.Syntax.{Formula}

-- g is a test with `!` in front of it, or the other truth value
abbrev pub IsNegatedTest : Term → Formula → Type 0
IsNegatedTest x g =
    (g ≡ Formula.Not (Formula.Data x))
    ⊎ ((b : Bool) × (x ≡ Term.Truth b) × (g ≡ Formula.Data (Term.Truth (not b))))

-- g has `!` in front of a formula of which P holds; or it is what f is, a truth value
abbrev pub IsNegated : Formula → (Formula → Type 0) → Formula → Type 0
IsNegated f P g =
    ((h : Formula) × (g ≡ Formula.Not h) × P h)
    ⊎ ((b : Bool) × (f ≡ Formula.Data (Term.Truth b)) × (g ≡ Formula.Data (Term.Truth b)))

abbrev pub IsOtherSign : Sign → Sign → Type 0
IsOtherSign Mu other = other ≡ Nu
IsOtherSign Nu other = other ≡ Mu

-- g is the dual of f, and P holds of each test with what stands in its place
abbrev pub IsDual : (Term → Formula → Type 0) → Formula → Formula → Type 0
IsDual P (Formula.Truth b) g = g ≡ Formula.Truth (not b)
IsDual P (Formula.Data x) g = P x g
IsDual P (Formula.Named X) g = g ≡ Formula.Named X
IsDual P (Formula.Not f) g = (h : Formula) × (g ≡ Formula.Not h) × IsDual P f h
IsDual P (Formula.And f₁ f₂) g =
    (h₁ : Formula) × (h₂ : Formula) × (g ≡ Formula.Or h₁ h₂) × IsDual P f₁ h₁ × IsDual P f₂ h₂
IsDual P (Formula.Or f₁ f₂) g =
    (h₁ : Formula) × (h₂ : Formula) × (g ≡ Formula.And h₁ h₂) × IsDual P f₁ h₁ × IsDual P f₂ h₂
IsDual P (Formula.Implies f₁ f₂) g =
    (h₁ : Formula) × (h₂ : Formula) × (g ≡ Formula.And h₁ h₂) × IsNegated f₁ (IsDual P f₁) h₁
    × IsDual P f₂ h₂
IsDual P (Formula.Box A f) g = (h : Formula) × (g ≡ Formula.Diamond A h) × IsDual P f h
IsDual P (Formula.Diamond A f) g = (h : Formula) × (g ≡ Formula.Box A h) × IsDual P f h
IsDual P (Formula.Fixpoint sign X f) g =
    (other : Sign) × (h : Formula) × IsOtherSign sign other × (g ≡ Formula.Fixpoint other X h)
    × IsDual P f h

-- g is the negation of f
abbrev pub IsNegation : Formula → Formula → Type 0
IsNegation f g = IsDual IsNegatedTest f g

-- each variable of a formula is that of a fixpoint around it, or one of these
abbrev pub IsBound : List Name → Formula → Type 0
IsBound bound (Formula.Truth b) = ⊤
IsBound bound (Formula.Data x) = ⊤
IsBound bound (Formula.Named X) = list_any (λ Y. same_name Y X) bound ≡ true
IsBound bound (Formula.Not f) = IsBound bound f
IsBound bound (Formula.And f g) = IsBound bound f × IsBound bound g
IsBound bound (Formula.Or f g) = IsBound bound f × IsBound bound g
IsBound bound (Formula.Implies f g) = IsBound bound f × IsBound bound g
IsBound bound (Formula.Box A f) = IsBound bound f
IsBound bound (Formula.Diamond A f) = IsBound bound f
IsBound bound (Formula.Fixpoint sign X f) = IsBound (X ∷ bound) f
