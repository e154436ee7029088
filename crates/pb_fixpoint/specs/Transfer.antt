-- When two sequences of equations over two kinds of instances, as names and numbers, are the same
-- equations.
use Rattle.std.specs.Prelude.{◌≡◌, Bool, true, List, [], ◌∷◌}
use Rattle.pb_fixpoint.specs.Solution.{Environment, Equation}

-- u says of each known j what t says of the instance that j names
abbrev pub Matches : {I J : Type 0} → (J → Bool) → (J → I) → Environment I → Environment J → Type 0
Matches {J = J} known named t u = (j : J) → known j ≡ true → u j ≡ t (named j)

-- X and Y have one sign and one size, own the same instances, and hold alike where environments
-- match
pub record IsSame {I J : Type 0} (known : J → Bool) (named : J → I) (X : Equation I)
    (Y : Equation J) : Type 0 where
  pub sign : Y.sign ≡ X.sign
  pub size : Y.size ≡ X.size
  pub owns : (j : J) → known j ≡ true → Y.owns j ≡ X.owns (named j)
  pub holds : (t : Environment I) (u : Environment J) → Matches known named t u → (j : J)
      → known j ≡ true → Y.holds j u ≡ X.holds (named j) t

-- equal, equation by equation
abbrev pub AreSame : {I J : Type 0} → (J → Bool) → (J → I) → List (Equation I) → List (Equation J)
    → Type 0
AreSame known named [] [] = Unit {0}
AreSame known named (X ∷ E) (Y ∷ D) = IsSame known named X Y × AreSame known named E D
AreSame known named [] (Y ∷ D) = ⊥
AreSame known named (X ∷ E) [] = ⊥
