-- What the solution's sets are, where truth is monotone: least and greatest fixpoints.
use Rattle.std.specs.Prelude.{◌≡◌, true, List, [], ◌∷◌, Contains, length}
use Rattle.pb_fixpoint.specs.declared.Sign.{Sign}
use Rattle.pb_fixpoint.specs.declared.Sign.TheVariants.{Mu, Nu}
use Rattle.pb_fixpoint.specs.Solution.{Environment, Equation, operator, value_of}

-- each instance of s is one of t
abbrev pub Within : {I : Type 0} → Environment I → Environment I → Type 0
Within {I} s t = (i : I) → s i ≡ true → t i ≡ true

-- more true instances make no instance of X false
pub record IsMonotone {I : Type 0} (X : Equation I) : Type 0 where
  pub keeps : (s t : Environment I) → Within s t → (i : I) → X.holds i s ≡ true → X.holds i t ≡ true

abbrev pub AreMonotone : {I : Type 0} → List (Equation I) → Type 0
AreMonotone [] = Unit {0}
AreMonotone (X ∷ E) = IsMonotone X × AreMonotone E

-- the list has each instance of X, and is as long as X says
pub record AreInstances {I : Type 0} (X : Equation I) (instances : List I) : Type 0 where
  pub all : (i : I) → X.owns i ≡ true → Contains instances i
  pub count : length instances ≡ X.size

-- at X's instances, g leaves T as it is
pub record IsFixpoint {I : Type 0} (X : Equation I) (g : Environment I → Environment I)
    (T : Environment I) : Type 0 where
  pub same : (i : I) → X.owns i ≡ true → g T i ≡ T i

-- at X's instances, s is within t
abbrev pub WithinAt : {I : Type 0} → Equation I → Environment I → Environment I → Type 0
WithinAt {I} X s t = (i : I) → X.owns i ≡ true → s i ≡ true → t i ≡ true

-- T is within each set that g doesn't enlarge
pub record IsLeast {I : Type 0} (X : Equation I) (g : Environment I → Environment I)
    (T : Environment I) : Type 0 where
  pub below : (F : Environment I) → WithinAt X (g F) F → WithinAt X T F

-- each set that g doesn't cut is within T
pub record IsGreatest {I : Type 0} (X : Equation I) (g : Environment I → Environment I)
    (T : Environment I) : Type 0 where
  pub above : (F : Environment I) → WithinAt X F (g F) → WithinAt X F T

-- least for mu, greatest for nu
abbrev pub IsExtreme : {I : Type 0} → Sign → Equation I → (Environment I → Environment I)
    → Environment I → Type 0
IsExtreme Mu X g T = IsLeast X g T
IsExtreme Nu X g T = IsGreatest X g T

-- the set that X gets is a fixpoint of its operator, and the least or the greatest one
pub record IsSolved {I : Type 0} (X : Equation I) (E : List (Equation I))
    (t : Environment I) : Type 0 where
  pub fixpoint : IsFixpoint X (operator X E t) (value_of X E t)
  pub extreme : IsExtreme X.sign X (operator X E t) (value_of X E t)
