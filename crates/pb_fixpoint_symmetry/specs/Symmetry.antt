-- Symmetries of a system of fixpoint equations, and systems that are reduced by them: of instances
-- that symmetries carry to one another, an orbit, one is solved in place of all (Emerson and Sistla
-- 1996; Clarke, Enders, Filkorn and Jha 1996, there for temporal logic over quotients of models).
use Rattle.std.specs.Prelude.{◌≡◌, Bool, true, List, [], ◌∷◌, map}
use Rattle.pb_fixpoint.specs.Solution.{Environment, Equation}
use Rattle.pb_fixpoint.specs.Transfer.{Matches, AreSame}

-- A map of instances is a symmetry where it carries each equation to itself: an instance's right
-- side holds where that of its image holds under the environment that is carried along. It has to
-- do so at known instances alone (those that are declared).
abbrev pub IsSymmetry : {I : Type 0} → (I → Bool) → List (Equation I) → (I → I) → Type 0
IsSymmetry known E f = AreSame known f E E

-- an environment has the same truth value at each known instance and at its image
abbrev pub IsInvariant : {I : Type 0} → (I → Bool) → (I → I) → Environment I → Type 0
IsInvariant known f t = Matches known f t t

-- and so for each map of a family
abbrev pub IsInvariantUnder : {I G : Type 0} → (I → Bool) → (G → I → I) → Environment I → Type 0
IsInvariantUnder {G = G} known family t = (g : G) → IsInvariant known (family g) t

-- two environments have the same truth value at each known instance
abbrev pub Agree : {I : Type 0} → (I → Bool) → Environment I → Environment I → Type 0
Agree {I} known u t = (i : I) → known i ≡ true → u i ≡ t i

-- right sides read known instances alone
abbrev pub AreClosed : {I : Type 0} → (I → Bool) → List (Equation I) → Type 0
AreClosed known E = AreSame known (λ i. i) E E

-- some map of the family carries i to j
abbrev pub IsCarried : {I G : Type 0} → (G → I → I) → I → I → Type 0
IsCarried {G = G} family i j = (g : G) × (j ≡ family g i)

-- ---- reduced systems

-- Y may replace X: it holds where X does, under environments that are invariant
pub record IsReduced {I G : Type 0} (known : I → Bool) (family : G → I → I) (X : Equation I)
    (Y : Equation I) : Type 0 where
  pub sign : Y.sign ≡ X.sign
  pub size : Y.size ≡ X.size
  pub owns : (i : I) → known i ≡ true → Y.owns i ≡ X.owns i
  pub holds : (t u : Environment I) → IsInvariantUnder known family t → Agree known u t → (i : I)
      → known i ≡ true → Y.holds i u ≡ X.holds i t

-- equation by equation
abbrev pub AreReduced : {I G : Type 0} → (I → Bool) → (G → I → I) → List (Equation I)
    → List (Equation I) → Type 0
AreReduced known family [] [] = Unit {0}
AreReduced known family (X ∷ E) (Y ∷ D) =
    IsReduced known family X Y × AreReduced known family E D
AreReduced known family [] (Y ∷ D) = ⊥
AreReduced known family (X ∷ E) [] = ⊥

-- ---- representatives by a function

-- each known instance has a known representative, to which a map of the family carries it
pub record Represents {I G : Type 0} (known : I → Bool) (family : G → I → I)
    (representative : I → I) : Type 0 where
  pub known_too : (i : I) → known i ≡ true → known (representative i) ≡ true
  pub carried : (i : I) → known i ≡ true → IsCarried family i (representative i)

-- an equation whose calls go to representatives
abbrev pub reduced : {I : Type 0} → (I → I) → Equation I → Equation I
reduced representative X = record {
  sign = X.sign;
  owns = X.owns;
  size = X.size;
  holds = λ i t. X.holds i (λ j. t (representative j));
}

abbrev pub all_reduced : {I : Type 0} → (I → I) → List (Equation I) → List (Equation I)
all_reduced representative E = map (reduced representative) E
