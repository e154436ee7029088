-- What symmetries of a system of fixpoint equations obey: the nested solution is invariant under
-- them, and a system that is reduced by them has the same solution (Emerson and Sistla 1996;
-- Clarke, Enders, Filkorn and Jha 1996).
use Rattle.std.specs.Prelude.{◌≡◌, Bool, true, List}
use Rattle.pb_fixpoint.specs.Solution.{Environment, Equation, solution}
use Rattle.pb_fixpoint_symmetry.specs.Symmetry.{IsSymmetry, IsInvariant, IsInvariantUnder, Agree}
use Rattle.pb_fixpoint_symmetry.specs.Symmetry.{AreClosed, AreReduced, Represents, all_reduced}

-- the solution is invariant under each symmetry under which the environment is
abbrev pub SymmetriesKeepTheSolution : Type 0 → Type 0
SymmetriesKeepTheSolution I =
    (known : I → Bool) (E : List (Equation I)) (f : I → I) (t : Environment I) →
    IsSymmetry known E f → IsInvariant known f t → IsInvariant known f (solution E t)

-- one symmetry after another is one, as of two sorts
abbrev pub SymmetriesCompose : Type 0 → Type 0
SymmetriesCompose I =
    (known : I → Bool) (E : List (Equation I)) (f g : I → I) →
    ((i : I) → known i ≡ true → known (g i) ≡ true) →
    IsSymmetry known E f → IsSymmetry known E g → IsSymmetry known E (λ i. f (g i))

-- a system that is reduced by symmetries has the system's solution
abbrev pub ReducedSystemsSuffice : Type 0 → Type 0 → Type 0
ReducedSystemsSuffice I G =
    (known : I → Bool) (family : G → I → I) (E D : List (Equation I)) (t : Environment I) →
    ((g : G) → IsSymmetry known E (family g)) → AreReduced known family E D →
    IsInvariantUnder known family t → Agree known (solution D t) (solution E t)

-- one whose calls go to representatives is reduced
abbrev pub CallsMayGoToRepresentatives : Type 0 → Type 0 → Type 0
CallsMayGoToRepresentatives I G =
    (known : I → Bool) (family : G → I → I) (representative : I → I) (E : List (Equation I)) →
    AreClosed known E → Represents known family representative →
    AreReduced known family E (all_reduced representative E)
