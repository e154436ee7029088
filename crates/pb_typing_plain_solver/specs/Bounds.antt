-- What is known of the sets of equations before they are computed.
use Rattle.std.specs.Prelude.{Bool, List, [], ◌∷◌}
use Rattle.pb_fixpoint.specs.Solution.{Environment, Equation, assign, value_of}
use Rattle.pb_typing_plain_solver.specs.Side.{BeforeAt}

-- Bounds of the sets of equations under t, all in u: each set comes after its bound, and so do the
-- later ones where the set is replaced by its bound. Upwards these are lower bounds, downwards
-- upper ones.
abbrev pub AreBounds : {I : Type 0} → Bool → List (Equation I) → Environment I → Environment I
    → Type 0
AreBounds side [] t u = Unit {0}
AreBounds side (X ∷ E) t u = BeforeAt side X u (value_of X E t) × AreBounds side E (assign t X u) u
