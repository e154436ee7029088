-- The operands of a chain: which of them decides first, and which are left behind it.
use Rattle.std.specs.Prelude.{◌≡◌, ◌⊎◌, ◌<◌, Bool, true, false, List, [], ◌∷◌, length, Option, Some, None}
use Rattle.pb_normal.specs.Normal as normal
use Rattle.pb_normal.specs.Normal.{Term}
use Rattle.pb_normal.specs.declared.formula.Formula.{Formula}
use Rattle.pb_assembler_scheme.specs.Scheme.{test_of}

-- a test, and the operands whose code it guards
abbrev pub Guarded : Type 0
Guarded = Term × (normal.Formula × List normal.Formula)

-- The first operand if it is a test, with all behind it. Of two operands otherwise the second one,
-- with the first one.
abbrev pub guarded_by :
    Option Term → Option Term → (f g : normal.Formula) → List normal.Formula → Option Guarded
guarded_by (Some t) u f g gs = Some (t, (g, gs))
guarded_by None (Some t) f g [] = Some (t, (f, []))
guarded_by None (Some t) f g (h ∷ hs) = None
guarded_by None None f g gs = None

abbrev pub early_test : normal.Formula → List normal.Formula → Option Guarded
early_test f [] = None
early_test f (g ∷ gs) = guarded_by (test_of f) (test_of g) f g gs

-- all operands but the first, or the first one of two
abbrev pub IsLeft : Formula → List Formula → Formula → List Formula → Type 0
IsLeft first rest f gs = (rest ≡ f ∷ gs) ⊎ ((f ≡ first) × (gs ≡ []) × (0 < length rest))

-- the operand of the first pair that a test guards: the second one, where the test is the first
abbrev pub other_of : (is_first : Bool) → Formula → List Formula → Formula
other_of b f [] = f
other_of true f (g ∷ gs) = g
other_of false f (g ∷ gs) = f
