-- When what a formula is unfolded to has a positive translation (T06).
use Rattle.std.specs.Prelude.{◌≡◌, Bool, true, false, not, ⊤, []}
use Rattle.pb_model_translation.specs.Positive as flat
use Rattle.pb_protocol_meaning.specs.Syntax.{Formula, Protocol}
use Rattle.pb_protocol_unfolding.specs.Unfolding.{unfolded_formula}
use Rattle.pb_protocol_unfolding.specs.ModelLaws.{flat_formula}

abbrev pub is_constant : Formula → Bool
is_constant (Formula.Truth b) = true
is_constant f = false

-- Each variable, fixpoint and operand of a modality but `true` and `false` stands under an even
-- number of negations, where `even` says whether those around are even.
abbrev pub HasPositiveCalls : Bool → Formula → Type 0
HasPositiveCalls even (Formula.Truth b) = ⊤
HasPositiveCalls even (Formula.Data x) = ⊤
HasPositiveCalls even (Formula.Named X) = even ≡ true
HasPositiveCalls even (Formula.Not f) = HasPositiveCalls (not even) f
HasPositiveCalls even (Formula.And f g) = HasPositiveCalls even f × HasPositiveCalls even g
HasPositiveCalls even (Formula.Or f g) = HasPositiveCalls even f × HasPositiveCalls even g
HasPositiveCalls even (Formula.Implies f g) =
    HasPositiveCalls (not even) f × HasPositiveCalls even g
HasPositiveCalls even (Formula.Box A f) =
    (is_constant f ≡ false → even ≡ true) × HasPositiveCalls true f
HasPositiveCalls even (Formula.Diamond A f) =
    (is_constant f ≡ false → even ≡ true) × HasPositiveCalls true f
HasPositiveCalls even (Formula.Fixpoint sign X f) = (even ≡ true) × HasPositiveCalls true f
HasPositiveCalls even (Formula.Quantified q xs f) = HasPositiveCalls even f

-- then so does what it is unfolded to
abbrev pub UnfoldedCallsArePositive : Type 0
UnfoldedCallsArePositive =
    (m : Protocol) (f : Formula) → HasPositiveCalls true f →
    flat.HasPositiveCalls true (unfolded_formula m [] f)

-- and what it is in the flat model
abbrev pub PositiveCallsAreKept : Type 0
PositiveCallsAreKept =
    (m : Protocol) (f : Formula) → HasPositiveCalls true f →
    flat.HasPositiveCalls true (flat_formula m f)
