-- The flat model of a symmetric protocol is symmetric, and so are the equations to which it is
-- translated (Emerson and Sistla 1996; of scalar sets, Ip and Dill 1996). Of a formula that is
-- written out the copies are permuted among themselves, which equations can't be: so quantified
-- formulas are those without an equation of their own.
use Rattle.std.specs.Prelude.{◌≡◌, ℕ, ⊤, if◌then◌else◌, []}
use Rattle.pb_base_values.specs.Carrier.{Value, Carrier}
use Rattle.pb_text_meaning.specs.Syntax.{Name}
use Rattle.pb_text_meaning.specs.Meaning.{equations_of}
use Rattle.pb_model_meaning.specs.Steps.{State}
use Rattle.pb_model_translation.specs.Translation.{equation_count, translation_by}
use Rattle.pb_model_translation.specs.Apart.{HasNamesApart}
use Rattle.pb_fixpoint_symmetry.specs.Symmetry.{IsSymmetry}
use Rattle.pb_model_symmetry.specs.Symmetry.{IsModelSymmetry, is_at_state, carried}
use Rattle.pb_protocol_meaning.specs.Syntax.{Formula, Protocol}
use Rattle.pb_protocol_meaning.specs.Steps.{data_of, is_state}
use Rattle.pb_protocol_unfolding.specs.Unfolding.{unfolded, unfolded_formula}
use Rattle.pb_protocol_unfolding.specs.Hygiene.{HidesNothing}
use Rattle.pb_protocol_unfolding.specs.Whole.{valued_in}
use Rattle.pb_protocol_unfolding.specs.ModelLaws.{NamesNoWhole}
use Rattle.pb_protocol_symmetry.specs.Permutation.{IsPermutation}
use Rattle.pb_protocol_symmetry.specs.Kinds.{Signatures}
use Rattle.pb_protocol_symmetry.specs.States.{permuted}
use Rattle.pb_protocol_symmetry.specs.Satisfaction.{IsSymmetric, FormulaHasKinds}

-- no quantified formula has an equation of its own when it is written out
abbrev pub IsQuantifiedAlone : Protocol → Formula → Type 0
IsQuantifiedAlone m (Formula.Truth b) = ⊤
IsQuantifiedAlone m (Formula.Data x) = ⊤
IsQuantifiedAlone m (Formula.Named X) = ⊤
IsQuantifiedAlone m (Formula.Not f) = IsQuantifiedAlone m f
IsQuantifiedAlone m (Formula.And f g) = IsQuantifiedAlone m f × IsQuantifiedAlone m g
IsQuantifiedAlone m (Formula.Or f g) = IsQuantifiedAlone m f × IsQuantifiedAlone m g
IsQuantifiedAlone m (Formula.Implies f g) = IsQuantifiedAlone m f × IsQuantifiedAlone m g
IsQuantifiedAlone m (Formula.Box A f) = IsQuantifiedAlone m f
IsQuantifiedAlone m (Formula.Diamond A f) = IsQuantifiedAlone m f
IsQuantifiedAlone m (Formula.Fixpoint sign X f) = IsQuantifiedAlone m f
IsQuantifiedAlone m (Formula.Quantified q xs f) =
    equation_count (unfolded_formula m [] (Formula.Quantified q xs f)) ≡ 0

-- states are permuted, and what isn't one stays
abbrev pub permuted_states : Protocol → Name → (Value → Value) → (Value → Value) → State → State
permuted_states m sort p back s =
    if is_state m s then permuted (data_of m) sort p back m.variables s else s

-- the unfolded model has the symmetries of the protocol, at each formula that names no step by
-- values that stays whole, so at each property of the protocol
abbrev pub UnfoldedModelsAreSymmetric : Type 0
UnfoldedModelsAreSymmetric =
    (m : Protocol) → HidesNothing m →
    (sort : Name) (M : Carrier) (signatures : Signatures) → IsSymmetric m sort M signatures →
    (p back : Value → Value) → IsPermutation M p back →
    (f : Formula) → NamesNoWhole m (valued_in f) →
    FormulaHasKinds m sort M signatures [] f → IsQuantifiedAlone m f →
    IsModelSymmetry (unfolded m) (unfolded_formula m [] f) (permuted_states m sort p back)

-- and so have the equations to which it is translated
abbrev pub UnfoldedEquationsAreSymmetric : Type 0
UnfoldedEquationsAreSymmetric =
    (m : Protocol) → HidesNothing m →
    (sort : Name) (M : Carrier) (signatures : Signatures) → IsSymmetric m sort M signatures →
    (p back : Value → Value) → IsPermutation M p back →
    (f : Formula) → NamesNoWhole m (valued_in f) →
    FormulaHasKinds m sort M signatures [] f → IsQuantifiedAlone m f →
    (names : ℕ → Name) → HasNamesApart (unfolded m) →
    IsSymmetry (is_at_state (unfolded m))
    (equations_of (translation_by (unfolded m) names (unfolded_formula m [] f)))
    (carried (permuted_states m sort p back))
