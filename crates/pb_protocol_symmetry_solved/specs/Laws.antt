-- The equations that are solved in a symmetric protocol's place are symmetric, whether its flat
-- model is translated or the packed one: each permutation of the sort's elements is a symmetry
-- (Ip and Dill 1996; Emerson and Sistla 1996).
use Rattle.std.specs.Prelude.{◌≡◌, ℕ, true, [], Contains}
use Rattle.pb_base_values.specs.Carrier.{Value, Carrier}
use Rattle.pb_text_meaning.specs.Syntax.{Name}
use Rattle.pb_text_meaning.specs.Meaning.{equations_of}
use Rattle.pb_model_meaning.specs.Steps.{State}
use Rattle.pb_model_translation.specs.Translation.{translation_by}
use Rattle.pb_fixpoint_symmetry.specs.Symmetry.{IsSymmetry}
use Rattle.pb_model_symmetry.specs.Symmetry.{IsModelSymmetry, is_at_state, carried}
use Rattle.pb_protocol_meaning.specs.Syntax.{Formula, Property, Protocol}
use Rattle.pb_protocol_unfolding.specs.Hygiene.{HidesNothing}
use Rattle.pb_protocol_unfolding.specs.Whole.{valued_in}
use Rattle.pb_protocol_unfolding.specs.ModelLaws.{NamesNoWhole, flat_model, flat_formula}
use Rattle.pb_protocol_packing.specs.Groups.{groups_of, packed, said_formula}
use Rattle.pb_protocol_packing.specs.Packable.{IsPackable}
use Rattle.pb_protocol_packing.specs.Unpacked.{unpacked}
use Rattle.pb_protocol_symmetry.specs.Permutation.{IsPermutation}
use Rattle.pb_protocol_symmetry.specs.Kinds.{Signatures}
use Rattle.pb_protocol_symmetry.specs.Satisfaction.{IsSymmetric, FormulaHasKinds}
use Rattle.pb_protocol_symmetry.specs.ProtocolTest.{formula_has_kinds, signatures_in, is_symmetric}
use Rattle.pb_protocol_symmetry_unfolded.specs.Laws.{IsQuantifiedAlone, permuted_states}
use Rattle.pb_protocol_symmetry_packed.specs.States.{packed_state}
use Rattle.pb_protocol_symmetry_packed.specs.Laws.{through}

-- the flat model has the symmetries of the protocol, at each formula that names no step by values
-- that stays whole, so at each property of the protocol
abbrev pub FlatModelsAreSymmetric : Type 0
FlatModelsAreSymmetric =
    (m : Protocol) → HidesNothing m →
    (sort : Name) (M : Carrier) (signatures : Signatures) → IsSymmetric m sort M signatures →
    (p back : Value → Value) → IsPermutation M p back →
    (f : Formula) → NamesNoWhole m (valued_in f) →
    FormulaHasKinds m sort M signatures [] f → IsQuantifiedAlone m f →
    IsModelSymmetry (flat_model m) (flat_formula m f) (permuted_states m sort p back)

-- and so have the equations to which it is translated, by whatever names
abbrev pub FlatEquationsAreSymmetric : Type 0
FlatEquationsAreSymmetric =
    (m : Protocol) → HidesNothing m →
    (sort : Name) (M : Carrier) (signatures : Signatures) → IsSymmetric m sort M signatures →
    (p back : Value → Value) → IsPermutation M p back →
    (f : Formula) → NamesNoWhole m (valued_in f) →
    FormulaHasKinds m sort M signatures [] f → IsQuantifiedAlone m f →
    (names : ℕ → Name) →
    IsSymmetry (is_at_state (flat_model m))
    (equations_of (translation_by (flat_model m) names (flat_formula m f)))
    (carried (permuted_states m sort p back))

-- states of the packed flat model, permuted
abbrev pub permuted_packed : Protocol → Name → (Value → Value) → (Value → Value) → State → State
permuted_packed m sort p back =
    through (packed (flat_model m)) (unpacked (groups_of (flat_model m)))
    (packed_state (groups_of (flat_model m))) (permuted_states m sort p back)

-- and the equations of the packed flat model, of a property of the protocol
abbrev pub PackedEquationsAreSymmetric : Type 0
PackedEquationsAreSymmetric =
    (m : Protocol) → HidesNothing m → IsPackable (flat_model m) →
    (sort : Name) (M : Carrier) (signatures : Signatures) → IsSymmetric m sort M signatures →
    (p back : Value → Value) → IsPermutation M p back →
    (q : Property) → Contains m.properties q →
    FormulaHasKinds m sort M signatures [] q.formula → IsQuantifiedAlone m q.formula →
    (names : ℕ → Name) →
    IsSymmetry (is_at_state (packed (flat_model m)))
    (equations_of (translation_by (packed (flat_model m)) names
    (said_formula (flat_model m) (flat_formula m q.formula))))
    (carried (permuted_packed m sort p back))

-- so what passes the test has these symmetries
abbrev pub TestedEquationsAreSymmetric : Type 0
TestedEquationsAreSymmetric =
    (m : Protocol) → HidesNothing m → (sort : Name) (M : Carrier) → is_symmetric m sort M ≡ true →
    (p back : Value → Value) → IsPermutation M p back →
    (f : Formula) → NamesNoWhole m (valued_in f) →
    formula_has_kinds m sort M (signatures_in m sort M) [] f ≡ true → IsQuantifiedAlone m f →
    (names : ℕ → Name) →
    IsSymmetry (is_at_state (flat_model m))
    (equations_of (translation_by (flat_model m) names (flat_formula m f)))
    (carried (permuted_states m sort p back))
