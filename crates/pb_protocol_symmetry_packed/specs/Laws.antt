-- A packed model has the symmetries of the model (Emerson and Sistla 1996): packed states are those
-- of the model, by an isomorphism of the two transition systems.
use Rattle.std.specs.Prelude.{◌≡◌, true, if◌then◌else◌, List, Contains}
use Rattle.pb_text_meaning.specs.Syntax.{Name}
use Rattle.pb_model_meaning.specs.Syntax.{StepSet, Formula, Property, Model}
use Rattle.pb_model_meaning.specs.Steps.{State, is_state, successors}
use Rattle.pb_model_meaning.specs.Satisfaction.{Valuation, satisfying}
use Rattle.pb_model_symmetry.specs.Symmetry.{IsModelSymmetry}
use Rattle.pb_protocol_packing.specs.Packing.{Group, packed_by, packed_formula}
use Rattle.pb_protocol_packing.specs.Apart.{IsPacking, is_apart_formula}
use Rattle.pb_protocol_packing.specs.Groups.{groups_of, packed, said_formula}
use Rattle.pb_protocol_packing.specs.Packable.{IsPackable}
use Rattle.pb_protocol_packing.specs.Unpacked.{unpacked, AllStandFor}
use Rattle.pb_protocol_symmetry_packed.specs.States.{packed_state}

-- The states of two models are the same by two maps, inverse to one another, and so are their
-- steps.
pub record AreIsomorphic (m n : Model) (unpack pack : State → State) : Type 0 where
  pub successors : (A : StepSet) (t : State) → is_state n t ≡ true
      → AllStandFor m n unpack (successors m A (unpack t)) (successors n A t)
  pub there : (t : State) → is_state n t ≡ true → is_state m (unpack t) ≡ true
  pub packed : (s : State) → is_state m s ≡ true → is_state n (pack s) ≡ true
  pub unpacked : (s : State) → is_state m s ≡ true → unpack (pack s) ≡ s
  pub back : (t : State) → is_state n t ≡ true → pack (unpack t) ≡ t

-- a state of n satisfies h where the state of m satisfies g
abbrev pub AreEquivalent : Model → Model → (State → State) → Formula → Formula → Type 0
AreEquivalent m n unpack g h =
    (ρ τ : Valuation) →
    ((X : Name) (t : State) → is_state n t ≡ true → τ X t ≡ ρ X (unpack t)) →
    (t : State) → is_state n t ≡ true → satisfying n τ h t ≡ satisfying m ρ g (unpack t)

-- a map of states of m as one of states of n; what isn't a state stays
abbrev pub through : Model → (State → State) → (State → State) → (State → State) → State → State
through n unpack pack f t = if is_state n t then pack (f (unpack t)) else t

-- ---- laws

-- a model whose variables are in groups is isomorphic to the model
abbrev pub PackedModelsAreIsomorphic : Type 0
PackedModelsAreIsomorphic =
    (m : Model) (gs : List Group) → IsPacking m gs →
    AreIsomorphic m (packed_by gs m) (unpacked gs) (packed_state gs)

-- and formulas mean the same there
abbrev pub PackedFormulasAreEquivalent : Type 0
PackedFormulasAreEquivalent =
    (m : Model) (gs : List Group) → IsPacking m gs → (g : Formula) →
    is_apart_formula gs g ≡ true →
    AreEquivalent m (packed_by gs m) (unpacked gs) g (packed_formula gs g)

-- a symmetry of the model is, through packed states, one of the packed model
abbrev pub PackedModelsAreSymmetric : Type 0
PackedModelsAreSymmetric =
    (m : Model) (gs : List Group) → IsPacking m gs → (g : Formula) →
    is_apart_formula gs g ≡ true → (f : State → State) → IsModelSymmetry m g f →
    IsModelSymmetry (packed_by gs m) (packed_formula gs g)
    (through (packed_by gs m) (unpacked gs) (packed_state gs) f)

-- so it is with each property of a model that is packed over at most eight variables
abbrev pub PackedPropertiesAreSymmetric : Type 0
PackedPropertiesAreSymmetric =
    (m : Model) (p : Property) → IsPackable m → Contains m.properties p →
    (f : State → State) → IsModelSymmetry m p.formula f →
    IsModelSymmetry (packed m) (said_formula m p.formula)
    (through (packed m) (unpacked (groups_of m)) (packed_state (groups_of m)) f)
