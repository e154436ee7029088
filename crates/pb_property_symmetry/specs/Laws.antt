-- Numbers of states and of instances, where variables are packed and states are moved.
use Rattle.std.specs.Prelude.{◌≡◌, ℕ, ◌<◌, true, List, map}
use Rattle.pb_fixpoint_trees.specs.Tree.{Tree}
use Rattle.pb_fixpoint_trees.specs.Equations.{numbered}
use Rattle.pb_fixpoint_symmetry.specs.Symmetry.{IsSymmetry}
use Rattle.pb_sorts.specs.Instance.{mixed_radix}
use Rattle.pb_text_meaning.specs.Syntax.{Name}
use Rattle.pb_text_meaning.specs.Meaning.{equations_of}
use Rattle.pb_typing_rules.specs.WellTyped.{IsWellTyped}
use Rattle.pb_model_meaning.specs.Syntax.{Formula, Model}
use Rattle.pb_model_meaning.specs.Steps.{State, is_state, state_carriers, state_count}
use Rattle.pb_model_symmetry.specs.Symmetry.{is_at_state, carried}
use Rattle.pb_model_translation.specs.Translation.{translation_by}
use Rattle.pb_protocol_packing.specs.Packing.{Group, packed_by}
use Rattle.pb_protocol_packing.specs.Apart.{IsPacking}
use Rattle.pb_protocol_packing.specs.Unpacked.{unpacked}
use Rattle.pb_protocol_symmetry_packed.specs.States.{packed_state}
use Rattle.pb_protocol_symmetry_packed.specs.Laws.{through}
use Rattle.pb_bytecode.specs.Contents.{Contents}
use Rattle.pb_bytecode.specs.Meaning.{signature_of, AreTrees}
use Rattle.pb_assembler_modules.specs.Module.{IsCompiledModule}
use Rattle.pb_exploration_orbits.specs.Laws.{is_declared}
use Rattle.pb_property_symmetry.specs.Numbers.{moved_instance}

-- the packed state has the number of the state
abbrev pub PackedStatesKeepTheirNumbers : Type 0
PackedStatesKeepTheirNumbers =
    (m : Model) (gs : List Group) → IsPacking m gs → (s : State) → is_state m s ≡ true →
    mixed_radix (state_carriers (packed_by gs m)) (packed_state gs s)
    ≡ mixed_radix (state_carriers m) s

-- so a map of states moves the same numbers through packed states
abbrev pub PackedNumbersMoveAlike : Type 0
PackedNumbersMoveAlike =
    (m : Model) (gs : List Group) → IsPacking m gs → (f : State → State) →
    ((s : State) → is_state m (f s) ≡ is_state m s) → (n : ℕ) → 0 < state_count m →
    moved_instance (state_carriers (packed_by gs m))
    (through (packed_by gs m) (unpacked gs) (packed_state gs) f) n
    ≡ moved_instance (state_carriers m) f n

-- A symmetry of a model's states, of the equations to which a formula is translated, moves the
-- numbers of their module's instances: each equation has the model's variables as parameters.
abbrev pub ModulesMoveWithStates : Type 0
ModulesMoveWithStates =
    (m : Model) (names : ℕ → Name) (g : Formula) → IsWellTyped (translation_by m names g) →
    (c : Contents) → IsCompiledModule (translation_by m names g) c →
    (trees : ℕ → Tree) → AreTrees c trees →
    (f : State → State) → ((s : State) → is_state m (f s) ≡ is_state m s) →
    IsSymmetry (is_at_state m) (equations_of (translation_by m names g)) (carried f) →
    (on : ℕ → ℕ) →
    ((n : ℕ) → 0 < state_count m → moved_instance (state_carriers m) f n ≡ on n) →
    IsSymmetry (is_declared c) (numbered 0 (map signature_of c.equations) trees) on
