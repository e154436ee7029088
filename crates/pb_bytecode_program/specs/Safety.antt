-- What accepted code owes: on any arguments of its declared carriers no fault comes, and the run
-- ends within the static counts, with the tokens of a tree whose calls are instances.
use Rattle.std.specs.Prelude.{◌≡◌, ℕ, ◌≤◌, true, List, [], ◌∷◌, length, map}
use Rattle.pb_base_values.specs.Carrier.{Tuple, is_within}
use Rattle.pb_sorts.specs.Instance.{Instance, is_instance, number_of}
use Rattle.pb_sorts.specs.Layout.{carriers_of}
use Rattle.pb_fixpoint_trees.specs.Tree.{Tree, TreeCalls}
use Rattle.pb_fixpoint_trees.specs.Tokens.{tree_tokens}
use Rattle.pb_sorts.specs.Carrier.{values_of}
use Rattle.pb_bytecode_program.specs.Values.{TaggedValue, tagged}
use Rattle.pb_bytecode_program.specs.Machine.{Program, Ends, Faults, MachineFault, run, start}
use Rattle.pb_bytecode_program.specs.Counts.{static_steps, static_tokens}
use Rattle.pb_sorts.specs.declared.carrier.Carrier.{Carrier}

-- a tuple's values with the kinds of its carriers
abbrev pub arguments : List Carrier → Tuple → List TaggedValue
arguments (c ∷ cs) (z ∷ zs) = tagged c z ∷ arguments cs zs
arguments _ _ = []

-- the values are of these carriers, one each
abbrev pub AreArguments : List Carrier → Tuple → Type 0
AreArguments cs tuple = is_within (map values_of cs) tuple ≡ true

-- n is the number of an instance: of a declared equation, with a value of each of its carriers
pub record IsInstance (p : Program) (n : ℕ) : Type 0 where
  pub instance : Instance
  pub declared : is_instance (carriers_of p.callees) instance ≡ true
  pub numbered : n ≡ number_of (carriers_of p.callees) instance

-- the run on these values ends with the tree
pub record EndsWith (p : Program) (tuple : Tuple) (tree : Tree) : Type 0 where
  pub ends : (n : ℕ) → static_steps p ≤ n
      → run p n (start (arguments p.parameters tuple)) ≡ Ends (tree_tokens tree)
  pub short : length (tree_tokens tree) ≤ static_tokens p
  pub calls : TreeCalls (IsInstance p) tree

pub record IsSafe (p : Program) : Type 0 where
  pub never_faults : (tuple : Tuple) → AreArguments p.parameters tuple → (n : ℕ) (f : MachineFault)
      → run p n (start (arguments p.parameters tuple)) ≡ Faults f → ⊥
  pub ends : (tuple : Tuple) → AreArguments p.parameters tuple
      → (tree : Tree) × EndsWith p tuple tree
