-- What rows of representatives give.
use Rattle.std.proofs.Common.{◌≡◌, ◌∙◌, ℕ, Bool, map}
use Rattle.pb_fixpoint_trees.specs.Tree.{Tree}
use Rattle.pb_fixpoint_trees.specs.Equations.{solved}
use Rattle.pb_fixpoint_symmetry.specs.Trees.{MayBeCalledFor}
use Rattle.pb_bytecode.specs.Contents.{Contents}
use Rattle.pb_bytecode.specs.Meaning.{AreTrees, initial_of, signature_of}
use Rattle.pb_machine.specs.Reachable.IsReachable.{Starts}
use Rattle.pb_game_of_trees.specs.TreeGame.{AreRowsFrom, RowsHaveTrees}
use Rattle.pb_exploration_orbits.specs.Laws.{RepresentedAnswersAgree, is_declared}
use Rattle.pb_exploration_orbits.specs.Represented.{AreRepresented, IsExplored}
use Rattle.pb_exploration_orbits.specs.declared.exploration.Explored.{Explored}
use Rattle.pb_orbit_answers.specs.Answers.{IsAnswerBySymmetry}
use Rattle.pb_orbit_answers.proofs.Wider.{trees-wider}

module _ (m : Contents) (R : ℕ → ℕ → Type 0) (x : Explored) (explored : IsExplored m R x) (trees : ℕ → Tree) (are : AreTrees m trees) where
  -- one of the rows is the first one's
  from_start : AreRowsFrom (map signature_of m.equations) (explored trees are).0 x.rows x.start
  from_start = let led = (explored trees are).2 in record { are = led.are; found = led.all x.start Starts }

  pub rows_have_trees : RowsHaveTrees (map signature_of m.equations) x.rows x.start
  rows_have_trees = ((explored trees are).0, from_start)

-- the truth of the first one is the module's answer, where symmetries carry instances to representatives
pub answers : (S : Type 0) → RepresentedAnswersAgree S → (m : Contents) (R : ℕ → ℕ → Type 0) (x : Explored) → IsExplored m R x → (truth : Bool)
    → ((trees : ℕ → Tree) → AreRowsFrom (map signature_of m.equations) trees x.rows x.start → truth ≡ solved (map signature_of m.equations) trees x.start)
    → IsAnswerBySymmetry S m R truth
answers S agree m R x explored truth is trees are family symmetric carried =
    let fewer = (explored trees are).0 in
    let represented = (explored trees are).1 in
    let wide : AreRepresented m (MayBeCalledFor (is_declared m) family) trees (explored trees are).0 x.start = record {
      matched = λ n less. trees-wider R (MayBeCalledFor (is_declared m) family) carried (trees n) (fewer n) (represented.matched n less);
      initial = carried (initial_of m) x.start represented.initial;
    } in
    is fewer (from_start m R x explored trees are) ∙ agree m trees fewer family x.start symmetric wide
