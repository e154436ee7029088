-- The rows that exploration hands over are those from which a game is built.
use Rattle.std.proofs.Common.{◌≡◌, List, sym, subst}
use Rattle.pb_fixpoint_trees.specs.Row.{TokenRow}
use Rattle.pb_sorts.specs.declared.counting.Counting.{Counting}
use Rattle.pb_bytecode.specs.Contents.{Contents}
use Rattle.pb_bytecode.specs.Meaning.{initial_of}
use Rattle.pb_machine.specs.Reachable.{Starts}
use Rattle.pb_exploration_reached.specs.Rows.{AreExploredRows}
use Rattle.pb_game_of_trees.specs.Explored.{AreModuleRows, IsModuleTooLarge}
use Rattle.pb_command_solver.specs.Answers.{IsTooLarge, LargeGame}

pub module_rows : (m : Contents) (found rows : List TokenRow) → rows ≡ found → AreExploredRows m found → AreModuleRows m rows
module_rows m found rows same explored = subst (AreModuleRows m) (sym same) (λ trees have.
    let reached = explored trees have in
    record {
      are = record { rising = reached.rising; of_trees = reached.of_trees; system = reached.system };
      found = reached.all (initial_of m) Starts;
    })

-- what is too large for the game of the rows is so for that of the reached instances
pub too_large : (counting : Counting) (m : Contents) (found rows : List TokenRow) → rows ≡ found → AreExploredRows m found → IsModuleTooLarge counting m rows → IsTooLarge counting m
too_large counting m found rows same explored large = LargeGame (λ trees have. record {
  rows = found;
  reached = explored trees have;
  large = subst (λ (r : List TokenRow). IsModuleTooLarge counting m r) same large trees have;
})
