-- What exploration hands over: the reached instances of a module, by rising number, with the tokens
-- of their trees.
use Rattle.std.specs.Prelude.{ℕ, List, map}
use Rattle.pb_fixpoint_trees.specs.Tree.{Tree}
use Rattle.pb_fixpoint_trees.specs.Row.{TokenRow}
use Rattle.pb_fixpoint_trees.specs.Reached.{rows_of}
use Rattle.pb_sorts.specs.declared.counting.Counting.{Counting}
use Rattle.pb_bytecode.specs.Contents.{Contents}
use Rattle.pb_bytecode.specs.Meaning.{AreTrees, signature_of, initial_of}
use Rattle.pb_game_of_trees.specs.declared.tree_game.TreeGame.{TreeGame}
use Rattle.pb_game_of_trees.specs.TreeGame.{AreRowsFrom, IsTreeGame, HasTooManyVertices}

-- the module's instances have trees: their runs end
abbrev pub ModuleHasTrees : Contents → Type 0
ModuleHasTrees m = (trees : ℕ → Tree) × AreTrees m trees

-- with whichever trees its instances have, the rows are the module's, and one of them is the
-- initial instance's
abbrev pub AreModuleRows : Contents → List TokenRow → Type 0
AreModuleRows m rows =
    (trees : ℕ → Tree) → AreTrees m trees
    → AreRowsFrom (map signature_of m.equations) trees rows (initial_of m)

-- with whichever trees its instances have, it is the game of the module's rows
abbrev pub IsModuleGame : Contents → List TokenRow → TreeGame → Type 0
IsModuleGame m rows built =
    (trees : ℕ → Tree) → AreTrees m trees
    → IsTreeGame (map signature_of m.equations) trees (rows_of trees rows) (initial_of m) built

-- with whichever trees its instances have, the game of the module's rows has more vertices than it
-- may have
abbrev pub IsModuleTooLarge : Counting → Contents → List TokenRow → Type 0
IsModuleTooLarge counting m rows =
    (trees : ℕ → Tree) → AreTrees m trees
    → HasTooManyVertices counting (map signature_of m.equations) trees rows
