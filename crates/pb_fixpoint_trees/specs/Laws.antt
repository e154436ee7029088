-- What the definitions of trees, tokens, equations and games obey.
use Rattle.std.specs.Prelude.{◌≡◌, ℕ, ◌+◌, ◌<◌, true, List, ◌++◌, Contains, length, map, slice_get, Some}
use Rattle.std.specs.List.Sorted.{IsStrictlyIncreasing}
use Rattle.pb_fixpoint.specs.Solution.{Environment}
use Rattle.pb_fixpoint.specs.Fixpoint.{IsSolved, Within}
use Rattle.pb_fixpoint_trees.specs.declared.Token.{Token}
use Rattle.pb_fixpoint_trees.specs.Tree.{Tree, tree_truth}
use Rattle.pb_fixpoint_trees.specs.Tokens.{tree_tokens}
use Rattle.pb_fixpoint_trees.specs.Kinds.{calls_in, kind_of}
use Rattle.pb_fixpoint_trees.specs.Equations.{Signature, equation, numbered}
use Rattle.pb_fixpoint_trees.specs.Rows.{Row, AreRows}
use Rattle.pb_fixpoint_trees.specs.Game.{Vertex, game_vertices, vertex_of}

-- where two trees' tokens begin one list, the trees are one, and so is what stands behind them
abbrev pub TokensAreOneTree : Type 0
TokensAreOneTree =
    (x y : Tree) (after behind : List Token) → tree_tokens x ++ after ≡ tree_tokens y ++ behind
    → (x ≡ y) × (after ≡ behind)

-- tokens of the same kinds that call the same numbers are the same
abbrev pub KindsAndCallsDetermine : Type 0
KindsAndCallsDetermine =
    (xs ys : List Token) → map kind_of xs ≡ map kind_of ys → calls_in xs ≡ calls_in ys → xs ≡ ys

abbrev pub TruthIsMonotone : Type 0
TruthIsMonotone =
    (s t : Environment ℕ) → Within s t → (tree : Tree) → tree_truth s tree ≡ true
    → tree_truth t tree ≡ true

-- an equation before others gets a fixpoint of its operator, the least for mu and the greatest for
-- nu
abbrev pub EquationsAreSolved : Type 0
EquationsAreSolved =
    (first : ℕ) (s : Signature) (rest : List Signature) (trees : ℕ → Tree) (t : Environment ℕ) →
    IsSolved (equation first s trees) (numbered (first + s.size) rest trees) t

-- a vertex in a game of `count` vertices: it has successors, which rise and are vertices
pub record IsGameVertex (count : ℕ) (x : Vertex) : Type 0 where
  pub some : 0 < length x.successors
  pub rising : IsStrictlyIncreasing x.successors
  pub closed : (u : ℕ) → Contains x.successors u → u < count

-- each vertex of rows that are closed under calls is one
abbrev pub GameIsTotal : Type 0
GameIsTotal =
    (signatures : List Signature) (trees : ℕ → Tree) (rows : List Row)
    → AreRows signatures trees rows →
    (v : ℕ) (x : Vertex) → slice_get (game_vertices signatures rows) v ≡ Some x
    → IsGameVertex (length (game_vertices signatures rows)) x

-- each row has its vertex in the game
abbrev pub RowsHaveVertices : Type 0
RowsHaveVertices =
    (signatures : List Signature) (rows : List Row) (row : Row) → Contains rows row →
    vertex_of rows row.number < length (game_vertices signatures rows)
