-- What a builder has read of a tree: the operands that stand behind the tokens not yet read.
use Rattle.std.specs.Prelude.{◌≡◌, ℕ, zero, suc, ◌+◌, ◌<◌, List, [], ◌∷◌, ◌++◌, length, reverse}
use Rattle.std.specs.Prelude.{Option, None, Some, slice_get}
use Rattle.pb_fixpoint_trees.specs.declared.Token.{Token}
use Rattle.pb_fixpoint_trees.specs.declared.Token.TheVariants as token
use Rattle.pb_fixpoint_trees.specs.declared.player.Player.{Player}
use Rattle.pb_fixpoint_trees.specs.Tree.{Operands, End, LeafThen}
use Rattle.pb_fixpoint_trees.specs.Tree.{BracketThen, Tree, Single, Root}
use Rattle.pb_fixpoint_trees.specs.Tokens.{opening, leaf_token, operands_tokens, tree_tokens}
use Rattle.pb_fixpoint_trees.specs.Game.{Vertex, brackets, targets, inner, inner_vertices, tree_vertices}
use Rattle.pb_game_of_trees.specs.declared.builder.Builder.{Builder}
use Rattle.pb_game_of_trees.specs.Draft.{IsDraft}

-- In the following, `fs` are the operands that are left of each open bracket, the innermost
-- bracket's first.

-- the token before which they stand is read next, and so on: those behind the first of their tokens
abbrev pub behind_first : List Operands → List Operands
behind_first [] = []
behind_first (End ∷ fs) = fs
behind_first (LeafThen leaf after ∷ fs) = after ∷ fs
behind_first (BracketThen c inside after ∷ fs) = inside ∷ (after ∷ fs)

abbrev pub first_token : List Operands → Option Token
first_token [] = None
first_token (End ∷ fs) = Some token.Close
first_token (LeafThen leaf after ∷ fs) = Some (leaf_token leaf)
first_token (BracketThen c inside after ∷ fs) = Some (opening c)

-- their tokens, each bracket's with its closing token
abbrev pub rest_tokens : List Operands → List Token
rest_tokens [] = []
rest_tokens (f ∷ fs) = operands_tokens f ++ token.Close ∷ rest_tokens fs

-- those behind the first k of their tokens
abbrev pub rest_at : ℕ → List Operands → List Operands
rest_at zero fs = fs
rest_at (suc k) fs = behind_first (rest_at k fs)

-- what is open behind the first token of a tree
abbrev pub opened : Tree → List Operands
opened (Single leaf) = []
opened (Root c operands) = operands ∷ []

-- how many brackets they have
abbrev pub rest_brackets : List Operands → ℕ
rest_brackets [] = 0
rest_brackets (f ∷ fs) = brackets f + rest_brackets fs

-- where they lead, as a builder keeps it, the vertices of their brackets beginning at next
abbrev pub rest_targets : (ℕ → ℕ) → List Operands → ℕ → List ℕ
rest_targets at [] next = []
rest_targets at (f ∷ fs) next =
    rest_targets at fs (next + brackets f) ++ reverse (targets at f next)

-- where there each bracket's targets begin
abbrev pub rest_starts : (ℕ → ℕ) → List Operands → ℕ → List ℕ
rest_starts at [] next = []
rest_starts at (f ∷ fs) next =
    rest_starts at fs (next + brackets f) ++ length (rest_targets at fs (next + brackets f)) ∷ []

-- the vertices of their brackets
abbrev pub rest_vertices : (ℕ → ℕ) → List Operands → ℕ → List Vertex
rest_vertices at [] next = []
rest_vertices at (f ∷ fs) next = inner_vertices at f next ++ rest_vertices at fs (next + brackets f)

-- the builder has read them, the vertices behind theirs being these, from `limit` on
pub record IsAt (at : ℕ → ℕ) (builder : Builder) (fs : List Operands) (behind : List Vertex)
    (limit : ℕ) : Type 0 where
  pub targets : builder.targets.items ≡ rest_targets at fs builder.next
  pub starts : builder.starts.items ≡ rest_starts at fs builder.next
  pub draft : IsDraft builder.draft (rest_vertices at fs builder.next ++ behind)
  pub reaches : builder.next + rest_brackets fs ≡ limit

-- the innermost open bracket's operands lead to these, and the other brackets' come before them
pub record HasFrame (builder : Builder) (front outer operands : List ℕ) : Type 0 where
  pub targets : builder.targets.items ≡ front ++ reverse operands
  pub starts : builder.starts.items ≡ outer ++ length front ∷ []

-- the innermost open bracket has its vertex
pub record HasFinished (old new : Builder) (front outer : List ℕ) (vertices : List Vertex)
    : Type 0 where
  pub targets : new.targets.items ≡ front
  pub starts : new.starts.items ≡ outer
  pub draft : IsDraft new.draft vertices
  pub next : new.next ≡ old.next

-- the builder has read a whole tree, the vertices behind its being these, from `limit` on
pub record HasTree (at : ℕ → ℕ) (builder : Builder) (priority : ℕ) (tree : Tree)
    (behind : List Vertex) (limit : ℕ) : Type 0 where
  pub targets : builder.targets.items ≡ []
  pub starts : builder.starts.items ≡ []
  pub draft : IsDraft builder.draft (tree_vertices at priority tree builder.next ++ behind)
  pub reaches : suc (builder.next + inner tree) ≡ limit

-- the tree has one vertex, of this player, from which one edge leads to this vertex
pub record HasOneEdge (at : ℕ → ℕ) (tree : Tree) (owner : Player) (vertex : ℕ) : Type 0 where
  pub inside : inner tree ≡ 0
  pub vertices : (priority next : ℕ) → tree_vertices at priority tree next
      ≡ record { owner = owner; priority = priority; successors = vertex ∷ [] } ∷ []

-- the builder has read what is behind this token, and there is a vertex before those that it put
pub record IsBefore (at : ℕ → ℕ) (builder : Builder) (fs : List Operands) (next_token : Token)
    (behind : List Vertex) (limit : ℕ) : Type 0 where
  pub room : 0 < builder.next
  pub first : first_token fs ≡ Some next_token
  pub rest : IsAt at builder (behind_first fs) behind limit

-- the builder has read what is behind the first token of a tree, which is this one, and there is a
-- vertex before those that it put
pub record IsBeforeFirst (at : ℕ → ℕ) (builder : Builder) (tree : Tree) (next_token : Token)
    (behind : List Vertex) (limit : ℕ) : Type 0 where
  pub room : 0 < builder.next
  pub first : slice_get (tree_tokens tree) 0 ≡ Some next_token
  pub rest : IsAt at builder (opened tree) behind limit
