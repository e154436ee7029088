-- What lifting by one thread does to plain words.
use Rattle.std.specs.Prelude.{◌≡◌, ℕ, ◌+◌, ◌-◌, ◌<◌, ◌≤◌, Bool, MatchBool, List, [], ◌∷◌, length}
use Rattle.std.specs.Prelude.{slice_index}
use Rattle.pb_fixpoint_trees.specs.declared.player.Player.{Player}
use Rattle.pb_game.specs.declared.Game.{Game}
use Rattle.pb_game.specs.Games.{vertex_count}
use Rattle.pb_lifting.specs.Measures.{IsBelowAll, least_rank, top_of}

-- how far the words are below top, all together
abbrev pub slack : ℕ → List ℕ → ℕ
slack top [] = 0
slack top (x ∷ xs) = (top - x) + slack top xs

-- words that lifting starts from
pub record AreWords (g : Game) (player : Player) (words : List ℕ) : Type 0 where
  pub sized : length words ≡ vertex_count g
  pub below : IsBelowAll g player words

-- no lift raises one of the first n words
abbrev pub IsFixedTo : Game → Player → List ℕ → ℕ → Type 0
IsFixedTo g player words n = (v : ℕ) → v < n → least_rank g player words v ≤ slice_index words v

-- the words came nearer to top
abbrev pub Rises : Game → Player → List ℕ → List ℕ → Type 0
Rises g player old new = slack (top_of g player) new < slack (top_of g player) old

-- the words are the same, and no lift raises v's
abbrev pub IsFixedAt : Game → Player → ℕ → List ℕ → List ℕ → Type 0
IsFixedAt g player v old new = (new ≡ old) × (least_rank g player old v ≤ slice_index old v)

-- what a lift of v by one thread did, and whether it raised the word
abbrev pub IsSweptAt : Game → Player → ℕ → Bool → List ℕ → List ℕ → Type 0
IsSweptAt g player v raised old new =
    MatchBool raised (Rises g player old new) (IsFixedAt g player v old new)

-- the words after lifts: they may be lifted further, and came no farther from top
pub record AreLifted (g : Game) (player : Player) (old new : List ℕ) : Type 0 where
  pub words : AreWords g player new
  pub nearer : slack (top_of g player) new ≤ slack (top_of g player) old

-- what a lift of each word did, and whether it raised one
abbrev pub IsSweptOnce : Game → Player → Bool → List ℕ → List ℕ → Type 0
IsSweptOnce g player raised old new =
    MatchBool raised (Rises g player old new) (IsFixedTo g player new (vertex_count g))
