-- The solution as a function of the final words of both players.
use Rattle.std.specs.Prelude.{◌≡◌, ◌≢◌, ◌⊎◌, ℕ, ◌+◌, ◌*◌, ◌<◌, ◌≤◌, ◌==◌, if◌then◌else◌, List, []}
use Rattle.std.specs.Prelude.{◌∷◌, ◌++◌, length, slice_index, Option, None, Some, MatchOption, min}
use Rattle.pb_fixpoint_trees.specs.declared.player.Player.TheVariants.{Even, Odd}
use Rattle.pb_fixpoint_trees.specs.declared.player.Player.{Player}
use Rattle.pb_game.specs.declared.Game.{Game}
use Rattle.pb_game.specs.declared.certificate.Solution.{Solution}
use Rattle.pb_game.specs.Games.{vertex_count, owner_of, priority_of, successors_of, priority_count}
use Rattle.pb_game.specs.Games.{HasEdge}
use Rattle.pb_game.specs.Certificates.{IsProgress}
use Rattle.pb_game.specs.Solutions.{winner_of, choice_of, count_of, HasLengths}
use Rattle.pb_lifting.specs.declared.measured.Measured.{Measured}
use Rattle.pb_lifting.specs.Scales.{IsScaleOf}
use Rattle.pb_lifting.specs.Measures.{top_of, counts_of, IsLeastMeasure}

-- a word for each vertex, with the scale of the player's ranks
pub record AreMeasured (g : Game) (player : Player) (m : Measured) : Type 0 where
  pub scale : IsScaleOf g player m.scale
  pub sized : length m.words.items ≡ vertex_count g
  pub low : (v : ℕ) → v < vertex_count g → slice_index m.words.items v ≤ top_of g player

-- Even wins where its word is not top
abbrev pub winner_by : Game → List ℕ → ℕ → Player
winner_by g words v = if slice_index words v == top_of g Even then Odd else Even

abbrev pub player_words : Player → List ℕ → List ℕ → List ℕ
player_words Even even_words odd_words = even_words
player_words Odd even_words odd_words = odd_words

-- the counts of a rank, and all 0 where it is top
abbrev pub count_by_rank : Game → Player → ℕ → ℕ → ℕ
count_by_rank g player rank q = if rank == top_of g player then 0 else counts_of g player rank q

-- u's word is not top, and along an edge from v to u the counts make progress
unfoldable pub Meets : Game → Player → List ℕ → ℕ → ℕ → Type 0
Meets g player words v u = (slice_index words u < top_of g player)
    × IsProgress (count_by_rank g player (slice_index words v))
    (count_by_rank g player (slice_index words u)) player (priority_of g v) (priority_count g)

pub record IsLeastSuccessor (g : Game) (v u : ℕ) : Type 0 where
  pub edge : HasEdge g v u
  pub least : (w : ℕ) → HasEdge g v w → u ≤ w

pub record IsLeastMeeting (g : Game) (player : Player) (words : List ℕ) (v u : ℕ) : Type 0 where
  pub edge : HasEdge g v u
  pub meets : Meets g player words v u
  pub least : (w : ℕ) → HasEdge g v w → Meets g player words v w → u ≤ w

abbrev pub MeetsNone : Game → Player → List ℕ → ℕ → Type 0
MeetsNone g player words v = (w : ℕ) → HasEdge g v w → Meets g player words v w → ⊥

-- the least successor that meets, where there is one
abbrev pub IsMeeting : Game → Player → List ℕ → ℕ → Option ℕ → Type 0
IsMeeting g player words v found =
    MatchOption found (MeetsNone g player words v) (IsLeastMeeting g player words v)

pub record IsChoice (g : Game) (player : Player) (words : List ℕ) (v u : ℕ) : Type 0 where
  pub own : owner_of g v ≡ player
      → IsLeastMeeting g player words v u ⊎ (MeetsNone g player words v × IsLeastSuccessor g v u)
  pub other : owner_of g v ≢ player → IsLeastSuccessor g v u

pub record IsSolutionByMeasures (g : Game) (even_words odd_words : List ℕ)
    (s : Solution) : Type 0 where
  pub lengths : HasLengths g s
  pub winner : (v : ℕ) → v < vertex_count g → winner_of s v ≡ winner_by g even_words v
  pub choice : (v : ℕ) → v < vertex_count g
      → IsChoice g (winner_by g even_words v)
      (player_words (winner_by g even_words v) even_words odd_words) v (choice_of s v)
  pub counts : (v q : ℕ) → v < vertex_count g → q < priority_count g →
      count_of g s v q
      ≡ count_by_rank g (winner_by g even_words v)
      (slice_index (player_words (winner_by g even_words v) even_words odd_words) v) q

abbrev pub lesser_of : Option ℕ → ℕ → ℕ
lesser_of None u = u
lesser_of (Some w) u = min w u

-- of the first n successors
abbrev pub LeastSoFar : Game → Player → List ℕ → ℕ → ℕ → Option ℕ → Type 0
LeastSoFar g player words v n None =
    (k : ℕ) → k < n → Meets g player words v (slice_index (successors_of g v) k) → ⊥
LeastSoFar g player words v n (Some u) = HasEdge g v u × Meets g player words v u ×
    ((k : ℕ) → k < n → Meets g player words v (slice_index (successors_of g v) k)
    → u ≤ slice_index (successors_of g v) k)

-- the solution at the first n vertices
pub record IsSolutionTo (g : Game) (even_words odd_words : List ℕ) (s : Solution) (n : ℕ)
    : Type 0 where
  pub winners : length s.winner.items ≡ n
  pub choices : length s.choice.items ≡ n
  pub rows : length s.counts.items ≡ n * priority_count g
  pub winner : (v : ℕ) → v < n → winner_of s v ≡ winner_by g even_words v
  pub choice : (v : ℕ) → v < n
      → IsChoice g (winner_by g even_words v)
      (player_words (winner_by g even_words v) even_words odd_words) v (choice_of s v)
  pub counts : (v q : ℕ) → v < n → q < priority_count g →
      count_of g s v q
      ≡ count_by_rank g (winner_by g even_words v)
      (slice_index (player_words (winner_by g even_words v) even_words odd_words) v) q

-- the list with a vertex's counts behind it
pub record AddsRow (g : Game) (player : Player) (rank : ℕ) (old new : List ℕ) : Type 0 where
  pub sized : length new ≡ length old + priority_count g
  pub same : (k : ℕ) → k < length old → slice_index new k ≡ slice_index old k
  pub row : (q : ℕ) → q < priority_count g
      → slice_index new (length old + q) ≡ count_by_rank g player rank q

-- v's entries are put behind the others
pub record AddsVertex (g : Game) (player : Player) (words : List ℕ) (v : ℕ) (old new : Solution)
    : Type 0 where
  pub winner : new.winner.items ≡ old.winner.items ++ player ∷ []
  pub choice : (u : ℕ) × (new.choice.items ≡ old.choice.items ++ u ∷ [])
      × IsChoice g player words v u
  pub row : AddsRow g player (slice_index words v) old.counts.items new.counts.items

-- v's entries by its winner's words are put behind the others
abbrev pub AddsMeasured : Game → Player → Measured → ℕ → Solution → Solution → Type 0
AddsMeasured g player m v old new = AddsVertex g player m.words.items v old new

abbrev pub AddsWinner : Game → Measured → Measured → ℕ → Solution → Solution → Type 0
AddsWinner g even odd v old new =
    let player = winner_by g even.words.items v in
    AddsVertex g player (player_words player even.words.items odd.words.items) v old new

-- the solution of the least measures of both players
abbrev pub IsLiftedSolution : Game → Solution → Type 0
IsLiftedSolution g s = (even_words : List ℕ) × (odd_words : List ℕ) ×
    IsLeastMeasure g Even even_words × IsLeastMeasure g Odd odd_words
    × IsSolutionByMeasures g even_words odd_words s
