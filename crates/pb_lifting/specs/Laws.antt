-- What the laws say.
use Rattle.std.specs.Prelude.{◌≡◌, ◌↔◌, ℕ, ◌<◌, ◌≤◌, List, slice_index}
use Rattle.pb_fixpoint_trees.specs.declared.player.Player.{Player}
use Rattle.pb_game.specs.declared.Game.{Game}
use Rattle.pb_game.specs.Games.{vertex_count, priority_of, priority_count}
use Rattle.pb_game.specs.Certificates.{IsProgress}
use Rattle.pb_lifting.specs.Measures.{top_of, counts_of, asked, least_rank, IsMeasure, IsFixed}
use Rattle.pb_lifting.specs.Measures.{IsLeastMeasure}
use Rattle.pb_lifting.specs.declared.view.Key.{Key}
use Rattle.pb_lifting.specs.declared.view.RankView.{RankView}
use Rattle.pb_lifting.specs.Rule.{At, fresh_view, AreMeasuresKept}
use Rattle.pb_lifting.specs.Sweep.{AreWords}

-- an edge from v makes progress exactly where v's rank is at least what the edge asks for
abbrev pub EdgesAsk : Type 0
EdgesAsk =
    (g : Game) (player : Player) (v r s : ℕ) → v < vertex_count g
    → r < top_of g player → s < top_of g player
    → IsProgress (counts_of g player r) (counts_of g player s) player (priority_of g v)
    (priority_count g)
    ↔ (asked g player v s ≤ r)

-- what is raised from ranks below a measure stays below it
abbrev pub RaisesStayWithin : Type 0
RaisesStayWithin = (g : Game) (player : Player) (known m : List ℕ) → IsMeasure g player m
    → ((v : ℕ) → slice_index known v ≤ slice_index m v)
    → (v : ℕ) → v < vertex_count g → least_rank g player known v ≤ slice_index m v

abbrev pub FixedWordsAreLeast : Type 0
FixedWordsAreLeast = (g : Game) (player : Player) (words : List ℕ) → AreWords g player words →
    IsFixed g player words → IsLeastMeasure g player words

-- where the seat of each worker has made no step, all words are 0
abbrev pub UnknownWordsAreZero : Type 0
UnknownWordsAreZero =
    (key : Key) (words : List ℕ) (views : List RankView) → AreMeasuresKept key words views
    → ((k : ℕ) → k < key.workers → (id : ℕ) × At views id (fresh_view key k))
    → (n : ℕ) → slice_index words n ≡ 0
