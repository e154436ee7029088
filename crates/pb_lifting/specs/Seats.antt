-- What contracts say of a table and its seats.
use Rattle.std.specs.Prelude.{◌≡◌, ℕ, ◌+◌, ◌<◌, ◌≤◌, List, [], length, Option, None, Some, slice_get}
use Rattle.std.specs.Prelude.{slice_index}
use Rattle.atomic_table.specs.Seated.{TableId}
use Rattle.pb_fixpoint_trees.specs.declared.player.Player.{Player}
use Rattle.pb_game.specs.declared.Game.{Game}
use Rattle.pb_game.specs.Games.{vertex_count, successors_of}
use Rattle.pb_exploration_words.specs.declared.seat.Seat.{Seat}
use Rattle.pb_exploration_words.specs.Seats as seats
use Rattle.pb_lifting.specs.declared.view.Key.{Key}
use Rattle.pb_lifting.specs.declared.view.RankView.{RankView}
use Rattle.pb_lifting.specs.declared.ranks.Ranks.{Ranks}
use Rattle.pb_lifting.specs.Measures.{least_rank}
use Rattle.pb_lifting.specs.Rule.{known_of, fresh_view, KnowsAsMuch, Stepped}

-- a seat whose view has a rank for each word
abbrev pub LiftSeat : Type 0
LiftSeat = Seat RankView (record { marks = λ v. v.known })

abbrev pub lift_view : LiftSeat → RankView
lift_view s = seats.view_of s

-- what the table was told when it was made
abbrev pub key_at : Ranks → Key
key_at t = t.words.inner.shared.key

abbrev pub game_at : Ranks → Game
game_at t = (key_at t).game.value

abbrev pub player_at : Ranks → Player
player_at t = t.player

-- how many seats the table was laid with
abbrev pub workers_at : Ranks → ℕ
workers_at t = (key_at t).workers

-- the table is laid for this game and this player
abbrev pub IsTableOf : Game → Player → Ranks → Type 0
IsTableOf g player t = (game_at t ≡ g) × (player_at t ≡ player)

-- the least rank of v over what the seat knows
abbrev pub least_known : Game → Player → LiftSeat → ℕ → ℕ
least_known g player s v = least_rank g player (lift_view s).known v

-- the rank that the seat knows a word to have reached
abbrev pub known_by : LiftSeat → ℕ → ℕ
known_by s n = known_of (lift_view s) n

-- no word is below what the seat knows
abbrev pub IsBelow : LiftSeat → List ℕ → Type 0
IsBelow s words = (n : ℕ) → known_by s n ≤ slice_index words n

-- a table, and what it was told
abbrev pub Origin : Type 0
Origin = TableId × Option Key

-- no table has it
abbrev pub no_origin : Origin
no_origin = (
  record {
    words = 0;
    slots = 0;
    views_name = 0;
    atom = 0;
    block = 0;
    offset = 0;
    slot_names = [];
  },
  None,
)

-- the table that made the seat, and what that was told
abbrev pub origin_of : LiftSeat → Origin
origin_of s = (seats.table_of s, (lift_view s).key)

abbrev pub origin_at : Ranks → Origin
origin_at t = (t.words.inner.shared.table_id, Some (key_at t))

-- the seat was made by this table
abbrev pub IsSeatOf : Ranks → LiftSeat → Type 0
IsSeatOf t s = origin_of s ≡ origin_at t

abbrev pub IsSameSeat : LiftSeat → LiftSeat → Type 0
IsSameSeat old new = origin_of new ≡ origin_of old

-- the seat is the table's, and v is a vertex of its game
pub record MayStepOn (t : Ranks) (s : LiftSeat) (v : ℕ) : Type 0 where
  pub seat : IsSeatOf t s
  pub vertex : v < vertex_count (game_at t)

-- a step of the seat on v, which found this word and raised it to k
pub record IsStepOn (old : LiftSeat) (v found k : ℕ) (new : LiftSeat) : Type 0 where
  pub same : IsSameSeat old new
  pub view : Stepped (lift_view old) v found k (lift_view new)

-- the seat after some steps: it knows as much as before
pub record IsSeatAfter (old new : LiftSeat) : Type 0 where
  pub same : IsSameSeat old new
  pub more : KnowsAsMuch (lift_view old) (lift_view new)

-- how many word steps the seat made
abbrev pub steps_of : LiftSeat → ℕ
steps_of s = (lift_view s).steps

-- how many a lift of v makes: a read of each successor's word, and one raise
abbrev pub lift_steps : Game → ℕ → ℕ
lift_steps g v = length (successors_of g v) + 1

-- the vertex of the seat's last step
abbrev pub step_vertex : LiftSeat → ℕ
step_vertex s = (lift_view s).last.0

-- the word that the seat's last step found
abbrev pub found_by : LiftSeat → ℕ
found_by s = (lift_view s).last.1

abbrev pub AreLiftSeats : Ranks → List LiftSeat → Type 0
AreLiftSeats t seats = (k : ℕ) (s : LiftSeat) → slice_get seats k ≡ Some s → IsSeatOf t s

-- the k-th seat has the k-th seat number, and knows of no word more than 0
abbrev pub AreFresh : Ranks → List LiftSeat → Type 0
AreFresh t seats = (k : ℕ) (s : LiftSeat) → slice_get seats k ≡ Some s →
    lift_view s ≡ fresh_view (key_at t) k

-- The table is laid for this game, this player and so many workers, with these new seats of all
-- its numbers.
pub record IsLaid (g : Game) (player : Player) (count : ℕ) (t : Ranks) (new : List LiftSeat)
    : Type 0 where
  pub table : IsTableOf g player t
  pub workers : (workers_at t ≡ count) × (length new ≡ count)
  pub of_table : AreLiftSeats t new
  pub numbered : seats.AreNumbered new
  pub zeros : AreFresh t new

-- no word is below what some seat knows
abbrev pub AreSeatsBelow : List LiftSeat → List ℕ → Type 0
AreSeatsBelow seats words = (k : ℕ) (s : LiftSeat) → slice_get seats k ≡ Some s → IsBelow s words
