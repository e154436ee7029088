-- What the parts of the checker find along the edges of a vertex.
use Rattle.std.specs.Prelude.{◌≡◌, ℕ, ◌⊎◌}
use Rattle.std.specs.declared.cmp.Ordering.{Ordering}
use Rattle.std.specs.declared.cmp.Ordering.TheVariants.{Less, Equal, Greater}
use Rattle.pb_fixpoint_trees.specs.declared.player.Player.{Player}
use Rattle.pb_game.specs.Games.{priority_of, priority_count}
use Rattle.pb_game.specs.Solutions.{winner_of, count_of}
use Rattle.pb_game.specs.Certificates.{Decreases, IsProgress, IsSame, IsKept}
use Rattle.pb_strategy.specs.declared.position.Position.{Position}

abbrev pub winner_at : Position → Player
winner_at p = winner_of p.solution.now p.number

-- the counts of v, by priority
abbrev pub counts_at : Position → ℕ → ℕ → ℕ
counts_at p v = count_of p.game.now p.solution.now v

-- the counts that matter to the winner decrease along the edge to u
abbrev pub DecreasesAlong : Position → ℕ → Type 0
DecreasesAlong p u =
    Decreases (counts_at p p.number) (counts_at p u) (winner_at p)
    (priority_of p.game.now p.number) (priority_count p.game.now)

-- they are equal
abbrev pub IsSameAlong : Position → ℕ → Type 0
IsSameAlong p u =
    IsSame (counts_at p p.number) (counts_at p u) (winner_at p)
    (priority_of p.game.now p.number) (priority_count p.game.now)

-- they increase
abbrev pub GrowsAlong : Position → ℕ → Type 0
GrowsAlong p u =
    Decreases (counts_at p u) (counts_at p p.number) (winner_at p)
    (priority_of p.game.now p.number) (priority_count p.game.now)

-- how they change
abbrev pub Compares : Position → ℕ → Ordering → Type 0
Compares p u Less = DecreasesAlong p u
Compares p u Equal = IsSameAlong p u
Compares p u Greater = GrowsAlong p u

-- they don't increase
abbrev pub DontIncrease : Position → ℕ → Type 0
DontIncrease p u = DecreasesAlong p u ⊎ IsSameAlong p u

-- each kept edge meets P
abbrev pub EachKept : Position → (ℕ → Type 0) → Type 0
EachKept p P = (u : ℕ) → IsKept p.game.now p.solution.now p.number u → P u

-- what the rules ask of the edge to u, if it is kept
pub record MeetsRules (p : Position) (u : ℕ) : Type 0 where
  pub region : winner_of p.solution.now u ≡ winner_at p
  pub progress : IsProgress (counts_at p p.number) (counts_at p u) (winner_at p)
      (priority_of p.game.now p.number) (priority_count p.game.now)
