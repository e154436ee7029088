-- What all solvers agree on.
use Rattle.std.specs.Prelude.{◌≡◌, ℕ, ◌<◌}
use Rattle.pb_game.specs.declared.Game.{Game}
use Rattle.pb_game.specs.Games.{vertex_count}
use Rattle.pb_game.specs.declared.certificate.Solution.{Solution}
use Rattle.pb_game.specs.Solutions.{winner_of}
use Rattle.pb_game.specs.Certificates.{IsCertificate}

-- the solution's winners are those of every certificate of the game
abbrev pub NamesTheWinners : Game → Solution → Type 0
NamesTheWinners g s = (t : Solution) → IsCertificate g t →
    (v : ℕ) → v < vertex_count g → winner_of s v ≡ winner_of t v
