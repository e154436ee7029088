-- A game has one partition into winning regions: all its certificates name the same winners.
use Rattle.std.specs.Prelude.{◌≡◌, ℕ, ◌<◌}
use Rattle.pb_game.specs.declared.Game.{Game}
use Rattle.pb_game.specs.Games.{vertex_count}
use Rattle.pb_game.specs.declared.certificate.Solution.{Solution}
use Rattle.pb_game.specs.Solutions.{winner_of}
use Rattle.pb_game.specs.Certificates.{IsCertificate}

-- two certificates of a game name the same winner of each vertex
abbrev pub WinnersAgree : Type 0
WinnersAgree = (g : Game) (s t : Solution) → IsCertificate g s → IsCertificate g t →
    (v : ℕ) → v < vertex_count g → winner_of s v ≡ winner_of t v
