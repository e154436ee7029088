-- What the checker finds in a range of vertices.
use Rattle.std.specs.Prelude.{◌≡◌, ℕ, ◌<◌, ◌≤◌, Option, MatchOption}
use Rattle.pb_game.specs.declared.Game.{Game}
use Rattle.pb_game.specs.declared.certificate.Solution.{Solution}
use Rattle.pb_game.specs.declared.certificate.Flaw.{Flaw}
use Rattle.pb_game.specs.declared.certificate.CertificateRule.{CertificateRule}
use Rattle.pb_strategy.specs.declared.range.Range.{Range}
use Rattle.pb_game.specs.Games.{vertex_count}
use Rattle.pb_game.specs.Certificates.{IsCertifiedAt, IsCertificate}
use Rattle.pb_game.specs.Flaws.{IsFirstFlaw, IsFirstRule}

-- the vertices from one to below another meet the rules
abbrev pub AreCertified : Game → Solution → ℕ → ℕ → Type 0
AreCertified g s from to = (v : ℕ) → from ≤ v → v < to → IsCertifiedAt g s v

-- the least of them that doesn't, with the first rule that fails there
pub record IsFirstOfRange (g : Game) (s : Solution) (from to v : ℕ) (rule : CertificateRule)
    : Type 0 where
  pub inside : (from ≤ v) × (v < to)
  pub fails : IsFirstRule g s v rule
  pub before : AreCertified g s from v

-- the vertices of this game, with this solution
pub record HasGame (g : Game) (s : Solution) (range : Range) : Type 0 where
  pub game : range.game.now ≡ g
  pub solution : range.solution.now ≡ s

-- those from one to below another, of the same game and solution
pub record IsPartOf (whole part : Range) (first last : ℕ) : Type 0 where
  pub same : HasGame whole.game.now whole.solution.now part
  pub from : part.from ≡ first
  pub to : part.to ≡ last

-- all vertices of the game
pub record IsWhole (g : Game) (s : Solution) (range : Range) : Type 0 where
  pub same : HasGame g s range
  pub from : range.from ≡ 0
  pub to : range.to ≡ vertex_count g

-- the first flaw of a range of vertices, where it has one
abbrev pub IsFlawOfRange : Range → Option Flaw → Type 0
IsFlawOfRange range found =
    MatchOption found (AreCertified range.game.now range.solution.now range.from range.to)
    (λ flaw. IsFirstOfRange range.game.now range.solution.now range.from range.to
    flaw.vertex flaw.rule)

-- the flaw is the solution's first, which is no certificate
pub record Refutes (g : Game) (s : Solution) (flaw : Flaw) : Type 0 where
  pub first : IsFirstFlaw g s flaw.vertex flaw.rule
  pub none : ¬ IsCertificate g s

-- the first flaw of a solution, where it is no certificate
abbrev pub IsFlawOf : Game → Solution → Option Flaw → Type 0
IsFlawOf g s found = MatchOption found (IsCertificate g s) (Refutes g s)
