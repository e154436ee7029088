-- What is wrong with a solution that is no certificate: the least vertex that breaks a rule, and
-- its first rule.
use Rattle.std.specs.Prelude.{◌≡◌, ◌≢◌, ℕ, ◌%◌, ◌<◌}
use Rattle.pb_game.specs.declared.Game.{Game}
use Rattle.pb_fixpoint_trees.specs.Players.{parity_of}
use Rattle.pb_game.specs.Games.{owner_of, priority_of, priority_count, HasEdge}
use Rattle.pb_game.specs.declared.certificate.Solution.{Solution}
use Rattle.pb_game.specs.declared.certificate.CertificateRule.{CertificateRule}
use Rattle.pb_game.specs.declared.certificate.CertificateRule.TheVariants.{Length, NoSuccessor, LeavesRegion, Increases, NoDecrease}
use Rattle.pb_game.specs.Solutions.{winner_of, choice_of, count_of, HasLengths}
use Rattle.pb_game.specs.Certificates.{Decreases, IsKept}

-- K01: the winner of v moves there, and the choice is no successor
pub record HasNoSuccessor (g : Game) (s : Solution) (v : ℕ) : Type 0 where
  pub owner : owner_of g v ≡ winner_of s v
  pub missing : ¬ HasEdge g v (choice_of s v)

-- K02: a kept edge out of the winner's region
pub record LeavesAlong (g : Game) (s : Solution) (v u : ℕ) : Type 0 where
  pub kept : IsKept g s v u
  pub leaves : winner_of s u ≢ winner_of s v

-- K03: a kept edge along which the counts increase
pub record IncreasesAlong (g : Game) (s : Solution) (v u : ℕ) : Type 0 where
  pub kept : IsKept g s v u
  pub more : Decreases (count_of g s u) (count_of g s v) (winner_of s v) (priority_of g v)
      (priority_count g)

-- a kept edge along which the counts don't decrease
pub record StaysAlong (g : Game) (s : Solution) (v u : ℕ) : Type 0 where
  pub kept : IsKept g s v u
  pub stays : ¬ Decreases (count_of g s v) (count_of g s u) (winner_of s v) (priority_of g v)
      (priority_count g)

-- K04: v has a priority of the loser's parity, and the counts don't decrease along some kept edge
pub record HasNoDecrease (g : Game) (s : Solution) (v : ℕ) : Type 0 where
  pub losing : priority_of g v % 2 ≢ parity_of (winner_of s v)
  pub along : (u : ℕ) × StaysAlong g s v u

-- the rule fails at v. The lengths (K05) are the whole solution's, and count at vertex 0
abbrev pub Fails : Game → Solution → ℕ → CertificateRule → Type 0
Fails g s v Length = (v ≡ 0) × ¬ HasLengths g s
Fails g s v NoSuccessor = HasNoSuccessor g s v
Fails g s v LeavesRegion = (u : ℕ) × LeavesAlong g s v u
Fails g s v Increases = (u : ℕ) × IncreasesAlong g s v u
Fails g s v NoDecrease = HasNoDecrease g s v

-- the order in which the rules are tried at a vertex
abbrev pub rule_order : CertificateRule → ℕ
rule_order Length = 0
rule_order NoSuccessor = 1
rule_order LeavesRegion = 2
rule_order Increases = 3
rule_order NoDecrease = 4

-- the rule fails at v, and no rule before it does there
pub record IsFirstRule (g : Game) (s : Solution) (v : ℕ) (rule : CertificateRule) : Type 0 where
  pub fails : Fails g s v rule
  pub first_rule : (earlier : CertificateRule) → rule_order earlier < rule_order rule
      → ¬ Fails g s v earlier

-- the rule fails at v, no rule before it does there, and none fails at a lesser vertex
pub record IsFirstFlaw (g : Game) (s : Solution) (v : ℕ) (rule : CertificateRule) : Type 0 where
  pub fails : Fails g s v rule
  pub first_rule : (earlier : CertificateRule) → rule_order earlier < rule_order rule
      → ¬ Fails g s v earlier
  pub first_vertex : (u : ℕ) (other : CertificateRule) → u < v → ¬ Fails g s u other
