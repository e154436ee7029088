-- A vertex that meets the rules has no flaw, and the other way round.
use Rattle.std.proofs.Common.{ℕ, inl, inr, arith}
use Rattle.pb_fixpoint_trees.specs.declared.player.Player.{Player}
use Rattle.pb_game.specs.declared.Game.{Game}
use Rattle.pb_game.specs.declared.certificate.Solution.{Solution}
use Rattle.pb_game.specs.declared.certificate.CertificateRule.{CertificateRule}
use Rattle.pb_game.specs.declared.certificate.CertificateRule.TheVariants.{Length, NoSuccessor, LeavesRegion, Increases, NoDecrease}
use Rattle.pb_game.specs.Solutions.{HasLengths}
use Rattle.pb_game.specs.Certificates.{Decreases, IsSame, IsCertifiedAt}
use Rattle.pb_game.specs.Flaws.{Fails}

-- the counts can't decrease both ways
pub one_way : (f t : ℕ → ℕ) (w : Player) (p limit : ℕ) → Decreases f t w p limit → Decreases t f w p limit → ⊥
one_way f t w p limit a b = grind (arith, a.same b.place, b.same a.place, a.less, b.less, a.below, b.below, a.losing, b.losing)

pub not_same : (f t : ℕ → ℕ) (w : Player) (p limit : ℕ) → Decreases f t w p limit → IsSame t f w p limit → ⊥
not_same f t w p limit a b = grind (arith, b.same a.place a.above a.below a.losing, a.less)

-- a vertex that meets the rules fails none
pub no_flaw : (g : Game) (s : Solution) (v : ℕ) → HasLengths g s → IsCertifiedAt g s v → (rule : CertificateRule) → Fails g s v rule → ⊥
no_flaw g s v lengths at Length f = f.1 lengths
no_flaw g s v lengths at NoSuccessor f = f.missing (at.choice f.owner)
no_flaw g s v lengths at LeavesRegion f = f.1.leaves (at.region f.0 f.1.kept)
no_flaw g s v lengths at Increases f =
    elim (at.progress f.0 f.1.kept) [ inl a ↦ one_way _ _ _ _ _ a f.1.more | inr b ↦ not_same _ _ _ _ _ f.1.more b.1 ]
no_flaw g s v lengths at NoDecrease f =
    elim (at.progress f.along.0 f.along.1.kept) [ inl a ↦ f.along.1.stays a | inr b ↦ f.losing b.0 ]
