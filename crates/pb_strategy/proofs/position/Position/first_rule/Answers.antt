use Rattle.std.proofs.Common.{◌≡◌, ℕ, ◌%◌, ◌<◌, inl, inr, refl, sym, ap, subst, arith, rules}
use Rattle.pb_fixpoint_trees.specs.Players.{parity_of}
use Rattle.pb_game.specs.Games.{owner_of, priority_of, HasEdge}
use Rattle.pb_game.specs.declared.certificate.CertificateRule.{CertificateRule}
use Rattle.pb_game.specs.declared.certificate.CertificateRule.TheVariants.{Length, NoSuccessor, LeavesRegion, Increases, NoDecrease}
use Rattle.pb_game.specs.Solutions.{winner_of, choice_of}
use Rattle.pb_game.specs.Flaws.{Fails, rule_order}
use Rattle.pb_strategy.specs.declared.position.Position.{Position}
use Rattle.pb_strategy.specs.Comparisons.{winner_at, DontIncrease, EachKept}
use Rattle.pb_strategy.proofs.Flaws.{one_way, not_same}
use Rattle.pb_strategy.proofs.position.Position.first_rule.Goals as goal
use Rattle.pb_strategy.proofs.position.Position.first_rule.Goals.{After-leaves_region, then-eq+else-not-has_edge, else-eq}

module _ (p : Position) where
  -- the winner's choice is a successor
  abbrev Chooses : Type 0
  Chooses = owner_of p.game.now p.number ≡ winner_at p → HasEdge p.game.now p.number (choice_of p.solution.now p.number)

  abbrev FailsThere : CertificateRule → Type 0
  FailsThere rule = Fails p.game.now p.solution.now p.number rule

  -- the lengths are right, so nothing before the second rule fails
  before_choosing : (rule : CertificateRule) → rule_order rule < 1 → FailsThere rule → ⊥
  before_choosing Length less f = f.1 p.lengths
  before_choosing NoSuccessor less f = omega (arith, less)
  before_choosing LeavesRegion less f = omega (arith, less)
  before_choosing Increases less f = omega (arith, less)
  before_choosing NoDecrease less f = omega (arith, less)

  -- where the first rules are met, none before the third fails
  before_leaving : Chooses → (rule : CertificateRule) → rule_order rule < 2 → FailsThere rule → ⊥
  before_leaving chosen Length less f = f.1 p.lengths
  before_leaving chosen NoSuccessor less f = f.missing (chosen f.owner)
  before_leaving chosen LeavesRegion less f = omega (arith, less)
  before_leaving chosen Increases less f = omega (arith, less)
  before_leaving chosen NoDecrease less f = omega (arith, less)

  -- nor the third, where the kept edges stay in the region
  before_increasing : Chooses → EachKept p (λ u. winner_of p.solution.now u ≡ winner_at p) → (rule : CertificateRule) → rule_order rule < 3 → FailsThere rule → ⊥
  before_increasing chosen region Length less f = f.1 p.lengths
  before_increasing chosen region NoSuccessor less f = f.missing (chosen f.owner)
  before_increasing chosen region LeavesRegion less f = f.1.leaves (region f.0 f.1.kept)
  before_increasing chosen region Increases less f = omega (arith, less)
  before_increasing chosen region NoDecrease less f = omega (arith, less)

  -- nor the fourth, where the counts increase along no kept edge
  before_staying : Chooses → EachKept p (λ u. winner_of p.solution.now u ≡ winner_at p) → EachKept p (DontIncrease p) →
      (rule : CertificateRule) → rule_order rule < 4 → FailsThere rule → ⊥
  before_staying chosen region falls Length less f = f.1 p.lengths
  before_staying chosen region falls NoSuccessor less f = f.missing (chosen f.owner)
  before_staying chosen region falls LeavesRegion less f = f.1.leaves (region f.0 f.1.kept)
  before_staying chosen region falls Increases less f =
      elim (falls f.0 f.1.kept) [ inl a ↦ one_way _ _ _ _ _ a f.1.more | inr b ↦ not_same _ _ _ _ _ f.1.more b ]
  before_staying chosen region falls NoDecrease less f = omega (arith, less)

-- behind the first test the choice is a successor
chosen_at : (c : After-leaves_region) → Chooses c.args.self.now
chosen_at c = elim c.if-eq.branch [
  | then-eq+else-not-has_edge w ↦ λ _. subst (HasEdge c.args.self.now.game.now c.args.self.now.number) w.choice.ensures (w.if-not-has_edge.ensures.0 refl)
  | else-eq w ↦ search (rules, w.if-eq.ensures, c.owner.ensures, c.winner-winner.ensures)
]

pub returns-then-leaves_region : goal.returns-then-leaves_region
returns-then-leaves_region c =
    let chosen = chosen_at (goal.at.returns-then-leaves_region c).After-leaves_region in
    record {
      fails = c.if-leaves_region.ensures;
      first_rule = before_leaving c.args.self.now chosen;
    }

pub returns-then-increases : goal.returns-then-increases
returns-then-increases c =
    let chosen = chosen_at (goal.at.returns-then-increases c).After-leaves_region in
    record {
      fails = c.if-increases.ensures;
      first_rule = before_increasing c.args.self.now chosen c.if-leaves_region.ensures;
    }

pub returns-then-stays : goal.returns-then-stays
returns-then-stays c =
    let chosen = chosen_at (goal.at.returns-then-stays c).After-leaves_region in
    record {
      fails = record { losing = λ e. c.if-priority-parity.true (omega (arith, e, c.priority.ensures.value, c.parity.ensures, ap parity_of c.winner-winner.ensures)); along = c.if-stays.ensures };
      first_rule = before_staying c.args.self.now chosen c.if-leaves_region.ensures c.if-increases.ensures;
    }

pub returns-else-stays : goal.returns-else-stays
returns-else-stays c =
    let chosen = chosen_at (goal.at.returns-else-stays c).After-leaves_region in
    record {
      choice = chosen;
      region = c.if-leaves_region.ensures;
      progress = λ u kept. inl (c.if-stays.ensures u kept);
    }

pub returns-else-priority-parity : goal.returns-else-priority-parity
returns-else-priority-parity c =
    let chosen = chosen_at (goal.at.returns-else-priority-parity c).After-leaves_region in
    let same : priority_of c.args.self.now.game.now c.args.self.now.number % 2 ≡ parity_of (winner_of c.args.self.now.solution.now c.args.self.now.number) =
    omega (arith, c.priority.ensures.value, c.parity.ensures, ap parity_of c.winner-winner.ensures) in
    record {
      choice = chosen;
      region = c.if-leaves_region.ensures;
      progress = λ u kept. elim (c.if-increases.ensures u kept) [ inl a ↦ inl a | inr b ↦ inr (same, b) ];
    }

pub returns-then-not-has_edge : goal.returns-then-not-has_edge
returns-then-not-has_edge c = record {
  fails = record {
    owner = search rules;
    missing = λ h. absurd (cc (c.if-not-has_edge.ensures.1 (subst (λ (x : ℕ). HasEdge c.args.self.now.game.now c.args.self.now.number x) (sym c.choice.ensures) h)));
  };
  first_rule = before_choosing c.args.self.now;
}
