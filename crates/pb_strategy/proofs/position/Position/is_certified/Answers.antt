use Rattle.std.proofs.Common.{refl}
use Rattle.pb_game.proofs.Laws.{is_game}
use Rattle.pb_strategy.proofs.position.Position.is_certified.Goals as goal

pub meets_rules-requires : goal.meets_rules-requires
meets_rules-requires c = (is_game c.args.self.now.game.now).closed c.args.self.now.number _ c.args.self.now.inside (c.if-has_edge.ensures.0 refl)
