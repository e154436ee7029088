use Rattle.std.proofs.Common.{refl, ap, ◌∙◌, arith}
use Rattle.std.specs.Prelude.{slice_index}
use Rattle.pb_game.specs.Games.{priority_count}
use Rattle.pb_lifting.proofs.Measures.{top_is}
use Rattle.pb_lifting.proofs.ranking.Ranking.top.Goals as goal

pub returns : goal.returns
returns c =
    let g = c.args.self.now.game.now in
    top_is g c.args.self.now.player (priority_count g) c.at.result refl
    (c.at.ensures ∙ (ap (slice_index c.args.self.now.scale.now.places) c.width.ensures.value ∙ c.args.self.now.scale_of.places (priority_count g) (omega arith)))
