use Rattle.std.proofs.Common.{◌<◌, refl, sym, subst}
use Rattle.std.specs.Prelude.{slice_index}
use Rattle.pb_lifting.specs.Measures.{top_of, IsWithinAll}
use Rattle.pb_lifting.specs.Seats.{player_at}
use Rattle.pb_lifting.proofs.Winners.{opponents_within}
use Rattle.pb_lifting.proofs.concede.concede_one.Goals as goal

pub raise-requires-clause-within : goal.raise-requires-clause-within
raise-requires-clause-within g c =
    let game = c.args.site.now.lifting.now.game.now in let words = c.args.opponents.now.words.items in let player = player_at c.args.site.now.ranks.now in
    let won : slice_index words c.args.v < top_of game c.opponent.result = c.if-not-is_won.ensures.0 refl in
    let within : IsWithinAll game player c.args.v (top_of game player) =
    opponents_within game player words c.requires.opponents.measure c.args.v c.requires.vertex (subst (λ p. slice_index words c.args.v < top_of game p) c.opponent.ensures won) in
    subst (λ x. IsWithinAll x player c.args.v c.top.result) c.args.site.now.same_game
    (subst (IsWithinAll game player c.args.v) (sym c.top.ensures) within)
