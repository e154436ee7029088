use Rattle.std.proofs.Common.{arith}
use Rattle.pb_game_of_trees.proofs.DraftLengths.{has_length}
use Rattle.pb_game_of_trees.proofs.drafted.DraftedGame.finish.Goals as goal

pub into_parts-requires : goal.into_parts-requires
into_parts-requires c = (_, c.requires.4.draft)

pub game_of-requires : goal.game_of-requires
game_of-requires c = (_, c.into_parts.ensures _ c.requires.4.draft, c.requires.4.game)

pub invariant_of-result : goal.invariant_of-result
invariant_of-result c =
    let is = c.requires.4 in
    let has = c.in_ok-game.ensures _ (c.into_parts.ensures _ is.draft) in
    let same = has_length is.draft in
    record {
      few = c.args.self.few;
      inside = omega (arith, c.args.self.inside, same, has.count);
      rows_inside = λ k d l. omega (arith, c.args.self.rows_inside k d l, same, has.count);
    }

pub returns-clause-game : goal.returns-clause-game
returns-clause-game c = λ signatures trees reached initial is. record {
  game = record { reached = is.system; vertices = c.in_ok-game.ensures _ (c.into_parts.ensures _ is.draft) };
  vertices = is.vertices;
  start = is.start;
}

pub returns-clause-count : goal.returns-clause-count
returns-clause-count c =
    let is = c.requires.4 in
    let has = c.in_ok-game.ensures _ (c.into_parts.ensures _ is.draft) in
    omega (arith, has_length is.draft, has.count)
