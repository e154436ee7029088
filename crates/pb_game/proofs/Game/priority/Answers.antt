use Rattle.std.proofs.Common.{arith, rules, get_or, ◌≤◌, ◌≡◌, length, ◌<◌}
use Rattle.std.proofs.lemmas.List.{get_or_read}
use Rattle.pb_game.specs.Adjacency.{greatest_of}
use Rattle.pb_game.specs.Games.{vertex_count, priority_of, greatest_priority}
use Rattle.pb_game.proofs.Greatest.{greatest_of-upper}
use Rattle.pb_game.proofs.Game.priority.Goals as goal

pub returns-clause-within : goal.returns-clause-within
unfolding vertex_count greatest_priority
returns-clause-within c =
    let xs = c.args.self.now.priorities.items in
    let here : c.args.v < length xs = omega arith in
    let at : c.index.result.now ≡ get_or xs c.args.v 0 = get_or_read xs c.args.v _ here c.index.ensures 0 in
    let upper : get_or xs c.args.v 0 ≤ greatest_of xs = greatest_of-upper xs c.args.v here in
    omega arith

pub index-requires : goal.index-requires
unfolding vertex_count
index-requires c = search rules

pub returns-clause-value : goal.returns-clause-value
unfolding vertex_count priority_of
returns-clause-value c = get_or_read c.args.self.now.priorities.items c.args.v _ (omega arith) c.index.ensures 0
