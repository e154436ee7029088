use Rattle.std.proofs.Common.{List, ℕ, ◌≡◌, ◌<◌, length, get_or, sym, subst, rules}
use Rattle.pb_game.specs.Adjacency.{row}
use Rattle.pb_game.specs.Games.{vertex_count, successors_of}
use Rattle.pb_game.proofs.Game.successors.Goals as goal

pub returns-clause-closed : goal.returns-clause-closed
unfolding vertex_count
returns-clause-closed c =
    let g = c.args.self.now in
    let e : c.row_of.result.now ≡ row g.places.items g.successors.items c.args.v = search rules in
    subst (λ (xs : List ℕ). (k : ℕ) → k < length xs → get_or xs k 0 < length g.owners.items) (sym e)
    (g.well_formed.rows.closed c.args.v c.requires)

pub row_of-requires-clause-vertex : goal.row_of-requires-clause-vertex
unfolding vertex_count
row_of-requires-clause-vertex c = search rules

pub row_of-requires-clause-ordered : goal.row_of-requires-clause-ordered
unfolding vertex_count
row_of-requires-clause-ordered c = search rules

pub returns-clause-list : goal.returns-clause-list
unfolding successors_of
returns-clause-list c = search rules
