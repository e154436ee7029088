-- What holds of every game.
use Rattle.std.proofs.Common.{ℕ, ◌<◌, length, get_or, arith, refl, sym, ◌∙◌, subst}
use Rattle.std.specs.Prelude.{Contains}
use Rattle.pb_game.specs.declared.Game.{Game}
use Rattle.pb_game.specs.Adjacency.{row}
use Rattle.pb_game.specs.Games.{vertex_count, owner_of, priority_of, greatest_priority, successors_of, predecessors_of, HasEdge, IsGame}
use Rattle.pb_game.proofs.Greatest.{greatest_of-upper}
use Rattle.pb_game.proofs.Membership.{among_at, among_place, contains_at, contains_place}
use Rattle.pb_game.proofs.Rows.{row_length}

first_successor : (g : Game) (v : ℕ) → v < vertex_count g → (u : ℕ) × HasEdge g v u
unfolding vertex_count successors_of
first_successor g v h =
    let size = row_length g.places.items g.successors.items v (g.well_formed.rows.within v h) in
    let xs = row g.places.items g.successors.items v in
    (get_or xs 0 0, contains_at xs (get_or xs 0 0) 0 (record { within = omega (arith, size, g.well_formed.total v h); there = refl }))

pub successors_closed : (g : Game) (v u : ℕ) → v < vertex_count g → HasEdge g v u → u < vertex_count g
unfolding vertex_count successors_of
successors_closed g v u h edge =
    let k = contains_place (row g.places.items g.successors.items v) u edge in
    subst (λ (x : ℕ). x < length g.owners.items) k.1.there (g.well_formed.rows.closed v h k.0 k.1.within)

predecessors_closed : (g : Game) (v u : ℕ) → u < vertex_count g → Contains (predecessors_of g u) v → v < vertex_count g
unfolding vertex_count predecessors_of
predecessors_closed g v u h c =
    let k = contains_place (row g.predecessor_places.items g.predecessors.items u) v c in
    subst (λ (x : ℕ). x < length g.owners.items) k.1.there (g.well_formed.reverse_rows.closed u h k.0 k.1.within)

edge_to : (g : Game) (v u : ℕ) → v < vertex_count g → u < vertex_count g → Contains (predecessors_of g u) v → HasEdge g v u
unfolding vertex_count successors_of predecessors_of
edge_to g v u h l c =
    let back = row g.predecessor_places.items g.predecessors.items u in
    let on = row g.places.items g.successors.items v in
    let k = contains_place back v c in
    let j = among_place on u (sym (g.well_formed.reverse v u h l) ∙ among_at back v k.0 k.1) in
    contains_at on u j.0 j.1

edge_from : (g : Game) (v u : ℕ) → v < vertex_count g → u < vertex_count g → HasEdge g v u → Contains (predecessors_of g u) v
unfolding vertex_count successors_of predecessors_of
edge_from g v u h l c =
    let back = row g.predecessor_places.items g.predecessors.items u in
    let on = row g.places.items g.successors.items v in
    let k = contains_place on u c in
    let j = among_place back v (g.well_formed.reverse v u h l ∙ among_at on u k.0 k.1) in
    contains_at back v j.0 j.1

pub is_game : (g : Game) → IsGame g
unfolding vertex_count owner_of priority_of greatest_priority successors_of predecessors_of
is_game g = record {
  small = g.well_formed.small;
  greatest = λ v h. greatest_of-upper g.priorities.items v (omega (arith, g.well_formed.priority));
  few_priorities = omega (arith, g.well_formed.maximum, g.well_formed.few);
  successor = first_successor g;
  closed = successors_closed g;
  rising = λ v h. g.well_formed.rows.rising v h;
  predecessor = λ v u h l. (edge_to g v u h l, edge_from g v u h l);
  predecessors_closed = predecessors_closed g;
  predecessors_rising = λ v h. g.well_formed.reverse_rows.rising v h;
}
