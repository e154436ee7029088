-- Parts that pass the test are a flat graph.
use Rattle.std.proofs.Common.{◌≡◌, ℕ, ◌+◌, ◌<◌, ◌≤◌, List, length, get_or, arith}
use Rattle.pb_game.specs.declared.parts.Parts.{Parts}
use Rattle.pb_game.specs.Adjacency.{IsRows}
use Rattle.pb_game.specs.Parts.{HasPlaces, HasSuccessors, AreGame}
use Rattle.pb_game.proofs.Rising.{rising_le}
use Rattle.pb_game.proofs.Rows.{row_closed}

within : (p : Parts) → HasPlaces p → (v : ℕ) → v < length p.owners.items → get_or p.places.items (v + 1) 0 ≤ length p.successors.items
within p h v l =
    omega (arith, rising_le p.places.items h.rising (v + 1) (length p.owners.items) (omega arith) (omega (arith, h.size)), h.last)

pub parts_rows : (p : Parts) → HasPlaces p → HasSuccessors p → IsRows (length p.owners.items) p.places.items p.successors.items
parts_rows p h s = record {
  size = h.size;
  ordered = λ v l. omega (arith, h.rising v (omega (arith, h.size)));
  within = within p h;
  rising = s.rising;
  closed = λ v l. row_closed (length p.owners.items) p.places.items p.successors.items (λ k i. s.closed k 0 i) v (within p h v l);
}

pub game_rows : (p : Parts) → AreGame p → (count : ℕ) (places items : List ℕ) → count ≡ length p.owners.items → places ≡ p.places.items →
    items ≡ p.successors.items → IsRows count places items
game_rows p g count places items e e' e'' = rw (e, e', e'') (parts_rows p g.places g.successors)

pub game_total : (p : Parts) → HasPlaces p → (v : ℕ) → v < length p.owners.items → get_or p.places.items v 0 < get_or p.places.items (v + 1) 0
game_total p h v l = h.rising v (omega (arith, h.size))
