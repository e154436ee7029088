-- What is said of vertices that are laid out, where it is known whether they are.
use Rattle.std.proofs.Common.{◌≡◌, ℕ, ◌<◌, ◌≤◌, List, Option, None, Some, arith}
use Rattle.std.specs.Prelude.{MatchOption, IfSome}
use Rattle.pb_fixpoint_trees.specs.Rows.{Row}
use Rattle.pb_fixpoint_trees.specs.Row.{TokenRow}
use Rattle.pb_game_of_trees.specs.Held.{Hold}
use Rattle.pb_game_of_trees.specs.Places.{vertex_behind, vertices_from}
use Rattle.pb_game_of_trees.specs.declared.places.Laid as made
use Rattle.pb_game_of_trees.proofs.Refused.{Exceeds, Fits}

abbrev Found : ℕ → List TokenRow → Option made.Laid → Type 0
Found limit rows found = (plain : List Row) → Hold rows plain → MatchOption found (limit < vertex_behind plain 2)
    (λ laid. (laid.size.vertices ≡ vertex_behind plain 2) × (laid.vertices.items ≡ vertices_from plain 2))

pub exceeds_found : {limit : ℕ} {rows : List TokenRow} (found : Option made.Laid) → found ≡ None → Found limit rows found → Exceeds limit rows
exceeds_found None e h = h
exceeds_found (Some x) e h = λ plain hold. cc

pub fits_found : {limit : ℕ} {rows : List TokenRow} {x : made.Laid} (found : Option made.Laid) → found ≡ Some x → IfSome found (λ laid. laid.size.vertices ≤ limit) →
    Found limit rows found → Fits limit rows
fits_found None e small h = λ plain hold. cc
fits_found (Some y) e small h = λ plain hold. omega (arith, small, (h plain hold).0)
