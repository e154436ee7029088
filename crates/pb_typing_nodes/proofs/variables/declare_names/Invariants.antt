use Rattle.std.proofs.Common.{◌≡◌, ◌+◌, drop}
use Rattle.pb_typing_declarations.specs.Entries.{shapes_of}
use Rattle.pb_typing_nodes.specs.Scopes.{named_shapes, named_slots, table_slots, table_view}
use Rattle.pb_typing_nodes.proofs.variables.declare_names.Given as goal

-- the names that are left, over the table so far, make those of all
abbrev pub invariant-loop-place : goal.invariant-loop-place
invariant-loop-place l = record {
  shapes : named_shapes (drop l.place l.names) (shapes_of (drop (l.first + l.place) l.carriers)) (table_view l.table)
      ≡ named_shapes l.names (shapes_of (drop l.first l.carriers)) (table_view l.initial.table);
  slots : named_slots (drop l.place l.names) (l.first + l.place) (table_slots l.table) ≡ named_slots l.names l.first (table_slots l.initial.table);
}
