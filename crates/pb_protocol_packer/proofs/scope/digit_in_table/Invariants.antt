use Rattle.std.proofs.Common.{◌≡◌, drop}
use Rattle.pb_protocol_packing.specs.Said.{digit_for}
use Rattle.pb_protocol_packer.specs.Scopes.{table_of}
use Rattle.pb_protocol_packer.proofs.scope.digit_in_table.Given as goal

abbrev pub invariant-loop-known : goal.invariant-loop-known
invariant-loop-known l = digit_for (table_of (drop l.known-index l.table)) l.name ≡ digit_for (table_of l.table) l.name
