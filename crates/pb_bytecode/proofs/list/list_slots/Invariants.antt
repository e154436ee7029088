use Rattle.std.proofs.Common.{◌≡◌, ◌++◌, ◌+◌, drop}
use Rattle.std.specs.Prelude.{string_bytes}
use Rattle.pb_bytecode.specs.Listing.{numbered_lines, slot_line}
use Rattle.pb_bytecode.proofs.list.list_slots.Given as goal

-- what is there with what is left is the whole
abbrev pub invariant-loop-index : goal.invariant-loop-index
invariant-loop-index l =
    string_bytes l.text ++ numbered_lines (slot_line l.kind) (l.first + l.index) (drop l.index l.carriers)
    ≡ string_bytes l.initial.text ++ numbered_lines (slot_line l.kind) l.first l.carriers
