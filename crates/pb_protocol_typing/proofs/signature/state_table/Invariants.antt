use Rattle.std.proofs.Common.{◌≡◌, drop}
use Rattle.pb_typing_declarations.specs.View.{spec_of}
use Rattle.pb_protocol_typing.specs.Signatures.{no_signatures, with_state}
use Rattle.pb_protocol_typing.specs.View.{signatures_in, state_forms}
use Rattle.pb_protocol_typing.proofs.signature.state_table.Given as goal

-- the entries that are left, over the table so far
abbrev pub invariant-loop-entry : goal.invariant-loop-entry
invariant-loop-entry l =
    with_state (spec_of l.declarations) no_signatures (state_forms l.entries)
    ≡ with_state (spec_of l.declarations) (signatures_in l.table) (state_forms (drop l.entry-index l.entries))
