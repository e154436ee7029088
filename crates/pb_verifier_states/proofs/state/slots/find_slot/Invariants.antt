use Rattle.std.proofs.Common.{◌≡◌, drop}
use Rattle.pb_bytecode_program.specs.Transfer.{abstract_slot}
use Rattle.pb_verifier_states.proofs.state.slots.find_slot.Given as goal

-- the loops so far have other slots
abbrev pub invariant-loop-around : goal.invariant-loop-around
invariant-loop-around l = abstract_slot l.loops l.parameters l.slot ≡ abstract_slot (drop l.around-index l.loops) l.parameters l.slot
