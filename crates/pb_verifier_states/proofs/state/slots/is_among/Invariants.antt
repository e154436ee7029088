use Rattle.std.proofs.Common.{◌≡◌, drop}
use Rattle.pb_bytecode_program.specs.Transfer.{among}
use Rattle.pb_verifier_states.proofs.state.slots.is_among.Given as goal

-- the loops so far have other slots
abbrev pub invariant-loop-around : goal.invariant-loop-around
invariant-loop-around l = among l.loops l.slot ≡ among (drop l.around-index l.loops) l.slot
