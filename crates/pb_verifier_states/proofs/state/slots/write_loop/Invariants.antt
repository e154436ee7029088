use Rattle.std.proofs.Common.{◌≡◌, ◌++◌, drop, take}
use Rattle.pb_bytecode_program.specs.Transfer.{set_loop}
use Rattle.pb_verifier_states.proofs.state.slots.write_loop.Given as goal

-- the loops so far have other slots, and nothing was written
abbrev pub invariant-loop-i : goal.invariant-loop-i
invariant-loop-i l = record {
  same : l.loops ≡ l.initial.loops;
  before : set_loop l.initial.loops l.slot l.value ≡ take l.i l.loops ++ set_loop (drop l.i l.loops) l.slot l.value;
}
