use Rattle.std.proofs.Common.{◌≡◌, take, map}
use Rattle.pb_bytecode_program.specs.Abstract.{abstraction_of}
use Rattle.pb_verifier_states.proofs.state.abstractions.Given as goal

abbrev pub invariant-loop-carrier : goal.invariant-loop-carrier
invariant-loop-carrier l = l.values.items ≡ map abstraction_of (take l.carrier-index l.carriers)
