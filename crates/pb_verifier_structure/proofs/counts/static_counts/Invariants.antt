use Rattle.pb_bytecode_program.specs.Machine.{Program}
use Rattle.pb_verifier_structure.specs.Views.{IsProgramOf}
use Rattle.pb_verifier_structure.proofs.Weights.{IsCounted}
use Rattle.pb_verifier_structure.proofs.counts.static_counts.Given as goal

abbrev pub invariant-loop-instruction : goal.invariant-loop-instruction
invariant-loop-instruction l = (p : Program) → IsProgramOf p l.code → IsCounted p l.instruction-index l.weights.items l.steps l.tokens
