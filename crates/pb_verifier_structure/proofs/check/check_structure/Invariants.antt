use Rattle.std.proofs.Common.{◌≡◌, ℕ, ◌<◌, Some}
use Rattle.std.specs.Prelude.{slice_get}
use Rattle.pb_bytecode_program.specs.Accepted.{HasValidTarget, NamesInScope}
use Rattle.pb_bytecode_program.specs.Machine.{Program}
use Rattle.pb_bytecode_program.specs.declared.instruction.Op.{Op}
use Rattle.pb_verifier_structure.specs.Views.{IsProgramOf}
use Rattle.pb_verifier_structure.proofs.check.check_structure.Given as goal

-- the instructions so far keep their rules
abbrev pub invariant-loop-place : goal.invariant-loop-place
invariant-loop-place l = (p : Program) → IsProgramOf p l.code → (q : ℕ) (i : Op) → q < l.place → slice_get p.code q ≡ Some i → HasValidTarget p q i × NamesInScope p q i
