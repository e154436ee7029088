use Rattle.std.proofs.Common.{◌≡◌, ◌<◌, Some, ℕ}
use Rattle.std.specs.Prelude.{slice_get}
use Rattle.pb_bytecode.specs.declared.equation.Equation.{Equation}
use Rattle.pb_verifier.specs.Acceptance.{HasTable}
use Rattle.pb_verifier.specs.Programs.{program_in}
use Rattle.pb_verifier.proofs.verification.check_equations.Given as goal

-- the code of each equation so far is accepted
abbrev pub invariant-loop-number : goal.invariant-loop-number
invariant-loop-number l = (k : ℕ) (e : Equation) → k < l.number → slice_get l.equations k ≡ Some e → HasTable (program_in l.sorts l.callees e)
