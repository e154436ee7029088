use Rattle.std.proofs.Common.{◌≡◌, drop}
use Rattle.pb_verifier.specs.Pass.{code_passes, passes}
use Rattle.pb_verifier.specs.Names.{program_in_module}
use Rattle.pb_verifier.proofs.pass.pass.Given as goal

-- the pass from here is the whole pass
abbrev pub invariant-loop-place : goal.invariant-loop-place
invariant-loop-place l =
    let p = program_in_module l.checked in
    passes p l.place (drop l.place l.checked.equation.now.code.items) l.pass.open_loops l.pass.table.items ≡ code_passes p
