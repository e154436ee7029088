-- What is refused by one command of a module is refused by those that do more.
use Rattle.std.proofs.Common.{◌≡◌, ℕ, List, sym, subst}
use Rattle.std.specs.Prelude.{Result}
use Rattle.std.specs.Result.{IsErrAnd}
use Rattle.pb_base.specs.OrMemory.{IfFault}
use Rattle.pb_base.specs.declared.or_memory.OrMemory.{OrMemory}
use Rattle.pb_command_faults.specs.declared.solve_error.SolveError.{SolveError}
use Rattle.pb_command_faults.specs.declared.solve_fault.SolveFault.{SolveFault}
use Rattle.pb_command_faults.specs.declared.solve_fault.SolveFault.TheVariants as solve_fault
use Rattle.pb_command_faults.specs.Errors.{IfInputRefused, joins_into}
use Rattle.pb_command_faults.proofs.HandedUp.{refused_up}
use Rattle.pb_sorts.specs.declared.counting.Counting.{Counting}
use Rattle.pb_bytecode.specs.Contents.{Contents}
use Rattle.pb_game_of_trees.specs.declared.tree_game.TooManyVertices.{TooManyVertices}
use Rattle.pb_command_solver.specs.Answers.{IsTooLarge}
use Rattle.pb_command_modules.specs.Answers.{IsModuleOfCode}
use Rattle.pb_command_modules.specs.Refusals.{IsRefusedModule, IsUnlisted, IsUnverified, IsRefusedBytes}

-- ---- from a command to those that do more

pub unlisted : (counting : Counting) (bytes : List ℕ) (f : SolveFault) → IsUnlisted counting bytes f → IsUnverified counting bytes f
unlisted counting bytes (solve_fault.Acceptance fault) h = absurd h
unlisted counting bytes solve_fault.TooManyVertices h = h
unlisted counting bytes solve_fault.NoProperty h = h
unlisted counting bytes (solve_fault.Property fault) h = h
unlisted counting bytes (solve_fault.Text fault) h = h
unlisted counting bytes (solve_fault.Typing fault) h = h
unlisted counting bytes (solve_fault.Limit excess) h = h
unlisted counting bytes (solve_fault.Module fault) h = h

pub unverified : (counting : Counting) (bytes : List ℕ) (f : SolveFault) → IsUnverified counting bytes f → IsRefusedBytes counting bytes f
unverified counting bytes solve_fault.TooManyVertices h = absurd h
unverified counting bytes solve_fault.NoProperty h = h
unverified counting bytes (solve_fault.Property fault) h = h
unverified counting bytes (solve_fault.Text fault) h = h
unverified counting bytes (solve_fault.Typing fault) h = h
unverified counting bytes (solve_fault.Limit excess) h = h
unverified counting bytes (solve_fault.Module fault) h = h
unverified counting bytes (solve_fault.Acceptance fault) h = h

-- ---- what is refused of a module is refused of the bytes that spell it

pub module_of_code_refused : (counting : Counting) (bytes : List ℕ) (m : Contents) → IsModuleOfCode counting bytes m → (f : SolveFault) → IsRefusedModule counting m f → IsRefusedBytes counting bytes f
module_of_code_refused counting bytes m of_code solve_fault.TooManyVertices h = (m, of_code, h)
module_of_code_refused counting bytes m of_code solve_fault.NoProperty h = absurd h
module_of_code_refused counting bytes m of_code (solve_fault.Property fault) h = absurd h
module_of_code_refused counting bytes m of_code (solve_fault.Text fault) h = absurd h
module_of_code_refused counting bytes m of_code (solve_fault.Typing fault) h = absurd h
module_of_code_refused counting bytes m of_code (solve_fault.Limit excess) h = absurd h
module_of_code_refused counting bytes m of_code (solve_fault.Module fault) h = absurd h
module_of_code_refused counting bytes m of_code (solve_fault.Acceptance fault) h = absurd h

-- where `?` hands up a module's refusal
pub too_large_up : {T : Type 0} (counting : Counting) (m : Contents) (e : OrMemory TooManyVertices) (r : Result T SolveError) → IfFault e (λ _. IsTooLarge counting m)
    → IsErrAnd r (joins_into (λ _ above. above ≡ solve_fault.TooManyVertices) e) → IfInputRefused r (IsRefusedModule counting m)
too_large_up counting m e r large made =
    refused_up (λ _ above. above ≡ solve_fault.TooManyVertices) (λ _. IsTooLarge counting m) (IsRefusedModule counting m)
    (λ f above same h. subst (IsRefusedModule counting m) (sym same) h) e r large made
