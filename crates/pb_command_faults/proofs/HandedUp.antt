-- What is wrong with the input, where `?` hands an error up.
use Rattle.std.proofs.Common.{◌≡◌, sym, subst}
use Rattle.std.specs.Prelude.{Result, Ok, Err}
use Rattle.std.specs.Result.{IsErrAnd}
use Rattle.pb_base.specs.OrMemory.{IfFault, IfRefused}
use Rattle.pb_base.specs.declared.or_memory.OrMemory.{OrMemory}
use Rattle.pb_base.specs.declared.or_memory.OrMemory.TheVariants as or_memory
use Rattle.pb_command_faults.specs.declared.solve_error.SolveError.{SolveError}
use Rattle.pb_command_faults.specs.declared.solve_error.SolveError.TheVariants as solve_error
use Rattle.pb_command_faults.specs.declared.solve_fault.SolveFault.{SolveFault}
use Rattle.pb_command_faults.specs.Errors.{IfInputFault, IfInputRefused, joins_into, write_failure}
use Rattle.pb_base.proofs.Faults.{if_fault}
use Rattle.pb_sorts.specs.declared.sink.E02 as sink

-- what holds of a layer's fault is what is wrong with the input
pub refused_up : {F T : Type 0} (gives : F → SolveFault → Type 0) (P : F → Type 0) (Q : SolveFault → Type 0)
    → ((f : F) (above : SolveFault) → gives f above → P f → Q above) → (e : OrMemory F) (r : Result T SolveError)
    → IfFault e P → IsErrAnd r (joins_into gives e) → IfInputRefused r Q
refused_up gives P Q up e (Ok x) h made = tt
refused_up gives P Q up (or_memory.Refused f) (Err (solve_error.Refused above)) h made = up f above made h
refused_up gives P Q up (or_memory.Refused f) (Err solve_error.Memory) h made = tt
refused_up gives P Q up (or_memory.Refused f) (Err (solve_error.Write failed)) h made = tt
refused_up gives P Q up or_memory.Memory (Err (solve_error.Refused above)) h made = absurd made
refused_up gives P Q up or_memory.Memory (Err solve_error.Memory) h made = tt
refused_up gives P Q up or_memory.Memory (Err (solve_error.Write failed)) h made = tt

-- and of what is wrong with the input already
pub handed_up : {T : Type 0} (P Q : SolveFault → Type 0) → ((f : SolveFault) → P f → Q f) → (e : OrMemory SolveFault) (r : Result T SolveError)
    → IfFault e P → IsErrAnd r (joins_into (λ f above. above ≡ f) e) → IfInputRefused r Q
handed_up P Q up e r h made = refused_up (λ f above. above ≡ f) P Q (λ f above same p. subst Q (sym same) (up f p)) e r h made

-- of the input of a call that ends as another does, more is known
pub if_input_refused : {T : Type 0} (P Q : SolveFault → Type 0) → ((f : SolveFault) → P f → Q f) → (r : Result T SolveError)
    → IfInputRefused r P → IfInputRefused r Q
if_input_refused P Q more (Ok x) h = tt
if_input_refused P Q more (Err (solve_error.Refused f)) h = more f h
if_input_refused P Q more (Err solve_error.Memory) h = tt
if_input_refused P Q more (Err (solve_error.Write failed)) h = tt

-- a failed write
pub failed_up : {T : Type 0} (P : SolveFault → Type 0) (e : OrMemory sink.E02) (r : Result T SolveError) → IsErrAnd r (λ x. x ≡ write_failure e) → IfInputRefused r P
failed_up P e (Ok x) made = tt
failed_up P (or_memory.Refused failed) (Err x) made = subst (λ (y : SolveError). IfInputFault y P) (sym made) tt
failed_up P or_memory.Memory (Err x) made = subst (λ (y : SolveError). IfInputFault y P) (sym made) tt

-- want of memory
pub wanting_up : {T : Type 0} (P : SolveFault → Type 0) (r : Result T SolveError) → IsErrAnd r (λ x. x ≡ solve_error.Memory) → IfInputRefused r P
wanting_up P (Ok x) made = tt
wanting_up P (Err x) made = subst (λ (y : SolveError). IfInputFault y P) (sym made) tt

-- an error as it is
pub handed_on : {T : Type 0} (P Q : SolveFault → Type 0) → ((f : SolveFault) → P f → Q f) → (e : OrMemory SolveFault) (r : Result T (OrMemory SolveFault))
    → IfFault e P → IsErrAnd r (λ x. x ≡ e) → IfRefused r Q
handed_on P Q more e (Ok x) h made = tt
handed_on P Q more e (Err x) h made = subst (λ y. IfFault y Q) (sym made) (if_fault e more h)
