-- What a call that writes leaves of its sink, by how it ends.
use Rattle.std.proofs.Common.{◌≡◌, ℕ, List, refl, sym, subst, Result, Ok, Err, IfErr, IsErrAnd}
use Rattle.std.specs.Io.KnownBytes.{Appends}
use Rattle.pb_base.specs.declared.or_memory.OrMemory.{OrMemory}
use Rattle.pb_base.specs.declared.or_memory.OrMemory.TheVariants as or_memory
use Rattle.pb_sorts.specs.declared.sink.E02.{E02}
use Rattle.pb_sorts.specs.declared.sink.Sink.{Ghosts}
use Rattle.pb_report.specs.Delivery as delivery
use Rattle.pb_report.specs.Delivery.{was_not_written, Leaves, SomeText}
use Rattle.pb_report.proofs.Delivery as known
use Rattle.pb_command_faults.specs.declared.solve_error.SolveError.{SolveError}
use Rattle.pb_command_faults.specs.declared.solve_error.SolveError.TheVariants as solve_error
use Rattle.pb_command_faults.specs.declared.solve_fault.SolveFault.{SolveFault}
use Rattle.pb_command_modules.specs.Delivery.{Delivers, is_failed_write}
use Rattle.pb_command_faults.specs.Errors.{IfInputRefused, joins_into, write_failure}

module _ {S : Type 0} (sink : Ghosts S) where
  -- where `?` hands up the error of a layer, nothing was written
  pub nothing_written : {F T : Type 0} (gives : F → SolveFault → Type 0) (IsWritten : List ℕ → Type 0) (w : S) (e : OrMemory F) (r : Result T SolveError)
      → IsErrAnd r (joins_into gives e) → Delivers IsWritten r sink w w
  nothing_written gives IsWritten w e (Ok x) made = absurd made
  nothing_written gives IsWritten w (or_memory.Refused fault) (Err (solve_error.Refused above)) made = refl
  nothing_written gives IsWritten w (or_memory.Refused fault) (Err solve_error.Memory) made = refl
  nothing_written gives IsWritten w (or_memory.Refused fault) (Err (solve_error.Write failed)) made = absurd made
  nothing_written gives IsWritten w or_memory.Memory (Err (solve_error.Refused above)) made = refl
  nothing_written gives IsWritten w or_memory.Memory (Err solve_error.Memory) made = refl
  nothing_written gives IsWritten w or_memory.Memory (Err (solve_error.Write failed)) made = absurd made

  -- and where memory was refused
  pub nothing_in_want : {T : Type 0} (IsWritten : List ℕ → Type 0) (w : S) (r : Result T SolveError) → IsErrAnd r (λ e. e ≡ solve_error.Memory) → Delivers IsWritten r sink w w
  nothing_in_want IsWritten w (Ok x) made = absurd made
  nothing_in_want IsWritten w (Err e) made = subst (λ (x : SolveError). Leaves (is_failed_write x) IsWritten sink w w) (sym made) refl

  -- what a call delivered that ended well, and what its error left
  pub delivered : {T : Type 0} (IsWritten : List ℕ → Type 0) (old new : S) (r : Result T SolveError) (v : T) → r ≡ Ok v
      → Delivers IsWritten r sink old new → SomeText IsWritten (Appends (sink.taken old) (sink.taken new)) × (sink.has_failed new ≡ sink.has_failed old)
  delivered IsWritten old new (Ok x) v is h = h
  delivered IsWritten old new (Err e) v is h = absurd (cc is)

  pub left : {T : Type 0} (IsWritten : List ℕ → Type 0) (old new : S) (r : Result T SolveError) (e : SolveError) → r ≡ Err e
      → Delivers IsWritten r sink old new → Leaves (is_failed_write e) IsWritten sink old new
  left IsWritten old new (Ok x) e is h = absurd (cc is)
  left IsWritten old new (Err x) e is h = let same : x ≡ e = cc is in subst (λ (z : SolveError). Leaves (is_failed_write z) IsWritten sink old new) same h

  module _ (More Less : List ℕ → Type 0) (less : (text : List ℕ) → More text → Less text) (old new : S) where
    -- a text of which less is known
    pub less_delivered : {T : Type 0} (r : Result T SolveError) → Delivers More r sink old new → Delivers Less r sink old new
    less_delivered r h = known.less_delivered is_failed_write sink More Less less old new r h

    -- an error that is handed on left as much
    pub less_left_on : {T : Type 0} (r : Result T SolveError) (e : SolveError) → IsErrAnd r (λ x. x ≡ e) → Leaves (is_failed_write e) More sink old new → Delivers Less r sink old new
    less_left_on (Ok v) e made h = absurd made
    less_left_on {T = T} (Err x) e made h = less_delivered {T = T} (Err x) (subst (λ (y : SolveError). Leaves (is_failed_write y) More sink old new) (sym made) h)

    -- what is written whole
    pub less_sent : SomeText More (Appends (sink.taken old) (sink.taken new)) × (sink.has_failed new ≡ sink.has_failed old)
        → SomeText Less (Appends (sink.taken old) (sink.taken new)) × (sink.has_failed new ≡ sink.has_failed old)
    less_sent h = (known.less_text sink More Less less old new _ h.0, h.1)

    -- what the writers of a module's texts deliver
    pub sent_whole : {T : Type 0} (r : Result T (OrMemory E02)) (v : T) → delivery.Delivers was_not_written More r sink old new → r ≡ Ok v
        → SomeText Less (Appends (sink.taken old) (sink.taken new)) × (sink.has_failed new ≡ sink.has_failed old)
    sent_whole (Ok w) v sent is = less_sent sent
    sent_whole (Err e) v sent is = absurd (cc is)

    pub sent_up : {T U : Type 0} (r : Result T (OrMemory E02)) (x : OrMemory E02) (s : Result U SolveError) → delivery.Delivers was_not_written More r sink old new
        → r ≡ Err x → IsErrAnd s (λ y. y ≡ write_failure x) → Delivers Less s sink old new
    sent_up r x (Ok u) sent is made = absurd made
    sent_up (Ok v) x (Err e) sent is made = absurd (cc is)
    sent_up {U = U} (Err or_memory.Memory) or_memory.Memory (Err e) sent is made = less_left_on {T = U} (Err e) solve_error.Memory made sent
    sent_up (Err or_memory.Memory) (or_memory.Refused b) (Err e) sent is made = absurd (cc is)
    sent_up (Err (or_memory.Refused a)) or_memory.Memory (Err e) sent is made = absurd (cc is)
    sent_up {U = U} (Err (or_memory.Refused a)) (or_memory.Refused b) (Err e) sent is made = less_left_on {T = U} (Err e) (solve_error.Write b) made sent

-- the only error of a call that does nothing but write says nothing of the input
pub only_write : {T : Type 0} (P : SolveFault → Type 0) (r : Result T SolveError) → IfErr r (λ e. e ≡ solve_error.Write (record {})) → IfInputRefused r P
only_write P (Ok x) h = tt
only_write P (Err (solve_error.Refused fault)) h = absurd (cc h)
only_write P (Err solve_error.Memory) h = tt
only_write P (Err (solve_error.Write failed)) h = tt
