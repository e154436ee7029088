-- How a text comes to the sink of a call that writes it. `IsWritten` holds of the texts that may be
-- written.
use Rattle.std.specs.Prelude.{◌≡◌, ℕ, Bool, true, false, List, Result, Ok, Err}
use Rattle.std.specs.Io.KnownBytes.{Appends}
use Rattle.pb_sorts.specs.Sink.{AppendsPrefix}
use Rattle.pb_sorts.specs.declared.sink.E02.{E02}
use Rattle.pb_sorts.specs.declared.sink.Sink.{Ghosts}
use Rattle.pb_base.specs.declared.or_memory.OrMemory.{OrMemory}
use Rattle.pb_base.specs.declared.or_memory.OrMemory.TheVariants.{Memory, Refused}

-- P holds of some text that may be written
abbrev pub SomeText : (List ℕ → Type 0) → (List ℕ → Type 0) → Type 0
SomeText IsWritten P = (text : List ℕ) × IsWritten text × P text

-- what an error leaves: a failed write a part that begins such a text, any other error nothing at
-- all
abbrev pub Leaves : {S : Type 0} → Bool → (List ℕ → Type 0) → Ghosts S → (old new : S) → Type 0
Leaves true IsWritten sink old new =
    SomeText IsWritten (AppendsPrefix (sink.taken old) (sink.taken new))
    × (sink.has_failed new ≡ true)
Leaves false IsWritten sink old new = new ≡ old

-- Such a text was appended, and no write failed; or an error left what it leaves, of which the test
-- says whether it is a failed write. What is known of the sink's type tells what was taken, and
-- whether a write failed.
abbrev pub Delivers : {S T E : Type 0} → (E → Bool) → (List ℕ → Type 0) → Result T E → Ghosts S
    → (old new : S) → Type 0
Delivers is_failed_write IsWritten (Ok _) sink old new =
    SomeText IsWritten (Appends (sink.taken old) (sink.taken new))
    × (sink.has_failed new ≡ sink.has_failed old)
Delivers is_failed_write IsWritten (Err error) sink old new =
    Leaves (is_failed_write error) IsWritten sink old new

-- whether a text was not written since a write failed
abbrev pub was_not_written : OrMemory E02 → Bool
was_not_written Memory = false
was_not_written (Refused _) = true
