-- How a text goes to a sink through a buffer.
use Rattle.std.specs.Prelude.{◌≡◌, ℕ, true, List, ◌++◌, Option, Result, Ok, Err}
use Rattle.std.specs.Io.KnownBytes.{Appends}
use Rattle.pb_sorts.specs.Sink.{AppendsPrefix}
use Rattle.pb_sorts.specs.declared.sink.E02.{E02}
use Rattle.pb_sorts.specs.declared.sink.Sink.{Ghosts}
use Rattle.pb_report.specs.declared.buffer.TextWriter.{TextWriter}

-- these bytes went out, or a part that begins them, and then a write failed
abbrev pub GoOut : {S T : Type 0} → List ℕ → Result T E02 → Ghosts S → (old new : S) → Type 0
GoOut bytes (Ok _) sink old new =
    Appends (sink.taken old) (sink.taken new) bytes × (sink.has_failed new ≡ sink.has_failed old)
GoOut bytes (Err _) sink old new =
    AppendsPrefix (sink.taken old) (sink.taken new) bytes × (sink.has_failed new ≡ true)

-- A part went out, and the buffer holds what is left: `before` was in it, and `text` came.
pub record IsSent (old new : Option (List ℕ)) (before after text : List ℕ) : Type 0 where
  pub sent : List ℕ
  pub went_out : Appends old new sent
  pub rest : sent ++ after ≡ before ++ text

-- What goes out of a buffer that held `before` when `text` came: all but what it still holds. An
-- error leaves nothing to come.
abbrev pub PassesOn : {S T : Type 0} → (before after text : List ℕ) → Result T E02 → Ghosts S
    → (old new : S) → Type 0
PassesOn before after text (Ok _) sink old new =
    IsSent (sink.taken old) (sink.taken new) before after text
    × (sink.has_failed new ≡ sink.has_failed old)
PassesOn before after text (Err _) sink old new =
    AppendsPrefix (sink.taken old) (sink.taken new) (before ++ text)
    × (sink.has_failed new ≡ true)

-- A text is delivered through a writer's buffer, and its sink stays the same one. What is known of
-- the sink's type tells what was taken, and whether a write failed.
pub record Sends {S T : Type 0} (text : List ℕ) (result : Result T E02) (sink : Ghosts S)
    (old new : TextWriter S) : Type 0 where
  pub same_sink : new.sink.ghost_name ≡ old.sink.ghost_name
  pub delivers : PassesOn old.buffer.now.bytes.items new.buffer.now.bytes.items text result
      sink old.sink.now new.sink.now
