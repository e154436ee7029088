-- A text that goes through a buffer of its own, which is empty at first and at the end, is delivered.
use Rattle.std.proofs.Common.{◌≡◌, ℕ, true, List, [], Result, Ok, Err, IsErrAnd, ◌∙◌, subst}
use Rattle.std.specs.Io.KnownBytes.{Appends}
use Rattle.pb_base.specs.declared.or_memory.OrMemory.{OrMemory}
use Rattle.pb_sorts.specs.Sink.{AppendsPrefix}
use Rattle.pb_sorts.specs.declared.sink.E02.{E02}
use Rattle.pb_sorts.specs.declared.sink.Sink.{Ghosts}
use Rattle.pb_report.specs.Delivery.{Delivers, SomeText, was_not_written}
use Rattle.pb_report.specs.Sending.{Sends}
use Rattle.pb_report.specs.declared.buffer.TextWriter.{TextWriter}
use Rattle.pb_report.proofs.Delivery.{left_part}
use Rattle.pb_report.proofs.Sending.{all_out, part_out, begins}

module _ {S U : Type 0} {sink : Ghosts S} (IsWritten : List ℕ → Type 0) {text : List ℕ} {a b : TextWriter S} (is : IsWritten text) where
  -- the text didn't come whole
  pub part_written : {T : Type 0} {x : E02} {after : S} (r : Result T (OrMemory E02)) (e : OrMemory E02) → Sends {T = U} text (Err x) sink a b → a.buffer.now.bytes.items ≡ []
      → IsErrAnd r (λ y. y ≡ e) → was_not_written e ≡ true → b.sink.now ≡ after → Delivers was_not_written IsWritten r sink a.sink.now after
  part_written {T} {x} {after} r e sent none made failed same =
      subst (Delivers was_not_written IsWritten r sink a.sink.now) same
      (left_part was_not_written sink IsWritten a.sink.now b.sink.now r e made failed text is
      (begins (sink.taken a.sink.now) (sink.taken b.sink.now) a.buffer.now.bytes.items text none sent.delivers.0) sent.delivers.1)

  -- it came, and the buffer wasn't emptied
  pub end_unwritten : {T : Type 0} {u : U} {new after : S} (r : Result T (OrMemory E02)) (e : OrMemory E02) → Sends text (Ok u) sink a b → a.buffer.now.bytes.items ≡ []
      → AppendsPrefix (sink.taken b.sink.now) (sink.taken new) b.buffer.now.bytes.items × (sink.has_failed new ≡ true)
      → IsErrAnd r (λ y. y ≡ e) → was_not_written e ≡ true → new ≡ after → Delivers was_not_written IsWritten r sink a.sink.now after
  end_unwritten {T} {u} {new} {after} r e sent none part made failed same =
      subst (Delivers was_not_written IsWritten r sink a.sink.now) same
      (left_part was_not_written sink IsWritten a.sink.now new r e made failed text is
      (part_out (sink.taken a.sink.now) (sink.taken b.sink.now) (sink.taken new) a.buffer.now.bytes.items b.buffer.now.bytes.items text none sent.delivers.0 part.0) part.1)

  pub all_written : {u : U} {new after : S} → Sends text (Ok u) sink a b → a.buffer.now.bytes.items ≡ []
      → Appends (sink.taken b.sink.now) (sink.taken new) b.buffer.now.bytes.items × (sink.has_failed new ≡ sink.has_failed b.sink.now) → new ≡ after
      → SomeText IsWritten (Appends (sink.taken a.sink.now) (sink.taken after)) × (sink.has_failed after ≡ sink.has_failed a.sink.now)
  all_written {u} {new} {after} sent none all same =
      subst (λ (s : S). SomeText IsWritten (Appends (sink.taken a.sink.now) (sink.taken s)) × (sink.has_failed s ≡ sink.has_failed a.sink.now)) same (
        (text, is, all_out (sink.taken a.sink.now) (sink.taken b.sink.now) (sink.taken new) a.buffer.now.bytes.items b.buffer.now.bytes.items text none sent.delivers.0 all.0),
        all.1 ∙ sent.delivers.1,
      )
