-- What an `Out` shows: the writer of std below it, and whether some write failed.
use Rattle.std.specs.Prelude.{Bool}
use Rattle.pb_sorts.specs.declared.sink.Out.{Out}

abbrev pub writer_of : {W : Type 0} → Out W → W
writer_of s = s.inner

abbrev pub is_failed : {W : Type 0} → Out W → Bool
is_failed s = s.failed
