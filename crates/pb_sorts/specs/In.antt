-- What an `In` shows: the reader of std below it, and whether some read failed.
use Rattle.std.specs.Prelude.{Bool}
use Rattle.pb_sorts.specs.declared.source.In.{In}

abbrev pub reader_of : {R : Type 0} → In R → R
reader_of s = s.inner

abbrev pub is_failed : {R : Type 0} → In R → Bool
is_failed s = s.failed
