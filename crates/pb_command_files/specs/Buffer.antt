-- What a `Buffer` keeps: the bytes that it took, and whether memory was refused for some.
use Rattle.std.specs.Prelude.{ℕ, List, Bool}
use Rattle.pb_command_files.specs.declared.buffer.Buffer.{Buffer}

abbrev pub kept_bytes : Buffer → List ℕ
kept_bytes s = s.bytes.items

abbrev pub was_refused_memory : Buffer → Bool
was_refused_memory s = s.failed
