-- What was read so far left the reader, and fits.
use Rattle.std.proofs.Common.{◌≡◌, ◌≤◌, ◌-◌, vec_len}
use Rattle.std.specs.Io.KnownBytes.{Consumes}
use Rattle.pb_base.specs.declared.limits.TheConstants.{MAX_INPUT_BYTES}
use Rattle.pb_sorts.proofs.input.read_input.Given as goal

abbrev pub invariant-loop-n : goal.invariant-loop-n
invariant-loop-n g l = record {
  within : vec_len l.text ≤ MAX_INPUT_BYTES;
  consumed : Consumes (g.R.Source.left l.initial.reader) (g.R.Source.left l.reader) l.text.items;
  same_failed : g.R.Source.has_failed l.reader ≡ g.R.Source.has_failed l.initial.reader;
}

abbrev pub decreases-loop-n : goal.decreases-loop-n
decreases-loop-n g l = MAX_INPUT_BYTES - vec_len l.text
