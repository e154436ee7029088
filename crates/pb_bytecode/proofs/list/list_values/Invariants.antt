use Rattle.std.proofs.Common.{◌≡◌, ◌++◌, map, drop}
use Rattle.std.specs.Prelude.{string_bytes}
use Rattle.std.specs.Fmt.{signed_decimal}
use Rattle.pb_bytecode.specs.Listing.{line_end}
use Rattle.pb_bytecode.proofs.list.list_values.Given as goal

-- what is there with what is left is the whole
abbrev pub invariant-loop-value : goal.invariant-loop-value
invariant-loop-value l = string_bytes l.text ++ line_end (map signed_decimal (drop l.value-index l.values)) ≡ string_bytes l.initial.text ++ line_end (map signed_decimal l.values)
