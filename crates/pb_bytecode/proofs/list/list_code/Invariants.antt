use Rattle.std.proofs.Common.{◌≡◌, ◌++◌, drop}
use Rattle.std.specs.Prelude.{string_bytes}
use Rattle.pb_bytecode.specs.Listing.{numbered_lines, op_line}
use Rattle.pb_bytecode.proofs.list.list_code.Given as goal

-- what is there with what is left is the whole
abbrev pub invariant-loop-place : goal.invariant-loop-place
invariant-loop-place l = string_bytes l.text ++ numbered_lines op_line l.place (drop l.place l.code) ≡ string_bytes l.initial.text ++ numbered_lines op_line 0 l.code
