use Rattle.std.proofs.Common.{◌≡◌, ◌++◌, map, drop}
use Rattle.std.specs.Prelude.{string_bytes}
use Rattle.pb_bytecode.specs.Listing.{line_end}
use Rattle.pb_bytecode.specs.Views.{text_of}
use Rattle.pb_bytecode.proofs.list.list_names.Given as goal

-- what is there with what is left is the whole
abbrev pub invariant-loop-name : goal.invariant-loop-name
invariant-loop-name l = string_bytes l.text ++ line_end (map text_of (drop l.name-index l.names)) ≡ string_bytes l.initial.text ++ line_end (map text_of l.names)
