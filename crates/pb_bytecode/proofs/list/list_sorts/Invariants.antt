use Rattle.std.proofs.Common.{◌≡◌, ◌++◌, map, drop}
use Rattle.std.specs.Prelude.{string_bytes}
use Rattle.pb_bytecode.specs.Listing.{numbered_lines, sort_line}
use Rattle.pb_bytecode.specs.Views.{sort_contents}
use Rattle.pb_bytecode.proofs.list.list_sorts.Given as goal

-- what is there with what is left is the whole
abbrev pub invariant-loop-index : goal.invariant-loop-index
invariant-loop-index l =
    string_bytes l.text ++ numbered_lines sort_line l.index (map sort_contents (drop l.index l.sorts)) ≡ string_bytes l.initial.text ++ numbered_lines sort_line 0 (map sort_contents l.sorts)
