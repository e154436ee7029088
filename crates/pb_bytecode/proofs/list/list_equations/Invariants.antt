use Rattle.std.proofs.Common.{◌≡◌, ◌++◌, map, drop}
use Rattle.std.specs.Prelude.{string_bytes}
use Rattle.pb_bytecode.specs.Listing.{numbered_lines, equation_lines}
use Rattle.pb_bytecode.specs.Views.{equation_contents}
use Rattle.pb_bytecode.proofs.list.list_equations.Given as goal

-- what is there with what is left is the whole
abbrev pub invariant-loop-index : goal.invariant-loop-index
invariant-loop-index l =
    string_bytes l.text ++ numbered_lines equation_lines l.index (map equation_contents (drop l.index l.equations))
    ≡ string_bytes l.initial.text ++ numbered_lines equation_lines 0 (map equation_contents l.equations)
