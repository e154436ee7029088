use Rattle.std.proofs.Common.{◌≡◌, ◌++◌, drop, map}
use Rattle.pb_text_tree.specs.Form.{named}
use Rattle.pb_text_tree.proofs.variable_copies.copy_names.Given as goal

abbrev pub invariant-loop-name : goal.invariant-loop-name
invariant-loop-name l = map named l.copies.items ++ map named (drop l.name-index l.names) ≡ map named l.names
