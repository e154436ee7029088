use Rattle.std.proofs.Common.{◌≡◌, ◌++◌, drop, map}
use Rattle.pb_text_tree.specs.Form.{enumerator_form}
use Rattle.pb_text_tree.proofs.sort_copies.copy_enumerators.Given as goal

abbrev pub invariant-loop-enumerator : goal.invariant-loop-enumerator
invariant-loop-enumerator l = map enumerator_form l.copies.items ++ map enumerator_form (drop l.enumerator-index l.enumerators) ≡ map enumerator_form l.enumerators
