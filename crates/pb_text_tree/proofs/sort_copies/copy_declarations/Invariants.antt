use Rattle.std.proofs.Common.{◌≡◌, ◌++◌, drop, map}
use Rattle.pb_text_tree.specs.Form.{sort_declaration_form}
use Rattle.pb_text_tree.proofs.sort_copies.copy_declarations.Given as goal

abbrev pub invariant-loop-declaration : goal.invariant-loop-declaration
invariant-loop-declaration l = map sort_declaration_form l.copies.items ++ map sort_declaration_form (drop l.declaration-index l.declarations) ≡ map sort_declaration_form l.declarations
