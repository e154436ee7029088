use Rattle.std.proofs.Common.{◌≡◌, drop, map}
use Rattle.std.specs.Prelude.{flat_map}
use Rattle.pb_text_tree.specs.Form.{spec_form, sort_declaration_form}
use Rattle.pb_text_meaning.specs.Erase.{erase}
use Rattle.pb_typing_declarations.specs.Declarations.{sort_faults}
use Rattle.pb_typing_declarations.proofs.tables.Tables.check_sorts.Given as goal

-- all faults are those of the sorts that are left
abbrev pub invariant-loop-declaration : goal.invariant-loop-declaration
invariant-loop-declaration l =
    flat_map (sort_faults (erase (spec_form l.self.spec.now))) (map sort_declaration_form l.sorts)
    ≡ flat_map (sort_faults (erase (spec_form l.self.spec.now))) (map sort_declaration_form (drop l.declaration-index l.sorts))
