use Rattle.std.proofs.Common.{◌≡◌, drop, map}
use Rattle.std.specs.Prelude.{flat_map}
use Rattle.pb_text_tree.specs.Form.{sort_declaration_form}
use Rattle.pb_text_printer.specs.Page.{after, page}
use Rattle.pb_text_printer.specs.Words.{declaration_words}
use Rattle.pb_text_printer.proofs.text.write_declarations.Given as goal

abbrev pub invariant-loop-declaration : goal.invariant-loop-declaration
invariant-loop-declaration l =
    after (flat_map declaration_words (map sort_declaration_form (drop l.declaration-index l.declarations)))
    (page l.out) ≡ after (flat_map declaration_words (map sort_declaration_form l.declarations)) (page l.initial.out)
