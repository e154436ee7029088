use Rattle.std.proofs.Common.{◌≡◌, drop, map}
use Rattle.pb_text_tree.specs.Form.{enumerator_form}
use Rattle.pb_text_printer.specs.Page.{after, page}
use Rattle.pb_text_printer.specs.Parts.{enumerators_from}
use Rattle.pb_text_printer.proofs.text.write_enumerators.Given as goal

abbrev pub invariant-loop-index : goal.invariant-loop-index
invariant-loop-index l =
    after (enumerators_from l.index (map enumerator_form (drop l.index l.enumerators))) (page l.out)
    ≡ after (enumerators_from 0 (map enumerator_form l.enumerators)) (page l.initial.out)
