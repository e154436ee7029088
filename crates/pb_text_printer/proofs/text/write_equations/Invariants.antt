use Rattle.std.proofs.Common.{◌≡◌, drop, map}
use Rattle.std.specs.Prelude.{flat_map}
use Rattle.pb_text_tree.specs.Form.{equation_form}
use Rattle.pb_text_printer.specs.Page.{after, page}
use Rattle.pb_text_printer.specs.Words.{equation_words}
use Rattle.pb_text_printer.proofs.text.write_equations.Given as goal

abbrev pub invariant-loop-equation : goal.invariant-loop-equation
invariant-loop-equation l =
    after (flat_map equation_words (map equation_form (drop l.equation-index l.equations))) (page l.out) ≡ after (flat_map equation_words (map equation_form l.equations)) (page l.initial.out)
