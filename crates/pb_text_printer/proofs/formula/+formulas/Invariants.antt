use Rattle.std.proofs.Common.{◌≡◌, drop}
use Rattle.pb_text_tree.specs.Form.{link_forms}
use Rattle.pb_text_printer.specs.Words.{is_open_end}
use Rattle.pb_text_printer.specs.Page.{after, page}
use Rattle.pb_text_printer.specs.Parts.{formula_link_words}
use Rattle.pb_text_printer.proofs.formula.+formulas.Given as goal

-- what is left to write behind the links so far is all of it
abbrev pub invariant-write_links-loop-index : goal.invariant-write_links-loop-index
invariant-write_links-loop-index l =
    after (formula_link_words l.connective (is_open_end l.right_end) (link_forms (drop l.index l.links))) (page l.out)
    ≡ after (formula_link_words l.connective (is_open_end l.right_end) (link_forms l.links)) (page l.initial.out)
