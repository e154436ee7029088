use Rattle.std.proofs.Common.{◌≡◌, drop}
use Rattle.std.specs.Prelude.{None}
use Rattle.pb_text_tree.specs.Form.{argument_forms, arithmetic_links, term_links}
use Rattle.pb_text_printer.specs.Words.{is_open_end}
use Rattle.pb_text_printer.specs.Page.{after, page}
use Rattle.pb_text_printer.specs.Parts.{arguments_from, computed_words, link_words}
use Rattle.pb_text_printer.proofs.term.+terms.Given as goal

-- in each loop, what is left to write behind what has been written is all of it

abbrev pub invariant-write_arguments-loop-index : goal.invariant-write_arguments-loop-index
invariant-write_arguments-loop-index l =
    after (arguments_from l.index (argument_forms (drop l.index l.arguments))) (page l.out) ≡ after (arguments_from 0 (argument_forms l.arguments)) (page l.initial.out)

abbrev pub invariant-write_links-loop-index : goal.invariant-write_links-loop-index
invariant-write_links-loop-index l =
    after (link_words l.connective (is_open_end l.right_end) (term_links (drop l.index l.links))) (page l.out)
    ≡ after (link_words l.connective (is_open_end l.right_end) (term_links l.links)) (page l.initial.out)

abbrev pub invariant-write_operations-loop-link : goal.invariant-write_operations-loop-link
invariant-write_operations-loop-link l =
    after (computed_words l.before (arithmetic_links (drop l.link-index l.links))) (page l.out) ≡ after (computed_words None (arithmetic_links l.links)) (page l.initial.out)
