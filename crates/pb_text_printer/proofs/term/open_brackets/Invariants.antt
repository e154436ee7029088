use Rattle.std.proofs.Common.{◌≡◌, drop}
use Rattle.std.specs.Prelude.{None}
use Rattle.pb_text_tree.specs.Form.{arithmetic_links}
use Rattle.pb_text_printer.specs.Page.{after, page}
use Rattle.pb_text_printer.specs.Parts.{opened}
use Rattle.pb_text_printer.proofs.term.open_brackets.Given as goal

-- what is left to open behind the brackets so far is all of it
abbrev pub invariant-loop-link : goal.invariant-loop-link
invariant-loop-link l = after (opened l.before (arithmetic_links (drop l.link-index l.links))) (page l.out) ≡ after (opened None (arithmetic_links l.links)) (page l.initial.out)
