use Rattle.std.proofs.Common.{◌≡◌, ◌++◌, drop, map}
use Rattle.pb_text_tree.specs.Form.{term_links, arithmetic_links}
use Rattle.pb_text_tree.proofs.CopyLemmas.{placed_argument}
use Rattle.pb_text_tree.proofs.term_copies.+terms.Given as goal

abbrev pub invariant-copy_links-loop-link : goal.invariant-copy_links-loop-link
invariant-copy_links-loop-link l = term_links l.copies.items ++ term_links (drop l.link-index l.links) ≡ term_links l.links

abbrev pub invariant-copy_operations-loop-link : goal.invariant-copy_operations-loop-link
invariant-copy_operations-loop-link l = arithmetic_links l.copies.items ++ arithmetic_links (drop l.link-index l.links) ≡ arithmetic_links l.links

abbrev pub invariant-copy_arguments-loop-argument : goal.invariant-copy_arguments-loop-argument
invariant-copy_arguments-loop-argument l = map placed_argument l.copies.items ++ map placed_argument (drop l.argument-index l.arguments) ≡ map placed_argument l.arguments
