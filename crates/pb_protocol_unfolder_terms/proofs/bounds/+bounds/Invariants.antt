use Rattle.std.proofs.Common.{◌≡◌, take}
use Rattle.pb_text_meaning.specs.Syntax as syntax
use Rattle.pb_protocol_unfolder_terms.specs.Contexts.{interval_in}
use Rattle.pb_protocol_unfolder_terms.specs.Puts.{calculated_term}
use Rattle.pb_protocol_unfolder_terms.proofs.bounds.+bounds.Given as goal

-- the operands before the next one
abbrev pub invariant-bounds_of_links-loop-link : goal.invariant-bounds_of_links-loop-link
invariant-bounds_of_links-loop-link l =
    (x : syntax.Term) → l.fn.first ≡ interval_in l.context x → l.bounds ≡ interval_in l.context (calculated_term x (take l.link-index l.links))
