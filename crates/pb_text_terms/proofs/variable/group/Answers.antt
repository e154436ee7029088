use Rattle.std.proofs.Common.{rules, ap, Ok}
use Rattle.pb_text_tree.specs.Form.{named}
use Rattle.pb_text_terms.specs.Reading.{group}
use Rattle.pb_text_terms.proofs.VariableLemmas.{names-of-sort}
use Rattle.pb_text_terms.proofs.variable.group.Goals as goal

pub returns : goal.returns
unfolding group
returns c = record {
  reads = rw (c.in_ok-names.ensures.reads, c.in_ok-expect.ensures.reads, c.in_ok-sort.ensures.reads)
      (ap (λ v. Ok (v, c.name.new.input)) (names-of-sort (named c.in_ok-sort.sort) c.in_ok-names.names.items));
  fewer = search rules;
}
