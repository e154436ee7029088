use Rattle.std.proofs.Common.{rules}
use Rattle.pb_text_terms.proofs.node.constant.Goals as goal

pub returns : goal.returns
returns c = record {
  reads = rw c.take.ensures.reads c.closed.ensures;
  fewer = search rules;
}
