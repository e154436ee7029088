use Rattle.std.proofs.Common.{drop}
use Rattle.pb_protocol_meaning.specs.Syntax.{Protocol}
use Rattle.pb_protocol_quantified_alone.specs.Alone.{HaveNone}
use Rattle.pb_protocol_quantified_alone.proofs.alone.+equations.Given as goal

-- all have none where those that are left have none
abbrev pub invariant-have_none-loop-link : goal.invariant-have_none-loop-link
invariant-have_none-loop-link l = (m : Protocol) → HaveNone m (drop l.link-index l.links) → HaveNone m l.links
