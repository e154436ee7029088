use Rattle.std.proofs.Common.{drop}
use Rattle.pb_protocol_meaning.specs.Syntax.{Protocol}
use Rattle.pb_protocol_quantified_alone.specs.Alone.{AreAlone}
use Rattle.pb_protocol_quantified_alone.proofs.alone.+quantified.Given as goal

-- all are where those that are left are
abbrev pub invariant-are_alone-loop-link : goal.invariant-are_alone-loop-link
invariant-are_alone-loop-link l = (m : Protocol) → AreAlone m (drop l.link-index l.links) → AreAlone m l.links
