use Rattle.std.proofs.Common.{ℕ, List, subst}
use Rattle.pb_protocol_unfolder_terms.specs.Tells.{AreIndices}
use Rattle.pb_protocol_unfolder_terms.proofs.assigned.compared_with.Goals as goal

pub returns-clause-indices : goal.returns-clause-indices
returns-clause-indices c = subst (λ (x : List ℕ). AreIndices c.args.context.now x c.indices_of.result.now) c.as_str.ensures.value c.indices_of.ensures
