use Rattle.std.proofs.Common.{subst}
use Rattle.pb_protocol_folding.specs.View as tree
use Rattle.pb_protocol_unfolding.specs.PutIn.{TermScope, put_in}
use Rattle.pb_protocol_unfolder_terms.specs.Contexts.{folding_in, forms_in, spec_in}
use Rattle.pb_protocol_unfolder_terms.specs.Unfolding.{Unfolds}
use Rattle.pb_protocol_unfolder_terms.proofs.CopiedLemmas.{term-told}
use Rattle.pb_protocol_unfolder_terms.proofs.assigned.unfold_value.Goals as goal

pub returns-clause-term : goal.returns-clause-term
returns-clause-term c =
    let k = c.args.context.now in
    subst (λ (ρ : TermScope). Unfolds (folding_in k) c.args.level.truth c.args.level.room
    (put_in (spec_in k) (forms_in k c.args.level.definitions) ρ (tree.term_of c.args.copy.assignment.now.value.term)) c.unfold.result)
    (c.inside-inner.ensures.scope k) c.unfold.ensures.term

pub returns-clause-faults : goal.returns-clause-faults
returns-clause-faults c = λ values.
    term-told c.args.context.now c.args.level c.args.scope.now c.inside-inner.result c.args.copy (c.inside-inner.ensures.scope c.args.context.now) c.unfold.result
    (c.inside-inner.ensures.values values) c.unfold.ensures.faults
