use Rattle.std.proofs.Common.{true, subst}
use Rattle.pb_text_meaning.specs.Syntax.{Term}
use Rattle.pb_protocol_unfolder_terms.specs.Contexts.{folding_in}
use Rattle.pb_protocol_unfolder_terms.specs.Unfolding.{Unfolds}
use Rattle.pb_protocol_unfolder_terms.proofs.CopiedLemmas.{condition-said, condition-told}
use Rattle.pb_protocol_unfolder_terms.proofs.assigned.unfold_condition.Goals as goal

pub returns-clause-term : goal.returns-clause-term
returns-clause-term c = λ sort.
    let k = c.args.context.now in
    let compared = c.compared_with-compared.ensures in
    subst (λ (z : Term). Unfolds (folding_in k) true c.args.level.room z c.unfold_compared.result)
    (condition-said k c.args.level.definitions c.args.scope.now c.inside-inner.result c.args.copy c.compared_with-compared.result c.args.element sort (c.inside-inner.ensures.scope k)
    compared.arguments compared.index)
    c.unfold_compared.ensures.term

pub returns-clause-faults : goal.returns-clause-faults
returns-clause-faults c = λ values.
    let k = c.args.context.now in
    let compared = c.compared_with-compared.ensures in
    condition-told k c.args.level c.args.scope.now c.inside-inner.result c.args.copy (c.inside-inner.ensures.scope k) c.unfold_compared.result c.compared_with-compared.result
    (c.inside-inner.ensures.values values) compared.arguments compared.indices compared.place c.unfold_compared.ensures.faults
