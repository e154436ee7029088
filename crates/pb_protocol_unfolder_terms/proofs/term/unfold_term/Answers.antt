use Rattle.pb_protocol_folding.specs.View as tree
use Rattle.pb_protocol_unfolding.specs.PutIn.{put_in}
use Rattle.pb_protocol_unfolder_terms.proofs.ProtocolLemmas.{unfolds-of-protocol}
use Rattle.std.proofs.Common.{ℕ, length, subst}
use Rattle.std.specs.Prelude.{IfErr}
use Rattle.pb_text_tree.specs.Form.{term_form}
use Rattle.pb_protocol_unfolder_terms.specs.Contexts.{definition_of}
use Rattle.pb_protocol_unfolder_terms.specs.Contexts.{folding_in}
use Rattle.pb_protocol_unfolder_terms.specs.Large.{HasManyOperators}
use Rattle.pb_protocol_unfolder_terms.specs.Met.{Occurrence, Surroundings, at}
use Rattle.pb_protocol_unfolder_terms.specs.Puts.{put}
use Rattle.pb_protocol_unfolder_terms.specs.Tells.{scope_said, surroundings_in}
use Rattle.pb_protocol_unfolder_terms.specs.TermFaults.{Breaks, IfFaultAt, IsFaultInTerm, WithMany, scope_by}
use Rattle.pb_protocol_unfolder_terms.proofs.LargeLemmas.{with-many}
use Rattle.pb_protocol_unfolder_terms.proofs.ProtocolLemmas.{mapped-length}
use Rattle.pb_protocol_unfolder_terms.proofs.term.unfold_term.Goals as goal

pub returns-clause-term : goal.returns-clause-term
returns-clause-term c = λ m is.
    unfolds-of-protocol m c.args.context.now is c.args.scope.now (λ S F ρ. put_in S F ρ (tree.term_of c.args.term.now)) c.args.truth 8192
    c.unfold_by.result c.unfold_by.ensures.term

pub returns-clause-faults : goal.returns-clause-faults
returns-clause-faults c =
    let k = c.args.context.now in
    let x = term_form c.args.term.now in
    let M = surroundings_in k in
    let met : ℕ → Occurrence = λ n. at 200 n (scope_said k c.args.scope.now) x in
    let n = length k.definitions.items in
    λ m same v. subst (λ (N : Surroundings). IfErr c.unfold_by.result (IfFaultAt (IsFaultInTerm N (scope_by N c.args.scope.now) x))) same
    (subst (λ (j : ℕ). IfErr c.unfold_by.result (IfFaultAt (WithMany (HasManyOperators M (met j)) (Breaks M (met j)))))
    (mapped-length definition_of k.definitions.items)
    (with-many (folding_in k) c.args.truth 8192 (put k n c.args.scope.now (tree.term_of c.args.term.now))
    (Breaks M (met n)) c.unfold_by.result c.unfold_by.ensures.term (c.unfold_by.ensures.faults v)))
