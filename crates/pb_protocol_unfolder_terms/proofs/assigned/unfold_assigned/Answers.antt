use Rattle.std.proofs.Common.{ℕ, ◌<◌, false, length, List, map, subst, sym}
use Rattle.std.specs.Prelude.{IfErr}
use Rattle.pb_text_meaning.specs.Syntax.{Term}
use Rattle.pb_protocol_tree.specs.Form.{assignment_form}
use Rattle.pb_protocol_meaning.specs.Steps.{data_of}
use Rattle.pb_protocol_unfolding.specs.Unfolding.{Copy, after_copies, forms_of, name_of}
use Rattle.pb_protocol_unfolder_terms.specs.Assigned.{after_by, copies_of, element_said, placed_by}
use Rattle.pb_protocol_unfolder_terms.specs.AssignmentCopies.{AreCopiesOf}
use Rattle.pb_protocol_unfolder_terms.specs.Contexts.{definition_of, folding_in, forms_in, scope_in, spec_in}
use Rattle.pb_protocol_unfolder_terms.specs.Met.{Surroundings}
use Rattle.pb_protocol_unfolder_terms.specs.Tells.{scope_said, surroundings_in}
use Rattle.pb_protocol_unfolder_terms.specs.TermFaults.{HasManyAssigned, IfFaultAt, IsFaultInCopies, IsFaultInElement, PlacedCopy, WithMany, scope_by}
use Rattle.pb_protocol_unfolder_terms.specs.Unfolding.{Unfolds, operator_count}
use Rattle.pb_protocol_unfolder_terms.proofs.CopiedLemmas.{copies-are, copies-placed}
use Rattle.pb_protocol_unfolder_terms.proofs.LargeLemmas.{with-many}
use Rattle.pb_protocol_unfolder_terms.proofs.ProtocolLemmas.{mapped-length, unfolds-of-protocol}
use Rattle.pb_protocol_unfolder_terms.proofs.assigned.unfold_assigned.Goals as goal

pub returns-clause-term : goal.returns-clause-term
returns-clause-term c = λ m sort assignments is are.
    let e = element_said c.args.element.now sort in
    subst (λ (cs : List Copy). Unfolds (data_of m) false 8192 (after_copies (data_of m) (forms_of m) cs e (Term.Named (name_of e))) c.unfold_assigned_by.result)
    (copies-are (data_of m) (scope_in m c.args.scope.now) assignments c.args.copies.now are)
    (unfolds-of-protocol m c.args.context.now is c.args.scope.now (λ S F ρ. after_copies S F (copies_of c.args.copies.now ρ) e (Term.Named (name_of e))) false 8192
    c.unfold_assigned_by.result (c.unfold_assigned_by.ensures.term sort))

-- what is told by the context, of its copies as those of these assignments
pub returns-clause-faults : goal.returns-clause-faults
returns-clause-faults c =
    let k = c.args.context.now in
    let s = c.args.scope.now in
    let cs = c.args.copies.now in
    let M = surroundings_in k in
    λ m sort assignments same are v.
    let e = element_said c.args.element.now sort in
    let bs = map assignment_form assignments in
    let given = subst (λ (N : Surroundings). AreCopiesOf N.spec assignments cs) (sym same) are in
    let told = subst (λ (n : ℕ). IfErr c.unfold_assigned_by.result (IfFaultAt (WithMany (8192 < operator_count (after_by k n s cs e)) (IsFaultInCopies M 200 n (placed_by k s cs)))))
    (mapped-length definition_of k.definitions.items)
    (with-many (folding_in k) false 8192 (after_by k (length k.definitions.items) s cs e) (IsFaultInCopies M 200 (length k.definitions.items) (placed_by k s cs))
    c.unfold_assigned_by.result (c.unfold_assigned_by.ensures.term sort) (c.unfold_assigned_by.ensures.faults v)) in
    let n = length (map definition_of k.definitions.items) in
    let many = subst (λ (all : List Copy). IfErr c.unfold_assigned_by.result (IfFaultAt (WithMany
    (8192 < operator_count (after_copies (spec_in k) (forms_in k n) all e (Term.Named (name_of e)))) (IsFaultInCopies M 200 n (placed_by k s cs)))))
    (copies-are (spec_in k) (scope_said k s) assignments cs given) told in
    subst (λ (N : Surroundings). IfErr c.unfold_assigned_by.result (IfFaultAt (IsFaultInElement N (scope_by N s) bs e))) same
    (subst (λ (all : List PlacedCopy). IfErr c.unfold_assigned_by.result (IfFaultAt (WithMany (HasManyAssigned M n (scope_by M s) bs e) (IsFaultInCopies M 200 n all))))
    (copies-placed k s (spec_in k) assignments cs given) many)
