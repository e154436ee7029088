use Rattle.std.proofs.Common.{◌≡◌, ℕ, false, length, subst, arith}
use Rattle.pb_protocol_unfolder_terms.specs.Assigned.{after_by, element_said, placed_by}
use Rattle.pb_protocol_unfolder_terms.specs.Contexts.{folding_in}
use Rattle.pb_protocol_unfolder_terms.specs.Unfolding.{Unfolds}
use Rattle.std.specs.Prelude.{IfErr}
use Rattle.pb_protocol_unfolder_terms.specs.Tells.{surroundings_in}
use Rattle.pb_protocol_unfolder_terms.specs.TermFaults.{IfFaultAt, IsFaultInCopies}
use Rattle.pb_protocol_unfolder_terms.proofs.assigned.unfold_assigned_by.Goals as goal
use Rattle.pb_protocol_unfolder_terms.proofs.assigned.unfold_assigned_by.Goals.{After-len}

-- so many definitions as there are
counted : (c : After-len) → c.len.result ≡ length c.args.context.now.definitions.items
counted c = omega (arith, c.len.ensures, c.args.context.now.definitions.ok.0)

pub returns-clause-term : goal.returns-clause-term
returns-clause-term c = λ sort.
    subst (λ (n : ℕ). Unfolds (folding_in c.args.context.now) false 8192 (after_by c.args.context.now n c.args.scope.now c.args.copies.now (element_said c.args.element sort))
    c.unfold_after.result)
    (counted (goal.at.returns-clause-term c).After-len) (c.unfold_after.ensures.term sort)

pub returns-clause-faults : goal.returns-clause-faults
returns-clause-faults c =
    λ v. subst (λ (n : ℕ). IfErr c.unfold_after.result
    (IfFaultAt (IsFaultInCopies (surroundings_in c.args.context.now) 200 n (placed_by c.args.context.now c.args.scope.now c.args.copies.now))))
    (counted (goal.at.returns-clause-faults c).After-len) (c.unfold_after.ensures.faults v)
