use Rattle.std.proofs.Common.{◌≡◌, ◌∙◌, ◌<◌, ◌≤◌, ◌+◌, ℕ, suc, [], ◌∷◌, ◌++◌, List, add-one, ap, arith, length, map, subst, sym, take}
use Rattle.std.specs.Prelude.{flat_map}
use Rattle.pb_base.specs.OrMemory.{IfFault}
use Rattle.pb_base.specs.declared.limits.TheConstants.{MAX_OPERATORS}
use Rattle.pb_base.specs.declared.or_memory.OrMemory.{OrMemory}
use Rattle.pb_text_tree.specs.declared.place.Place.{Place}
use Rattle.pb_protocol_tree.specs.Form.{assignment_form}
use Rattle.pb_protocol_unfolder_terms.specs.declared.copies.Spread.{Spread}
use Rattle.pb_protocol_unfolder_terms.specs.declared.fault.UnfoldFault.{UnfoldFault}
use Rattle.pb_protocol_unfolder_terms.specs.declared.fault.UnfoldRule.TheVariants as rule
use Rattle.pb_protocol_unfolder_terms.specs.AssignmentCopies.{AreSpreadsOf, tuples_behind}
use Rattle.pb_protocol_unfolder_terms.specs.TermFaults.{IsFaultAt, IsFaultInCopying}
use Rattle.pb_protocol_unfolder_terms.specs.View.{spec_of}
use Rattle.pb_protocol_unfolder_terms.proofs.ChainLemmas.{err-kept}
use Rattle.pb_protocol_unfolder_terms.proofs.SpreadLemmas.{one-told, spread-length, spreads-more, too-many, tuples-more}
use Rattle.pb_protocol_unfolder_terms.proofs.copies.spread_assignments.Goals as goal

pub returns-in_err-spread : goal.returns-in_err-spread
returns-in_err-spread c =
    let S = spec_of c.args.sorts in
    let bs = c.args.assignments.now in
    err-kept c.from_residual.result c.in_err-spread.field-0.0 (λ v. AreSpreadsOf S bs v.items × (length (flat_map tuples_behind v.items) ≤ MAX_OPERATORS))
    (λ error. IfFault error (IsFaultAt (IsFaultInCopying S (map assignment_form bs)))) c.from_residual.ensures.1
    (one-told S bs c.loop-assignment.assignment-index c.assignment-item.result c.loop-assignment.spreads.items c.in_err-spread.field-0.0 c.loop-assignment-test.true c.assignment-item.is
    c.loop-assignment.invariant.0 c.in_err-spread.ensures)

pub returns-then-count-gt-MAX_OPERATORS : goal.returns-then-count-gt-MAX_OPERATORS
returns-then-count-gt-MAX_OPERATORS c =
    let S = spec_of c.args.sorts in
    let bs = c.args.assignments.now in
    let spread = c.in_ok-spread.spread in
    let size = spread-length S c.assignment-item.result spread c.in_ok-spread.ensures in
    subst (λ (e : OrMemory UnfoldFault). IfFault e (IsFaultAt (IsFaultInCopying S (map assignment_form bs)))) (sym c.refused.ensures)
    (subst (λ (p : Place). IsFaultInCopying S (map assignment_form bs) rule.Values p) (sym c.place_of_copies.ensures)
    (too-many S bs c.loop-assignment.assignment-index c.assignment-item.result c.loop-assignment.spreads.items c.loop-assignment-test.true c.assignment-item.is c.loop-assignment.invariant.0
    (omega (arith, c.loop-assignment.invariant.1, c.len-count.ensures, spread.tuples.ok.0, size, c.if-count-gt-MAX_OPERATORS.true))))

pub loop-assignment-preserved : goal.loop-assignment-preserved
loop-assignment-preserved c =
    let S = spec_of c.args.sorts in
    let bs = c.args.assignments.now in
    let i = c.loop-assignment.assignment-index in
    let ss = c.loop-assignment.spreads.items in
    let spread = c.in_ok-spread.spread in
    let added : c.push.new.self.items ≡ ss ++ (spread ∷ []) = c.in_ok-push.ensures.items in
    let counted = ap (λ (xs : List Spread). length (flat_map tuples_behind xs)) added ∙ tuples-more ss spread in (
      subst (λ (xs : List Spread). AreSpreadsOf S (take (i + 1) bs) xs) (sym added)
          (subst (λ (m : ℕ). AreSpreadsOf S (take m bs) (ss ++ (spread ∷ []))) (sym (add-one i))
          (spreads-more S bs i c.assignment-item.result ss spread c.loop-assignment-test.true c.assignment-item.is c.loop-assignment.invariant.0 c.in_ok-spread.ensures)),
      omega (arith, counted, c.loop-assignment.invariant.1, c.len-count.ensures, spread.tuples.ok.0),
      omega (arith, c.if-count-gt-MAX_OPERATORS.false),
    )
