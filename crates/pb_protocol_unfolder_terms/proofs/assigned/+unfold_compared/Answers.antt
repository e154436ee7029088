use Rattle.std.proofs.Common.{◌≡◌, ◌∙◌, ℕ, true, false, sym, subst, refl}
use Rattle.std.proofs.lemmas.Bool.{false≢true}
use Rattle.pb_text_meaning.specs.Syntax.{Term}
use Rattle.pb_protocol_folding.specs.Folding.{folded}
use Rattle.pb_protocol_folding.specs.View as tree
use Rattle.pb_protocol_unfolder_terms.specs.Contexts.{IsSeenInside, folding_in, forms_in, spec_in}
use Rattle.pb_protocol_unfolder_terms.specs.Puts.{put}
use Rattle.pb_protocol_unfolder_terms.specs.Scopes.{scope_of}
use Rattle.pb_protocol_unfolder_terms.specs.Tells.{IsFaultOf, scope_said, surroundings_in}
use Rattle.pb_protocol_unfolder_terms.specs.Unfolding.{IsUnfolded}
use Rattle.pb_protocol_unfolder_terms.proofs.AssignedLemmas.{compared-none, compared-unequal}
use Rattle.pb_protocol_unfolder_terms.proofs.ComparedLemmas.{IsEqualAt, comparing-at, comparing-without-room, equal-at, index-refused, others-met, others-refused, others-unfolded, unequal-unfolded}
use Rattle.pb_protocol_unfolder_terms.proofs.LargeLemmas.{first-argument, room-told}
use Rattle.pb_protocol_unfolder_terms.proofs.MetLemmas.{not-inside-outside, told}
use Rattle.pb_protocol_unfolder_terms.proofs.SortsLemmas.{same-folded}
use Rattle.pb_protocol_unfolder_terms.proofs.assigned.+unfold_compared.Goals as goal
use Rattle.pb_protocol_unfolder_terms.proofs.assigned.+unfold_compared.Goals.{After-decides}

pub returns-in_default-clause-term : goal.returns-in_default-clause-term
returns-in_default-clause-term t c =
    subst (λ (z : Term). IsUnfolded (folding_in c.args.context.now) true c.args.level.room z c.truth.result)
    (compared-none (spec_in c.args.context.now) (forms_in c.args.context.now c.args.level.definitions)
    (scope_of (spec_in c.args.context.now) (forms_in c.args.context.now) c.args.scope.now) c.args.compared.arguments.now c.args.compared.index.now
    c.is_empty.result c.in_default.ensures.value c.is_empty.ensures) (c.truth.ensures (folding_in c.args.context.now) true)

pub returns-in_default-first-clause-term : goal.returns-in_default-first-clause-term
returns-in_default-first-clause-term t c =
    subst (λ (z : Term). IsUnfolded (folding_in c.args.context.now) true c.args.level.room z c.truth-in_default-first.result)
    (compared-unequal (spec_in c.args.context.now) (forms_in c.args.context.now c.args.level.definitions)
    (scope_of (spec_in c.args.context.now) (forms_in c.args.context.now) c.args.scope.now) c.args.compared.arguments.now c.args.compared.index.now c.in-Some.argument.now
    c.in-Some.ensures.value c.in_default-first.ensures.value)
    (c.truth-in_default-first.ensures (folding_in c.args.context.now) true)

pub returns-in_err-behind_all-clause-term : goal.returns-in_err-behind_all-clause-term
returns-in_err-behind_all-clause-term t c =
    comparing-without-room
    (comparing-at c.args.context.now c.args.level c.args.scope.now c.args.compared c.in-Some.ensures.value c.in-Some-first.ensures.value)
    c.from_residual.result c.in_err-behind_all.field-0.0 c.from_residual.ensures.1 c.in_err-behind_all.ensures.0 c.in_err-behind_all.ensures.1

pub returns-in_err-index-clause-term : goal.returns-in_err-index-clause-term
returns-in_err-index-clause-term t c =
    index-refused
    (comparing-at c.args.context.now c.args.level c.args.scope.now c.args.compared c.in-Some.ensures.value c.in-Some-first.ensures.value)
    c.in_ok-behind_all.field-0 c.from_residual-in_err-index.result c.in_err-index.field-0.0 c.from_residual-in_err-index.ensures.1 c.in_ok-behind_all.ensures c.in_err-index.ensures.term

-- the first argument is compared with the first value
equal : (t : ℕ) (c : After-decides t)
    → IsEqualAt c.args.context.now c.args.level c.args.scope.now c.args.compared c.in-Some.argument.now c.in-Some-first.value.now c.in_ok-index.index c.in-Ok.equal
equal t c =
    equal-at (comparing-at c.args.context.now c.args.level c.args.scope.now c.args.compared c.in-Some.ensures.value c.in-Some-first.ensures.value) c.in-Ok.equal c.in_ok-behind_all.ensures
    c.in_ok-index.ensures.term c.folding.ensures c.in-Ok.ensures

pub returns-then-decides-clause-term : goal.returns-then-decides-clause-term
returns-then-decides-clause-term t c =
    unequal-unfolded (equal t (goal.at.returns-then-decides-clause-term t c).After-decides) (c.decides.ensures c.if-decides.true) c.none_equal.ensures

pub returns-in_err-equal-clause-term : goal.returns-in_err-equal-clause-term
returns-in_err-equal-clause-term t c =
    others-refused (equal t (goal.at.returns-in_err-equal-clause-term t c).After-decides) c.from_residual-in_err-equal.result c.in_err-equal.field-0.0 c.from_residual-in_err-equal.ensures.1
    (rw c.in_err-equal.ensures at c.unfold_compared-others.ensures.term)

pub returns-clause-term : goal.returns-clause-term
returns-clause-term t c =
    others-unfolded (equal t (goal.at.returns-clause-term t c).After-decides) (rw c.in_ok-equal.ensures.1 at c.unfold_compared-others.ensures.term)
    (rw c.in_ok-equal.ensures.0 at c.in_ok-both.ensures)

pub returns-then-not-stays_inside-clause-faults : goal.returns-then-not-stays_inside-clause-faults
returns-then-not-stays_inside-clause-faults t c =
    let k = c.args.context.now in
    let n = c.args.level.definitions in
    let a = c.in-Some.argument.now in
    let index = tree.term_of c.in_ok-index.index.term in
    let x = put k n c.args.scope.now (tree.term_of a.term) in
    let folded-by : index ≡ folded (spec_in k) false x = c.in_ok-index.ensures.term.term ∙ same-folded (folding_in k) (spec_in k) refl false x in
    let outside : IsSeenInside k c.args.compared.indices.now index → ⊥ = λ seen. false≢true (c.if-not-stays_inside.ensures.1 seen) in
    λ w h. subst (IsFaultOf (surroundings_in k) w) (sym c.refused.ensures)
    (h.read.outside a.place
    (not-inside-outside k n (scope_said k c.args.scope.now) w c.args.compared.indices.now c.args.compared.arguments.now a index c.in-Some.ensures.value folded-by outside))

pub returns-in_err-equal-clause-faults : goal.returns-in_err-equal-clause-faults
returns-in_err-equal-clause-faults t c =
    told c.args.context.now c.from_residual-in_err-equal.result c.in_err-equal.field-0.0 c.from_residual-in_err-equal.ensures.1 (rw c.in_err-equal.ensures at c.unfold_compared-others.ensures.faults)
    (others-met c.args.context.now c.args.level c.args.scope.now c.args.compared c.behind_first.result.now c.behind_first.ensures)

pub returns-in_err-index-clause-faults : goal.returns-in_err-index-clause-faults
returns-in_err-index-clause-faults t c =
    told c.args.context.now c.from_residual-in_err-index.result c.in_err-index.field-0.0 c.from_residual-in_err-index.ensures.1 c.in_err-index.ensures.faults
    (λ w h. (
      first-argument c.args.context.now c.args.level.depth c.args.level.definitions (scope_said c.args.context.now c.args.scope.now) w c.args.compared.arguments.now c.in-Some.argument.now
          c.in-Some.ensures.value h.arguments_met,
      h.read.scope_met,
    ))

pub returns-in_err-behind_all-clause-faults : goal.returns-in_err-behind_all-clause-faults
returns-in_err-behind_all-clause-faults t c =
    room-told c.args.context.now c.from_residual.result c.in_err-behind_all.field-0.0 c.from_residual.ensures.1 c.in_err-behind_all.ensures.0 (λ w h. h.read.token)
