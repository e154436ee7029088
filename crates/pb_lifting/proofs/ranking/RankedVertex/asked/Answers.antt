use Rattle.std.proofs.Common.{◌*◌, ◌≡◌, ap, ◌∙◌, sym, arith}
use Rattle.pb_game.specs.Games.{priority_of}
use Rattle.pb_game.proofs.Laws.{is_game}
use Rattle.std.specs.Prelude.{slice_index}
use Rattle.pb_lifting.specs.Radix.{unit}
use Rattle.pb_lifting.specs.Measures.{base_of, more_of}
use Rattle.pb_lifting.proofs.Measures.{place_positive, top_multiple, asked_is}
use Rattle.pb_lifting.proofs.ranking.RankedVertex.asked.Goals as goal
use Rattle.pb_lifting.proofs.ranking.RankedVertex.asked.Goals.{After-at-place, then-priority-parity, else-priority-parity}

-- the place that is read is the unit of the vertex's priority
unit_is : (c : After-at-place) → (let ranking = c.args.self.now.ranking in
    c.at-place.result ≡ unit (base_of ranking.game.now ranking.player) (priority_of ranking.game.now c.args.self.now.number))
unit_is c =
    let ranking = c.args.self.now.ranking in
    let b = c.priority-priority.ensures.within in
    let w = c.priority-priority.ensures.value in
    c.at-place.ensures ∙ (ap (slice_index ranking.scale.now.places) w ∙ ranking.scale_of.places (priority_of ranking.game.now c.args.self.now.number) (omega arith))

pub at-place-requires : goal.at-place-requires
at-place-requires c =
    let few = (is_game c.args.self.now.ranking.game.now).few_priorities in let w = c.priority-priority.ensures.value in let b = c.priority-priority.ensures.within in omega arith

pub step-requires-clause-place : goal.step-requires-clause-place
step-requires-clause-place c =
    let ranking = c.args.self.now.ranking in
    let at = unit_is (goal.at.step-requires-clause-place c).After-at-place in
    let pos = place_positive ranking.game.now ranking.player (priority_of ranking.game.now c.args.self.now.number) in omega arith

pub step-requires-clause-multiple : goal.step-requires-clause-multiple
step-requires-clause-multiple c =
    let b = c.priority-priority.ensures.within in
    let w = c.priority-priority.ensures.value in
    let m = top_multiple c.args.self.now.ranking.game.now c.args.self.now.ranking.player (priority_of c.args.self.now.ranking.game.now c.args.self.now.number) (omega arith) in
    (m.0, c.top-top.ensures ∙ (m.1 ∙ ap (λ x. m.0 * x) (sym (unit_is (goal.at.step-requires-clause-multiple c).After-at-place))))

pub returns : goal.returns
returns c =
    let v = c.args.self.now in
    let p = v.ranking.player in
    let more : c.if-priority-parity.more ≡ more_of p (priority_of v.ranking.game.now v.number) = elim c.if-priority-parity.branch [
      | then-priority-parity x ↦ grind (arith, x.more-is, x.if-priority-parity, c.priority-priority.ensures.value, c.parity.ensures)
      | else-priority-parity x ↦ grind (arith, x.more-is, x.if-priority-parity, c.priority-priority.ensures.value, c.parity.ensures)
    ] in
    c.step.ensures ∙ asked_is v.ranking.game.now p v.number c.args.rank c.at-place.result c.top-top.result c.if-priority-parity.more
    (unit_is (goal.at.returns c).After-at-place) c.top-top.ensures more
