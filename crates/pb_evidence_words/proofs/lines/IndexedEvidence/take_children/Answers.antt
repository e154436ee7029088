use Rattle.std.proofs.Common.{◌≡◌, ℕ, ◌<◌, List, length, get_or, sym, ap, subst, ◌∙◌, arith, rules, take, if◌then◌else◌}
use Rattle.std.proofs.lemmas.List.{take_all}
use Rattle.std.specs.Prelude.{slice_index}
use Rattle.std.proofs.lemmas.Grind.{common_steps}
use Rattle.pb_game.specs.Adjacency.{is_among}
use Rattle.pb_evidence.proofs.Finding.{IsAt}
use Rattle.pb_evidence_words.proofs.Children.{child-is-at, found-at, child-taken, numbers, row_at}
use Rattle.pb_evidence_words.proofs.lines.IndexedEvidence.take_children.Goals as goal
use Rattle.pb_evidence_words.proofs.lines.IndexedEvidence.take_children.Goals.{After-place_in-place}

-- the place that is looked up is where the child's line stands
place_is : (c : After-place_in-place) → (at : IsAt (numbers c.args.self.now.evidence.now) (get_or c.dependencies-child-items.result.now c.loop-child.child-index 0))
    × (c.place_in-place.result ≡ at.place)
place_is c =
    let e = c.args.self.now.evidence.now in
    let xs = c.dependencies-child-items.result.now in
    let i = c.loop-child.child-index in
    let less : i < length (row_at e c.args.line) = omega (arith, c.loop-child-test.true, ap length c.dependencies-child-items.ensures) in
    let at = subst (λ (ys : List ℕ). IsAt (numbers e) (get_or ys i 0)) (sym c.dependencies-child-items.ensures) (child-is-at e c.args.self.now.lines c.args.line i c.requires.line less) in
    (at, c.place_in-place.ensures ∙ found-at (numbers e) c.args.self.now.places.now c.args.self.now.placed _ at)

pub bounds-parents-place : goal.bounds-parents-place
bounds-parents-place c =
    let is = place_is (goal.at.bounds-parents-place c).After-place_in-place in
    omega (arith, is.1, is.0.within, c.requires.sized)

pub offset_bounds-parents-place : goal.offset_bounds-parents-place
offset_bounds-parents-place c =
    let less = bounds-parents-place c in
    first_of (omega (arith, less), search (rules, less), grind (arith, common_steps, less))

pub loop-child-preserved : goal.loop-child-preserved
loop-child-preserved c = λ k within.
    let e = c.args.self.now.evidence.now in
    let is = place_is (goal.at.loop-child-preserved c).After-place_in-place in
    child-taken e c.args.self.now.lines c.loop-child.parents c.dependencies-child-items.result.now c.loop-child.child-index c.args.line k c.place_in-place.result
    (slice_index c.args.parents.now k) c.loop-child-test.true (omega (arith, is.1, is.0.within)) (omega arith) within
    (ap (λ (p : ℕ). get_or (numbers e) p 0) is.1 ∙ is.0.there)
    (c.loop-child.invariant k within)

pub returns : goal.returns
returns c = λ k within.
    let xs = c.dependencies-child-items.result.now in
    let e = c.args.self.now.evidence.now in
    let all : take c.loop-child.child-index xs ≡ row_at e c.args.line = take_all c.loop-child.child-index xs (omega (arith, c.loop-child-test.false)) ∙ c.dependencies-child-items.ensures in
    c.loop-child.invariant k within
    ∙ ap (λ (ys : List ℕ). if is_among ys (slice_index (numbers e) k) then c.args.line else slice_index c.args.parents.now k) all
