use Rattle.std.proofs.Common.{ℕ, List, length, get_or, sym, ap, ◌∙◌, subst, arith}
use Rattle.pb_game.specs.Games.{vertex_count}
use Rattle.pb_report.specs.InstanceMarks.{AreMarked}
use Rattle.pb_report.specs.VertexNames.{AreRising}
use Rattle.pb_report.proofs.Placing.{moved, as_many, vertices_rising, start_marked, shown}
use Rattle.pb_report.proofs.module_evidence.evidence_of_rows.Goals.{After-deref-3}
use Rattle.pb_report.proofs.module_evidence.evidence_of_rows.Goals as goal

-- the instances of all rows are marked
marked : (c : After-deref-3) → AreMarked c.args.solved.now.built.vertices.items c.args.rows.now (length c.args.rows.now) c.deref-2.result.now c.deref-3.result.now
marked c = moved _ _ _ _ _ _ _ _ c.deref.ensures.value (sym c.deref-2.ensures.value) (sym c.deref-3.ensures.value) c.in_ok-marks.ensures.marked

pub new-requires-clause-lengths : goal.new-requires-clause-lengths
new-requires-clause-lengths c = ap length c.deref.ensures.value ∙ as_many c.requires.3 c.requires.4

pub new-requires-clause-within : goal.new-requires-clause-within
new-requires-clause-within c = λ k l.
    let value = c.deref.ensures.value in
    let within = c.args.solved.now.built.rows_inside k 0 (omega (arith, l, ap length value)) in
    omega (arith, within, c.len.ensures, ap (λ (xs : List ℕ). get_or xs k 0) value)

pub new-requires-clause-rising : goal.new-requires-clause-rising
new-requires-clause-rising c = subst AreRising (sym c.deref.ensures.value) (vertices_rising c.requires.3 c.requires.4)

pub explain-requires-clause-vertex : goal.explain-requires-clause-vertex
explain-requires-clause-vertex c = omega (arith, c.args.solved.now.built.inside, ap vertex_count c.checked-checked.ensures.game)

pub explain-requires-clause-marked : goal.explain-requires-clause-marked
explain-requires-clause-marked c = start_marked c.requires.3 c.requires.4 _ _ (marked (goal.at.explain-requires-clause-marked c).After-deref-3)

pub cuts_of-requires : goal.cuts_of-requires
cuts_of-requires c =
    let shows = shown c.requires.3 c.requires.4 _ _ (marked (goal.at.cuts_of-requires c).After-deref-3) _ _ c.checked-checked.ensures.game c.in_ok-evidence.ensures in
    (c.requires.0, c.requires.1, c.requires.2, c.requires.3, shows)

pub returns : goal.returns
returns c = λ sigs trees initial from is.
    let shows = shown from is _ _ (marked (goal.at.returns c).After-deref-3) _ _ c.checked-checked.ensures.game c.in_ok-evidence.ensures in
    record { shown = shows; cuts = c.in_ok-cuts.ensures sigs trees initial from shows }
