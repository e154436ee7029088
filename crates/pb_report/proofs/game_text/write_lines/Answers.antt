use Rattle.std.proofs.Common.{◌≡◌, ℕ, ◌+◌, ◌-◌, sym, ap, ◌∙◌, subst, arith}
use Rattle.pb_game.specs.Games.{vertex_count}
use Rattle.pb_report.specs.VertexNames.{name_in, lines_of, IsAtRow}
use Rattle.pb_report.proofs.Underway.{begun, went_on, gave_up, ended}
use Rattle.pb_report.proofs.VertexLines.{next_line, next_row, same_row, is_there, is_absent, each_some}
use Rattle.pb_report.proofs.game_text.write_lines.Goals as goal
use Rattle.pb_report.proofs.game_text.write_lines.Goals.{then-is_some, else-is_some}

pub loop-vertex-init : goal.loop-vertex-init
loop-vertex-init g c =
    let all : vertex_count c.args.placed.now.game.now - 0 ≡ vertex_count c.args.placed.now.game.now = omega arith in
    record {
      sent = rw all begun;
      place = record { before = λ j below. omega arith; behind = λ j from below. omega arith };
    }

pub write_line-requires-clause-number : goal.write_line-requires-clause-number
write_line-requires-clause-number g c =
    each_some c.number-instance.result _ (λ n is. c.args.placed.now.placed.numbers c.loop-vertex.vertex n (sym c.number-instance.ensures.number ∙ is))

pub returns-in_err-write_line : goal.returns-in_err-write_line
returns-in_err-write_line g c =
    gave_up _ (next_line c.args.placed.now.verified.now _ _ _ _ _ _ _ c.loop-vertex-test.true c.len-vertex-end.ensures.value c.number-instance.ensures.number)
    c.loop-vertex.invariant.sent c.from_residual.ensures.0 c.in_err-write_line.ensures

pub loop-vertex-preserved : goal.loop-vertex-preserved
loop-vertex-preserved g c =
    let vs = c.args.placed.now.vertices.now in
    let k = c.loop-vertex.k in
    let v = c.loop-vertex.vertex in
    let some = c.number-instance.ensures.some in
    record {
      sent = went_on (next_line c.args.placed.now.verified.now _ _ _ _ _ _ _ c.loop-vertex-test.true c.len-vertex-end.ensures.value c.number-instance.ensures.number)
          c.loop-vertex.invariant.sent c.in_ok-write_line.ensures;
      place = elim c.if-is_some.branch [
        | then-is_some w ↦
            let there = some.0 (is_there c.number-instance.result (sym c.is_some.ensures ∙ w.if-is_some.true)) in
            subst (λ (j : ℕ). IsAtRow vs j (v + 1)) (sym w.k-is) (next_row vs c.args.placed.now.placed.rising k v c.loop-vertex.invariant.place there.0 there.1)
        | else-is_some w ↦
            subst (λ (j : ℕ). IsAtRow vs j (v + 1)) (sym w.k-is)
            (same_row vs c.args.placed.now.placed.rising k v c.loop-vertex.invariant.place (λ l e. is_absent c.number-instance.result (sym c.is_some.ensures ∙ w.if-is_some.false) (some.1 (l, e))))
      ];
    }

pub returns : goal.returns
returns g c =
    let game = c.args.placed.now.game.now in
    let v = c.loop-vertex.vertex in
    let none : vertex_count game - v ≡ 0 = omega (arith, c.len-vertex-end.ensures.value) in
    ended (ap (lines_of (name_in c.args.placed.now.verified.now c.args.placed.now.vertices.now c.args.placed.now.rows.now) game v) none) c.loop-vertex.invariant.sent
