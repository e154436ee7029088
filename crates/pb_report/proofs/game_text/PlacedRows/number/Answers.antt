use Rattle.std.proofs.Common.{Some, sym, ap, ◌∙◌, arith}
use Rattle.pb_fixpoint_trees.specs.Row.{nothing}
use Rattle.pb_report.proofs.VertexLines.{number_some, number_none, passed}
use Rattle.pb_report.proofs.game_text.PlacedRows.number.Goals as goal
use Rattle.pb_report.proofs.game_text.PlacedRows.number.Goals.{else-k-self-via-then-k-self+else-self-k, else-k-self-via-else-k-self}

pub returns-then-self-k-clause-number : goal.returns-then-self-k-clause-number
returns-then-self-k-clause-number c =
    ap Some c.number.ensures
    ∙ sym (number_some c.args.self.now.vertices.now c.args.self.now.rows.now c.args.k c.args.vertex nothing c.args.self.now.placed.lengths c.if-k-self.true c.if-self-k.true c.requires.before)

pub returns-else-k-self-clause-number : goal.returns-else-k-self-clause-number
returns-else-k-self-clause-number c =
    sym (number_none c.args.self.now.vertices.now c.args.self.now.rows.now c.args.vertex
    (passed c.args.self.now.vertices.now c.args.self.now.placed.rising c.args.k c.args.vertex c.requires (λ l e. elim c.else-k-self.branch [
      | else-k-self-via-then-k-self+else-self-k w ↦ w.if-self-k.false e
      | else-k-self-via-else-k-self w ↦ omega (arith, w.if-k-self.false, l)
    ])))
