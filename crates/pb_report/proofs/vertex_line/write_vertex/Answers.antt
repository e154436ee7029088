use Rattle.std.proofs.Common.{refl, ap, ◌∙◌}
use Rattle.pb_fixpoint_trees.specs.Players.{parity_of}
use Rattle.pb_report.proofs.Sending.{sends_then, sends_err, sends_as}
use Rattle.pb_report.proofs.VertexLines.{vertex_is}
use Rattle.pb_report.proofs.vertex_line.write_vertex.Goals as goal

pub returns : goal.returns
returns g c =
    sends_as (vertex_is _ _ _ _ _ c.priority.ensures.value (c.parity.ensures ∙ ap parity_of c.owner.ensures) c.successors.ensures.list)
    (sends_then c.in_ok-write_head.ensures c.write_numbers.ensures)

pub returns-in_err-write_head : goal.returns-in_err-write_head
returns-in_err-write_head g c =
    sends_as (vertex_is _ _ _ _ _ c.priority.ensures.value (c.parity.ensures ∙ ap parity_of c.owner.ensures) refl)
    (sends_err _ c.from_residual.ensures.0 c.in_err-write_head.ensures)
