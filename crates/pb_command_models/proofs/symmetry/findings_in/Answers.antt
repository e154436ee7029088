-- One property more.
use Rattle.std.proofs.Common.{◌≡◌, ℕ, ap, sym}
use Rattle.pb_protocol_tree.specs.Form.{protocol_form}
use Rattle.pb_command_models.proofs.Symmetries.{line_step, lines_end}
use Rattle.pb_command_models.proofs.symmetry.findings_in.Goals as goal

pub returns-clause-lines : goal.returns-clause-lines
returns-clause-lines g c = lines_end (protocol_form c.args.modelled.protocol.now) c.args.places.now c.loop-place.place-index _ c.loop-place-test.false c.loop-place.invariant.lines
