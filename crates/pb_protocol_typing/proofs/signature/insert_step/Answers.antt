use Rattle.std.proofs.Common.{◌∙◌, ap}
use Rattle.pb_text_meaning.specs.Syntax.{Name}
use Rattle.pb_protocol_typing.specs.Signatures.{with_entry}
use Rattle.pb_protocol_typing.specs.View.{own_shapes, shapes_in}
use Rattle.pb_protocol_typing.proofs.Tables.{put-seen}
use Rattle.pb_protocol_typing.proofs.signature.insert_step.Goals as goal

pub returns : goal.returns
returns c =
    put-seen own_shapes c.args.steps.now.table c.insert.new.self c.as_str.result c.args.own c.in_ok-insert.ensures.updates
    ∙ ap (λ (y : Name). with_entry y (own_shapes c.args.own) (shapes_in c.args.steps.now)) c.as_str.ensures.value
