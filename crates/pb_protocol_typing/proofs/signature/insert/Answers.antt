use Rattle.std.proofs.Common.{◌∙◌, ap}
use Rattle.pb_text_meaning.specs.Syntax.{Name}
use Rattle.pb_protocol_typing.specs.Signatures.{with_entry}
use Rattle.pb_protocol_typing.specs.View.{signature_of, signatures_in}
use Rattle.pb_protocol_typing.proofs.Tables.{put-seen}
use Rattle.pb_protocol_typing.proofs.signature.insert.Goals as goal

pub returns : goal.returns
returns c =
    put-seen signature_of c.args.table.now c.insert.new.self c.as_str.result c.args.signature c.in_ok-insert.ensures.updates
    ∙ ap (λ (y : Name). with_entry y (signature_of c.args.signature) (signatures_in c.args.table.now)) c.as_str.ensures.value
