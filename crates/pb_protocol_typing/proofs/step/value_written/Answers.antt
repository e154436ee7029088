use Rattle.std.proofs.Common.{◌∙◌, ap, sym}
use Rattle.std.specs.Option.{option_map}
use Rattle.pb_protocol_typing.specs.declared.written.Written as program
use Rattle.pb_protocol_typing.specs.Signatures.{name_written, value_written}
use Rattle.pb_protocol_typing.specs.View.{signature_of, signatures_in, written_of}
use Rattle.pb_protocol_typing.proofs.step.value_written.Goals as goal

pub returns-in-Some : goal.returns-in-Some
returns-in-Some c =
    let known = signatures_in c.args.known.now in
    ap name_written (ap (option_map signature_of) c.in-Some.ensures.value ∙ ap known c.as_str.ensures.value)
    ∙ ap (λ (v : program.Written). value_written known (written_of v)) (sym c.in-Alone.is)

pub returns-in-None : goal.returns-in-None
returns-in-None c =
    let known = signatures_in c.args.known.now in
    ap name_written (ap (option_map signature_of) c.in-None.ensures.value ∙ ap known c.as_str.ensures.value)
    ∙ ap (λ (v : program.Written). value_written known (written_of v)) (sym c.in-Alone.is)
