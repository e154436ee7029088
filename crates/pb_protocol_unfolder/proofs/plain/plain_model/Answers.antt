use Rattle.std.proofs.Common.{◌≡◌, ◌∙◌, sym, ap}
use Rattle.std.proofs.lemmas.Result.{IfOk-weaker}
use Rattle.pb_model_tree.specs.Form as flat
use Rattle.pb_model_meaning.specs.Erase.{model_of}
use Rattle.pb_protocol_tree.specs.Form.{protocol_form}
use Rattle.pb_protocol_meaning.specs.Erase.{erase, protocol_of}
use Rattle.pb_protocol_unfolding.specs.Plain.{plain}
use Rattle.pb_protocol_unfolder.specs.Plain.{flat_form, plain_form}
use Rattle.pb_protocol_unfolder.proofs.PlainLaws.{protocol-same}
use Rattle.pb_protocol_unfolder.proofs.PlainMeaning.{plain-says}
use Rattle.pb_protocol_unfolder.proofs.plain.plain_model.Goals as goal

pub returns-clause-words : goal.returns-clause-words
returns-clause-words c =
    let p = protocol_form c.args.protocol in
    IfOk-weaker c.flat_model.result (λ m. flat.model_form m ≡ flat_form p) (λ m. p ≡ plain_form (flat.model_form m))
    (λ m h. sym (ap plain_form h ∙ protocol-same p c.requires)) c.flat_model.ensures

pub returns-clause-meaning : goal.returns-clause-meaning
returns-clause-meaning c =
    IfOk-weaker c.flat_model.result (λ m. flat.model_form m ≡ flat_form (protocol_form c.args.protocol)) (λ m. protocol_of c.args.protocol ≡ plain (model_of m))
    (λ m h. ap erase (sym (ap plain_form h ∙ protocol-same (protocol_form c.args.protocol) c.requires)) ∙ plain-says (flat.model_form m)) c.flat_model.ensures
