-- What was read is what the bytes say, and a model can be solved in its place.
use Rattle.std.proofs.Common.{sym, subst}
use Rattle.pb_protocol_tree.specs.Form.{model_text_form}
use Rattle.pb_model_properties.specs.Solvable.{CanBeSolved}
use Rattle.pb_model_properties.proofs.Made.{unread, unsettled}
use Rattle.pb_model_properties.proofs.read.parse_protocol.Goals as goal

pub returns-in-Ok-settle-clause-said : goal.returns-in-Ok-settle-clause-said
returns-in-Ok-settle-clause-said c = record {
  text = model_text_form c.in-Ok.text;
  is_text = record { reading = c.in-Ok.ensures.reading; only = c.in-Ok.ensures.only };
  keeps = c.in-Ok-settle.ensures.rules;
  is_settled = c.in-Ok-settle.ensures.protocol;
}

pub returns-in-Ok-settle-clause-solvable : goal.returns-in-Ok-settle-clause-solvable
returns-in-Ok-settle-clause-solvable c =
    let bytes = c.args.bytes.now in
    let text = model_text_form c.in-Ok.text in
    let reading = c.in-Ok.ensures.reading in
    let laws = c.models_stand_for_protocols.ensures in
    subst CanBeSolved (sym c.in-Ok-settle.ensures.protocol) (record {
      writable = laws.settled text c.in-Ok-settle.ensures.numbers (laws.read bytes text reading);
      first = laws.properties bytes text reading;
      apart = λ p. laws.apart bytes text p reading;
      numbered = λ p m g line count. laws.numbered bytes text p m g line count reading;
    })

pub returns-in-Err-clause-unread : goal.returns-in-Err-clause-unread
returns-in-Err-clause-unread c =
    unread c.args.bytes.now c.in-Err.error c.raise.result c.raise.ensures c.in-Err.ensures.refused c.in-Err.ensures.stands

pub returns-in-Err-settle-clause-unread : goal.returns-in-Err-settle-clause-unread
returns-in-Err-settle-clause-unread c =
    unsettled c.args.bytes.now (model_text_form c.in-Ok.text) (record { reading = c.in-Ok.ensures.reading; only = c.in-Ok.ensures.only })
    c.in-Err-settle.error c.of_constants.result c.of_constants.ensures c.in-Err-settle.ensures.refused
