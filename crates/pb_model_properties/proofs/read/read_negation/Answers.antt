-- The model of the negation of the property at the place.
use Rattle.std.proofs.Common.{◌≡◌, ◌<◌, ℕ, List, length, map, ap, sym, subst, Result, Ok, Err, IsErrAnd, arith}
use Rattle.std.proofs.lemmas.List.{length-map}
use Rattle.pb_base.specs.OrMemory.{IfFault, IfRefused}
use Rattle.pb_base.specs.declared.or_memory.OrMemory.{OrMemory}
use Rattle.pb_base.proofs.Faults.{if_fault}
use Rattle.pb_protocol_tree.specs.Form.{ProtocolForm, property_form, protocol_form}
use Rattle.pb_model_faults.specs.declared.ModelFault.{ModelFault}
use Rattle.pb_model_properties.specs.Negations.{HasPropertyAt, IsRefusedNegation}
use Rattle.pb_model_properties.specs.Refusals.{IsUnread}
use Rattle.pb_model_properties.proofs.Negations.{made_at, negation_model, negation_refused, same_reading, unread_negation}
use Rattle.pb_model_properties.proofs.read.read_negation.Goals as goal
use Rattle.pb_model_properties.proofs.read.read_negation.Goals.{In_ok-protocol}

-- the protocol that was read has a property at the place
within : (c : In_ok-protocol) → c.args.place < length c.in_ok-protocol.protocol.properties.items
within c =
    let has = c.requires.within in
    let items = c.in_ok-protocol.protocol.properties.items in
    let same : has.0 ≡ protocol_form c.in_ok-protocol.protocol = same_reading c.args.bytes.now (protocol_form c.in_ok-protocol.protocol) has.0 c.in_ok-protocol.ensures.said has.1 in
    let long = ap (λ (p : ProtocolForm). length p.properties) same in
    omega (arith, has.2, long, length-map items property_form)

pub negated-requires-clause-within : goal.negated-requires-clause-within
negated-requires-clause-within c = within (goal.at.negated-requires-clause-within c).In_ok-protocol

pub returns-clause-model : goal.returns-clause-model
returns-clause-model c =
    let protocol = c.in_ok-protocol.protocol in
    let here = made_at property_form protocol.properties.items c.args.place (within (goal.at.returns-clause-model c).In_ok-protocol) in
    negation_model (protocol_form protocol) c.args.place here.0 here.1 c.args.bytes.now c.in_ok-protocol.ensures.said (protocol_form c.in_ok-negation.negation)
    (c.in_ok-negation.ensures.negated here.0 here.1) c.negations_erase.ensures.satisfaction c.made.result c.made.ensures.model

pub returns-clause-refused : goal.returns-clause-refused
returns-clause-refused c =
    let protocol = c.in_ok-protocol.protocol in
    let here = made_at property_form protocol.properties.items c.args.place (within (goal.at.returns-clause-refused c).In_ok-protocol) in
    negation_refused (protocol_form protocol) c.args.place here.0 here.1 c.args.bytes.now c.in_ok-protocol.ensures.said (protocol_form c.in_ok-negation.negation)
    (c.in_ok-negation.ensures.negated here.0 here.1) c.made.result c.made.ensures.refused

-- what the bytes say was read, but for its constants
handed_on : {T : Type 0} (bytes : List ℕ) (place : ℕ) (e : OrMemory ModelFault) (r : Result T (OrMemory ModelFault)) → HasPropertyAt bytes place → IfFault e (IsUnread bytes)
    → IsErrAnd r (λ x. x ≡ e) → IfRefused r (IsRefusedNegation bytes place)
handed_on bytes place e (Ok x) has h made = tt
handed_on bytes place e (Err x) has h made =
    subst (λ y. IfFault y (IsRefusedNegation bytes place)) (sym made) (if_fault e (λ f unread. unread_negation bytes place f has unread) h)

pub returns-in_err-protocol-clause-refused : goal.returns-in_err-protocol-clause-refused
returns-in_err-protocol-clause-refused c =
    handed_on c.args.bytes.now c.args.place c.in_err-protocol.field-0.0 c.from_residual.result c.requires.within c.in_err-protocol.ensures.unread c.from_residual.ensures.1
