-- The model of a plain protocol, as it is or packed, accepted or not; or that of one that breaks a rule.
use Rattle.std.proofs.Common.{false, inr, None}
use Rattle.pb_model_tree.specs.Form.{model_form}
use Rattle.pb_protocol_tree.specs.Form.{protocol_form}
use Rattle.pb_model_properties.proofs.Counts.{is_protocol_counted}
use Rattle.pb_model_properties.proofs.FlatModels.{rules_broken}
use Rattle.pb_model_properties.proofs.Made.{IsPlainFor, kept_is_flat, plain_counts_nothing, plain_few, plain_is_flat, plain_names_of, plain_refused}
use Rattle.pb_model_properties.proofs.PlainModels.{typed_is_plain}
use Rattle.pb_model_properties.proofs.SolvedModels.{flat_told, refused_for, solved_for}
use Rattle.pb_model_properties.proofs.plain.plain_solved.Goals as goal

pub returns-in-Err-clause-refused : goal.returns-in-Err-clause-refused
returns-in-Err-clause-refused c =
    rules_broken (protocol_form c.args.protocol) c.in-Err.error c.raise.result c.raise.ensures c.in-Err.ensures.fails

pub returns-then-branch-clause-model : goal.returns-then-branch-clause-model
returns-then-branch-clause-model c =
    let protocol = protocol_form c.args.protocol in
    let m = model_form c.in_ok-model.model in
    let made = c.in_ok-model.ensures in
    solved_for protocol m None (kept_is_flat c.models_stand_for_protocols.ensures protocol m c.requires.solvable c.requires.plain made.words made.meaning c.in-Ok.ensures.accepted)
    (plain_names_of protocol m c.requires.plain) c.flat_solved.result c.flat_solved.ensures.model

pub returns-then-branch-clause-refused : goal.returns-then-branch-clause-refused
returns-then-branch-clause-refused c =
    refused_for (protocol_form c.args.protocol) (model_form c.in_ok-model.model) None
    (kept_is_flat c.models_stand_for_protocols.ensures (protocol_form c.args.protocol) (model_form c.in_ok-model.model) c.requires.solvable c.requires.plain c.in_ok-model.ensures.words
    c.in_ok-model.ensures.meaning c.in-Ok.ensures.accepted)
    (plain_names_of (protocol_form c.args.protocol) (model_form c.in_ok-model.model) c.requires.plain) c.flat_solved.result c.flat_solved.ensures.refused

pub returns-in-Ok-check_model-clause-model : goal.returns-in-Ok-check_model-clause-model
returns-in-Ok-check_model-clause-model c =
    let protocol = protocol_form c.args.protocol in
    let m = model_form c.in_ok-model-2.model in
    let made = c.in_ok-model-2.ensures in
    let laws = c.models_stand_for_protocols.ensures in
    let few = plain_few protocol m made.words
    (is_protocol_counted c.args.protocol c.deref.result.now c.in_ok-is_state_large.field-0 false c.in_ok-is_state_large.ensures c.deref.ensures.value c.if-branch.false) in
    let is : IsPlainFor protocol m =
    record { plainly = c.requires.plain; words = made.words; rules = inr (made.words, few); meaning = made.meaning; solvable = c.requires.solvable; kept = laws.kept } in
    let counts = plain_counts_nothing protocol m c.requires.plain made.words in
    flat_told laws.said c.in_ok-model-2.model c.in-Ok-check_model.typed None few c.in-Ok-check_model.ensures.kept c.in-Ok-check_model.ensures.accepted protocol
    (plain_is_flat laws.plain protocol m is (typed_is_plain laws.names m counts c.in-Ok-check_model.ensures.accepted)) (plain_names_of protocol m c.requires.plain)

pub returns-in-Err-check_model-clause-refused : goal.returns-in-Err-check_model-clause-refused
returns-in-Err-check_model-clause-refused c =
    let few = is_protocol_counted c.args.protocol c.deref.result.now c.in_ok-is_state_large.field-0 false c.in_ok-is_state_large.ensures c.deref.ensures.value c.if-branch.false in
    plain_refused (protocol_form c.args.protocol) (model_form c.in_ok-model-2.model) c.requires.plain c.in_ok-model-2.ensures.words
    (plain_few (protocol_form c.args.protocol) (model_form c.in_ok-model-2.model) c.in_ok-model-2.ensures.words few)
    c.in-Err-check_model.error c.raise-in-Err-check_model.result c.raise-in-Err-check_model.ensures c.in-Err-check_model.ensures.fails c.in-Err-check_model.ensures.ill_typed
