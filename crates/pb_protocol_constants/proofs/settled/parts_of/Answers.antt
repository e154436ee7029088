use Rattle.std.proofs.Common.{◌≡◌, ◌∙◌, map, ap}
use Rattle.std.specs.Prelude.{◌⊎◌}
use Rattle.pb_base.proofs.Faults.{if_refused}
use Rattle.pb_protocol_tree.specs.Form.{bounds_form, constant_form, protocol_form}
use Rattle.pb_protocol_typing.specs.Faults.{protocol_faults}
use Rattle.pb_protocol_constants.specs.Faults.{IsSettlingFault, IsTypingFaultIn}
use Rattle.pb_protocol_constants.specs.Hidden.{hidden_faults}
use Rattle.pb_protocol_constants.specs.Rules.{AreAllBounds, KeepRules}
use Rattle.pb_protocol_constants.specs.Settled.{constants_alone, definitions_alone, place_of_constant, HaveNumbers}
use Rattle.pb_protocol_constants.proofs.Parts.{no-sorts, rules-so, typing-so, values-so}
use Rattle.pb_protocol_constants.proofs.Refusals.{handed-on, on-both}
use Rattle.pb_protocol_constants.proofs.settled.parts_of.Goals as goal
use Rattle.pb_protocol_constants.proofs.settled.parts_of.Goals.{After-alone-constants, After-parts_by}

-- what stands alone are the constants
alone-so : (c : After-alone-constants) → protocol_form c.alone-constants.result ≡ constants_alone (map constant_form c.args.constants.items)
alone-so c = c.alone-constants.ensures ∙ ap definitions_alone c.in_ok-declared.ensures.definitions

-- and the places are theirs
places-so : (c : After-parts_by) → c.deref.result.now ≡ map place_of_constant (map constant_form c.args.constants.items)
places-so c = c.deref.ensures.value ∙ c.in_ok-declared.ensures.places

pub returns-clause-rules : goal.returns-clause-rules
returns-clause-rules c =
    let cs = map constant_form c.args.constants.items in
    let bs = map bounds_form c.args.bounds.items in
    let m = protocol_form c.alone-constants.result in
    let p = protocol_form c.args.protocol.now in
    let ps = c.deref.result.now in
    let at = goal.at.returns-clause-rules c in
    let alone = alone-so at.After-alone-constants in
    let places = places-so at.After-parts_by in
    let none = no-sorts cs m alone in
    on-both (HaveNumbers m ps) (AreAllBounds m bs) (KeepRules cs bs p) c.parts_by.result (rules-so cs bs m p ps alone places c.in_ok-check_constants.ensures) (c.parts_by.ensures.numbers none)
    (c.parts_by.ensures.bounds none)

pub returns-clause-refused : goal.returns-clause-refused
returns-clause-refused c =
    let cs = map constant_form c.args.constants.items in
    let bs = map bounds_form c.args.bounds.items in
    let m = protocol_form c.alone-constants.result in
    let ps = c.deref.result.now in
    let at = goal.at.returns-clause-refused c in
    let alone = alone-so at.After-alone-constants in
    let places = places-so at.After-parts_by in
    if_refused c.parts_by.result (values-so cs bs m (protocol_form c.args.protocol.now) ps alone places) (c.parts_by.ensures.refused (no-sorts cs m alone))

pub returns-in_err-check_constants-clause-refused : goal.returns-in_err-check_constants-clause-refused
returns-in_err-check_constants-clause-refused c =
    let cs = map constant_form c.args.constants.items in
    let bs = map bounds_form c.args.bounds.items in
    let m = protocol_form c.alone-constants.result in
    let p = protocol_form c.args.protocol.now in
    let alone = alone-so (goal.at.returns-in_err-check_constants-clause-refused c).After-alone-constants in
    handed-on (λ f. IsTypingFaultIn (protocol_faults m) f ⊎ IsTypingFaultIn (hidden_faults m.definitions p) f) (IsSettlingFault cs bs p) (typing-so cs bs m p alone)
    c.in_err-check_constants.field-0.0 c.from_residual-in_err-check_constants.result c.in_err-check_constants.ensures c.from_residual-in_err-check_constants.ensures.1
