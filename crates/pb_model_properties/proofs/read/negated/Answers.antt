-- The protocol with the negation alone, and that a model can be solved in its place.
use Rattle.std.proofs.Common.{◌≡◌, ◌∙◌, ap, sym, subst}
use Rattle.std.proofs.lemmas.Result.{IfOk-weaker}
use Rattle.pb_protocol_tree.specs.Form.{ProtocolForm, property_form, protocol_form}
use Rattle.pb_protocol_negation.specs.Negated.{negated_protocol}
use Rattle.pb_model_properties.specs.Solvable.{CanBeSolved}
use Rattle.pb_model_properties.proofs.Negations.{made_at, negation_solvable}
use Rattle.pb_model_properties.proofs.read.negated.Goals as goal

pub with_property-requires : goal.with_property-requires
with_property-requires c = c.requires.within

pub returns-clause-negated : goal.returns-clause-negated
returns-clause-negated c =
    IfOk-weaker c.negate_properties.result _ _
    (λ n is p stands. is ∙ ap negated_protocol (c.in_ok-alone.ensures p stands))
    c.negate_properties.ensures

pub returns-clause-solvable : goal.returns-clause-solvable
returns-clause-solvable c =
    let protocol = protocol_form c.args.protocol in
    let here = made_at property_form c.args.protocol.properties.items c.args.place c.requires.within in
    IfOk-weaker c.negate_properties.result _ _
    (λ n is. subst (λ (x : ProtocolForm). CanBeSolved x) (sym (is ∙ ap negated_protocol (c.in_ok-alone.ensures here.0 here.1)))
    (negation_solvable protocol c.args.place here.0 here.1 c.requires.solvable))
    c.negate_properties.ensures
