-- The module of a text is that of the property whose text it is.
use Rattle.std.proofs.Common.{◌∙◌, sym, subst}
use Rattle.pb_text_tree.specs.Form.{spec_form}
use Rattle.pb_command_models.specs.Outcomes.{IsExcess, IsPropertyText}
use Rattle.pb_command_models.proofs.Excesses.{has_excess, uncompiled_excess}
use Rattle.pb_command_models.proofs.property_module.property_module.Goals as goal

pub returns-in-TooLarge : goal.returns-in-TooLarge
returns-in-TooLarge c model p h = subst (IsPropertyText model p) c.in-TooLarge.is h

pub returns-in-Ok : goal.returns-in-Ok
returns-in-Ok c model p h = (spec_form c.in-Typed.typed.spec, subst (IsPropertyText model p) c.in-Typed.is h, c.in-Ok.ensures.«module»)

pub returns-in-Some : goal.returns-in-Some
returns-in-Some c model p h =
    let text = spec_form c.in-Typed.typed.spec in
    subst (IsExcess model p) (sym c.excess_of.ensures ∙ c.in-Some.is)
    (uncompiled_excess model p text (subst (IsPropertyText model p) c.in-Typed.is h) c.in-Err-Refused.fault
    (rw c.in-Err-Refused.field-0-is at c.in-Err-Refused.ensures.refused))

pub unreachable-requires : goal.unreachable-requires
unreachable-requires c =
    has_excess (spec_form c.in-Typed.typed.spec) c.in-Err-Refused.fault (rw c.in-Err-Refused.field-0-is at c.in-Err-Refused.ensures.refused)
    (sym c.excess_of.ensures ∙ c.in-None.is)
