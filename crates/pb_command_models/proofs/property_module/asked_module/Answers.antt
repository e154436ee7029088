-- The module of the text of the property at the place.
use Rattle.std.proofs.Common.{refl}
use Rattle.pb_command_models.proofs.property_module.asked_module.Goals as goal

pub returns : goal.returns
returns c = record {
  place = refl;
  compiled = λ model at. record { property = at.property; stands = at.stands; compiled = c.in_ok-compiled.ensures model at.property at.text };
}
