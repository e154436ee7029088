use Rattle.pb_protocol_negation.proofs.Erased.{negations_erase, formulas_erase, negated_properties_tell}
use Rattle.pb_protocol_negation.proofs.OtherProperties.{satisfaction_is_kept}
use Rattle.pb_protocol_negation.proofs.laws.negations_erase.Goals as goal

pub returns : goal.returns
returns c = record {
  protocols = negations_erase;
  formulas = formulas_erase;
  satisfaction = satisfaction_is_kept;
  properties = negated_properties_tell;
}
