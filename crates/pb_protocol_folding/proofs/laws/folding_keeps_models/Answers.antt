use Rattle.pb_protocol_folding.proofs.FoldedModels.{folding_keeps_initial_states, folding_keeps_steps, folding_keeps_formulas}
use Rattle.pb_protocol_folding.proofs.laws.folding_keeps_models.Goals as goal

pub returns : goal.returns
returns c = record {
  begins = folding_keeps_initial_states;
  steps = folding_keeps_steps;
  formulas = folding_keeps_formulas;
}
