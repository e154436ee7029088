use Rattle.pb_model_text.proofs.FormulaLemmas.{closing-goes-on}
use Rattle.pb_model_text.proofs.modality.modal_steps.Goals as goal

pub expect-requires : goal.expect-requires
expect-requires c = rw c.closing.ensures (closing-goes-on c.args.modality)
