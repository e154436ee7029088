use Rattle.pb_typing_calls.proofs.made.is_deciding.Goals as goal

pub formula_truth-holds-requires : goal.formula_truth-holds-requires
formula_truth-holds-requires c = c.requires
