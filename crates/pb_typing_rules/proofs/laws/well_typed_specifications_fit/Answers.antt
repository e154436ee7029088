use Rattle.pb_typing_rules.proofs.Fitting.{spec_fits, spec_positive}
use Rattle.pb_typing_rules.proofs.laws.well_typed_specifications_fit.Goals as goal

pub returns : goal.returns
returns c = record { fits = spec_fits; positive = spec_positive }
