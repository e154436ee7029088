use Rattle.pb_typing_rules.proofs.Contained.{contained, fits, formula_fits}
use Rattle.pb_typing_rules.proofs.laws.values_are_contained.Goals as goal

pub returns : goal.returns
returns c = record {
  term = λ spec stands scope a x within h. (contained spec stands scope a x within h).value;
  fits = fits;
  formula_fits = formula_fits;
}
