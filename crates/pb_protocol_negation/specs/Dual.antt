-- Duals: what stands for a sign, a quantifier and a modality where `!` is moved inwards past it (De
-- Morgan's laws; Bradfield and Stirling 2007).
use Rattle.pb_fixpoint.specs.declared.Sign.{Sign}
use Rattle.pb_fixpoint.specs.declared.Sign.TheVariants.{Mu, Nu}
use Rattle.pb_text_tree.specs.declared.operator.Quantifier.{Quantifier}
use Rattle.pb_text_tree.specs.declared.operator.Quantifier.TheVariants.{Forall, Exists}
use Rattle.pb_model_tree.specs.declared.formula.Modality.{Modality}
use Rattle.pb_model_tree.specs.declared.formula.Modality.TheVariants.{Box, Diamond}

abbrev pub dual_sign : Sign → Sign
dual_sign Mu = Nu
dual_sign Nu = Mu

abbrev pub dual_quantifier : Quantifier → Quantifier
dual_quantifier Forall = Exists
dual_quantifier Exists = Forall

abbrev pub dual_modality : Modality → Modality
dual_modality Box = Diamond
dual_modality Diamond = Box
