-- Quantifiers as they are evaluated.
use Rattle.std.specs.Prelude.{Bool, true, false}
use Rattle.pb_text_tree.specs.declared.operator.Quantifier.{Quantifier}
use Rattle.pb_text_tree.specs.declared.operator.Quantifier.TheVariants.{Forall, Exists}

-- the truth for one value that decides a quantifier
abbrev pub deciding_truth : Quantifier → Bool
deciding_truth Forall = false
deciding_truth Exists = true
