-- The formula of `fair`, written out, set by set.
use Rattle.std.specs.Prelude.{codes}
use Rattle.std.proofs.Common.{◌≡◌, List, [], ◌∷◌, map, refl, ap}
use Rattle.pb_fixpoint.specs.declared.Sign.TheVariants as sign
use Rattle.pb_text_tree.specs.declared.place.Place.{Place}
use Rattle.pb_text_tree.specs.declared.operator.Connective.TheVariants as connective
use Rattle.pb_text_tree.specs.Form.{chained}
use Rattle.pb_model_meaning.specs.Syntax.{Formula}
use Rattle.pb_protocol_tree.specs.Form.{StepSetForm, FormulaForm}
use Rattle.pb_protocol_meaning.specs.Syntax.{Protocol}
use Rattle.pb_protocol_unfolding.specs.PutIn.{TermScope}
use Rattle.pb_model_text.specs.Words as words
use Rattle.pb_model_run_laws.specs.WeakFairness.{unfair_to, unfair_to_some}
use Rattle.pb_model_run_laws.specs.Patterns.{written_out, written_set, FairIsItsPattern}

sets_pattern : (m : Protocol) (ρ : TermScope) (at : Place) (p : FormulaForm) (A : StepSetForm) (others : List StepSetForm)
    → written_out m ρ (chained (FormulaForm.connected connective.Or) (words.unfair_to at p A) (words.unfair_to_others at p others))
    ≡ unfair_to_some (written_set m ρ A) (map (written_set m ρ) others) (codes "inevitably") (codes "fair") (written_out m ρ p)
sets_pattern m ρ at p A [] = refl
sets_pattern m ρ at p A (B ∷ others) =
    ap (Formula.Or (unfair_to (written_set m ρ A) (codes "inevitably") (codes "fair") (written_out m ρ p))) (sets_pattern m ρ at p B others)

pub fair_pattern : FairIsItsPattern
fair_pattern m ρ at A others p = ap (Formula.Fixpoint sign.Mu (codes "fair")) (sets_pattern m ρ at p A others)
