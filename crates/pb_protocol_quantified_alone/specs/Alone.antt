-- Formulas without equations of their own, wherever they are written out.
use Rattle.std.specs.Prelude.{◌≡◌, false, ⊤, List, [], ◌∷◌}
use Rattle.pb_model_translation.specs.Translation.{has_equation, equation_count}
use Rattle.pb_protocol_tree.specs.declared.formula.Formula as declared_formula
use Rattle.pb_protocol_tree.specs.declared.formula.Link as declared_link
use Rattle.pb_protocol_tree.specs.Form.{formula_form}
use Rattle.pb_protocol_meaning.specs.Syntax.{Formula, Protocol}
use Rattle.pb_protocol_meaning.specs.Erase.{erased_formula}
use Rattle.pb_protocol_unfolding.specs.PutIn.{TermScope}
use Rattle.pb_protocol_unfolding.specs.Unfolding.{unfolded_formula}
use Rattle.pb_protocol_symmetry_unfolded.specs.Laws.{IsQuantifiedAlone}

abbrev pub formula_said : declared_formula.Formula → Formula
formula_said f = erased_formula (formula_form f)

abbrev pub HasNone : Protocol → Formula → Type 0
HasNone m f = (ρ : TermScope) → equation_count (unfolded_formula m ρ f) ≡ 0

-- and none as the operand of a modality
pub record IsBare (m : Protocol) (f : Formula) : Type 0 where
  pub none : HasNone m f
  pub operand : (ρ : TermScope) → has_equation (unfolded_formula m ρ f) ≡ false

abbrev pub HaveNone : Protocol → List declared_link.Link → Type 0
HaveNone m [] = ⊤
HaveNone m (link ∷ links) = HasNone m (formula_said link.operand) × HaveNone m links

abbrev pub AreAlone : Protocol → List declared_link.Link → Type 0
AreAlone m [] = ⊤
AreAlone m (link ∷ links) = IsQuantifiedAlone m (formula_said link.operand) × AreAlone m links
