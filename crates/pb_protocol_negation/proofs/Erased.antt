-- What a negated protocol says is the protocol with the negations.
use Rattle.std.proofs.Common.{◌≡◌, List, [], ◌∷◌, map, refl, ap, ◌∙◌}
use Rattle.pb_text_tree.specs.declared.place.Place.{Place}
use Rattle.pb_text_tree.specs.declared.operator.Connective.{Connective}
use Rattle.pb_text_tree.specs.declared.operator.Connective.TheVariants as connective
use Rattle.pb_text_meaning.specs.Erase.{erased_variables}
use Rattle.pb_model_tree.specs.declared.formula.Modality.{Modality}
use Rattle.pb_model_tree.specs.declared.formula.Modality.TheVariants.{Box, Diamond}
use Rattle.pb_protocol_tree.specs.Form.{FormulaForm, PropertyForm}
use Rattle.pb_protocol_meaning.specs.Syntax.{StepSet, Formula, Property, Protocol}
use Rattle.pb_protocol_meaning.specs.Erase.{erase, erased_formula, erased_property, erased_steps, joined, modal}
use Rattle.pb_protocol_meaning.specs.Satisfaction.{satisfies}
use Rattle.pb_protocol_negation.specs.Dual.{dual_sign, dual_quantifier, dual_modality}
use Rattle.pb_protocol_negation.specs.Negation.{negation, negation_of, with_negations}
use Rattle.pb_protocol_negation.specs.Negated.{negated, negated_connection, negated_property}
use Rattle.pb_protocol_negation.specs.Laws.{NegationsErase, FormulasErase, NegatedPropertiesTell}
use Rattle.pb_protocol_negation.proofs.OtherProperties.{satisfaction_is_kept}

connected-erases : (c : Connective) (p : Place) (f g : FormulaForm) (a b : Formula) → erased_formula f ≡ negation a → erased_formula g ≡ negation b →
    erased_formula (negated_connection c p f g) ≡ negation (joined c a b)
connected-erases connective.And p f g a b h k = ap (λ x. Formula.Or x (erased_formula g)) h ∙ ap (Formula.Or (negation a)) k
connected-erases connective.Or p f g a b h k = ap (λ x. Formula.And x (erased_formula g)) h ∙ ap (Formula.And (negation a)) k
connected-erases connective.Implies p f g a b h k =
    ap (λ x. Formula.And (Formula.Not x) (erased_formula g)) h ∙ ap (Formula.And (Formula.Not (negation a))) k

modal-erases : (k : Modality) (A : StepSet) (f : Formula) → modal (dual_modality k) A (negation f) ≡ negation (modal k A f)
modal-erases Box A f = refl
modal-erases Diamond A f = refl

pub formulas_erase : FormulasErase
formulas_erase (FormulaForm.constant p b) = refl
formulas_erase (FormulaForm.«data» p x) = refl
formulas_erase (FormulaForm.variable x) = refl
formulas_erase (FormulaForm.negation p f) = ap Formula.Not (formulas_erase f)
formulas_erase (FormulaForm.connected c p f g) =
    connected-erases c p (negated f) (negated g) (erased_formula f) (erased_formula g) (formulas_erase f) (formulas_erase g)
formulas_erase (FormulaForm.modal k p A f) =
    ap (modal (dual_modality k) (erased_steps A)) (formulas_erase f) ∙ modal-erases k (erased_steps A) (erased_formula f)
formulas_erase (FormulaForm.fixpoint sign p x f) = ap (Formula.Fixpoint (dual_sign sign) x.text) (formulas_erase f)
formulas_erase (FormulaForm.quantified q p xs f) = ap (Formula.Quantified (dual_quantifier q) (erased_variables xs)) (formulas_erase f)

properties-erase : (ps : List PropertyForm) → map erased_property (map negated_property ps) ≡ map negation_of (map erased_property ps)
properties-erase [] = refl
properties-erase (p ∷ ps) =
    let as_property : Formula → Property = λ f. record { name = p.name.text; formula = f } in
    ap (λ f. as_property f ∷ map erased_property (map negated_property ps)) (formulas_erase p.formula)
    ∙ ap (λ (qs : List Property). as_property (negation (erased_formula p.formula)) ∷ qs) (properties-erase ps)

pub negations_erase : NegationsErase
negations_erase text =
    let with_properties : List Property → Protocol = λ ps. record (erase text) { properties = ps } in
    ap with_properties (properties-erase text.properties)

pub negated_properties_tell : NegatedPropertiesTell
negated_properties_tell text f =
    ap (λ (m : Protocol). satisfies m (erased_formula (negated f))) (negations_erase text)
    ∙ satisfaction_is_kept (erase text) (with_negations (erase text)).properties (erased_formula (negated f))
    ∙ ap (satisfies (erase text)) (formulas_erase f)
