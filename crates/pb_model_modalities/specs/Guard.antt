-- The parts of a guard that is cut into its conjuncts.
use Rattle.std.specs.Prelude.{Bool, true, false, not, List, [], ◌∷◌, reverse}
use Rattle.pb_text_tree.specs.declared.place.Place.{Place}
use Rattle.pb_text_tree.specs.declared.operator.Connective.{Connective}
use Rattle.pb_text_tree.specs.declared.operator.Connective.TheVariants.{And, Or, Implies}
use Rattle.pb_text_tree.specs.Form.{TermForm, FormulaForm, formula_form, link_forms, chained}
use Rattle.pb_model_translation.specs.Placed.{behind_form}
use Rattle.pb_model_modalities.specs.declared.reversed_chain.ReversedChain.{ReversedChain}

-- whether a chain, or its negation, is the conjunction of its operands, some of them negated
abbrev pub is_cut : Connective → Bool → Bool
is_cut And negated = not negated
is_cut Or negated = negated
is_cut Implies negated = negated

-- and whether all but the last are negated there
abbrev pub negates_first : Connective → Bool
negates_first And = false
negates_first Or = true
negates_first Implies = false

-- a conjunct, or its negation
abbrev pub signed_term : Place → Bool → TermForm → TermForm
signed_term p false x = x
signed_term p true x = TermForm.not p x

-- the place of an operand, and whether it is negated: the operator behind it, where there is one
abbrev pub operand_sign : Bool → Bool → Place → List (Place × TermForm) → Place × Bool
operand_sign last others p [] = (p, last)
operand_sign last others p (link ∷ links) = (link.0, others)

-- a formula behind the operands of a chain's links
abbrev pub behind_operands : Connective → Bool → Bool → List (Place × TermForm) → FormulaForm
    → FormulaForm
behind_operands c last others [] f = f
behind_operands c last others (link ∷ links) f =
    let at = operand_sign last others link.0 links in
    behind_form c at.0 at.1 link.1 (behind_operands c last others links f)

-- what the operands of a connective say whose links are kept from the last to the first
abbrev pub reversed_chain_form : Connective → ReversedChain → FormulaForm
reversed_chain_form c chain =
    chained (FormulaForm.connected c) (formula_form chain.first)
    (link_forms (reverse chain.links.items))
