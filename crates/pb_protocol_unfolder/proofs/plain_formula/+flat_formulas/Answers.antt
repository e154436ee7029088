use Rattle.std.proofs.Common.{◌∙◌, sym, ap}
use Rattle.pb_protocol_tree.specs.declared.formula.Formula.{Formula}
use Rattle.pb_protocol_tree.specs.Form.{formula_form}
use Rattle.pb_protocol_unfolder.specs.Plain.{flat_formula_form}
use Rattle.pb_protocol_unfolder.proofs.Chains.{chain-flat}
use Rattle.pb_protocol_unfolder.proofs.plain_formula.+flat_formulas.Goals as goal

pub flat_formula-returns-in-Chain : goal.flat_formula-returns-in-Chain
flat_formula-returns-in-Chain t c =
    chain-flat c.in-Chain.connective c.in_ok-first-in-Chain.first c.in_ok-links-in-Chain.links c.in-Chain.first c.in-Chain.links c.in_ok-first-in-Chain.ensures c.in_ok-links-in-Chain.ensures
    ∙ ap (λ (f : Formula). flat_formula_form (formula_form f)) (sym c.in-Chain.is)
