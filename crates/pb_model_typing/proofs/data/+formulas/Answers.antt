use Rattle.std.proofs.Common.{◌∙◌, sym, refl}
use Rattle.pb_model_typing.specs.View.{bound_names}
use Rattle.pb_model_typing.proofs.DataRows.{operands-said, found, left_out}
use Rattle.pb_model_typing.proofs.data.+formulas.Goals as goal

pub formula_names_fixpoint-returns-then-formula_names_fixpoint : goal.formula_names_fixpoint-returns-then-formula_names_fixpoint
formula_names_fixpoint-returns-then-formula_names_fixpoint t c =
    let n = c.in-Chain in
    found _ _ _ (operands-said (bound_names c.args.bound.now) c.args.place c.args.formula.now c.deref.result.now n.connective n.first n.links n.links.items n.is c.deref.ensures refl)
    (sym c.formula_names_fixpoint.ensures ∙ c.if-formula_names_fixpoint.true)

pub formula_names_fixpoint-returns-else-formula_names_fixpoint : goal.formula_names_fixpoint-returns-else-formula_names_fixpoint
formula_names_fixpoint-returns-else-formula_names_fixpoint t c =
    let n = c.in-Chain in
    left_out _ _ _ _
    (operands-said (bound_names c.args.bound.now) c.args.place c.args.formula.now c.deref.result.now n.connective
    n.first n.links c.deref-in-Chain.result.now n.is c.deref.ensures c.deref-in-Chain.ensures.value)
    (sym c.formula_names_fixpoint.ensures ∙ c.if-formula_names_fixpoint.false) c.operands_name_fixpoint.ensures
