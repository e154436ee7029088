use Rattle.std.proofs.Common.{◌∙◌, ◌&&◌, Bool, refl, sym, ap}
use Rattle.std.specs.List.{list_all}
use Rattle.pb_protocol_tree.specs.declared.formula.Formula.{Formula}
use Rattle.pb_protocol_tree.specs.Form.{formula_form}
use Rattle.pb_protocol_meaning.specs.Erase.{erased_formula}
use Rattle.pb_protocol_symmetry.specs.Test.{is_plain}
use Rattle.pb_protocol_scalar_sets.specs.declared.term.Context.{Context}
use Rattle.pb_protocol_scalar_sets.specs.Formulas.{formula_fits, link_fits}
use Rattle.pb_protocol_scalar_sets.specs.Terms.{kind_at, term_said}
use Rattle.pb_protocol_scalar_sets.specs.View.{scope_of}
use Rattle.pb_protocol_scalar_sets.proofs.Formulas.{chain-fits}
use Rattle.pb_protocol_scalar_sets.proofs.formula.+formulas.Goals as goal

pub formula_fits-returns-in-Data : goal.formula_fits-returns-in-Data
formula_fits-returns-in-Data t c =
    let scope = scope_of c.args.around.now in
    c.is_plain.ensures
    ∙ (ap is_plain (c.kind_in.ensures ∙ ap (λ (k : Context). kind_at k scope (term_said c.in-Data.term)) c.at_states.ensures)
    ∙ ap (λ (f : Formula). formula_fits c.args.readings.now scope (erased_formula (formula_form f))) (sym c.in-Data.is))

pub formula_fits-returns-then-not-formula_fits : goal.formula_fits-returns-then-not-formula_fits
formula_fits-returns-then-not-formula_fits t c =
    let scope = scope_of c.args.around.now in
    let n = c.in-Chain in
    sym (chain-fits c.args.readings.now scope c.args.formula.now c.deref-in-Chain.result.now n.connective n.first n.links n.links.items n.is c.deref-in-Chain.ensures refl
    ∙ ap (λ (b : Bool). b && list_all (link_fits c.args.readings.now scope) n.links.items) (sym c.formula_fits-in-Chain.ensures ∙ c.if-not-formula_fits.true))

pub formula_fits-returns-else-not-formula_fits : goal.formula_fits-returns-else-not-formula_fits
formula_fits-returns-else-not-formula_fits t c =
    let scope = scope_of c.args.around.now in
    let n = c.in-Chain in
    let ls = c.deref-in-Chain-2.result.now in
    c.links_fit.ensures
    ∙ sym (chain-fits c.args.readings.now scope c.args.formula.now c.deref-in-Chain.result.now n.connective n.first n.links ls n.is c.deref-in-Chain.ensures c.deref-in-Chain-2.ensures.value
    ∙ ap (λ (b : Bool). b && list_all (link_fits c.args.readings.now scope) ls) (sym c.formula_fits-in-Chain.ensures ∙ c.if-not-formula_fits.false))
