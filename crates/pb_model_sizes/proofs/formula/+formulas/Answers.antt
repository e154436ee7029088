-- Equations of a formula by those of its parts.
use Rattle.std.proofs.Common.{◌≡◌, ◌∙◌, ℕ, ◌+◌, drop, refl, sym, ap, arith}
use Rattle.std.specs.Prelude.{box_value}
use Rattle.std.proofs.lemmas.List.{drop_all}
use Rattle.pb_typing_declarations.specs.View.{spec_of}
use Rattle.pb_protocol_tree.specs.declared.formula.Formula.{Formula}
use Rattle.pb_protocol_tree.specs.Form.{formula_form}
use Rattle.pb_model_sizes.specs.Counts.{capped}
use Rattle.pb_model_sizes.specs.Equations.{formula_equations}
use Rattle.pb_model_sizes.specs.Links.{links_count}
use Rattle.pb_model_sizes.proofs.Capped.{capped-sum, summand-in}
use Rattle.pb_model_sizes.proofs.FormulaRows.{chain-count, links-next}
use Rattle.pb_model_sizes.proofs.formula.+formulas.Goals as goal

pub formula_equations-returns-in-Chain : goal.formula_equations-returns-in-Chain
formula_equations-returns-in-Chain t c =
    let spec = spec_of c.args.declarations.now in
    let n = c.in-Chain in
    let x = box_value n.first in
    let first : c.formula_equations-in-Chain.result ≡ capped (formula_equations spec (formula_form x)) =
    c.formula_equations-in-Chain.ensures ∙ ap (λ (g : Formula). capped (formula_equations spec (formula_form g))) c.deref-in-Chain-2.ensures in
    let others : c.links_count-others.result ≡ capped (links_count spec n.links.items) =
    c.links_count-others.ensures ∙ ap (λ ls. capped (links_count spec ls)) c.deref-in-Chain.ensures.value in
    c.saturating_add.ensures
    ∙ (capped-sum (formula_equations spec (formula_form x)) (links_count spec n.links.items) _ _ first others
    ∙ ap capped (sym (chain-count spec c.args.formula.now x n.connective n.first n.links n.links.items n.is refl refl)))

pub links_count-loop-link-preserved : goal.links_count-loop-link-preserved
links_count-loop-link-preserved t c =
    let spec = spec_of c.args.declarations.now in
    let links = c.args.links.now in
    let k = c.loop-link.link-index in
    let link = c.link-item.result in
    let sum = c.loop-link.sum in
    record {
      left = c.loop-link.invariant.left
          ∙ (ap (λ (n : ℕ). capped (sum + n)) (links-next spec links k link c.loop-link-test.true c.link-item.is)
          ∙ summand-in sum (formula_equations spec (formula_form link.operand)) (links_count spec (drop (k + 1) links)) c.formula_equations.result c.saturating_add-sum.result
          c.formula_equations.ensures c.saturating_add-sum.ensures);
      fits = omega arith;
    }

pub links_count-returns : goal.links_count-returns
links_count-returns t c =
    let spec = spec_of c.args.declarations.now in
    let sum = c.loop-link.sum in
    sym (c.loop-link.invariant.left
    ∙ (ap (λ ls. capped (sum + links_count spec ls)) (drop_all c.loop-link.link-index c.args.links.now (omega (arith, c.loop-link-test.false)))
    ∙ (omega arith)))
