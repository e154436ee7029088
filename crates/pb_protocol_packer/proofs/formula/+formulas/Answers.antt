use Rattle.std.proofs.Common.{◌++◌, List, map, ap}
use Rattle.pb_model_tree.specs.declared.formula.Link.{Link}
use Rattle.pb_model_tree.specs.Form.{FormulaForm}
use Rattle.pb_text_tree.specs.declared.place.Place.{Place}
use Rattle.pb_protocol_packing.specs.Packing.{formula_said}
use Rattle.pb_protocol_packer.specs.Formulas.{operand_of, operands_of, link_shape, link_shapes}
use Rattle.pb_protocol_packer.specs.Scopes.{table_of}
use Rattle.pb_protocol_packer.proofs.FormulaRows.{said-chain, same-shape}
use Rattle.pb_protocol_packer.proofs.LoopRows.{loop-goes, row-pushed}
use Rattle.pb_protocol_packer.proofs.formula.+formulas.Goals as goal

pub formula_said-returns-in_ok-said_links-in-Chain-clause-meaning : goal.formula_said-returns-in_ok-said_links-in-Chain-clause-meaning
formula_said-returns-in_ok-said_links-in-Chain-clause-meaning t c =
    said-chain (table_of c.args.packing.now.table.now) c.in-Chain.connective c.in-Chain.first c.in_ok-said_boxed-in-Chain.field-0 c.in-Chain.links c.in_ok-said_links-in-Chain.field-0
    c.deref.result.now c.args.formula.now c.in-Chain.is c.deref.ensures.value c.in_ok-said_boxed-in-Chain.ensures.meaning c.in_ok-said_links-in-Chain.ensures.meaning

pub formula_said-returns-in_ok-said_links-in-Chain-clause-shape : goal.formula_said-returns-in_ok-said_links-in-Chain-clause-shape
formula_said-returns-in_ok-said_links-in-Chain-clause-shape t c =
    same-shape c.in-Chain.connective c.in-Chain.first c.in_ok-said_boxed-in-Chain.field-0 c.in-Chain.links c.in_ok-said_links-in-Chain.field-0
    c.deref.result.now c.args.formula.now c.in-Chain.is c.deref.ensures.value c.in_ok-said_boxed-in-Chain.ensures.shape c.in_ok-said_links-in-Chain.ensures.shape

abbrev placed_shape : Place → FormulaForm → Place × FormulaForm
placed_shape p f = (p, f)

pub said_links-loop-link-preserved : goal.said_links-loop-link-preserved
said_links-loop-link-preserved t c =
    let xs = c.args.links.now in
    let k = c.loop-link.link-index in
    let l = c.link-item.result in
    let made = c.loop-link.said_links.items in (
      loop-goes (λ (ys : List Link). operands_of made ++ map (formula_said (table_of c.args.packing.now.table.now)) (operands_of ys)) xs k l _ _ c.loop-link-test.true c.link-item.is
          (row-pushed operand_of _ _ _ _ _ c.in_ok-push.ensures.items c.in_ok-operand.ensures.meaning) c.loop-link.invariant.0,
      loop-goes (λ (ys : List Link). link_shapes made ++ link_shapes ys) xs k l _ _ c.loop-link-test.true c.link-item.is
          (row-pushed link_shape _ _ _ _ _ c.in_ok-push.ensures.items (ap (placed_shape l.place) c.in_ok-operand.ensures.shape)) c.loop-link.invariant.1,
    )
