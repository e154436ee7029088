use Rattle.std.proofs.Common.{◌∙◌, length, Ok, refl, sym, ap, rules, arith, ℕ, true}
use Rattle.pb_text_tree.specs.Form.{term_form}
use Rattle.pb_typing_rules.specs.Shapes.{may_be_truth}
use Rattle.pb_base.specs.declared.or_memory.OrMemory.TheVariants.{Refused}
use Rattle.pb_typing_declarations.proofs.Parts.{among_first}
use Rattle.pb_typing_tree.specs.View.{shape_view}
use Rattle.pb_typing_nodes.specs.Contexts.{scope_in, slots_in, text_in}
use Rattle.pb_typing_terms.proofs.Links.{chained-faults, operand_among, some-shape}
use Rattle.pb_typing_terms.proofs.Nodes.{chain-node, not_operand}
use Rattle.pb_typing_terms.proofs.Weight.{weight, weight-chain, weight-arithmetic, links_weight, link_lighter}
use Rattle.pb_typing.specs.ValueView.{value_view}
use Rattle.pb_typing.proofs.Bodies.{body_among, body_clear, body_loops, body_view}
use Rattle.pb_typing.proofs.ValueNodes.{IsTermQuantifier, value_node, loops_node, data_node, data_grows, same-faults, application-same, arithmetic-same, operand-node}
use Rattle.pb_typing.proofs.ValueNodes.{truth_formula, truth_among, truth_clear, truth_kind, not_value, not_loops, on_ok, quantifier-read, quantified-shape, quantified-value}
use Rattle.pb_typing.proofs.ValueNodes.{lone_value, lone_loops, others_among, others_clear, chain-loops, chain-value}
use Rattle.pb_typing.proofs.ValueNodes.{done_begun, done_next, next_parts, links_ended, loops_ended}
use Rattle.pb_typing.proofs.value.+values.Goals.{check_value-After-deref-in-Quantified-2}
use Rattle.pb_typing.proofs.value.+values.Goals as goal

-- ---- Booleans

pub check_truth-returns-in_err-found-clause-checked : goal.check_truth-returns-in_err-found-clause-checked
check_truth-returns-in_err-found-clause-checked t c =
    let h = truth_among c.args.context.now (term_form c.args.term.now) c.args.place c.in_err-found.field-0.0 c.in_err-found.ensures.checked in
    search rules

pub check_truth-returns-in_err-value-clause-checked : goal.check_truth-returns-in_err-value-clause-checked
check_truth-returns-in_err-value-clause-checked t c =
    let tested = c.is_truth-test.ensures ∙ ap may_be_truth (c.shape.ensures ∙ c.in_ok-found.ensures.checked.1) in
    let h = truth_kind c.args.context.now (term_form c.args.term.now) c.args.place (Refused c.in_err-value.field-0.0) tested c.in_err-value.ensures in
    search rules

pub check_truth-returns-clause-checked : goal.check_truth-returns-clause-checked
check_truth-returns-clause-checked t c = (
  truth_clear c.args.context.now (term_form c.args.term.now) c.args.place c.in_ok-found.ensures.checked.0
      (c.is_truth-test.ensures ∙ ap may_be_truth (c.shape.ensures ∙ c.in_ok-found.ensures.checked.1)) c.in_ok-value.ensures.1,
  truth_formula c.args.context.now (length c.args.carriers.now.items) (term_form c.args.term.now) c.in_ok-value.value c.into_formula.result
      (ap value_view c.in_ok-value.ensures.0 ∙ c.in_ok-found.ensures.checked.2) c.into_formula.ensures,
)

-- ---- chains

pub check_chain-returns-in_err-head-clause-checked : goal.check_chain-returns-in_err-head-clause-checked
check_chain-returns-in_err-head-clause-checked t c =
    let h = among_first _ _ _ c.in_err-head.field-0.0
    (chained-faults (text_in c.args.context.now) true (scope_in c.args.context.now) c.args.connective (term_form c.args.first.now) c.args.links.now) c.in_err-head.ensures.checked in
    search rules

pub check_chain-returns-then-is_empty : goal.check_chain-returns-then-is_empty
check_chain-returns-then-is_empty t c = record {
  checked = lone_value c.args.context.now (length c.args.carriers.now.items) c.args.connective c.args.first.now c.args.links.now (Ok c.in_ok-head.head)
      (sym c.is_empty.ensures ∙ c.if-is_empty.true) c.in_ok-head.ensures.checked;
  carriers = c.in_ok-head.ensures.carriers
      ∙ lone_loops c.args.context.now c.args.carriers.now.items c.args.connective c.args.first.now c.args.links.now (sym c.is_empty.ensures ∙ c.if-is_empty.true);
}

pub check_chain-returns-in_err-left-clause-checked : goal.check_chain-returns-in_err-left-clause-checked
check_chain-returns-in_err-left-clause-checked t c =
    let h = others_among c.args.context.now (length c.check_value.new.carriers.items) c.args.connective c.args.first.now c.args.links.now c.in_ok-head.ensures.checked.0
    (c.shape.ensures ∙ c.in_ok-head.ensures.checked.1) c.in_err-left.ensures c.check_links-operands.ensures.checked in
    search rules

pub check_chain-returns : goal.check_chain-returns
check_chain-returns t c =
    let others = others_clear c.args.context.now (length c.check_value.new.carriers.items) c.args.connective c.args.first.now c.args.links.now
    c.in_ok-head.ensures.checked.0 (c.shape.ensures ∙ c.in_ok-head.ensures.checked.1) c.in_ok-left.ensures.1 c.check_links-operands.ensures.checked in
    record {
      checked = (
        others.0,
        c.in_ok-value.ensures.shape
            ∙ sym (some-shape (text_in c.args.context.now) (scope_in c.args.context.now) c.args.connective (term_form c.args.first.now) c.args.links.now
            (sym c.is_empty.ensures ∙ c.if-is_empty.false)),
        chain-value c.args.context.now c.args.connective c.args.first.now c.args.links.now c.args.carriers.now.items c.check_value.new.carriers.items c.in_ok-left.left
            c.in_ok-left.rest.items c.in_ok-head.ensures.carriers (ap value_view c.in_ok-left.ensures.0 ∙ c.in_ok-head.ensures.checked.2) others.1 c.in_ok-value.ensures.value,
      );
      carriers = chain-loops c.args.context.now c.args.connective c.args.first.now c.args.links.now c.args.carriers.now.items c.check_value.new.carriers.items
          c.check_links-operands.new.carriers.items c.in_ok-head.ensures.carriers c.in_ok-left.ensures.1 c.check_links-operands.ensures.carriers;
    }

-- ---- operands behind the first

pub check_links-loop-index-init : goal.check_links-loop-index-init
check_links-loop-index-init t c = done_begun c.args.context.now c.args.links.now (shape_view c.args.first) c.args.carriers.now.items c.in_ok-operands.ensures.items

pub check_links-check_link-requires : goal.check_links-check_link-requires
check_links-check_link-requires t c =
    omega (arith, c.decreases, link_lighter c.args.links.now c.loop-index.index c.index-links-index.result c.loop-index-test.true c.index-links-index.is)

pub check_links-returns-in_err-operand-clause-checked : goal.check_links-returns-in_err-operand-clause-checked
check_links-returns-in_err-operand-clause-checked t c =
    let h = among_first _ _ _ c.in_err-operand.field-0.0 (next_parts c.loop-index.invariant c.loop-index-test.true c.index-links-index.is) c.in_err-operand.ensures.checked in
    search rules

pub check_links-loop-index-preserved : goal.check_links-loop-index-preserved
check_links-loop-index-preserved t c =
    done_next c.in_ok-operand.operand c.check_link.new.carriers.items c.loop-index.invariant c.loop-index-test.true c.index-links-index.is c.in_ok-push.ensures.items
    c.in_ok-operand.ensures.checked c.shape-left.ensures c.in_ok-operand.ensures.carriers

pub check_links-returns : goal.check_links-returns
check_links-returns t c = record {
  checked = links_ended c.loop-index.invariant c.loop-index-test.false;
  carriers = loops_ended c.loop-index.invariant c.loop-index-test.false;
}

pub check_link-returns-in_err-operand-clause-checked : goal.check_link-returns-in_err-operand-clause-checked
check_link-returns-in_err-operand-clause-checked t c =
    let h = operand_among (text_in c.args.context.now) true (scope_in c.args.context.now) (shape_view c.args.left) c.args.link.now c.args.more c.in_err-operand.field-0.0
    c.in_err-operand.ensures.checked in
    search rules

-- ---- negations

pub check_value-returns-in_err-operand-in-Not-clause-checked : goal.check_value-returns-in_err-operand-in-Not-clause-checked
check_value-returns-in_err-operand-in-Not-clause-checked t c =
    let h = not_operand (text_in c.args.context.now) true (scope_in c.args.context.now) c.in-Not.place c.in-Not.operand c.in_err-operand-in-Not.field-0.0 c.in-Not.is c.deref.ensures
    c.in_err-operand-in-Not.ensures.checked in
    search rules

pub check_value-returns-in_ok-operand-in-Not : goal.check_value-returns-in_ok-operand-in-Not
check_value-returns-in_ok-operand-in-Not t c = record {
  checked = not_value c.args.context.now (length c.args.carriers.now.items) c.in-Not.place c.in-Not.operand c.in_ok-operand-in-Not.operand c.negated_value.result c.in-Not.is c.deref.ensures
      c.in_ok-operand-in-Not.ensures.checked c.negated_value.ensures;
  carriers = on_ok c.negated_value.result _
      (c.in_ok-operand-in-Not.ensures.carriers ∙ not_loops c.args.context.now c.args.carriers.now.items c.in-Not.place c.in-Not.operand c.in-Not.is c.deref.ensures);
}

-- ---- chains, as nodes

pub check_value-check_chain-requires : goal.check_value-check_chain-requires
check_value-check_chain-requires t c =
    omega (
      arith,
      c.decreases,
      ap weight c.in-Chain.is ∙ weight-chain c.in-Chain.connective c.in-Chain.first c.in-Chain.links,
      ap weight c.deref-in-Chain.ensures,
      ap links_weight c.deref-in-Chain-2.ensures.value,
    )

pub check_value-returns-in-Chain : goal.check_value-returns-in-Chain
check_value-returns-in-Chain t c =
    let node = chain-node c.in-Chain.connective c.in-Chain.first c.in-Chain.links c.in-Chain.is c.deref-in-Chain.ensures c.deref-in-Chain-2.ensures.value in
    record {
      checked = value_node c.args.context.now (length c.args.carriers.now.items) c.check_chain.result node c.check_chain.ensures.checked;
      carriers = loops_node c.args.context.now c.args.carriers.now.items c.check_chain.new.carriers.items c.check_chain.result node c.check_chain.ensures.carriers;
    }

-- ---- arithmetic

pub check_value-check_value-requires-then-is_empty : goal.check_value-check_value-requires-then-is_empty
check_value-check_value-requires-then-is_empty t c =
    omega (arith, c.decreases, ap weight c.in-Arithmetic.is ∙ weight-arithmetic c.in-Arithmetic.first c.in-Arithmetic.links, ap weight c.deref-then-is_empty.ensures)

pub check_value-returns-then-is_empty : goal.check_value-returns-then-is_empty
check_value-returns-then-is_empty t c =
    let node = operand-node c.in-Arithmetic.first c.in-Arithmetic.links c.in-Arithmetic.is c.deref-then-is_empty.ensures (sym c.is_empty.ensures ∙ c.if-is_empty.true) in
    record {
      checked = value_node c.args.context.now (length c.args.carriers.now.items) c.check_value-then-is_empty.result node c.check_value-then-is_empty.ensures.checked;
      carriers = loops_node c.args.context.now c.args.carriers.now.items c.check_value-then-is_empty.new.carriers.items c.check_value-then-is_empty.result node
          c.check_value-then-is_empty.ensures.carriers;
    }

pub check_value-returns-else-is_empty : goal.check_value-returns-else-is_empty
check_value-returns-else-is_empty t c = record {
  checked = data_node c.args.context.now (length c.args.carriers.now.items) c.args.term.now c.check_data.result
      (arithmetic-same c.args.context.now c.in-Arithmetic.first c.in-Arithmetic.links c.in-Arithmetic.is (sym c.is_empty.ensures ∙ c.if-is_empty.false)) c.check_data.ensures.checked;
  carriers = data_grows c.args.context.now c.args.term.now c.args.carriers.now.items c.check_data.result c.check_data.ensures.plain;
}

-- ---- data below which no quantifier may stand

pub check_value-returns-in-Constant : goal.check_value-returns-in-Constant
check_value-returns-in-Constant t c = record {
  checked = data_node c.args.context.now (length c.args.carriers.now.items) c.args.term.now c.check_data-in-Constant.result (same-faults c.args.context.now c.in-Constant.is refl)
      c.check_data-in-Constant.ensures.checked;
  carriers = data_grows c.args.context.now c.args.term.now c.args.carriers.now.items c.check_data-in-Constant.result c.check_data-in-Constant.ensures.plain;
}

pub check_value-returns-in-Number : goal.check_value-returns-in-Number
check_value-returns-in-Number t c = record {
  checked = data_node c.args.context.now (length c.args.carriers.now.items) c.args.term.now c.check_data-in-Number.result (same-faults c.args.context.now c.in-Number.is refl)
      c.check_data-in-Number.ensures.checked;
  carriers = data_grows c.args.context.now c.args.term.now c.args.carriers.now.items c.check_data-in-Number.result c.check_data-in-Number.ensures.plain;
}

pub check_value-returns-in-Name : goal.check_value-returns-in-Name
check_value-returns-in-Name t c = record {
  checked = data_node c.args.context.now (length c.args.carriers.now.items) c.args.term.now c.check_data-in-Name.result (same-faults c.args.context.now c.in-Name.is refl)
      c.check_data-in-Name.ensures.checked;
  carriers = data_grows c.args.context.now c.args.term.now c.args.carriers.now.items c.check_data-in-Name.result c.check_data-in-Name.ensures.plain;
}

pub check_value-returns-in-Negative : goal.check_value-returns-in-Negative
check_value-returns-in-Negative t c = record {
  checked = data_node c.args.context.now (length c.args.carriers.now.items) c.args.term.now c.check_data-in-Negative.result (same-faults c.args.context.now c.in-Negative.is refl)
      c.check_data-in-Negative.ensures.checked;
  carriers = data_grows c.args.context.now c.args.term.now c.args.carriers.now.items c.check_data-in-Negative.result c.check_data-in-Negative.ensures.plain;
}

pub check_value-returns-in-Comparison : goal.check_value-returns-in-Comparison
check_value-returns-in-Comparison t c = record {
  checked = data_node c.args.context.now (length c.args.carriers.now.items) c.args.term.now c.check_data-in-Comparison.result (same-faults c.args.context.now c.in-Comparison.is refl)
      c.check_data-in-Comparison.ensures.checked;
  carriers = data_grows c.args.context.now c.args.term.now c.args.carriers.now.items c.check_data-in-Comparison.result c.check_data-in-Comparison.ensures.plain;
}

pub check_value-returns-in-Application : goal.check_value-returns-in-Application
check_value-returns-in-Application t c = record {
  checked = data_node c.args.context.now (length c.args.carriers.now.items) c.args.term.now c.check_data-in-Application.result
      (application-same c.args.context.now c.in-Application.function c.in-Application.arguments c.in-Application.is) c.check_data-in-Application.ensures.checked;
  carriers = data_grows c.args.context.now c.args.term.now c.args.carriers.now.items c.check_data-in-Application.result c.check_data-in-Application.ensures.plain;
}

-- ---- quantifiers

pub check_value-returns-in_err-bound-in-Quantified-clause-checked : goal.check_value-returns-in_err-bound-in-Quantified-clause-checked
check_value-returns-in_err-bound-in-Quantified-clause-checked t c =
    let q = c.in-Quantified in
    let read = quantifier-read c.args.context.now q.place q.quantifier q.variables q.body q.body.value q.is refl c.deref-in-Quantified.ensures.value in
    let h = among_first _ _ _ c.in_err-bound-in-Quantified.field-0.0 read.faults c.in_err-bound-in-Quantified.ensures.bound in
    search rules

-- a quantifier by its parts, where its body is asked for
read_quantifier : (t : ℕ) (c : check_value-After-deref-in-Quantified-2 t)
    → IsTermQuantifier c.args.context.now c.args.term.now c.in-Quantified.place c.in-Quantified.quantifier c.deref-in-Quantified.result.now c.deref-in-Quantified-2.result.now
read_quantifier t c =
    quantifier-read c.args.context.now c.in-Quantified.place c.in-Quantified.quantifier c.in-Quantified.variables c.in-Quantified.body c.deref-in-Quantified-2.result.now
    c.in-Quantified.is c.deref-in-Quantified-2.ensures c.deref-in-Quantified.ensures.value

pub check_value-returns-in_err-body-in-Quantified-clause-checked : goal.check_value-returns-in_err-body-in-Quantified-clause-checked
check_value-returns-in_err-body-in-Quantified-clause-checked t c =
    let read = read_quantifier t (goal.at.check_value-returns-in_err-body-in-Quantified-clause-checked t c).After-deref-in-Quantified-2 in
    let h = body_among c.in_err-body-in-Quantified.field-0.0 read c.in_ok-bound-in-Quantified.ensures.bound.0 c.in_ok-bound-in-Quantified.ensures.bound.1
    c.in_err-body-in-Quantified.ensures.checked in
    search rules

pub check_value-returns-in_ok-formula-in-Quantified-clause-checked : goal.check_value-returns-in_ok-formula-in-Quantified-clause-checked
check_value-returns-in_ok-formula-in-Quantified-clause-checked t c =
    let read = read_quantifier t (goal.at.check_value-returns-in_ok-formula-in-Quantified-clause-checked t c).After-deref-in-Quantified-2 in
    let own = c.in_ok-bound-in-Quantified.ensures in
    let body = c.in_ok-body-in-Quantified in
    let view = body_view (slots_in c.args.context.now) c.bind_variables.new.carriers.items body.body read own.bound.1 own.carriers body.ensures.checked.1 in (
      body_clear read own.bound.0 own.bound.1 body.ensures.checked.0,
      quantified-shape c.args.context.now c.in-Quantified.is refl,
      quantified-value c.args.context.now (length c.args.carriers.now.items) c.in-Quantified.is (c.in_ok-formula-in-Quantified.ensures.view ∙ view) refl,
    )

pub check_value-returns-in_ok-formula-in-Quantified-clause-carriers : goal.check_value-returns-in_ok-formula-in-Quantified-clause-carriers
check_value-returns-in_ok-formula-in-Quantified-clause-carriers t c =
    let read = read_quantifier t (goal.at.check_value-returns-in_ok-formula-in-Quantified-clause-carriers t c).After-deref-in-Quantified-2 in
    body_loops c.args.carriers.now.items c.bind_variables.new.carriers.items c.check_body.new.carriers.items read c.in_ok-bound-in-Quantified.ensures.carriers
    c.in_ok-body-in-Quantified.ensures.carriers
