use Rattle.std.proofs.Common.{◌≡◌, ◌∙◌, ◌++◌, length, refl, sym, ap, rules, arith, List, ℕ}
use Rattle.pb_text_tree.specs.declared.formula.Link.{Link}
use Rattle.pb_text_meaning.specs.Syntax as syntax
use Rattle.pb_typing_declarations.specs.Entries.{shapes_of}
use Rattle.pb_typing_declarations.proofs.Parts.{among_first}
use Rattle.pb_typing_tree.specs.declared.formula.Formula.{Formula}
use Rattle.pb_typing_tree.specs.Calls.{call_places}
use Rattle.pb_typing_tree.specs.Elaboration.{elaborated}
use Rattle.pb_typing_tree.specs.Loops.{loops}
use Rattle.pb_typing_tree.specs.Tree.{Negation}
use Rattle.pb_typing_tree.specs.View.{formula_view}
use Rattle.pb_typing_tree.proofs.Calls.{chain-places}
use Rattle.pb_typing_tree.proofs.Views.{formula-chain}
use Rattle.pb_typing_nodes.specs.Contexts.{scope_in, slots_in, text_in}
use Rattle.pb_typing.specs.View.{is_positive}
use Rattle.pb_typing.proofs.Bodies.{body_among, body_clear, body_loops, body_view}
use Rattle.pb_typing.proofs.FormulaNodes.{IsChain, IsFormulaQuantifier, checks_as, loops_as, places_as, call_loops, negation-read, negation_among, quantifier-read, quantified-calls}
use Rattle.pb_typing.proofs.FormulaNodes.{chain-read, others_among, others_clear, chain-view, chain-shapes, chain_calls}
use Rattle.pb_typing.proofs.FormulaSteps.{done_begun, done_next, next_parts, links_ended, places_ended, shapes_ended, value_places}
use Rattle.pb_typing.proofs.FormulaWeight.{weight, weight-chain, links_weight, link_lighter}
use Rattle.pb_typing.proofs.formula.+formulas.Goals.{check_formula-After-check_formula-in-Chain, check_formula-After-deref-in-Quantified-2}
use Rattle.pb_typing.proofs.formula.+formulas.Goals as goal

-- ---- operands behind the first

pub check_links-loop-index-init : goal.check_links-loop-index-init
check_links-loop-index-init t c =
    done_begun c.args.context.now c.args.connective (is_positive c.args.polarity) c.args.links.now c.args.carriers.now.items c.in_ok-operands.ensures.items

pub check_links-check_formula-requires : goal.check_links-check_formula-requires
check_links-check_formula-requires t c =
    (omega (arith, c.decreases, link_lighter c.args.links.now c.loop-index.index c.index-links-index.result c.loop-index-test.true c.index-links-index.is), c.requires)

pub check_links-returns-in_err-operand-clause-checked : goal.check_links-returns-in_err-operand-clause-checked
check_links-returns-in_err-operand-clause-checked t c =
    let next = next_parts c.loop-index.invariant c.loop-index-test.true c.index-links-index.is c.operand_polarity-of_link.ensures in
    let h = among_first _ _ _ c.in_err-operand.field-0.0 next c.in_err-operand.ensures.checked in
    search rules

pub check_links-loop-index-preserved : goal.check_links-loop-index-preserved
check_links-loop-index-preserved t c =
    done_next c.in_ok-operand.operand c.check_formula.new.carriers.items c.loop-index.invariant c.loop-index-test.true c.index-links-index.is c.operand_polarity-of_link.ensures
    c.in_ok-push.ensures.items c.in_ok-operand.ensures.checked c.in_ok-operand.ensures.carriers c.in_ok-operand.ensures.places

pub check_links-returns : goal.check_links-returns
check_links-returns t c = record {
  checked = links_ended c.loop-index.invariant c.loop-index-test.false;
  carriers = shapes_ended c.loop-index.invariant c.loop-index-test.false;
  places = places_ended c.loop-index.invariant c.loop-index-test.false;
}

-- ---- data and calls

pub check_formula-returns-in-Value : goal.check_formula-returns-in-Value
check_formula-returns-in-Value t c = record {
  checked = checks_as c.args.context.now (is_positive c.args.polarity) (length c.args.carriers.now.items) c.check_truth.result c.in-Value.is c.check_truth.ensures.checked;
  carriers = loops_as c.args.context.now c.args.carriers.now.items c.check_truth.new.carriers.items c.check_truth.result c.in-Value.is c.check_truth.ensures.carriers;
  places = places_as c.check_truth.result c.in-Value.is
      (value_places c.args.context.now (length c.args.carriers.now.items) c.in-Value.term _ c.check_truth.result c.check_truth.ensures.checked);
}

pub check_formula-returns-in-Instance : goal.check_formula-returns-in-Instance
check_formula-returns-in-Instance t c =
    let n = length c.args.carriers.now.items in
    record {
      checked = checks_as c.args.context.now (is_positive c.args.polarity) n c.check_call.result c.in-Instance.is (c.check_call.ensures.checked n);
      carriers = call_loops c.args.context.now c.in-Instance.instance c.args.carriers.now.items c.check_call.result c.in-Instance.is;
      places = places_as c.check_call.result c.in-Instance.is c.check_call.ensures.places;
    }

-- ---- negations

pub check_formula-returns-in_err-operand-in-Negation-clause-checked : goal.check_formula-returns-in_err-operand-in-Negation-clause-checked
check_formula-returns-in_err-operand-in-Negation-clause-checked t c =
    let q = c.in-Negation in
    let h = negation_among c.in_err-operand-in-Negation.field-0.0 (negation-read c.args.context.now (is_positive c.args.polarity) q.place q.operand q.is c.deref.ensures c.opposite.ensures)
    c.in_err-operand-in-Negation.ensures.checked in
    search rules

pub check_formula-returns-in_ok-boxed-in-Negation : goal.check_formula-returns-in_ok-boxed-in-Negation
check_formula-returns-in_ok-boxed-in-Negation t c =
    let S = text_in c.args.context.now in
    let read = negation-read c.args.context.now (is_positive c.args.polarity) c.in-Negation.place c.in-Negation.operand c.in-Negation.is c.deref.ensures c.opposite.ensures in
    let operand = c.in_ok-operand-in-Negation.ensures in
    let boxed = c.in_ok-boxed-in-Negation.ensures.ok in
    record {
      checked = (
        read.faults ∙ operand.checked.0,
        ap (λ (f : Formula). Negation (formula_view f)) boxed
            ∙ (ap Negation operand.checked.1 ∙ sym (ap (elaborated S (slots_in c.args.context.now) (scope_in c.args.context.now) (length c.args.carriers.now.items)) read.node)),
      );
      carriers = operand.carriers ∙ sym (ap (λ (f : syntax.Formula). shapes_of c.args.carriers.now.items ++ loops S f) read.node);
      places = ap call_places boxed ∙ (operand.places ∙ sym read.calls);
    }

-- ---- chains

pub check_formula-check_formula-requires-in-Chain : goal.check_formula-check_formula-requires-in-Chain
check_formula-check_formula-requires-in-Chain t c =
    (omega (arith, c.decreases, ap weight c.in-Chain.is ∙ weight-chain c.in-Chain.connective c.in-Chain.first c.in-Chain.links, ap weight c.deref-in-Chain.ensures), c.requires)

pub check_formula-check_links-operands-requires : goal.check_formula-check_links-operands-requires
check_formula-check_links-operands-requires t c =
    (omega (arith, c.decreases, ap weight c.in-Chain.is ∙ weight-chain c.in-Chain.connective c.in-Chain.first c.in-Chain.links, ap links_weight c.deref-in-Chain-2.ensures.value), c.requires)

-- a chain by its parts, whose links are these
read_chain : (t : ℕ) (c : check_formula-After-check_formula-in-Chain t) (links : List Link) → links ≡ c.in-Chain.links.items
    → IsChain c.args.context.now (is_positive c.args.polarity) (is_positive c.operand_polarity-of_first.result) c.args.formula.now c.deref-in-Chain.result.now c.in-Chain.connective links
read_chain t c links are =
    let q = c.in-Chain in
    let count : c.len.result ≡ length q.links.items = omega (arith, c.len.ensures, q.links.ok.0) in
    chain-read c.args.context.now (is_positive c.args.polarity) q.connective q.first q.links c.len.result q.is c.deref-in-Chain.ensures are count c.operand_polarity-of_first.ensures

pub check_formula-returns-in_err-head-in-Chain-clause-checked : goal.check_formula-returns-in_err-head-in-Chain-clause-checked
check_formula-returns-in_err-head-in-Chain-clause-checked t c =
    let read = read_chain t (goal.at.check_formula-returns-in_err-head-in-Chain-clause-checked t c).After-check_formula-in-Chain c.in-Chain.links.items refl in
    let h = among_first _ _ _ c.in_err-head-in-Chain.field-0.0 read.faults c.in_err-head-in-Chain.ensures.checked in
    search rules

pub check_formula-returns-in_err-left-in-Chain-clause-checked : goal.check_formula-returns-in_err-left-in-Chain-clause-checked
check_formula-returns-in_err-left-in-Chain-clause-checked t c =
    let read = read_chain t (goal.at.check_formula-returns-in_err-left-in-Chain-clause-checked t c).After-check_formula-in-Chain c.deref-in-Chain-2.result.now c.deref-in-Chain-2.ensures.value in
    let h = others_among (length c.check_formula-in-Chain.new.carriers.items) read c.in_ok-head-in-Chain.ensures.checked.0 c.in_err-left-in-Chain.ensures c.check_links-operands.ensures.checked in
    search rules

pub check_formula-returns-in_ok-first-in-Chain-clause-checked : goal.check_formula-returns-in_ok-first-in-Chain-clause-checked
check_formula-returns-in_ok-first-in-Chain-clause-checked t c =
    let read = read_chain t (goal.at.check_formula-returns-in_ok-first-in-Chain-clause-checked t c).After-check_formula-in-Chain c.deref-in-Chain-2.result.now c.deref-in-Chain-2.ensures.value in
    let head = c.in_ok-head-in-Chain.ensures in
    let mid = c.check_formula-in-Chain.new.carriers.items in
    let others = others_clear (length mid) read head.checked.0 c.in_ok-left-in-Chain.ensures.1 c.check_links-operands.ensures.checked in (
      others.0,
      formula-chain c.in-Chain.connective c.in_ok-first-in-Chain.first c.in_ok-left-in-Chain.links
          ∙ chain-view c.args.carriers.now.items mid read head.carriers (ap formula_view (c.in_ok-first-in-Chain.ensures.ok ∙ c.in_ok-left-in-Chain.ensures.0) ∙ head.checked.1) others.1,
    )

pub check_formula-returns-in_ok-first-in-Chain-clause-carriers : goal.check_formula-returns-in_ok-first-in-Chain-clause-carriers
check_formula-returns-in_ok-first-in-Chain-clause-carriers t c =
    let read = read_chain t (goal.at.check_formula-returns-in_ok-first-in-Chain-clause-carriers t c).After-check_formula-in-Chain c.deref-in-Chain-2.result.now c.deref-in-Chain-2.ensures.value in
    chain-shapes c.args.carriers.now.items c.check_formula-in-Chain.new.carriers.items c.check_links-operands.new.carriers.items read c.in_ok-head-in-Chain.ensures.carriers
    c.in_ok-left-in-Chain.ensures.1 c.check_links-operands.ensures.carriers

pub check_formula-returns-in_ok-first-in-Chain-clause-places : goal.check_formula-returns-in_ok-first-in-Chain-clause-places
check_formula-returns-in_ok-first-in-Chain-clause-places t c =
    let read = read_chain t (goal.at.check_formula-returns-in_ok-first-in-Chain-clause-places t c).After-check_formula-in-Chain c.deref-in-Chain-2.result.now c.deref-in-Chain-2.ensures.value in
    let kept = c.in_ok-left-in-Chain.ensures in
    chain-places c.in-Chain.connective c.in_ok-first-in-Chain.first c.in_ok-left-in-Chain.links
    ∙ chain_calls read (ap call_places (c.in_ok-first-in-Chain.ensures.ok ∙ kept.0) ∙ c.in_ok-head-in-Chain.ensures.places) kept.1 c.check_links-operands.ensures.places

-- ---- quantifiers

pub check_formula-returns-in_err-bound-in-Quantified-clause-checked : goal.check_formula-returns-in_err-bound-in-Quantified-clause-checked
check_formula-returns-in_err-bound-in-Quantified-clause-checked t c =
    let q = c.in-Quantified in
    let read = quantifier-read c.args.context.now (is_positive c.args.polarity) q.place q.quantifier q.variables q.body q.body.value q.is refl c.deref-in-Quantified.ensures.value in
    let h = among_first _ _ _ c.in_err-bound-in-Quantified.field-0.0 read.faults c.in_err-bound-in-Quantified.ensures.bound in
    search rules

-- a quantifier by its parts, where its body is asked for
read_quantifier : (t : ℕ) (c : check_formula-After-deref-in-Quantified-2 t)
    → IsFormulaQuantifier c.args.context.now (is_positive c.args.polarity) c.args.formula.now c.in-Quantified.quantifier c.deref-in-Quantified.result.now c.deref-in-Quantified-2.result.now
read_quantifier t c =
    quantifier-read c.args.context.now (is_positive c.args.polarity) c.in-Quantified.place c.in-Quantified.quantifier c.in-Quantified.variables c.in-Quantified.body
    c.deref-in-Quantified-2.result.now c.in-Quantified.is c.deref-in-Quantified-2.ensures c.deref-in-Quantified.ensures.value

pub check_formula-returns-in_err-body-in-Quantified-clause-checked : goal.check_formula-returns-in_err-body-in-Quantified-clause-checked
check_formula-returns-in_err-body-in-Quantified-clause-checked t c =
    let read = read_quantifier t (goal.at.check_formula-returns-in_err-body-in-Quantified-clause-checked t c).After-deref-in-Quantified-2 in
    let h = body_among c.in_err-body-in-Quantified.field-0.0 read c.in_ok-bound-in-Quantified.ensures.bound.0 c.in_ok-bound-in-Quantified.ensures.bound.1
    c.in_err-body-in-Quantified.ensures.checked in
    search rules

pub check_formula-returns-in_ok-formula-in-Quantified-clause-checked : goal.check_formula-returns-in_ok-formula-in-Quantified-clause-checked
check_formula-returns-in_ok-formula-in-Quantified-clause-checked t c =
    let read = read_quantifier t (goal.at.check_formula-returns-in_ok-formula-in-Quantified-clause-checked t c).After-deref-in-Quantified-2 in
    let own = c.in_ok-bound-in-Quantified.ensures in
    let body = c.in_ok-body-in-Quantified in (
      body_clear read own.bound.0 own.bound.1 body.ensures.checked.0,
      c.in_ok-formula-in-Quantified.ensures.view
          ∙ body_view (slots_in c.args.context.now) c.bind_variables.new.carriers.items body.body read own.bound.1 own.carriers body.ensures.checked.1,
    )

pub check_formula-returns-in_ok-formula-in-Quantified-clause-carriers : goal.check_formula-returns-in_ok-formula-in-Quantified-clause-carriers
check_formula-returns-in_ok-formula-in-Quantified-clause-carriers t c =
    let read = read_quantifier t (goal.at.check_formula-returns-in_ok-formula-in-Quantified-clause-carriers t c).After-deref-in-Quantified-2 in
    body_loops c.args.carriers.now.items c.bind_variables.new.carriers.items c.check_body.new.carriers.items read c.in_ok-bound-in-Quantified.ensures.carriers
    c.in_ok-body-in-Quantified.ensures.carriers

pub check_formula-returns-in_ok-formula-in-Quantified-clause-places : goal.check_formula-returns-in_ok-formula-in-Quantified-clause-places
check_formula-returns-in_ok-formula-in-Quantified-clause-places t c =
    c.in_ok-formula-in-Quantified.ensures.places
    ∙ (c.in_ok-body-in-Quantified.ensures.places
    ∙ sym (quantified-calls c.in-Quantified.place c.in-Quantified.quantifier c.in-Quantified.variables c.in-Quantified.body c.in-Quantified.is c.deref-in-Quantified-2.ensures))
