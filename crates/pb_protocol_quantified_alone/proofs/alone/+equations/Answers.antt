use Rattle.std.proofs.Common.{◌≤◌, List, length, sym, subst, arith}
use Rattle.std.specs.Prelude.{box_value}
use Rattle.std.proofs.Math.ListN.{drop_of_length-le}
use Rattle.pb_sorts.proofs.Places.{drop-at}
use Rattle.pb_text_tree.specs.Form.{variable_forms}
use Rattle.pb_text_meaning.specs.Erase.{erased_variables}
use Rattle.pb_protocol_tree.specs.declared.formula.Formula.{Formula}
use Rattle.pb_protocol_tree.specs.declared.formula.Link.{Link}
use Rattle.pb_protocol_tree.specs.Form.{step_set_form}
use Rattle.pb_protocol_meaning.specs.Erase.{erased_steps}
use Rattle.pb_protocol_quantified_alone.specs.Alone.{formula_said, HasNone, HaveNone, IsBare}
use Rattle.pb_protocol_quantified_alone.proofs.Counted.{none-chain, none-modal, none-quantified}
use Rattle.pb_protocol_quantified_alone.proofs.alone.+equations.Goals as goal

pub has_none-returns-else-not-has_none : goal.has_none-returns-else-not-has_none
has_none-returns-else-not-has_none t c = λ h m.
    let n = c.in-Chain in
    none-chain m c.args.formula.now c.deref-in-Chain.result.now n.connective n.first n.links c.deref-in-Chain-2.result.now n.is c.deref-in-Chain.ensures c.deref-in-Chain-2.ensures.value
    (c.has_none-in-Chain.ensures c.if-not-has_none.false m) (c.have_none.ensures h m)

pub has_none-returns-in-Modal : goal.has_none-returns-in-Modal
has_none-returns-in-Modal t c = λ h m.
    let n = c.in-Modal in
    let none : Formula → Type 0 = λ f. HasNone m (formula_said f) in
    let bare : Formula → Type 0 = λ f. IsBare m (formula_said f) in
    subst none (sym n.is)
    (none-modal m n.modality (erased_steps (step_set_form n.steps)) (formula_said (box_value n.operand)) (subst bare c.deref-in-Modal.ensures (c.is_bare.ensures h m)))

pub has_none-returns-in-Quantified : goal.has_none-returns-in-Quantified
has_none-returns-in-Quantified t c = λ h m.
    let n = c.in-Quantified in
    let none : Formula → Type 0 = λ f. HasNone m (formula_said f) in
    subst none (sym n.is)
    (none-quantified m n.quantifier (erased_variables (variable_forms n.variables.items)) (formula_said (box_value n.body))
    (subst none c.deref-in-Quantified.ensures (c.has_none-in-Quantified.ensures h m)))

pub have_none-loop-link-preserved : goal.have_none-loop-link-preserved
have_none-loop-link-preserved t c = λ m h.
    let all : List Link → Type 0 = λ ls. HaveNone m ls in
    c.loop-link.invariant m
    (subst all (sym (drop-at c.args.links.now c.loop-link.link-index c.link-item.result c.loop-link-test.true c.link-item.is)) (c.has_none.ensures c.if-not-has_none.false m, h))

pub have_none-returns : goal.have_none-returns
have_none-returns t c = λ h m.
    let all : List Link → Type 0 = λ ls. HaveNone m ls in
    let few : length c.args.links.now ≤ c.loop-link.link-index = omega (arith, c.loop-link-test.false) in
    c.loop-link.invariant m (subst all (sym (drop_of_length-le c.args.links.now few)) tt)
