use Rattle.std.proofs.Common.{◌≤◌, List, [], length, sym, subst, arith}
use Rattle.std.specs.Prelude.{box_value}
use Rattle.std.proofs.Math.ListN.{drop_of_length-le}
use Rattle.pb_sorts.proofs.Places.{drop-at}
use Rattle.pb_text_tree.specs.Form.{variable_forms}
use Rattle.pb_text_meaning.specs.Erase.{erased_variables}
use Rattle.pb_protocol_tree.specs.declared.formula.Formula.{Formula}
use Rattle.pb_protocol_tree.specs.declared.formula.Link.{Link}
use Rattle.pb_protocol_tree.specs.Form.{step_set_form}
use Rattle.pb_protocol_meaning.specs.Erase.{erased_steps}
use Rattle.pb_protocol_symmetry_unfolded.specs.Laws.{IsQuantifiedAlone}
use Rattle.pb_protocol_quantified_alone.specs.Alone.{formula_said, HasNone, AreAlone}
use Rattle.pb_protocol_quantified_alone.proofs.Counted.{alone-chain, alone-modal, none-quantified}
use Rattle.pb_protocol_quantified_alone.proofs.alone.+quantified.Goals as goal

pub is_quantified_alone-returns-in-Negation : goal.is_quantified_alone-returns-in-Negation
is_quantified_alone-returns-in-Negation t c = λ h m.
    let alone : Formula → Type 0 = λ f. IsQuantifiedAlone m (formula_said f) in
    subst alone (sym c.in-Negation.is) (subst alone c.deref.ensures (c.is_quantified_alone.ensures h m))

pub is_quantified_alone-returns-else-not-is_quantified_alone : goal.is_quantified_alone-returns-else-not-is_quantified_alone
is_quantified_alone-returns-else-not-is_quantified_alone t c = λ h m.
    let n = c.in-Chain in
    alone-chain m c.args.formula.now c.deref-in-Chain.result.now n.connective n.first n.links c.deref-in-Chain-2.result.now n.is c.deref-in-Chain.ensures c.deref-in-Chain-2.ensures.value
    (c.is_quantified_alone-in-Chain.ensures c.if-not-is_quantified_alone.false m) (c.are_alone.ensures h m)

pub is_quantified_alone-returns-in-Modal : goal.is_quantified_alone-returns-in-Modal
is_quantified_alone-returns-in-Modal t c = λ h m.
    let n = c.in-Modal in
    let alone : Formula → Type 0 = λ f. IsQuantifiedAlone m (formula_said f) in
    subst alone (sym n.is)
    (alone-modal m n.modality (erased_steps (step_set_form n.steps)) (formula_said (box_value n.operand)) (subst alone c.deref-in-Modal.ensures (c.is_quantified_alone-in-Modal.ensures h m)))

pub is_quantified_alone-returns-in-Fixpoint : goal.is_quantified_alone-returns-in-Fixpoint
is_quantified_alone-returns-in-Fixpoint t c = λ h m.
    let alone : Formula → Type 0 = λ f. IsQuantifiedAlone m (formula_said f) in
    subst alone (sym c.in-Fixpoint.is) (subst alone c.deref-in-Fixpoint.ensures (c.is_quantified_alone-in-Fixpoint.ensures h m))

pub is_quantified_alone-returns-in-Quantified : goal.is_quantified_alone-returns-in-Quantified
is_quantified_alone-returns-in-Quantified t c = λ h m.
    let n = c.in-Quantified in
    let alone : Formula → Type 0 = λ f. IsQuantifiedAlone m (formula_said f) in
    let none : Formula → Type 0 = λ f. HasNone m (formula_said f) in
    subst alone (sym n.is)
    (none-quantified m n.quantifier (erased_variables (variable_forms n.variables.items)) (formula_said (box_value n.body)) (subst none c.deref-in-Quantified.ensures (c.has_none.ensures h m)) [])

pub are_alone-loop-link-preserved : goal.are_alone-loop-link-preserved
are_alone-loop-link-preserved t c = λ m h.
    let all : List Link → Type 0 = λ ls. AreAlone m ls in
    c.loop-link.invariant m
    (subst all (sym (drop-at c.args.links.now c.loop-link.link-index c.link-item.result c.loop-link-test.true c.link-item.is)) (c.is_quantified_alone.ensures c.if-not-is_quantified_alone.false m, h))

pub are_alone-returns : goal.are_alone-returns
are_alone-returns t c = λ h m.
    let all : List Link → Type 0 = λ ls. AreAlone m ls in
    let few : length c.args.links.now ≤ c.loop-link.link-index = omega (arith, c.loop-link-test.false) in
    c.loop-link.invariant m (subst all (sym (drop_of_length-le c.args.links.now few)) tt)
