use Rattle.std.proofs.Common.{◌≡◌, ◌∙◌, get_or, length, Ok, sym, ap, subst, rules, arith, false, [], ℕ}
use Rattle.std.specs.Prelude.{◌==◌}
use Rattle.std.proofs.lemmas.Bool.{eqb-true}
use Rattle.pb_text_tree.specs.Form.{named, argument_forms, term_form}
use Rattle.pb_text_meaning.specs.Erase.{erased_arguments}
use Rattle.pb_base.specs.declared.or_memory.OrMemory.TheVariants.{Refused}
use Rattle.pb_typing_declarations.specs.declared.fault.TypingRule.TheVariants as rule
use Rattle.pb_typing_declarations.specs.Faults.{unless, IsAmong}
use Rattle.pb_typing_declarations.proofs.Parts.{among_first, among_right, holds_unless}
use Rattle.pb_typing_rules.specs.Term.{shapes}
use Rattle.pb_typing_tree.specs.View.{shape_view, term_view}
use Rattle.pb_typing_tree.proofs.Views as made
use Rattle.pb_typing_nodes.specs.Contexts.{scope_in, text_in}
use Rattle.pb_typing_nodes.specs.Functions.{IsFunction, arity_of}
use Rattle.pb_typing_terms.proofs.Applications.{one_node, two_node, choice_node}
use Rattle.pb_typing_terms.proofs.FunctionArguments.{application_faults, argument_among, count_fault, one_argument, two_arguments, three_arguments}
use Rattle.pb_typing_terms.proofs.Links.{calculated-faults, chained-faults, operand_among, some-shape}
use Rattle.pb_typing_terms.proofs.Nodes.{term_node, chain-node, arithmetic-node, application-node, part_among, part_checked, kept_checked, lone_chain}
use Rattle.pb_typing_terms.proofs.Nodes.{not_operand, not_node, negative_operand, negative_node, comparison_left, comparison_right, comparison_node}
use Rattle.pb_typing_terms.proofs.OperandSteps.{none_checked, next_parts, one_checked, links_ended, others_among, others_clear, chain_term}
use Rattle.pb_typing_terms.proofs.OperandSteps.{ChecksOperands, none_calculated, operand_parts, operator_among, one_calculated, operands_ended}
use Rattle.pb_typing_terms.proofs.OperandSteps.{operands_parts, operands_among, calculated_by, calculated_term}
use Rattle.pb_typing_terms.proofs.Weight.{weight, weight-chain, weight-arithmetic, weight-application, links_weight, arithmetic_weight, arguments_weight}
use Rattle.pb_typing_terms.proofs.Weight.{link_lighter, operand_lighter, lighter_at}
use Rattle.pb_typing_terms.proofs.term.+terms.Goals.{check_application-In_ok-require}
use Rattle.pb_typing_terms.proofs.term.+terms.Goals as goal

-- ---- functions

pub check_application-returns-in_err-function : goal.check_application-returns-in_err-function
check_application-returns-in_err-function t c =
    let S = text_in c.args.context.now in
    let a = scope_in c.args.context.now in
    let e = Refused c.in_err-function.field-0.0 in
    let h : IsAmong (application_faults S a (named c.args.name.now) c.args.arguments.now) e =
    among_right _ _ e (c.in_err-function.ensures (shapes S a (erased_arguments (argument_forms c.args.arguments.now)))) in
    search rules

pub check_application-returns-in_err-require : goal.check_application-returns-in_err-require
check_application-returns-in_err-require t c =
    let f = named c.args.name.now in
    let e = Refused c.in_err-require.field-0.0 in
    let here = subst (λ (n : ℕ). IsAmong (unless (length c.args.arguments.now == n) rule.WrongCount f.place) e) c.arity.ensures c.in_err-require.ensures in
    let h = count_fault (text_in c.args.context.now) (scope_in c.args.context.now) f c.in_ok-function.function c.args.arguments.now e c.in_ok-function.ensures here in
    search rules

-- as many arguments as the function takes
counted : (t : ℕ) (c : check_application-In_ok-require t) → length c.args.arguments.now ≡ arity_of c.in_ok-function.function
counted t c =
    let n = length c.args.arguments.now in
    let place = c.args.name.now.place in
    let passed = subst (λ (m : ℕ). unless (n == m) rule.WrongCount place ≡ []) c.arity.ensures c.in_ok-require.ensures in
    eqb-true n (arity_of c.in_ok-function.function) (holds_unless (n == arity_of c.in_ok-function.function) rule.WrongCount place passed)

pub check_application-check_one-requires : goal.check_application-check_one-requires
check_application-check_one-requires t c =
    let count = counted t (goal.at.check_application-check_one-requires t c).In_ok-require ∙ ap arity_of c.in-OfOne.is in
    (omega (arith, c.decreases), (subst (IsFunction (text_in c.args.context.now) (named c.args.name.now).text) c.in-OfOne.is c.in_ok-function.ensures, count))

pub check_application-check_two-requires : goal.check_application-check_two-requires
check_application-check_two-requires t c =
    let count = counted t (goal.at.check_application-check_two-requires t c).In_ok-require ∙ ap arity_of c.in-OfTwo.is in
    (omega (arith, c.decreases), (subst (IsFunction (text_in c.args.context.now) (named c.args.name.now).text) c.in-OfTwo.is c.in_ok-function.ensures, count))

pub check_application-check_choice-requires : goal.check_application-check_choice-requires
check_application-check_choice-requires t c =
    let count = counted t (goal.at.check_application-check_choice-requires t c).In_ok-require ∙ ap arity_of c.in-Choice.is in
    (omega (arith, c.decreases), (subst (IsFunction (text_in c.args.context.now) (named c.args.name.now).text) c.in-Choice.is c.in_ok-function.ensures, count))

pub check_one-check_term-requires : goal.check_one-check_term-requires
check_one-check_term-requires t c = omega (arith, c.decreases, lighter_at c.args.arguments.now 0 (omega (arith, c.requires.count)) c.index-arguments-0.is)

pub check_one-returns-in_err-x : goal.check_one-returns-in_err-x
check_one-returns-in_err-x t c =
    let h = argument_among c.args.context.now (named c.args.name.now) c.args.arguments.now 0 c.in_err-x.field-0.0 (omega (arith, c.requires.count)) c.index-arguments-0.is c.in_err-x.ensures in
    search rules

pub check_one-returns : goal.check_one-returns
check_one-returns t c =
    let d = c.index-arguments-0.result in
    one_node c.args.context.now (named c.args.name.now) c.args.function c.args.arguments.now (get_or c.args.arguments.now 0 d) c.in_ok-x.x c.apply_one.result c.requires.function
    (one_argument c.args.arguments.now d c.requires.count) c.in_ok-x.ensures c.apply_one.ensures

pub check_two-check_term-requires : goal.check_two-check_term-requires
check_two-check_term-requires t c = omega (arith, c.decreases, lighter_at c.args.arguments.now 0 (omega (arith, c.requires.count)) c.index-arguments-0.is)

pub check_two-check_term-second-requires : goal.check_two-check_term-second-requires
check_two-check_term-second-requires t c = omega (arith, c.decreases, lighter_at c.args.arguments.now 1 (omega (arith, c.requires.count)) c.index-arguments-1.is)

pub check_two-returns-in_err-first : goal.check_two-returns-in_err-first
check_two-returns-in_err-first t c =
    let h = argument_among c.args.context.now (named c.args.name.now) c.args.arguments.now 0 c.in_err-first.field-0.0 (omega (arith, c.requires.count)) c.index-arguments-0.is
    c.in_err-first.ensures in
    search rules

pub check_two-returns-in_err-x : goal.check_two-returns-in_err-x
check_two-returns-in_err-x t c =
    let y = get_or c.args.arguments.now 1 c.index-arguments-1.result in
    let h = argument_among c.args.context.now (named c.args.name.now) c.args.arguments.now 1 c.in_err-x.field-0.0 (omega (arith, c.requires.count)) c.index-arguments-1.is
    (part_among c.args.context.now (term_form y.term) c.in_err-x.ensures c.check_term-second.ensures) in
    search rules

pub check_two-returns : goal.check_two-returns
check_two-returns t c =
    let x = get_or c.args.arguments.now 0 c.index-arguments-0.result in
    let y = get_or c.args.arguments.now 1 c.index-arguments-1.result in
    let first = kept_checked c.args.context.now (term_form x.term) c.in_ok-x.ensures.0 c.in_ok-first.ensures in
    let second = part_checked c.args.context.now (term_form y.term) c.in_ok-x.ensures.1 c.check_term-second.ensures in
    two_node c.args.context.now (named c.args.name.now) c.args.extreme c.args.arguments.now x y c.in_ok-x.x c.in_ok-x.y c.apply_two.result c.requires.function
    (two_arguments c.args.arguments.now c.index-arguments-0.result c.index-arguments-1.result c.requires.count) first second c.apply_two.ensures

pub check_choice-check_term-requires : goal.check_choice-check_term-requires
check_choice-check_term-requires t c = omega (arith, c.decreases, lighter_at c.args.arguments.now 0 (omega (arith, c.requires.count)) c.index-arguments-0.is)

pub check_choice-check_term-first-requires : goal.check_choice-check_term-first-requires
check_choice-check_term-first-requires t c = omega (arith, c.decreases, lighter_at c.args.arguments.now 1 (omega (arith, c.requires.count)) c.index-arguments-1.is)

pub check_choice-check_term-second-requires : goal.check_choice-check_term-second-requires
check_choice-check_term-second-requires t c = omega (arith, c.decreases, lighter_at c.args.arguments.now 2 (omega (arith, c.requires.count)) c.index-arguments-2.is)

pub check_choice-returns-in_err-condition : goal.check_choice-returns-in_err-condition
check_choice-returns-in_err-condition t c =
    let h = argument_among c.args.context.now (named c.args.name.now) c.args.arguments.now 0 c.in_err-condition.field-0.0 (omega (arith, c.requires.count)) c.index-arguments-0.is
    c.in_err-condition.ensures in
    search rules

pub check_choice-returns-in_err-condition-2 : goal.check_choice-returns-in_err-condition-2
check_choice-returns-in_err-condition-2 t c =
    let x = get_or c.args.arguments.now 1 c.index-arguments-1.result in
    let h = argument_among c.args.context.now (named c.args.name.now) c.args.arguments.now 1 c.in_err-condition-2.field-0.0 (omega (arith, c.requires.count)) c.index-arguments-1.is
    (part_among c.args.context.now (term_form x.term) c.in_err-condition-2.ensures c.check_term-first.ensures) in
    search rules

pub check_choice-returns-in_err-condition-3 : goal.check_choice-returns-in_err-condition-3
check_choice-returns-in_err-condition-3 t c =
    let y = get_or c.args.arguments.now 2 c.index-arguments-2.result in
    let h = argument_among c.args.context.now (named c.args.name.now) c.args.arguments.now 2 c.in_err-condition-3.field-0.0 (omega (arith, c.requires.count)) c.index-arguments-2.is
    (part_among c.args.context.now (term_form y.term) c.in_err-condition-3.ensures c.check_term-second.ensures) in
    search rules

pub check_choice-returns : goal.check_choice-returns
check_choice-returns t c =
    let X = c.args.context.now in
    let xs = c.args.arguments.now in
    let q = get_or xs 0 c.index-arguments-0.result in
    let x = get_or xs 1 c.index-arguments-1.result in
    let y = get_or xs 2 c.index-arguments-2.result in
    let kept = c.in_ok-condition-3.ensures.0 in
    let first = part_checked X (term_form x.term) c.in_ok-condition-2.ensures.1 c.check_term-first.ensures in
    choice_node X (named c.args.name.now) xs q x y c.in_ok-condition-3.condition c.in_ok-condition-3.x c.in_ok-condition-3.y c.choose.result c.requires.function
    (three_arguments xs c.index-arguments-0.result c.index-arguments-1.result c.index-arguments-2.result c.requires.count)
    (kept_checked X (term_form q.term) (ap (λ p. p.0) kept ∙ c.in_ok-condition-2.ensures.0) c.in_ok-condition.ensures)
    (kept_checked X (term_form x.term) (ap (λ p. p.1) kept) first) (part_checked X (term_form y.term) c.in_ok-condition-3.ensures.1 c.check_term-second.ensures) c.choose.ensures

-- ---- arithmetic

pub check_arithmetic-returns-in_err-head : goal.check_arithmetic-returns-in_err-head
check_arithmetic-returns-in_err-head t c =
    let all = calculated-faults (text_in c.args.context.now) false (scope_in c.args.context.now) (term_form c.args.first.now) c.args.links.now in
    let h = among_first _ _ _ c.in_err-head.field-0.0 all c.in_err-head.ensures in
    search rules

pub check_arithmetic-returns-in_err-first : goal.check_arithmetic-returns-in_err-first
check_arithmetic-returns-in_err-first t c =
    let here = subst (ChecksOperands (λ found. found.0.items) (λ found. found.1) c.args.context.now (shape_view c.in_ok-head.head.shape) c.args.links.now) c.in_err-first.ensures
    c.check_operands-operands.ensures in
    let h = operands_among c.args.context.now c.args.first.now c.args.links.now c.in_err-first.field-0.0 c.in_ok-head.ensures.0 c.in_ok-head.ensures.1.0 here in
    search rules

pub check_arithmetic-returns : goal.check_arithmetic-returns
check_arithmetic-returns t c =
    let links = c.args.links.now in
    let head = c.in_ok-head.ensures in
    let found = subst (ChecksOperands (λ found. found.0.items) (λ found. found.1) c.args.context.now (shape_view c.in_ok-head.head.shape) links) c.in_ok-first.ensures.1
    c.check_operands-operands.ensures in (
      operands_parts c.args.context.now c.args.first.now links head.0 head.1.0 ∙ found.0,
      (
        found.2 ∙ calculated_by c.args.context.now c.args.first.now links head.1.0,
        made.term-arithmetic c.in_ok-new.field-0 c.in_ok-first.links
            ∙ calculated_term c.args.context.now c.args.first.now links (ap term_view (c.in_ok-new.ensures.ok ∙ c.in_ok-first.ensures.0) ∙ head.1.1) found.1,
      ),
    )

pub check_operands-loop-link-init : goal.check_operands-loop-link-init
check_operands-loop-link-init t c = none_calculated c.args.context.now c.args.links.now (shape_view c.args.first) c.in_ok-operands.ensures.items

pub check_operands-check_term-requires : goal.check_operands-check_term-requires
check_operands-check_term-requires t c =
    omega (arith, c.decreases, operand_lighter c.args.links.now c.loop-link.link-index c.link-item.result c.loop-link-test.true c.link-item.is)

pub check_operands-returns-in_err-right : goal.check_operands-returns-in_err-right
check_operands-returns-in_err-right t c =
    let h = among_first _ _ _ c.in_err-right.field-0.0 (operand_parts c.loop-link.invariant c.loop-link-test.true c.link-item.is) c.in_err-right.ensures in
    search rules

pub check_operands-returns-in_err-operand : goal.check_operands-returns-in_err-operand
check_operands-returns-in_err-operand t c =
    let h = operator_among c.in_ok-right.right c.loop-link.invariant c.loop-link-test.true c.link-item.is c.in_ok-right.ensures c.in_err-operand.ensures c.compute-whole.ensures in
    search rules

pub check_operands-loop-link-preserved : goal.check_operands-loop-link-preserved
check_operands-loop-link-preserved t c =
    one_calculated c.in_ok-right.right c.loop-link.invariant c.loop-link-test.true c.link-item.is c.in_ok-right.ensures c.in_ok-operand.ensures.0 c.in_ok-operand.ensures.1
    c.compute-whole.ensures c.in_ok-push.ensures.items

pub check_operands-returns : goal.check_operands-returns
check_operands-returns t c = operands_ended c.loop-link.invariant c.loop-link-test.false

-- ---- chains

pub check_links-loop-index-init : goal.check_links-loop-index-init
check_links-loop-index-init t c = none_checked c.args.context.now c.args.links.now (shape_view c.args.first) c.in_ok-operands.ensures.items

pub check_links-check_link-requires : goal.check_links-check_link-requires
check_links-check_link-requires t c =
    omega (arith, c.decreases, link_lighter c.args.links.now c.loop-index.index c.index-links-index.result c.loop-index-test.true c.index-links-index.is)

pub check_links-returns-in_err-operand : goal.check_links-returns-in_err-operand
check_links-returns-in_err-operand t c =
    let h = among_first _ _ _ c.in_err-operand.field-0.0 (next_parts c.loop-index.invariant c.loop-index-test.true c.index-links-index.is) c.in_err-operand.ensures in
    search rules

pub check_links-loop-index-preserved : goal.check_links-loop-index-preserved
check_links-loop-index-preserved t c =
    one_checked c.in_ok-operand.operand c.loop-index.invariant c.loop-index-test.true c.index-links-index.is c.in_ok-push.ensures.items c.in_ok-operand.ensures

pub check_links-returns : goal.check_links-returns
check_links-returns t c = links_ended c.loop-index.invariant c.loop-index-test.false

pub check_link-returns-in_err-operand : goal.check_link-returns-in_err-operand
check_link-returns-in_err-operand t c =
    let h = operand_among (text_in c.args.context.now) false (scope_in c.args.context.now) (shape_view c.args.left) c.args.link.now c.args.more c.in_err-operand.field-0.0
    c.in_err-operand.ensures in
    search rules

pub check_chain-returns-in_err-head : goal.check_chain-returns-in_err-head
check_chain-returns-in_err-head t c =
    let h = among_first _ _ _ c.in_err-head.field-0.0
    (chained-faults (text_in c.args.context.now) false (scope_in c.args.context.now) c.args.connective (term_form c.args.first.now) c.args.links.now) c.in_err-head.ensures in
    search rules

pub check_chain-returns-then-is_empty : goal.check_chain-returns-then-is_empty
check_chain-returns-then-is_empty t c =
    lone_chain c.args.context.now c.args.connective c.args.first.now c.args.links.now (Ok c.in_ok-head.head) (sym c.is_empty.ensures ∙ c.if-is_empty.true) c.in_ok-head.ensures

pub check_chain-returns-in_err-first : goal.check_chain-returns-in_err-first
check_chain-returns-in_err-first t c =
    let h = others_among c.args.context.now c.args.connective c.args.first.now c.args.links.now c.in_ok-head.ensures.0 c.in_ok-head.ensures.1.0 c.in_err-first.ensures
    c.check_links-operands.ensures in
    search rules

pub check_chain-returns : goal.check_chain-returns
check_chain-returns t c =
    let first = c.args.first.now in
    let checked = c.in_ok-head.ensures in
    let others = others_clear c.args.context.now c.args.connective first c.args.links.now checked.0 checked.1.0 c.in_ok-first.ensures.1 c.check_links-operands.ensures in (
      others.0,
      (
        sym (some-shape (text_in c.args.context.now) (scope_in c.args.context.now) c.args.connective (term_form first) c.args.links.now (sym c.is_empty.ensures ∙ c.if-is_empty.false)),
        made.term-chain c.args.connective c.in_ok-new.field-0 c.in_ok-first.links
            ∙ chain_term c.args.context.now c.args.connective first c.args.links.now (ap term_view (c.in_ok-new.ensures.ok ∙ c.in_ok-first.ensures.0) ∙ checked.1.1) others.1,
      ),
    )

-- ---- nodes

pub check_term-check_chain-requires : goal.check_term-check_chain-requires
check_term-check_chain-requires t c =
    omega (
      arith,
      c.decreases,
      ap weight c.in-Chain.is ∙ weight-chain c.in-Chain.connective c.in-Chain.first c.in-Chain.links,
      ap weight c.deref-in-Chain.ensures,
      ap links_weight c.deref-in-Chain-2.ensures.value,
    )

pub check_term-check_arithmetic-requires : goal.check_term-check_arithmetic-requires
check_term-check_arithmetic-requires t c =
    omega (
      arith,
      c.decreases,
      ap weight c.in-Arithmetic.is ∙ weight-arithmetic c.in-Arithmetic.first c.in-Arithmetic.links,
      ap weight c.deref-in-Arithmetic.ensures,
      ap arithmetic_weight c.deref-in-Arithmetic-2.ensures.value,
    )

pub check_term-check_application-requires : goal.check_term-check_application-requires
check_term-check_application-requires t c =
    omega (arith, c.decreases, ap weight c.in-Application.is ∙ weight-application c.in-Application.function c.in-Application.arguments, ap arguments_weight c.deref-in-Application.ensures.value)

pub check_term-returns-in-Chain : goal.check_term-returns-in-Chain
check_term-returns-in-Chain t c =
    let node = chain-node c.in-Chain.connective c.in-Chain.first c.in-Chain.links c.in-Chain.is c.deref-in-Chain.ensures c.deref-in-Chain-2.ensures.value in
    term_node c.args.context.now c.check_chain.result node c.check_chain.ensures

pub check_term-returns-in-Arithmetic : goal.check_term-returns-in-Arithmetic
check_term-returns-in-Arithmetic t c =
    let node = arithmetic-node c.in-Arithmetic.first c.in-Arithmetic.links c.in-Arithmetic.is c.deref-in-Arithmetic.ensures c.deref-in-Arithmetic-2.ensures.value in
    term_node c.args.context.now c.check_arithmetic.result node c.check_arithmetic.ensures

pub check_term-returns-in-Application : goal.check_term-returns-in-Application
check_term-returns-in-Application t c =
    let node = application-node c.in-Application.function c.in-Application.arguments c.in-Application.is c.deref-in-Application.ensures.value in
    term_node c.args.context.now c.check_application.result node c.check_application.ensures

pub check_term-returns-in_err-operand-in-Not : goal.check_term-returns-in_err-operand-in-Not
check_term-returns-in_err-operand-in-Not t c =
    let h = not_operand (text_in c.args.context.now) false (scope_in c.args.context.now) c.in-Not.place c.in-Not.operand c.in_err-operand-in-Not.field-0.0 c.in-Not.is c.deref.ensures
    c.in_err-operand-in-Not.ensures in
    search rules

pub check_term-returns-in_ok-operand-in-Not : goal.check_term-returns-in_ok-operand-in-Not
check_term-returns-in_ok-operand-in-Not t c =
    not_node c.args.context.now c.in-Not.place c.in-Not.operand c.in_ok-operand-in-Not.operand c.negated.result c.in-Not.is c.deref.ensures c.in_ok-operand-in-Not.ensures c.negated.ensures

pub check_term-returns-in_err-operand-in-Negative : goal.check_term-returns-in_err-operand-in-Negative
check_term-returns-in_err-operand-in-Negative t c =
    let h = negative_operand c.args.context.now c.in-Negative.place c.in-Negative.operand c.in_err-operand-in-Negative.field-0.0 c.in-Negative.is c.deref-in-Negative.ensures
    c.in_err-operand-in-Negative.ensures in
    search rules

pub check_term-returns-in_ok-operand-in-Negative : goal.check_term-returns-in_ok-operand-in-Negative
check_term-returns-in_ok-operand-in-Negative t c =
    negative_node c.args.context.now c.in-Negative.place c.in-Negative.operand c.in_ok-operand-in-Negative.operand c.operated.result c.in-Negative.is c.deref-in-Negative.ensures
    c.in_ok-operand-in-Negative.ensures c.operated.ensures

pub check_term-returns-in_err-first-in-Comparison : goal.check_term-returns-in_err-first-in-Comparison
check_term-returns-in_err-first-in-Comparison t c =
    let n = c.in-Comparison in
    let h = comparison_left c.args.context.now n.place n.comparison n.left n.right c.in_err-first-in-Comparison.field-0.0 n.is c.deref-in-Comparison.ensures
    c.in_err-first-in-Comparison.ensures in
    search rules

pub check_term-returns-in_err-left-in-Comparison : goal.check_term-returns-in_err-left-in-Comparison
check_term-returns-in_err-left-in-Comparison t c =
    let here = part_among c.args.context.now (term_form c.deref-in-Comparison-2.result.now) c.in_err-left-in-Comparison.ensures c.check_term-second.ensures in
    let h = comparison_right c.args.context.now c.in-Comparison.place c.in-Comparison.comparison c.in-Comparison.left c.in-Comparison.right c.in_err-left-in-Comparison.field-0.0
    c.in-Comparison.is c.deref-in-Comparison-2.ensures here in
    search rules

pub check_term-returns-in_ok-left-in-Comparison : goal.check_term-returns-in_ok-left-in-Comparison
check_term-returns-in_ok-left-in-Comparison t c =
    let both = c.in_ok-left-in-Comparison in
    let first = kept_checked c.args.context.now (term_form c.deref-in-Comparison.result.now) both.ensures.0 c.in_ok-first-in-Comparison.ensures in
    let second = part_checked c.args.context.now (term_form c.deref-in-Comparison-2.result.now) both.ensures.1 c.check_term-second.ensures in
    comparison_node c.args.context.now c.in-Comparison.place c.in-Comparison.comparison c.in-Comparison.left c.in-Comparison.right both.left both.right c.compared.result
    c.in-Comparison.is c.deref-in-Comparison.ensures c.deref-in-Comparison-2.ensures first second c.compared.ensures
