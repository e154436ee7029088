use Rattle.std.proofs.Common.{arith, ◌≡◌, ◌∙◌, sym, map, ap}
use Rattle.std.proofs.lemmas.Grind.{common_steps}
use Rattle.pb_text_tree.specs.Form.{term_form, term_links, arithmetic_links, argument_forms, variable_forms}
use Rattle.pb_text_tree.proofs.CopyLemmas.{placed_argument, arguments-copied, not-copied, negative-copied, comparison-copied, chain-copied, arithmetic-copied, application-copied, quantified-copied}
use Rattle.pb_text_tree.proofs.term_copies.+terms.Goals as goal

pub copy_term-returns-in_ok-copy_boxed-in-Not : goal.copy_term-returns-in_ok-copy_boxed-in-Not
copy_term-returns-in_ok-copy_boxed-in-Not t c =
    not-copied c.in-Not.place c.in_ok-copy_boxed-in-Not.field-0 c.in-Not.operand c.args.term.now c.in-Not.is c.in_ok-copy_boxed-in-Not.ensures

pub copy_term-returns-in_ok-copy_boxed-in-Negative : goal.copy_term-returns-in_ok-copy_boxed-in-Negative
copy_term-returns-in_ok-copy_boxed-in-Negative t c =
    negative-copied c.in-Negative.place c.in_ok-copy_boxed-in-Negative.field-0 c.in-Negative.operand c.args.term.now c.in-Negative.is c.in_ok-copy_boxed-in-Negative.ensures

pub copy_term-returns-in_ok-copy_links-in-Chain : goal.copy_term-returns-in_ok-copy_links-in-Chain
copy_term-returns-in_ok-copy_links-in-Chain t c =
    chain-copied c.in-Chain.connective c.in_ok-copy_boxed-in-Chain.field-0 c.in-Chain.first c.in_ok-copy_links-in-Chain.field-0 c.in-Chain.links c.args.term.now c.in-Chain.is
    c.in_ok-copy_boxed-in-Chain.ensures (c.in_ok-copy_links-in-Chain.ensures ∙ ap term_links c.deref.ensures.value)

pub copy_term-returns-in_ok-copy_boxed-in-Comparison-2 : goal.copy_term-returns-in_ok-copy_boxed-in-Comparison-2
copy_term-returns-in_ok-copy_boxed-in-Comparison-2 t c =
    comparison-copied c.in-Comparison.place c.in-Comparison.comparison c.in_ok-copy_boxed-in-Comparison.field-0 c.in-Comparison.left
    c.in_ok-copy_boxed-in-Comparison-2.field-0 c.in-Comparison.right c.args.term.now c.in-Comparison.is
    c.in_ok-copy_boxed-in-Comparison.ensures c.in_ok-copy_boxed-in-Comparison-2.ensures

pub copy_term-returns-in_ok-copy_operations-in-Arithmetic : goal.copy_term-returns-in_ok-copy_operations-in-Arithmetic
copy_term-returns-in_ok-copy_operations-in-Arithmetic t c =
    arithmetic-copied c.in_ok-copy_boxed-in-Arithmetic.field-0 c.in-Arithmetic.first c.in_ok-copy_operations-in-Arithmetic.field-0 c.in-Arithmetic.links c.args.term.now c.in-Arithmetic.is
    c.in_ok-copy_boxed-in-Arithmetic.ensures (c.in_ok-copy_operations-in-Arithmetic.ensures ∙ ap arithmetic_links c.deref-in-Arithmetic.ensures.value)

pub copy_term-returns-in_ok-copy_arguments-in-Application : goal.copy_term-returns-in_ok-copy_arguments-in-Application
copy_term-returns-in_ok-copy_arguments-in-Application t c =
    application-copied c.in_ok-copy_name-in-Application.field-0 c.in-Application.function c.in_ok-copy_arguments-in-Application.field-0 c.in-Application.arguments c.args.term.now c.in-Application.is
    c.in_ok-copy_name-in-Application.ensures (c.in_ok-copy_arguments-in-Application.ensures ∙ ap argument_forms c.deref-in-Application.ensures.value)

pub copy_term-returns-in_ok-copy_boxed-in-Quantified : goal.copy_term-returns-in_ok-copy_boxed-in-Quantified
copy_term-returns-in_ok-copy_boxed-in-Quantified t c =
    quantified-copied c.in-Quantified.place c.in-Quantified.quantifier c.in_ok-copy_variables-in-Quantified.field-0 c.in-Quantified.variables
    c.in_ok-copy_boxed-in-Quantified.field-0 c.in-Quantified.body c.args.term.now c.in-Quantified.is
    (c.in_ok-copy_variables-in-Quantified.ensures ∙ ap variable_forms c.deref-in-Quantified.ensures.value) c.in_ok-copy_boxed-in-Quantified.ensures

pub copy_arguments-returns : goal.copy_arguments-returns
copy_arguments-returns t c =
    let same : map placed_argument c.loop-argument.copies.items ≡ map placed_argument c.args.arguments.now = grind (arith, common_steps) in
    arguments-copied c.loop-argument.copies.items c.args.arguments.now same

pub copy_term-returns-in-Constant : goal.copy_term-returns-in-Constant
copy_term-returns-in-Constant t c = ap term_form (sym c.in-Constant.is)

pub copy_term-returns-in-Number : goal.copy_term-returns-in-Number
copy_term-returns-in-Number t c = ap term_form (sym c.in-Number.is)
