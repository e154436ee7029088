use Rattle.std.proofs.Common.{◌≡◌, ◌∙◌, suc, Bool, true, false, List, [], Some, map, sym, ap, subst, refl, drop, string_bytes, length, get_or, arith, ◌<◌, vec_len, ℕ, inl, inr}
use Rattle.std.proofs.lemmas.Bool.Decides.{nat_tests}
use Rattle.pb_protocol_unfolder_terms.specs.declared.array.Choices.{Choices}
use Rattle.pb_text_tree.specs.declared.place.Place.{Place}
use Rattle.pb_text_meaning.specs.Syntax.{Name, Operator, Term, Terms}
use Rattle.pb_text_meaning.specs.Erase.{erased_term, erased_variables}
use Rattle.pb_protocol_unfolder_terms.specs.Chains.{HasLinks, deciding, operands_of, outcome}
use Rattle.pb_protocol_unfolder_terms.proofs.ChainLemmas.{arithmetic-links, chain-links, err-kept, chain-is, chain-means, application-is, application-means}
use Rattle.pb_protocol_folding.specs.View as tree
use Rattle.pb_protocol_unfolding.specs.PutIn.{choices, read}
use Rattle.pb_protocol_unfolder_terms.specs.View.{spec_of, variable_of}
use Rattle.pb_protocol_unfolder_terms.specs.Scopes.{scope_of}
use Rattle.pb_protocol_unfolder_terms.specs.Contexts.{forms_in, folding_in, spec_in}
use Rattle.pb_protocol_unfolder_terms.specs.Unfolding.{IsRefusal, IsUnfolded, Unfolds}
use Rattle.pb_protocol_unfolder_terms.specs.Values.{written_term, tuple_of}
use Rattle.pb_protocol_unfolder_terms.proofs.UnfoldLemmas.{comparison-means, comparison-refused, comparison-unfolded, function-unfolded, name-unfolded, operator-unfolded, value-unfolded}
use Rattle.pb_text_tree.specs.Form.{Named, argument_forms, variable_forms, TermForm, chained, named, term_form, term_links}
use Rattle.pb_text_meaning.specs.Functions.{named_function}
use Rattle.pb_protocol_folding.specs.Folding.{is_if}
use Rattle.pb_protocol_folding.specs.Kept.{truth_counts}
use Rattle.pb_protocol_unfolding.specs.Written.{written_tuples, written_values}
use Rattle.pb_protocol_unfolder_terms.specs.Puts.{element_by, put, puts}
use Rattle.pb_protocol_unfolder_terms.proofs.ArgumentLemmas.{none-of}
use Rattle.pb_protocol_unfolder_terms.proofs.ChoiceLemmas.{choice-held, if-named}
use Rattle.pb_protocol_unfolder_terms.proofs.OperandLemmas.{IsChainLeft, IsRestOf, chain-form, last-refused, left-decided, left-further, left-last, left-refused, left-without-room, operands-more, chain-left, chain-over}
use Rattle.pb_protocol_unfolder_terms.proofs.ReadLemmas.{choices-none, choices-one, last-holds, read-itself, read-nothing, are-others, unwritten-by, written-read, chosen-read}
use Rattle.pb_protocol_unfolder_terms.proofs.TermLemmas.{arithmetic-is, arithmetic-means, quantified-means}
use Rattle.std.proofs.lemmas.Bool.{false≢true}
use Rattle.pb_protocol_unfolder_terms.specs.Met.{Occurrence, at}
use Rattle.pb_protocol_unfolder_terms.specs.Tells.{AreChoicesMet, IsArrayMet, IsFaultOf, IsMetAt, IsTermMet, scope_said, surroundings_in}
use Rattle.pb_protocol_unfolder_terms.proofs.LargeLemmas.{arithmetic-token, chain-token, depth-told, first-many, room-told, values-told, token-met, name-met}
use Rattle.pb_protocol_unfolder_terms.proofs.MetLemmas.{argument-at-met, array-first, err-told, index-outside, item-in, told, part-met, first-part-met, link-part-met, chain-part-met, given-met, argument-part-met, same-met}
use Rattle.pb_protocol_unfolder_terms.proofs.DeepLemmas.{array-deep, choice-first, choices-deep, choices-further, choices-met, element-met, unwritten-levels}
use Rattle.pb_protocol_unfolder_terms.proofs.ProtocolLemmas.{mapped-length}
use Rattle.pb_protocol_unfolder_terms.proofs.ConditionalLemmas.{IsConditional, conditional, branch-unfolded, branch-refused, second-refused, both-unfolded}
use Rattle.pb_protocol_unfolder_terms.proofs.ChoosingLemmas.{IsChoosing, choosing, choosing-without-room, first-known, known-refused, known-unfolded, known-without-room, further_values, decided-unfolded, decided-refused, first-refused, further-refused, further-unfolded}
use Rattle.pb_protocol_unfolder_terms.proofs.CalculationLemmas.{first-operand-refused, first-calculated, operator-without-room, operand-refused, further-calculated, all-calculated}
use Rattle.pb_protocol_unfolder_terms.proofs.CopyLemmas.{AreAllCopies, IsCopyLeft, copies-form, copy-left, tuples-written, copied-said, none-said, copies-met, copy-met}
use Rattle.pb_protocol_unfolder_terms.specs.declared.meant.Meant.TheVariants as meant
use Rattle.pb_protocol_unfolder_terms.proofs.MeantLemmas.{applied-definition-met, bare-applied, applied-variable-met, argument-term-met, bare-definition-met, bare-definition-unfolded, definition-unfolded, meant-unfolded, variable-unfolded}
use Rattle.pb_protocol_unfolder_terms.proofs.GivenLemmas.{none-unfolded, next-argument-refused, next-argument-unfolded, all-unfolded}
use Rattle.pb_protocol_unfolder_terms.proofs.SumLemmas.{all-summed, count-said, counted-at-met, counting-deep, counting-none, counting-other, counting-quantified, counting-quantifier-met}
use Rattle.pb_protocol_unfolder_terms.proofs.SumLemmas.{first-one-refused, first-summed, next-one-refused, further-summed, none-counted, one-refused, one-unfolded, one-without-room, quantified-counted, sum-without-room, tuple-there}
use Rattle.std.specs.Cmp.Lexicographic.{same_text}
use Rattle.pb_text_counting.specs.Counting.{counting, is_counting}
use Rattle.pb_protocol_unfolder_terms.proofs.+unfolding.Goals as goal
use Rattle.pb_protocol_unfolder_terms.proofs.+unfolding.Goals.{applications::unfold_choice-After-truth_value, connectives::unfold_copies-After-behind_one, connectives::unfold_operands-After-behind_one, connectives::unfold_operands-After-truth_counts-truth, connectives::unfold_quantified-After-unfold_copies, counting::unfold_counted-After-unfold_sum, reads::unfold_choices-After-truth_value}

pub unfold::unfold_opened-returns-in_ok-negation-in-Not-clause-term : goal.unfold::unfold_opened-returns-in_ok-negation-in-Not-clause-term
unfold::unfold_opened-returns-in_ok-negation-in-Not-clause-term t c =
    operator-unfolded c.args.context.now Term.Not
    (ap (λ y. Term.Not (put c.args.context.now c.args.level.definitions c.args.scope.now (tree.term_of y))) c.deref.ensures ∙ ap
    (λ y. put c.args.context.now c.args.level.definitions c.args.scope.now (tree.term_of y)) (sym c.in-Not.is))
    c.folding.ensures c.in_ok-room-in-Not.ensures c.in_ok-operand-in-Not.ensures.term c.in_ok-negation-in-Not.ensures

pub unfold::unfold_opened-returns-in_ok-negative-in-Negative-clause-term : goal.unfold::unfold_opened-returns-in_ok-negative-in-Negative-clause-term
unfold::unfold_opened-returns-in_ok-negative-in-Negative-clause-term t c =
    operator-unfolded c.args.context.now Term.Negative
    (ap (λ y. Term.Negative (put c.args.context.now c.args.level.definitions c.args.scope.now (tree.term_of y))) c.deref-in-Negative.ensures ∙ ap
    (λ y. put c.args.context.now c.args.level.definitions c.args.scope.now (tree.term_of y)) (sym c.in-Negative.is))
    c.folding-in-Negative.ensures c.in_ok-room-in-Negative.ensures c.in_ok-operand-in-Negative.ensures.term c.in_ok-negative-in-Negative.ensures

pub unfold::unfold_free-returns-in-Definition-clause-term : goal.unfold::unfold_free-returns-in-Definition-clause-term
unfold::unfold_free-returns-in-Definition-clause-term t c =
    bare-definition-unfolded c.args.context.now c.args.level c.in-Definition.definition c.in-Definition.before c.unfold.result c.as_str.ensures.value
    (c.in-Definition.ensures.meant Terms.NoTerms refl) c.unfold.ensures.term

pub unfold::unfold_free-returns-in_ok-bare_variable-in-Variable-clause-term : goal.unfold::unfold_free-returns-in_ok-bare_variable-in-Variable-clause-term
unfold::unfold_free-returns-in_ok-bare_variable-in-Variable-clause-term t c =
    name-unfolded c.args.context.now c.args.level c.in_ok-bare_variable-in-Variable.field-0 c.as_str.ensures.value (c.in-Variable.ensures.meant Terms.NoTerms refl)
    (c.in_ok-bare_variable-in-Variable.ensures (folding_in c.args.context.now) (spec_in c.args.context.now) c.args.level.truth)

pub unfold::unfold_free-returns-in_ok-own_name-in-Neither-clause-term : goal.unfold::unfold_free-returns-in_ok-own_name-in-Neither-clause-term
unfold::unfold_free-returns-in_ok-own_name-in-Neither-clause-term t c =
    name-unfolded c.args.context.now c.args.level c.in_ok-own_name-in-Neither.field-0 c.as_str.ensures.value (c.in-Neither.ensures.meant Terms.NoTerms refl)
    (c.in_ok-own_name-in-Neither.ensures c.args.level.truth)

pub unfold::unfold_name-returns-in_ok-value_term-in-Value-clause-term : goal.unfold::unfold_name-returns-in_ok-value_term-in-Value-clause-term
unfold::unfold_name-returns-in_ok-value_term-in-Value-clause-term t c =
    value-unfolded c.args.context.now c.args.level c.args.scope.now c.in-Value.value c.in_ok-value_term-in-Value.field-0 c.as_str.ensures.value
    (c.in-Value.ensures.term (spec_in c.args.context.now) (forms_in c.args.context.now)) c.folding.ensures (c.in_ok-value_term-in-Value.ensures c.args.level.truth)

pub unfold::unfold_opened-returns-in_ok-comparison-in-Comparison-clause-term : goal.unfold::unfold_opened-returns-in_ok-comparison-in-Comparison-clause-term
unfold::unfold_opened-returns-in_ok-comparison-in-Comparison-clause-term t c =
    comparison-unfolded c.args.context.now (ap (put c.args.context.now c.args.level.definitions c.args.scope.now)
    (comparison-means c.in-Comparison.is c.deref-in-Comparison.ensures c.deref-in-Comparison-2.ensures)) c.folding-in-Comparison.ensures c.in_ok-room-in-Comparison.ensures
    c.in_ok-left-in-Comparison.ensures.term (rw c.in_ok-left-in-Comparison-2.ensures.1 at c.unfold-right.ensures.term)
    (rw c.in_ok-left-in-Comparison-2.ensures.0 at c.in_ok-comparison-in-Comparison.ensures)

pub unfold::unfold_opened-returns-in_err-left-in-Comparison-2-clause-term : goal.unfold::unfold_opened-returns-in_err-left-in-Comparison-2-clause-term
unfold::unfold_opened-returns-in_err-left-in-Comparison-2-clause-term t c =
    comparison-refused c.args.context.now c.args.level.truth
    (ap (put c.args.context.now c.args.level.definitions c.args.scope.now) (comparison-means c.in-Comparison.is c.deref-in-Comparison.ensures c.deref-in-Comparison-2.ensures))
    c.from_residual-in_err-left-in-Comparison-2.result c.in_err-left-in-Comparison-2.field-0.0 c.from_residual-in_err-left-in-Comparison-2.ensures.1 c.in_ok-room-in-Comparison.ensures
    c.in_ok-left-in-Comparison.ensures.term (rw c.in_err-left-in-Comparison-2.ensures at c.unfold-right.ensures.term)

pub applications::unfold_application-returns-in-Definition-clause-term : goal.applications::unfold_application-returns-in-Definition-clause-term
applications::unfold_application-returns-in-Definition-clause-term t c =
    definition-unfolded c.args.context.now c.args.level c.args.scope.now (string_bytes c.args.function.now.text) c.args.arguments.now c.in-Definition.definition c.in-Definition.before c.unfold.result
    (ap is_counting (sym c.as_str.ensures.value) ∙ sym c.is_counting.ensures ∙ c.if-is_counting.false)
    (grind (arith, nat_tests)) c.as_str-2.ensures.value c.in-Definition.ensures.meant c.deref.ensures.value c.unfold.ensures.term

pub unfold::unfold_opened-returns-in-Application-clause-term : goal.unfold::unfold_opened-returns-in-Application-clause-term
unfold::unfold_opened-returns-in-Application-clause-term t c =
    subst (λ (x : Term). Unfolds (folding_in c.args.context.now) c.args.level.truth c.args.level.room (put c.args.context.now c.args.level.definitions c.args.scope.now x)
    c.unfold_application.result)
    (application-means c.in-Application.arguments c.in-Application.is c.deref-in-Application.ensures.value) c.unfold_application.ensures.term

-- the operand that comes next
operand-here : (t : ℕ) (c : connectives::unfold_operands-After-behind_one t)
    → IsChainLeft c.args.context.now c.args.level c.args.scope.now c.args.chain c.loop-link.term.now c.loop-link.link-index c.link-item.result (operands_of c.loop-link.before.items) c.loop-link.room
operand-here t c =
    chain-left c.args.context.now c.args.level c.args.scope.now c.args.chain c.loop-link.term.now c.loop-link.link-index c.link-item.result c.loop-link-test.true c.link-item.is c.loop-link.invariant.0

pub connectives::unfold_operands-loop-link-preserved : goal.connectives::unfold_operands-loop-link-preserved
connectives::unfold_operands-loop-link-preserved t c = (
  left-further (operand-here t (goal.at.connectives::unfold_operands-loop-link-preserved t c).After-behind_one)
      c.in_ok-behind_one.ensures c.in_ok-unfolded.ensures.term (ap operands_of c.in_ok-push.ensures.items ∙ operands-more c.loop-link.before.items _),
  inr (c.link-item.result, item-in c.args.chain.links.now c.loop-link.link-index c.link-item.result c.loop-link-test.true c.link-item.is, refl),
)

pub connectives::unfold_operands-returns-then-decides-clause-operands : goal.connectives::unfold_operands-returns-then-decides-clause-operands
connectives::unfold_operands-returns-then-decides-clause-operands t c =
    left-decided (record { before = c.loop-link.before; last = c.decided-last.result; room = c.in_ok-unfolded.unfolded.room })
    (operand-here t (goal.at.connectives::unfold_operands-returns-then-decides-clause-operands t c).After-behind_one)
    c.in_ok-behind_one.ensures c.in_ok-unfolded.ensures.term (c.decides.ensures c.if-decides.true)
    c.decided-last.ensures refl (chain-form c.args.context.now c.args.level c.args.scope.now c.args.chain c.requires)

-- the last operand is left
last-here : (t : ℕ) (c : connectives::unfold_operands-After-truth_counts-truth t)
    → IsRestOf c.args.context.now c.args.level c.args.scope.now c.args.chain (put c.args.context.now c.args.level.definitions c.args.scope.now (tree.term_of c.loop-link.term.now))
    (operands_of c.loop-link.before.items) c.loop-link.room
last-here t c =
    chain-over c.args.context.now c.args.level c.args.scope.now c.args.chain c.loop-link.term.now c.loop-link.link-index (omega (arith, c.loop-link-test.false)) c.loop-link.invariant.0

pub connectives::unfold_operands-returns-clause-operands : goal.connectives::unfold_operands-returns-clause-operands
connectives::unfold_operands-returns-clause-operands t c =
    left-last (record { before = c.loop-link.before; last = c.in_ok-unfolded-2.unfolded.term; room = c.in_ok-unfolded-2.unfolded.room })
    (last-here t (goal.at.connectives::unfold_operands-returns-clause-operands t c).After-truth_counts-truth)
    (c.truth_counts-truth.ensures ∙ ap (λ xs. truth_counts c.args.level.truth (operands_of xs)) c.deref.ensures.value)
    c.in_ok-unfolded-2.ensures.term.term c.in_ok-unfolded-2.ensures.term.room
    (chain-form c.args.context.now c.args.level c.args.scope.now c.args.chain c.requires)

pub connectives::unfold_operands-returns-in_err-unfolded-2-clause-operands : goal.connectives::unfold_operands-returns-in_err-unfolded-2-clause-operands
connectives::unfold_operands-returns-in_err-unfolded-2-clause-operands t c =
    last-refused (last-here t (goal.at.connectives::unfold_operands-returns-in_err-unfolded-2-clause-operands t c).After-truth_counts-truth)
    c.from_residual-in_err-unfolded-2.result c.in_err-unfolded-2.field-0.0 c.from_residual-in_err-unfolded-2.ensures.1 c.in_err-unfolded-2.ensures.term

-- the copy that comes next
copy-here : (t : ℕ) (c : connectives::unfold_copies-After-behind_one t)
    → IsCopyLeft c.args.context.now c.args.level c.args.scope.now c.args.quantified c.args.copies c.loop-values.values-index c.values-item.result (operands_of c.loop-values.before.items)
    c.loop-values.room
copy-here t c =
    copy-left c.args.context.now c.args.level c.args.scope.now c.args.quantified c.args.copies c.loop-values.values-index c.values-item.result c.loop-values-test.true c.values-item.is
    c.loop-values.invariant

pub connectives::unfold_copies-loop-values-preserved : goal.connectives::unfold_copies-loop-values-preserved
connectives::unfold_copies-loop-values-preserved t c =
    left-further
    (copy-here t (goal.at.connectives::unfold_copies-loop-values-preserved t c).After-behind_one)
    c.in_ok-behind_one.ensures (rw c.deref.ensures.value at c.in_ok-unfolded.ensures.term) (ap operands_of c.in_ok-push.ensures.items ∙ operands-more c.loop-values.before.items _)

pub connectives::unfold_copies-returns-then-decides-clause-operands : goal.connectives::unfold_copies-returns-then-decides-clause-operands
connectives::unfold_copies-returns-then-decides-clause-operands t c =
    left-decided (record { before = c.loop-values.before; last = c.decided-last.result; room = c.in_ok-unfolded.unfolded.room })
    (copy-here t (goal.at.connectives::unfold_copies-returns-then-decides-clause-operands t c).After-behind_one)
    c.in_ok-behind_one.ensures (rw c.deref.ensures.value at c.in_ok-unfolded.ensures.term)
    (c.decides.ensures c.if-decides.true ∙ ap (λ d. Term.Truth (deciding d)) c.joining-connective.ensures)
    (c.decided-last.ensures ∙ ap (λ d. Term.Truth (outcome d)) c.joining-connective.ensures) refl
    (copies-form c.args.context.now c.args.level c.args.scope.now c.args.quantified c.args.copies c.requires)

pub connectives::unfold_copies-returns-in_err-behind_one-clause-operands : goal.connectives::unfold_copies-returns-in_err-behind_one-clause-operands
connectives::unfold_copies-returns-in_err-behind_one-clause-operands t c =
    left-without-room
    (copy-here t (goal.at.connectives::unfold_copies-returns-in_err-behind_one-clause-operands t c).After-behind_one)
    c.from_residual.result c.in_err-behind_one.field-0.0 c.from_residual.ensures.1 c.in_err-behind_one.ensures.0 c.in_err-behind_one.ensures.1

pub connectives::unfold_copies-returns-in_err-unfolded-clause-operands : goal.connectives::unfold_copies-returns-in_err-unfolded-clause-operands
connectives::unfold_copies-returns-in_err-unfolded-clause-operands t c =
    left-refused
    (copy-here t (goal.at.connectives::unfold_copies-returns-in_err-unfolded-clause-operands t c).After-behind_one)
    c.from_residual-in_err-unfolded.result c.in_err-unfolded.field-0.0 c.from_residual-in_err-unfolded.ensures.1 c.in_ok-behind_one.ensures
    (rw c.deref.ensures.value at c.in_err-unfolded.ensures.term)

pub connectives::unfold_quantified-returns-then-is_empty-clause-term : goal.connectives::unfold_quantified-returns-then-is_empty-clause-term
connectives::unfold_quantified-returns-then-is_empty-clause-term t c =
    let v = c.in_ok-tuples.tuples in
    let none : v.items ≡ [] = none-of v.items (vec_len v) (omega (arith, v.ok.0)) (sym c.is_empty.ensures ∙ c.if-is_empty.true) in
    subst (λ (z : Term). IsUnfolded (folding_in c.args.context.now) c.args.level.truth c.args.level.room z c.said_of_none.result)
    (none-said c.args.context.now c.args.level c.args.scope.now c.args.quantified none
    (tuples-written c.args.context.now c.in_ok-tuples.ensures c.sorts.ensures c.deref.ensures.value c.in_ok-variables.ensures))
    (c.said_of_none.ensures (folding_in c.args.context.now) c.args.level.truth)

-- the copies are those of all tuples
copies-here : (t : ℕ) (c : connectives::unfold_quantified-After-unfold_copies t)
    → AreAllCopies c.args.context.now c.args.quantified (record { variables = c.deref-2.result; tuples = c.deref-3.result })
copies-here t c = record {
  variables = ap (map variable_of) c.deref-2.ensures.value ∙ c.in_ok-variables.ensures;
  tuples = ap (map tuple_of) c.deref-3.ensures.value
      ∙ tuples-written c.args.context.now c.in_ok-tuples.ensures c.sorts.ensures c.deref.ensures.value c.in_ok-variables.ensures;
}

pub connectives::unfold_quantified-returns-clause-term : goal.connectives::unfold_quantified-returns-clause-term
connectives::unfold_quantified-returns-clause-term t c =
    subst (λ (z : Term). IsUnfolded (folding_in c.args.context.now) c.args.level.truth c.args.level.room z c.in_ok-joined_operands.field-0)
    (copied-said c.args.context.now c.args.level c.args.scope.now (copies-here t (goal.at.connectives::unfold_quantified-returns-clause-term t c).After-unfold_copies))
    (c.in_ok-joined_operands.ensures (folding_in c.args.context.now) c.args.level.room _ (rw (← c.joining.ensures) at c.in_ok-operands.ensures.operands))

pub connectives::unfold_quantified-returns-in_err-operands-clause-term : goal.connectives::unfold_quantified-returns-in_err-operands-clause-term
connectives::unfold_quantified-returns-in_err-operands-clause-term t c =
    err-kept c.from_residual-in_err-operands.result c.in_err-operands.field-0.0 _ (IsRefusal c.args.level.room _) c.from_residual-in_err-operands.ensures.1
    (subst (λ (z : Term). IsRefusal c.args.level.room z c.in_err-operands.field-0.0)
    (copied-said c.args.context.now c.args.level c.args.scope.now (copies-here t (goal.at.connectives::unfold_quantified-returns-in_err-operands-clause-term t c).After-unfold_copies))
    c.in_err-operands.ensures.operands)

pub applications::unfold_application-returns-in_ok-name-in-Variable-clause-term : goal.applications::unfold_application-returns-in_ok-name-in-Variable-clause-term
applications::unfold_application-returns-in_ok-name-in-Variable-clause-term t c =
    variable-unfolded c.args.context.now c.args.level c.args.scope.now (string_bytes c.args.function.now.text) c.args.arguments.now c.in-Variable.variable c.unfold_read.result
    (ap is_counting (sym c.as_str.ensures.value) ∙ sym c.is_counting.ensures ∙ c.if-is_counting.false)
    (grind (arith, nat_tests)) c.as_str-2.ensures.value c.in-Variable.ensures.meant c.in_ok-name-in-Variable.ensures.text c.deref-in-Variable.ensures.value
    (c.unfold_read.ensures.term c.args.level.truth)

pub applications::unfold_application-returns-in-Neither-clause-term : goal.applications::unfold_application-returns-in-Neither-clause-term
applications::unfold_application-returns-in-Neither-clause-term t c =
    meant-unfolded c.args.context.now c.args.level c.args.scope.now (string_bytes c.args.function.now.text) c.args.arguments.now meant.Neither c.unfold_function-in-Neither.result
    (ap is_counting (sym c.as_str.ensures.value) ∙ sym c.is_counting.ensures ∙ c.if-is_counting.false)
    (grind (arith, nat_tests)) c.as_str-2.ensures.value c.in-Neither.ensures.meant c.unfold_function-in-Neither.ensures.term

pub applications::unfold_arithmetic-returns-in_err-left-clause-term : goal.applications::unfold_arithmetic-returns-in_err-left-clause-term
applications::unfold_arithmetic-returns-in_err-left-clause-term t c =
    first-operand-refused c.args.context.now c.args.level c.args.scope.now (tree.term_of c.args.first.now) c.args.links.now c.from_residual.result c.in_err-left.field-0.0 c.from_residual.ensures.1
    c.in_err-left.ensures.term

pub applications::unfold_arithmetic-loop-link-init : goal.applications::unfold_arithmetic-loop-link-init
applications::unfold_arithmetic-loop-link-init t c =
    first-calculated c.args.context.now c.args.level c.args.scope.now (tree.term_of c.args.first.now) c.args.links.now c.in_ok-left.ensures.term

pub applications::unfold_arithmetic-returns-in_err-before-clause-term : goal.applications::unfold_arithmetic-returns-in_err-before-clause-term
applications::unfold_arithmetic-returns-in_err-before-clause-term t c =
    operator-without-room c.args.context.now c.args.level c.args.scope.now (tree.term_of c.args.first.now) c.args.links.now c.loop-link.link-index c.link-item.result c.loop-link-test.true
    c.link-item.is c.loop-link.invariant c.from_residual-in_err-before.result c.in_err-before.field-0.0 c.from_residual-in_err-before.ensures.1
    (rw c.in_err-before.ensures at c.behind_one-room.ensures).0 (rw c.in_err-before.ensures at c.behind_one-room.ensures).1

pub applications::unfold_arithmetic-returns-in_err-before-2-clause-term : goal.applications::unfold_arithmetic-returns-in_err-before-2-clause-term
applications::unfold_arithmetic-returns-in_err-before-2-clause-term t c =
    operand-refused c.args.context.now c.args.level c.args.scope.now (tree.term_of c.args.first.now) c.args.links.now c.loop-link.link-index c.link-item.result c.loop-link-test.true c.link-item.is
    c.loop-link.invariant
    c.from_residual-in_err-before-2.result c.in_err-before-2.field-0.0 c.from_residual-in_err-before-2.ensures.1 (rw c.in_ok-before.ensures.1 at c.behind_one-room.ensures)
    (rw c.in_err-before-2.ensures at c.unfold-right.ensures.term)

pub applications::unfold_arithmetic-loop-link-preserved : goal.applications::unfold_arithmetic-loop-link-preserved
applications::unfold_arithmetic-loop-link-preserved t c =
    further-calculated c.args.context.now c.args.level c.args.scope.now (tree.term_of c.args.first.now) c.args.links.now c.loop-link.link-index c.link-item.result c.loop-link-test.true
    c.link-item.is c.loop-link.invariant
    c.folding.ensures (rw c.in_ok-before.ensures.1 at c.behind_one-room.ensures) (rw c.in_ok-before-2.ensures.1 at c.unfold-right.ensures.term)
    (rw (c.in_ok-before-2.ensures.0, c.in_ok-before.ensures.0) at c.in_ok-left-2.ensures)

pub applications::unfold_arithmetic-returns-clause-term : goal.applications::unfold_arithmetic-returns-clause-term
applications::unfold_arithmetic-returns-clause-term t c =
    all-calculated c.args.context.now c.args.level c.args.scope.now (tree.term_of c.args.first.now) c.args.links.now c.loop-link.link-index c.requires
    (λ h. omega (arith, h, c.loop-link-test.false)) c.loop-link.invariant

pub applications::unfold_function-returns-clause-term : goal.applications::unfold_function-returns-clause-term
applications::unfold_function-returns-clause-term t c =
    function-unfolded c.args.context.now c.args.level.truth (string_bytes c.args.function.now.text)
    (puts c.args.context.now c.args.level.definitions c.args.scope.now (tree.terms_of c.args.arguments.now)) c.folding.ensures c.in_ok-room.ensures
    (c.is_choice-truth.ensures ∙ ap (λ (g : Name). is_if (named_function g)) c.as_str.ensures.value) c.in_ok-unfolded.ensures.term c.in_ok-function_term.ensures

-- the condition of an `if` is unfolded
condition-here : (t : ℕ) (c : applications::unfold_choice-After-truth_value t)
    → IsConditional c.args.context.now c.args.level c.args.scope.now (string_bytes c.args.function.now.text) c.args.arguments.now c.index-arguments-0.result c.in_ok-condition.condition
condition-here t c =
    conditional c.args.context.now c.args.level c.args.scope.now (string_bytes c.args.function.now.text) c.args.arguments.now c.index-arguments-0.result c.requires.choice c.requires.arguments
    c.in_ok-room.ensures c.in_ok-condition.ensures.term

pub applications::unfold_choice-returns-in_ok-unfold-in-Some-true-clause-term : goal.applications::unfold_choice-returns-in_ok-unfold-in-Some-true-clause-term
applications::unfold_choice-returns-in_ok-unfold-in-Some-true-clause-term t c =
    branch-unfolded (condition-here t (goal.at.applications::unfold_choice-returns-in_ok-unfold-in-Some-true-clause-term t c).After-truth_value)
    true c.index-arguments-1.result (ap Some (sym c.in-Some-true.field-0-test) ∙ c.in-Some-true.ensures) c.in_ok-unfold-in-Some-true.ensures.term c.chosen.ensures

pub applications::unfold_choice-returns-in_err-unfold-in-Some-true-clause-term : goal.applications::unfold_choice-returns-in_err-unfold-in-Some-true-clause-term
applications::unfold_choice-returns-in_err-unfold-in-Some-true-clause-term t c =
    branch-refused (condition-here t (goal.at.applications::unfold_choice-returns-in_err-unfold-in-Some-true-clause-term t c).After-truth_value)
    true c.index-arguments-1.result c.from_residual-in_err-unfold-in-Some-true.result c.in_err-unfold-in-Some-true.field-0.0 c.from_residual-in_err-unfold-in-Some-true.ensures.1
    c.in_err-unfold-in-Some-true.ensures.term

pub applications::unfold_choice-returns-in_ok-unfold-in-Some-false-clause-term : goal.applications::unfold_choice-returns-in_ok-unfold-in-Some-false-clause-term
applications::unfold_choice-returns-in_ok-unfold-in-Some-false-clause-term t c =
    branch-unfolded (condition-here t (goal.at.applications::unfold_choice-returns-in_ok-unfold-in-Some-false-clause-term t c).After-truth_value)
    false c.index-arguments-2.result (ap Some (sym c.in-Some-false.field-0-test) ∙ c.in-Some-false.ensures) c.in_ok-unfold-in-Some-false.ensures.term c.chosen-in-Some-false.ensures

pub applications::unfold_choice-returns-in_err-unfold-in-Some-false-clause-term : goal.applications::unfold_choice-returns-in_err-unfold-in-Some-false-clause-term
applications::unfold_choice-returns-in_err-unfold-in-Some-false-clause-term t c =
    branch-refused (condition-here t (goal.at.applications::unfold_choice-returns-in_err-unfold-in-Some-false-clause-term t c).After-truth_value)
    false c.index-arguments-2.result c.from_residual-in_err-unfold-in-Some-false.result c.in_err-unfold-in-Some-false.field-0.0 c.from_residual-in_err-unfold-in-Some-false.ensures.1
    c.in_err-unfold-in-Some-false.ensures.term

pub applications::unfold_choice-returns-in_err-condition-in-None-clause-term : goal.applications::unfold_choice-returns-in_err-condition-in-None-clause-term
applications::unfold_choice-returns-in_err-condition-in-None-clause-term t c =
    branch-refused (condition-here t (goal.at.applications::unfold_choice-returns-in_err-condition-in-None-clause-term t c).After-truth_value)
    true c.index-arguments-1-in-None.result c.from_residual-in_err-condition-in-None.result c.in_err-condition-in-None.field-0.0 c.from_residual-in_err-condition-in-None.ensures.1
    (rw c.in_err-condition-in-None.ensures at c.unfold-left.ensures.term)

pub applications::unfold_choice-returns-in_err-condition-in-None-2-clause-term : goal.applications::unfold_choice-returns-in_err-condition-in-None-2-clause-term
applications::unfold_choice-returns-in_err-condition-in-None-2-clause-term t c =
    second-refused (condition-here t (goal.at.applications::unfold_choice-returns-in_err-condition-in-None-2-clause-term t c).After-truth_value)
    c.index-arguments-1-in-None.result c.index-arguments-2-in-None.result c.from_residual-in_err-condition-in-None-2.result c.in_err-condition-in-None-2.field-0.0
    c.from_residual-in_err-condition-in-None-2.ensures.1
    (rw c.in_ok-condition-in-None.ensures.1 at c.unfold-left.ensures.term) (rw c.in_err-condition-in-None-2.ensures at c.unfold-right.ensures.term)

pub applications::unfold_choice-returns-in_ok-choice-in-None-clause-term : goal.applications::unfold_choice-returns-in_ok-choice-in-None-clause-term
applications::unfold_choice-returns-in_ok-choice-in-None-clause-term t c =
    both-unfolded (condition-here t (goal.at.applications::unfold_choice-returns-in_ok-choice-in-None-clause-term t c).After-truth_value)
    c.index-arguments-1-in-None.result c.index-arguments-2-in-None.result c.in-Ok.name c.folding.ensures (ap (λ (r : Named). r.text) c.in-Ok.ensures)
    (rw c.in_ok-condition-in-None.ensures.1 at c.unfold-left.ensures.term) (rw c.in_ok-condition-in-None-2.ensures.1 at c.unfold-right.ensures.term)
    (choice-held _ c.in-Ok.name c.in_ok-condition-in-None-2.ensures.0 c.in_ok-condition-in-None.ensures.0 c.in_ok-choice-in-None.ensures)

pub reads::unfold_element-returns-clause-term : goal.reads::unfold_element-returns-clause-term
reads::unfold_element-returns-clause-term t c =
    λ truth. subst (λ (x : Name). Unfolds (folding_in c.args.context.now) truth c.args.level.room (read (spec_in c.args.context.now) x (map variable_of c.args.others.indices.now)
    (puts c.args.context.now c.args.level.definitions c.args.scope.now (tree.terms_of c.args.others.arguments.now))) c.unfold_read.result) c.in_ok-name.ensures.text (c.unfold_read.ensures.term truth)

pub reads::unfold_read-returns-in_default-clause-term : goal.reads::unfold_read-returns-in_default-clause-term
reads::unfold_read-returns-in_default-clause-term t c =
    λ truth. subst (λ (z : Term). IsUnfolded (folding_in c.args.context.now) truth c.args.level.room z c.in_ok-element_term.field-0)
    (sym (read-itself (spec_in c.args.context.now) (forms_in c.args.context.now c.args.level.definitions) (scope_of (spec_in c.args.context.now) (forms_in c.args.context.now) c.args.scope.now)
    (string_bytes c.args.array.name.now.text) c.args.array.indices.now (puts c.args.context.now c.args.level.definitions c.args.scope.now (tree.terms_of c.args.array.arguments.now))
    c.in_default.ensures.value)) (c.in_ok-element_term.ensures (folding_in c.args.context.now) truth)

pub reads::unfold_read-returns-in_default-first-clause-term : goal.reads::unfold_read-returns-in_default-first-clause-term
reads::unfold_read-returns-in_default-first-clause-term t c =
    λ truth. subst (λ (z : Term). IsUnfolded (folding_in c.args.context.now) truth c.args.level.room z c.nothing.result)
    (sym (read-nothing (spec_in c.args.context.now) (forms_in c.args.context.now c.args.level.definitions) (scope_of (spec_in c.args.context.now) (forms_in c.args.context.now) c.args.scope.now)
    (string_bytes c.args.array.name.now.text) c.args.array.indices.now c.args.array.arguments.now c.in-Some.index.now c.in-Some.ensures.value
    c.in_default-first.ensures.value)) (c.nothing.ensures (folding_in c.args.context.now) truth)

pub reads::unfold_read-returns-in-Some-written_as-clause-term : goal.reads::unfold_read-returns-in-Some-written_as-clause-term
reads::unfold_read-returns-in-Some-written_as-clause-term t c =
    let w = c.in-Some-written_as.ensures (put c.args.context.now c.args.level.definitions c.args.scope.now (tree.term_of c.in-Some-first.argument.now.term)) c.in-Ok.ensures.term.form in
    λ truth. subst (λ (z : Term). Unfolds (folding_in c.args.context.now) truth c.args.level.room z c.unfold_element.result)
    (written-read c.args.context.now c.args.level.definitions c.args.scope.now
    (are-others {array = c.args.array} {others = c.others.result} c.in-Some.ensures.value c.in-Some-first.ensures.value c.others.ensures.name c.others.ensures.indices c.others.ensures.arguments)
    c.in-Some-written_as.value
    (ap (map written_term) c.deref.ensures.value ∙ c.in_ok-values.ensures ∙ ap (λ S. written_values S c.in-Some.index.now.sort.now) c.sorts.ensures) w) (c.unfold_element.ensures.term truth)

pub reads::unfold_read-returns-clause-term : goal.reads::unfold_read-returns-clause-term
reads::unfold_read-returns-clause-term t c =
    let t = put c.args.context.now c.args.level.definitions c.args.scope.now (tree.term_of c.in-Some-first.argument.now.term) in
    let g = element_by c.args.context.now c.args.level.definitions c.args.scope.now c.others-2.result in
    λ truth. subst (λ (z : Term). Unfolds (folding_in c.args.context.now) truth c.args.level.room z c.unfold_choices-read.result)
    (ap (λ zs. choices g t (map written_term zs)) (c.deref-2.ensures.value ∙ sym c.deref.ensures.value) ∙ chosen-read c.args.context.now c.args.level.definitions c.args.scope.now
    (are-others {array = c.args.array} {others = c.others-2.result} c.in-Some.ensures.value c.in-Some-first.ensures.value c.others-2.ensures.name c.others-2.ensures.indices
    c.others-2.ensures.arguments)
    (ap (map written_term) c.deref.ensures.value ∙ c.in_ok-values.ensures ∙ ap (λ S. written_values S c.in-Some.index.now.sort.now) c.sorts.ensures)
    (c.in_default-written_as.ensures t c.in-Ok.ensures.term.form))
    (c.unfold_choices-read.ensures.term t truth c.in-Ok.ensures.term.term (omega (arith, c.in-Ok.ensures.term.room, c.saturating_sub.ensures)))

pub reads::unfold_choices-returns-in_default-clause-term : goal.reads::unfold_choices-returns-in_default-clause-term
reads::unfold_choices-returns-in_default-clause-term t c =
    λ t truth said within. subst (λ (z : Term). IsUnfolded (folding_in c.args.context.now) truth c.args.level.room z c.nothing.result)
    (choices-none (element_by c.args.context.now c.args.level.definitions c.args.scope.now c.args.choices.others) t c.args.choices.values.now c.in_default.ensures.value)
    (c.nothing.ensures (folding_in c.args.context.now) truth)

pub reads::unfold_known-returns-in_err-room-clause-term : goal.reads::unfold_known-returns-in_err-room-clause-term
reads::unfold_known-returns-in_err-room-clause-term t c =
    known-without-room c.args.context.now c.args.level c.args.scope.now c.args.choices c.args.value c.operators_taken.result c.operators_taken.ensures
    c.from_residual.result c.in_err-room.field-0.0 c.from_residual.ensures.1 c.in_err-room.ensures.0 c.in_err-room.ensures.1

pub reads::unfold_known-returns-in_err-unfold_element-clause-term : goal.reads::unfold_known-returns-in_err-unfold_element-clause-term
reads::unfold_known-returns-in_err-unfold_element-clause-term t c =
    known-refused c.args.context.now c.args.level c.args.scope.now c.args.choices c.args.value c.operators_taken.result c.operators_taken.ensures c.in_ok-room.room
    c.from_residual-in_err-unfold_element.result c.in_err-unfold_element.field-0.0 c.in_ok-room.ensures c.from_residual-in_err-unfold_element.ensures.1 c.in_err-unfold_element.ensures.term

pub reads::unfold_known-returns-clause-term : goal.reads::unfold_known-returns-clause-term
reads::unfold_known-returns-clause-term t c =
    known-unfolded c.args.context.now c.args.level c.args.scope.now c.args.choices c.args.value c.operators_taken.result c.operators_taken.ensures c.in_ok-room.room
    c.in_ok-room.ensures c.chosen.ensures c.in_ok-unfold_element.ensures.term

pub reads::unfold_choices-returns-then-is_empty-clause-term : goal.reads::unfold_choices-returns-then-is_empty-clause-term
reads::unfold_choices-returns-then-is_empty-clause-term t c =
    let end : length (drop 1 c.args.choices.values.now) ≡ 0 = grind (arith, nat_tests) in
    let k = written_term c.in-Some.value.now in
    λ t truth said within. subst (λ (z : Term). Unfolds (folding_in c.args.context.now) truth c.args.level.room z c.unfold_known.result)
    (choices-one (element_by c.args.context.now c.args.level.definitions c.args.scope.now c.args.choices.others) t c.args.choices.values.now c.in-Some.value.now c.in-Some.ensures.value end)
    (c.unfold_known.ensures.term (Term.Binary Operator.Or (Term.Binary Operator.Equal t k) (Term.Truth true)) (Term.Number 0) truth
    (last-holds (folding_in c.args.context.now) t k) (omega (arith, within)))

-- there are further values, and a condition for the first
choosing-here : (t : ℕ) (c : reads::unfold_choices-After-truth_value t)
    → IsChoosing c.args.context.now c.args.level c.args.scope.now c.args.choices c.in-Some.value.now c.in_ok-condition.condition
choosing-here t c =
    choosing c.args.context.now c.args.level c.args.scope.now c.args.choices c.in_ok-condition.condition c.in-Some.ensures.value (sym c.is_empty.ensures ∙ c.if-is_empty.false) c.folding.ensures
    c.in_ok-condition.ensures

pub reads::unfold_choices-returns-in-Some-true-clause-term : goal.reads::unfold_choices-returns-in-Some-true-clause-term
reads::unfold_choices-returns-in-Some-true-clause-term t c =
    first-known (choosing-here t (goal.at.reads::unfold_choices-returns-in-Some-true-clause-term t c).After-truth_value)
    c.unfold_known-in-Some-true.result (ap Some (sym c.in-Some-true.field-0-test) ∙ c.in-Some-true.ensures) c.unfold_known-in-Some-true.ensures.term

pub reads::unfold_choices-returns-in_ok-unfold_choices-in-Some-false-clause-term : goal.reads::unfold_choices-returns-in_ok-unfold_choices-in-Some-false-clause-term
reads::unfold_choices-returns-in_ok-unfold_choices-in-Some-false-clause-term t c =
    decided-unfolded (choosing-here t (goal.at.reads::unfold_choices-returns-in_ok-unfold_choices-in-Some-false-clause-term t c).After-truth_value)
    false (ap Some (sym c.in-Some-false.field-0-test) ∙ c.in-Some-false.ensures) c.chosen.ensures
    (λ t said within. c.in_ok-unfold_choices-in-Some-false.ensures.term t false said within)

pub reads::unfold_choices-returns-in_err-unfold_choices-in-Some-false-clause-term : goal.reads::unfold_choices-returns-in_err-unfold_choices-in-Some-false-clause-term
reads::unfold_choices-returns-in_err-unfold_choices-in-Some-false-clause-term t c =
    decided-refused (choosing-here t (goal.at.reads::unfold_choices-returns-in_err-unfold_choices-in-Some-false-clause-term t c).After-truth_value)
    false c.from_residual-in_err-unfold_choices-in-Some-false.result c.in_err-unfold_choices-in-Some-false.field-0.0 c.from_residual-in_err-unfold_choices-in-Some-false.ensures.1
    c.in_err-unfold_choices-in-Some-false.ensures.term

pub reads::unfold_choices-returns-in_err-condition-in-None-clause-term : goal.reads::unfold_choices-returns-in_err-condition-in-None-clause-term
reads::unfold_choices-returns-in_err-condition-in-None-clause-term t c =
    let refused = rw c.in_err-condition-in-None.ensures at c.behind_all-room.ensures in
    choosing-without-room (choosing-here t (goal.at.reads::unfold_choices-returns-in_err-condition-in-None-clause-term t c).After-truth_value)
    c.from_residual-in_err-condition-in-None.result c.in_err-condition-in-None.field-0.0 c.from_residual-in_err-condition-in-None.ensures.1 refused.0 (omega (arith, refused.1))

pub reads::unfold_choices-returns-in_err-condition-in-None-2-clause-term : goal.reads::unfold_choices-returns-in_err-condition-in-None-2-clause-term
reads::unfold_choices-returns-in_err-condition-in-None-2-clause-term t c =
    let refused = rw c.in_err-condition-in-None-2.ensures at c.behind_all.ensures in
    choosing-without-room (choosing-here t (goal.at.reads::unfold_choices-returns-in_err-condition-in-None-2-clause-term t c).After-truth_value)
    c.from_residual-in_err-condition-in-None-2.result c.in_err-condition-in-None-2.field-0.0 c.from_residual-in_err-condition-in-None-2.ensures.1 refused.0
    (omega (arith, refused.1, (rw c.in_ok-condition-in-None.ensures.1 at c.behind_all-room.ensures)))

pub reads::unfold_choices-returns-in_err-condition-in-None-3-clause-term : goal.reads::unfold_choices-returns-in_err-condition-in-None-3-clause-term
reads::unfold_choices-returns-in_err-condition-in-None-3-clause-term t c =
    first-refused (choosing-here t (goal.at.reads::unfold_choices-returns-in_err-condition-in-None-3-clause-term t c).After-truth_value)
    c.in_ok-condition-in-None-2.room c.from_residual-in_err-condition-in-None-3.result c.in_err-condition-in-None-3.field-0.0
    (omega (arith, (rw c.in_ok-condition-in-None.ensures.1 at c.behind_all-room.ensures), (rw c.in_ok-condition-in-None-2.ensures.1 at c.behind_all.ensures)))
    c.from_residual-in_err-condition-in-None-3.ensures.1 (rw c.in_err-condition-in-None-3.ensures at c.unfold_element-left.ensures.term)

pub reads::unfold_choices-returns-in_err-condition-in-None-4-clause-term : goal.reads::unfold_choices-returns-in_err-condition-in-None-4-clause-term
reads::unfold_choices-returns-in_err-condition-in-None-4-clause-term t c =
    further-refused (choosing-here t (goal.at.reads::unfold_choices-returns-in_err-condition-in-None-4-clause-term t c).After-truth_value)
    c.in_ok-condition-in-None-2.room c.from_residual-in_err-condition-in-None-4.result c.in_err-condition-in-None-4.field-0.0
    (omega (arith, (rw c.in_ok-condition-in-None.ensures.1 at c.behind_all-room.ensures), (rw c.in_ok-condition-in-None-2.ensures.1 at c.behind_all.ensures)))
    c.from_residual-in_err-condition-in-None-4.ensures.1 (rw c.in_ok-condition-in-None-3.ensures.1 at c.unfold_element-left.ensures.term)
    (rw c.in_err-condition-in-None-4.ensures at c.unfold_choices-right.ensures.term)

pub reads::unfold_choices-choice-requires : goal.reads::unfold_choices-choice-requires
reads::unfold_choices-choice-requires t c =
    ap (λ (f : Name). is_if (named_function f)) c.in-Ok.ensures ∙ if-named

pub reads::unfold_choices-returns-in_ok-choice-in-None-clause-term : goal.reads::unfold_choices-returns-in_ok-choice-in-None-clause-term
reads::unfold_choices-returns-in_ok-choice-in-None-clause-term t c =
    further-unfolded (choosing-here t (goal.at.reads::unfold_choices-returns-in_ok-choice-in-None-clause-term t c).After-truth_value)
    c.in_ok-condition-in-None-2.room c.in-Ok.name (omega (
      arith,
      (rw c.in_ok-condition-in-None.ensures.1 at c.behind_all-room.ensures),
      (rw c.in_ok-condition-in-None-2.ensures.1 at c.behind_all.ensures),
    )) c.folding-in-None.ensures c.in-Ok.ensures
    (rw c.in_ok-condition-in-None-3.ensures.1 at c.unfold_element-left.ensures.term) (rw c.in_ok-condition-in-None-4.ensures.1 at c.unfold_choices-right.ensures.term)
    (choice-held _ c.in-Ok.name c.in_ok-condition-in-None-4.ensures.0 (c.in_ok-condition-in-None-3.ensures.0 ∙ c.in_ok-condition-in-None-2.ensures.0 ∙ c.in_ok-condition-in-None.ensures.0)
    c.in_ok-choice-in-None.ensures)

pub unfold::unfold_opened-returns-in-Arithmetic-clause-term : goal.unfold::unfold_opened-returns-in-Arithmetic-clause-term
unfold::unfold_opened-returns-in-Arithmetic-clause-term t c =
    subst (λ (x : Term). Unfolds (folding_in c.args.context.now) c.args.level.truth c.args.level.room (put c.args.context.now c.args.level.definitions c.args.scope.now x) c.unfold_arithmetic.result)
    (arithmetic-means c.in-Arithmetic.links c.in-Arithmetic.is c.deref-in-Arithmetic.ensures c.deref-in-Arithmetic-2.ensures.value) c.unfold_arithmetic.ensures.term

pub unfold::unfold_opened-returns-in-Quantified-clause-term : goal.unfold::unfold_opened-returns-in-Quantified-clause-term
unfold::unfold_opened-returns-in-Quantified-clause-term t c =
    subst (λ (x : Term). Unfolds (folding_in c.args.context.now) c.args.level.truth c.args.level.room (put c.args.context.now c.args.level.definitions c.args.scope.now x) c.unfold_quantified.result)
    (quantified-means c.in-Quantified.is c.deref-in-Quantified.ensures.value c.deref-in-Quantified-2.ensures) c.unfold_quantified.ensures.term

pub unfold::unfold_opened-returns-in_err-operands-in-Chain-clause-term : goal.unfold::unfold_opened-returns-in_err-operands-in-Chain-clause-term
unfold::unfold_opened-returns-in_err-operands-in-Chain-clause-term t c =
    let e = c.in_err-operands-in-Chain.field-0.0 in
    err-kept c.from_residual-in_err-operands-in-Chain.result e _ (IsRefusal c.args.level.room (put c.args.context.now c.args.level.definitions c.args.scope.now (tree.term_of c.args.term.now)))
    c.from_residual-in_err-operands-in-Chain.ensures.1
    (subst (λ (x : Term). IsRefusal c.args.level.room (put c.args.context.now c.args.level.definitions c.args.scope.now x) e)
    (chain-means c.in-Chain.links c.in-Chain.is c.deref-in-Chain.ensures c.deref-in-Chain-2.ensures.value) c.in_err-operands-in-Chain.ensures.operands)

pub unfold::unfold_opened-returns-in_ok-joined_operands-in-Chain-clause-term : goal.unfold::unfold_opened-returns-in_ok-joined_operands-in-Chain-clause-term
unfold::unfold_opened-returns-in_ok-joined_operands-in-Chain-clause-term t c =
    subst (λ (x : Term). IsUnfolded (folding_in c.args.context.now) c.args.level.truth c.args.level.room (put c.args.context.now c.args.level.definitions c.args.scope.now x)
    c.in_ok-joined_operands-in-Chain.field-0)
    (chain-means c.in-Chain.links c.in-Chain.is c.deref-in-Chain.ensures c.deref-in-Chain-2.ensures.value)
    (c.in_ok-joined_operands-in-Chain.ensures (folding_in c.args.context.now) c.args.level.room _ c.in_ok-operands-in-Chain.ensures.operands)

-- ---- what faults tell

pub unfold::unfold_opened-returns-in_err-operand-in-Not-clause-faults : goal.unfold::unfold_opened-returns-in_err-operand-in-Not-clause-faults
unfold::unfold_opened-returns-in_err-operand-in-Not-clause-faults t c =
    told c.args.context.now c.from_residual-in_err-operand-in-Not.result _ c.from_residual-in_err-operand-in-Not.ensures.1 c.in_err-operand-in-Not.ensures.faults
    (part-met c.args.context.now c.args.level c.args.scope.now c.args.term.now c.deref.result.now c.in-Not.is (ap term_form c.deref.ensures))

pub unfold::unfold_opened-returns-in_err-operand-in-Negative-clause-faults : goal.unfold::unfold_opened-returns-in_err-operand-in-Negative-clause-faults
unfold::unfold_opened-returns-in_err-operand-in-Negative-clause-faults t c =
    told c.args.context.now c.from_residual-in_err-operand-in-Negative.result _ c.from_residual-in_err-operand-in-Negative.ensures.1 c.in_err-operand-in-Negative.ensures.faults
    (part-met c.args.context.now c.args.level c.args.scope.now c.args.term.now c.deref-in-Negative.result.now c.in-Negative.is (ap term_form c.deref-in-Negative.ensures))

pub unfold::unfold_opened-returns-in_err-left-in-Comparison-clause-faults : goal.unfold::unfold_opened-returns-in_err-left-in-Comparison-clause-faults
unfold::unfold_opened-returns-in_err-left-in-Comparison-clause-faults t c =
    told c.args.context.now c.from_residual-in_err-left-in-Comparison.result _ c.from_residual-in_err-left-in-Comparison.ensures.1 c.in_err-left-in-Comparison.ensures.faults
    (part-met c.args.context.now c.args.level c.args.scope.now c.args.term.now c.deref-in-Comparison.result.now c.in-Comparison.is (inl (ap term_form c.deref-in-Comparison.ensures)))

pub unfold::unfold_opened-returns-in_err-left-in-Comparison-2-clause-faults : goal.unfold::unfold_opened-returns-in_err-left-in-Comparison-2-clause-faults
unfold::unfold_opened-returns-in_err-left-in-Comparison-2-clause-faults t c =
    told c.args.context.now c.from_residual-in_err-left-in-Comparison-2.result _ c.from_residual-in_err-left-in-Comparison-2.ensures.1
    (rw c.in_err-left-in-Comparison-2.ensures at c.unfold-right.ensures.faults)
    (part-met c.args.context.now c.args.level c.args.scope.now c.args.term.now c.deref-in-Comparison-2.result.now c.in-Comparison.is (inr (ap term_form c.deref-in-Comparison-2.ensures)))

pub unfold::unfold_opened-returns-in_err-operands-in-Chain-clause-faults : goal.unfold::unfold_opened-returns-in_err-operands-in-Chain-clause-faults
unfold::unfold_opened-returns-in_err-operands-in-Chain-clause-faults t c =
    told c.args.context.now c.from_residual-in_err-operands-in-Chain.result _ c.from_residual-in_err-operands-in-Chain.ensures.1 c.in_err-operands-in-Chain.ensures.faults
    (same-met c.args.context.now c.args.level c.args.scope.now (chain-is c.in-Chain.links c.in-Chain.is c.deref-in-Chain.ensures c.deref-in-Chain-2.ensures.value))

pub unfold::unfold_opened-returns-in-Application-clause-faults : goal.unfold::unfold_opened-returns-in-Application-clause-faults
unfold::unfold_opened-returns-in-Application-clause-faults t c =
    λ w h. c.unfold_application.ensures.faults w
    (same-met c.args.context.now c.args.level c.args.scope.now (application-is c.in-Application.arguments c.in-Application.is c.deref-in-Application.ensures.value) w h)

pub unfold::unfold_opened-returns-in-Arithmetic-clause-faults : goal.unfold::unfold_opened-returns-in-Arithmetic-clause-faults
unfold::unfold_opened-returns-in-Arithmetic-clause-faults t c =
    λ w h. c.unfold_arithmetic.ensures.faults w
    (same-met c.args.context.now c.args.level c.args.scope.now (arithmetic-is c.in-Arithmetic.links c.in-Arithmetic.is c.deref-in-Arithmetic.ensures c.deref-in-Arithmetic-2.ensures.value) w h)

pub unfold::unfold_free-returns-in-Definition-clause-faults : goal.unfold::unfold_free-returns-in-Definition-clause-faults
unfold::unfold_free-returns-in-Definition-clause-faults t c =
    λ ρ w h. c.unfold.ensures.faults w (
      bare-definition-met c.args.context.now c.args.level ρ (named c.args.name.now) c.in-Definition.definition c.in-Definition.before c.as_str.ensures.value c.in-Definition.ensures.named w h,
      tt,
    )

pub applications::unfold_application-returns-in-Definition-clause-faults : goal.applications::unfold_application-returns-in-Definition-clause-faults
applications::unfold_application-returns-in-Definition-clause-faults t c =
    λ w h. c.unfold.ensures.faults w
    (applied-definition-met c.args.context.now c.args.level c.args.scope.now (named c.args.function.now) c.args.arguments.now c.in-Definition.definition c.in-Definition.before c.as_str-2.ensures.value
    c.in-Definition.ensures.named c.deref.ensures.value w h)

pub applications::unfold_application-returns-in_ok-name-in-Variable-clause-faults : goal.applications::unfold_application-returns-in_ok-name-in-Variable-clause-faults
applications::unfold_application-returns-in_ok-name-in-Variable-clause-faults t c =
    λ w h. c.unfold_read.ensures.faults w
    (applied-variable-met c.args.context.now c.args.level c.args.scope.now (named c.args.function.now) c.args.arguments.now c.in-Variable.variable c.as_str-2.ensures.value c.in-Variable.ensures.named
    c.in_ok-name-in-Variable.ensures.place c.deref-in-Variable.ensures.value w h)

pub applications::unfold_application-returns-in-Neither-clause-faults : goal.applications::unfold_application-returns-in-Neither-clause-faults
applications::unfold_application-returns-in-Neither-clause-faults t c =
    λ w h. c.unfold_function-in-Neither.ensures.faults w h

pub applications::unfold_arithmetic-returns-in_err-left-clause-faults : goal.applications::unfold_arithmetic-returns-in_err-left-clause-faults
applications::unfold_arithmetic-returns-in_err-left-clause-faults t c =
    told c.args.context.now c.from_residual.result _ c.from_residual.ensures.1 c.in_err-left.ensures.faults
    (first-part-met c.args.context.now c.args.level c.args.scope.now (term_form c.args.first.now) c.args.links.now c.requires)

pub applications::unfold_arithmetic-returns-in_err-before-2-clause-faults : goal.applications::unfold_arithmetic-returns-in_err-before-2-clause-faults
applications::unfold_arithmetic-returns-in_err-before-2-clause-faults t c =
    told c.args.context.now c.from_residual-in_err-before-2.result _ c.from_residual-in_err-before-2.ensures.1 (rw c.in_err-before-2.ensures at c.unfold-right.ensures.faults)
    (link-part-met c.args.context.now c.args.level c.args.scope.now (term_form c.args.first.now) c.args.links.now c.loop-link.link-index c.link-item.result c.loop-link-test.true c.link-item.is)

pub connectives::unfold_copies-returns-in_err-unfolded-clause-faults : goal.connectives::unfold_copies-returns-in_err-unfolded-clause-faults
connectives::unfold_copies-returns-in_err-unfolded-clause-faults t c =
    told c.args.context.now c.from_residual-in_err-unfolded.result _ c.from_residual-in_err-unfolded.ensures.1 c.in_err-unfolded.ensures.faults
    (copy-met c.args.context.now c.args.level c.args.scope.now c.args.quantified.place c.args.copies (term_form c.args.quantified.body.now) c.loop-values.values-index c.values-item.result
    c.loop-values-test.true c.values-item.is c.deref.ensures.value)

-- the operand that comes next is met
operand-met : (t : ℕ) (c : connectives::unfold_operands-After-behind_one t) → (whole : Occurrence)
    → IsTermMet c.args.context.now (suc c.args.level.depth) c.args.level.definitions c.args.scope.now
    (chained (TermForm.connected c.args.chain.connective) (term_form c.args.chain.first.now) (term_links c.args.chain.links.now)) whole
    → IsTermMet c.args.context.now c.args.level.depth c.args.level.definitions c.args.scope.now (term_form c.loop-link.term.now) whole
operand-met t c = chain-part-met c.args.context.now c.args.level c.args.scope.now c.args.chain (term_form c.loop-link.term.now) c.requires c.loop-link.invariant.1

pub connectives::unfold_operands-returns-in_err-unfolded-clause-faults : goal.connectives::unfold_operands-returns-in_err-unfolded-clause-faults
connectives::unfold_operands-returns-in_err-unfolded-clause-faults t c = λ w h.
    err-told c.from_residual-in_err-unfolded.result _ _ c.from_residual-in_err-unfolded.ensures.1
    (c.in_err-unfolded.ensures.faults w (operand-met t (goal.at.connectives::unfold_operands-returns-in_err-unfolded-clause-faults t c).After-behind_one w h))

pub connectives::unfold_operands-returns-in_err-unfolded-2-clause-faults : goal.connectives::unfold_operands-returns-in_err-unfolded-2-clause-faults
connectives::unfold_operands-returns-in_err-unfolded-2-clause-faults t c =
    told c.args.context.now c.from_residual-in_err-unfolded-2.result _ c.from_residual-in_err-unfolded-2.ensures.1 c.in_err-unfolded-2.ensures.faults
    (chain-part-met c.args.context.now c.args.level c.args.scope.now c.args.chain (term_form c.loop-link.term.now) c.requires c.loop-link.invariant.1)

pub connectives::unfold_quantified-returns-in_err-operands-clause-faults : goal.connectives::unfold_quantified-returns-in_err-operands-clause-faults
connectives::unfold_quantified-returns-in_err-operands-clause-faults t c =
    told c.args.context.now c.from_residual-in_err-operands.result _ c.from_residual-in_err-operands.ensures.1 c.in_err-operands.ensures.faults
    (copies-met c.args.context.now c.args.level c.args.scope.now (copies-here t (goal.at.connectives::unfold_quantified-returns-in_err-operands-clause-faults t c).After-unfold_copies))

pub reads::unfold_read-returns-then-not-is_within-clause-faults : goal.reads::unfold_read-returns-then-not-is_within-clause-faults
reads::unfold_read-returns-then-not-is_within-clause-faults t c =
    λ w h. subst (IsFaultOf (surroundings_in c.args.context.now) w) (sym c.refused-then-not-is_within.ensures)
    (index-outside c.args.context.now c.args.level.definitions c.args.scope.now w c.args.array.indices.now c.args.array.arguments.now c.in-Some.index.now c.in-Some-first.argument.now
    c.in-Some.ensures.value c.in-Some-first.ensures.value c.in-Ok.ensures.term.term (λ seen. false≢true (c.if-not-is_within.ensures.1 seen)) h.read)

-- ---- what is too large

pub unfold::unfold_opened-returns-in_err-room-in-Not-clause-faults : goal.unfold::unfold_opened-returns-in_err-room-in-Not-clause-faults
unfold::unfold_opened-returns-in_err-room-in-Not-clause-faults t c =
    room-told c.args.context.now c.from_residual.result _ c.from_residual.ensures.1 c.in_err-room-in-Not.ensures.0
    (token-met c.args.context.now c.args.level c.args.scope.now c.args.term.now c.in-Not.place c.in-Not.is refl)

pub unfold::unfold_opened-returns-in_err-room-in-Negative-clause-faults : goal.unfold::unfold_opened-returns-in_err-room-in-Negative-clause-faults
unfold::unfold_opened-returns-in_err-room-in-Negative-clause-faults t c =
    room-told c.args.context.now c.from_residual-in_err-room-in-Negative.result _ c.from_residual-in_err-room-in-Negative.ensures.1 c.in_err-room-in-Negative.ensures.0
    (token-met c.args.context.now c.args.level c.args.scope.now c.args.term.now c.in-Negative.place c.in-Negative.is refl)

pub unfold::unfold_opened-returns-in_err-room-in-Comparison-clause-faults : goal.unfold::unfold_opened-returns-in_err-room-in-Comparison-clause-faults
unfold::unfold_opened-returns-in_err-room-in-Comparison-clause-faults t c =
    room-told c.args.context.now c.from_residual-in_err-room-in-Comparison.result _ c.from_residual-in_err-room-in-Comparison.ensures.1 c.in_err-room-in-Comparison.ensures.0
    (token-met c.args.context.now c.args.level c.args.scope.now c.args.term.now c.in-Comparison.place c.in-Comparison.is refl)

pub applications::unfold_arithmetic-returns-in_err-before-clause-faults : goal.applications::unfold_arithmetic-returns-in_err-before-clause-faults
applications::unfold_arithmetic-returns-in_err-before-clause-faults t c =
    room-told c.args.context.now c.from_residual-in_err-before.result _ c.from_residual-in_err-before.ensures.1 (rw c.in_err-before.ensures at c.behind_one-room.ensures).0
    (λ w h. arithmetic-token c.args.context.now (suc c.args.level.depth) c.args.level.definitions (scope_said c.args.context.now c.args.scope.now) w (term_form c.args.first.now) c.args.links.now
    c.loop-link.link-index c.link-item.result c.loop-link-test.true c.link-item.is h.0)

pub applications::unfold_function-returns-in_err-room-clause-faults : goal.applications::unfold_function-returns-in_err-room-clause-faults
applications::unfold_function-returns-in_err-room-clause-faults t c =
    room-told c.args.context.now c.from_residual.result _ c.from_residual.ensures.1 c.in_err-room.ensures.0 (λ w h.
    name-met c.args.context.now c.args.level c.args.scope.now (named c.args.function.now) c.args.arguments.now w h)

pub applications::unfold_function-returns-in_err-unfolded-clause-faults : goal.applications::unfold_function-returns-in_err-unfolded-clause-faults
applications::unfold_function-returns-in_err-unfolded-clause-faults t c =
    told c.args.context.now c.from_residual-in_err-unfolded.result _ c.from_residual-in_err-unfolded.ensures.1 c.in_err-unfolded.ensures.faults
    (given-met c.args.context.now c.args.level c.args.scope.now (named c.args.function.now) c.args.arguments.now)

pub applications::unfold_choice-returns-in_err-room-clause-faults : goal.applications::unfold_choice-returns-in_err-room-clause-faults
applications::unfold_choice-returns-in_err-room-clause-faults t c =
    room-told c.args.context.now c.from_residual.result _ c.from_residual.ensures.1 c.in_err-room.ensures.0
    (name-met c.args.context.now c.args.level c.args.scope.now (named c.args.function.now) c.args.arguments.now)

pub connectives::unfold_copies-returns-in_err-behind_one-clause-faults : goal.connectives::unfold_copies-returns-in_err-behind_one-clause-faults
connectives::unfold_copies-returns-in_err-behind_one-clause-faults t c =
    room-told c.args.context.now c.from_residual.result _ c.from_residual.ensures.1 c.in_err-behind_one.ensures.0 (λ w h. h.2)

pub connectives::unfold_operands-returns-in_err-behind_one-clause-faults : goal.connectives::unfold_operands-returns-in_err-behind_one-clause-faults
connectives::unfold_operands-returns-in_err-behind_one-clause-faults t c =
    room-told c.args.context.now c.from_residual.result _ c.from_residual.ensures.1 c.in_err-behind_one.ensures.0 (λ w h.
    chain-token c.args.context.now (suc c.args.level.depth) c.args.level.definitions (scope_said c.args.context.now c.args.scope.now) w c.args.chain.connective
    (term_form c.args.chain.first.now) c.args.chain.links.now c.loop-link.link-index c.link-item.result c.loop-link-test.true c.link-item.is h.0)

pub connectives::unfold_quantified-returns-in_err-tuples-clause-faults : goal.connectives::unfold_quantified-returns-in_err-tuples-clause-faults
connectives::unfold_quantified-returns-in_err-tuples-clause-faults t c =
    let q = c.args.quantified in
    let form = variable_forms q.variables.now in
    let tuples = tuples-written c.args.context.now {shown = c.deref.result.now} refl c.sorts.ensures c.deref.ensures.value c.in_ok-variables.ensures in
    values-told c.args.context.now (written_tuples (spec_of c.sorts.result) (map variable_of c.deref.result.now)) c.from_residual-in_err-tuples.result _ c.from_residual-in_err-tuples.ensures.1
    c.in_err-tuples.ensures
    (λ w h many. (
      at (suc c.args.level.depth) c.args.level.definitions (scope_said c.args.context.now c.args.scope.now) (TermForm.quantified q.quantifier q.place form (term_form q.body.now)),
      h.0,
      (refl, subst (λ (ts : List (List Term)). 8192 < length ts) tuples many),
    ))

pub reads::unfold_read-returns-in_err-values-clause-faults : goal.reads::unfold_read-returns-in_err-values-clause-faults
reads::unfold_read-returns-in_err-values-clause-faults t c =
    values-told c.args.context.now (written_values (spec_of c.sorts.result) c.in-Some.index.now.sort.now) c.from_residual-in_err-values.result _ c.from_residual-in_err-values.ensures.1
    c.in_err-values.ensures
    (λ w h many. h.read.values (first-many (spec_in c.args.context.now) c.args.array.indices.now c.in-Some.index.now c.in-Some.ensures.value
    (subst (λ S. 8192 < length (written_values S c.in-Some.index.now.sort.now)) c.sorts.ensures many)))

pub applications::unfold_choice-returns-in_err-condition-clause-faults : goal.applications::unfold_choice-returns-in_err-condition-clause-faults
applications::unfold_choice-returns-in_err-condition-clause-faults t c =
    told c.args.context.now c.from_residual-in_err-condition.result _ c.from_residual-in_err-condition.ensures.1 c.in_err-condition.ensures.faults
    (argument-part-met c.args.context.now c.args.level c.args.scope.now (named c.args.function.now) c.args.arguments.now 0 c.index-arguments-0.result (omega (arith, c.requires.arguments))
    c.index-arguments-0.is)

pub applications::unfold_choice-returns-in_err-unfold-in-Some-true-clause-faults : goal.applications::unfold_choice-returns-in_err-unfold-in-Some-true-clause-faults
applications::unfold_choice-returns-in_err-unfold-in-Some-true-clause-faults t c =
    told c.args.context.now c.from_residual-in_err-unfold-in-Some-true.result _ c.from_residual-in_err-unfold-in-Some-true.ensures.1 c.in_err-unfold-in-Some-true.ensures.faults
    (argument-part-met c.args.context.now c.args.level c.args.scope.now (named c.args.function.now) c.args.arguments.now 1 c.index-arguments-1.result (omega (arith, c.requires.arguments))
    c.index-arguments-1.is)

pub applications::unfold_choice-returns-in_err-unfold-in-Some-false-clause-faults : goal.applications::unfold_choice-returns-in_err-unfold-in-Some-false-clause-faults
applications::unfold_choice-returns-in_err-unfold-in-Some-false-clause-faults t c =
    told c.args.context.now c.from_residual-in_err-unfold-in-Some-false.result _ c.from_residual-in_err-unfold-in-Some-false.ensures.1 c.in_err-unfold-in-Some-false.ensures.faults
    (argument-part-met c.args.context.now c.args.level c.args.scope.now (named c.args.function.now) c.args.arguments.now 2 c.index-arguments-2.result (omega (arith, c.requires.arguments))
    c.index-arguments-2.is)

pub applications::unfold_choice-returns-in_err-condition-in-None-clause-faults : goal.applications::unfold_choice-returns-in_err-condition-in-None-clause-faults
applications::unfold_choice-returns-in_err-condition-in-None-clause-faults t c =
    told c.args.context.now c.from_residual-in_err-condition-in-None.result _ c.from_residual-in_err-condition-in-None.ensures.1 (rw c.in_err-condition-in-None.ensures at c.unfold-left.ensures.faults)
    (argument-part-met c.args.context.now c.args.level c.args.scope.now (named c.args.function.now) c.args.arguments.now 1 c.index-arguments-1-in-None.result (omega (arith, c.requires.arguments))
    c.index-arguments-1-in-None.is)

pub applications::unfold_choice-returns-in_err-condition-in-None-2-clause-faults : goal.applications::unfold_choice-returns-in_err-condition-in-None-2-clause-faults
applications::unfold_choice-returns-in_err-condition-in-None-2-clause-faults t c =
    told c.args.context.now c.from_residual-in_err-condition-in-None-2.result _ c.from_residual-in_err-condition-in-None-2.ensures.1
    (rw c.in_err-condition-in-None-2.ensures at c.unfold-right.ensures.faults)
    (argument-part-met c.args.context.now c.args.level c.args.scope.now (named c.args.function.now) c.args.arguments.now 2 c.index-arguments-2-in-None.result (omega (arith, c.requires.arguments))
    c.index-arguments-2-in-None.is)

pub reads::unfold_choices-returns-in_err-condition-in-None-clause-faults : goal.reads::unfold_choices-returns-in_err-condition-in-None-clause-faults
reads::unfold_choices-returns-in_err-condition-in-None-clause-faults t c =
    room-told c.args.context.now c.from_residual-in_err-condition-in-None.result _ c.from_residual-in_err-condition-in-None.ensures.1
    (rw c.in_err-condition-in-None.ensures at c.behind_all-room.ensures).0 (λ w h. h.token)

pub reads::unfold_choices-returns-in_err-condition-in-None-2-clause-faults : goal.reads::unfold_choices-returns-in_err-condition-in-None-2-clause-faults
reads::unfold_choices-returns-in_err-condition-in-None-2-clause-faults t c =
    room-told c.args.context.now c.from_residual-in_err-condition-in-None-2.result _ c.from_residual-in_err-condition-in-None-2.ensures.1
    (rw c.in_err-condition-in-None-2.ensures at c.behind_all.ensures).0 (λ w h. h.token)

-- ---- arguments one after another

pub applications::unfold_arguments-returns-in_err-next-clause-faults : goal.applications::unfold_arguments-returns-in_err-next-clause-faults
applications::unfold_arguments-returns-in_err-next-clause-faults t c =
    told c.args.context.now c.from_residual.result _ c.from_residual.ensures.1 c.in_err-next.ensures.faults
    (λ w h. (
      argument-at-met c.args.context.now c.args.level.depth c.args.level.definitions (scope_said c.args.context.now c.args.scope.now) w c.args.arguments.now c.loop-argument.argument-index
          c.argument-item.result c.loop-argument-test.true c.argument-item.is h.0,
      h.1,
    ))

-- ---- reads of arrays

pub reads::unfold_element-returns-clause-faults : goal.reads::unfold_element-returns-clause-faults
reads::unfold_element-returns-clause-faults t c =
    λ w h. c.unfold_read.ensures.faults w
    (subst (λ (p : Place). IsArrayMet c.args.context.now c.args.level.depth c.args.level.definitions c.args.scope.now p c.args.others.arguments.now c.args.others.indices.now w)
    (sym c.in_ok-name.ensures.place) h)

-- ---- what nests too deep

pub unfold::unfold_opened-unfold_operands-requires : goal.unfold::unfold_opened-unfold_operands-requires
unfold::unfold_opened-unfold_operands-requires t c = (
  omega (arith, c.decreases),
  subst (λ ls. 0 < length ls) (sym c.deref-in-Chain-2.ensures.value)
      (chain-links c.in-Chain.connective c.in-Chain.first c.in-Chain.links (subst HasLinks c.in-Chain.is c.requires)),
)

pub unfold::unfold_opened-unfold_arithmetic-requires : goal.unfold::unfold_opened-unfold_arithmetic-requires
unfold::unfold_opened-unfold_arithmetic-requires t c = (
  omega (arith, c.decreases),
  subst (λ ls. 0 < length ls) (sym c.deref-in-Arithmetic-2.ensures.value)
      (arithmetic-links c.in-Arithmetic.first c.in-Arithmetic.links (subst HasLinks c.in-Arithmetic.is c.requires)),
)

pub unfold::unfold-returns-clause-term : goal.unfold::unfold-returns-clause-term
unfold::unfold-returns-clause-term t c =
    subst (λ (x : TermForm). Unfolds (folding_in c.args.context.now) c.args.level.truth c.args.level.room (put c.args.context.now c.args.level.definitions c.args.scope.now (erased_term x))
    c.unfold_opened.result)
    c.operated.ensures.form c.unfold_opened.ensures.term

pub unfold::unfold-returns-clause-faults : goal.unfold::unfold-returns-clause-faults
unfold::unfold-returns-clause-faults t c =
    let σ = scope_said c.args.context.now c.args.scope.now in
    let more : c.args.level.depth ≡ suc c.in-Some.depth = omega (arith, c.in-Some.ensures.0, c.in-Some.ensures.1) in
    λ w h. c.unfold_opened.ensures.faults w (
      subst (λ (x : TermForm). IsMetAt c.args.context.now (suc c.in-Some.depth) c.args.level.definitions σ x w) (sym c.operated.ensures.form)
          (subst (λ (j : ℕ). IsMetAt c.args.context.now j c.args.level.definitions σ (term_form c.args.term.now) w) more h.0),
      h.1,
    )

pub unfold::unfold-returns-in_default-clause-faults : goal.unfold::unfold-returns-in_default-clause-faults
unfold::unfold-returns-in_default-clause-faults t c =
    depth-told c.args.context.now c.refused.result c.refused.ensures
    (λ w h. inl (
      at c.args.level.depth c.args.level.definitions (scope_said c.args.context.now c.args.scope.now) (term_form c.args.term.now),
      h.0,
      inl (omega (arith, c.in_default.ensures)),
      c.place_of.ensures,
    ))

pub unfold::unfold_name-returns-in-Argument-clause-faults : goal.unfold::unfold_name-returns-in-Argument-clause-faults
unfold::unfold_name-returns-in-Argument-clause-faults t c =
    λ w h. c.unfold.ensures.faults w (argument-term-met c.args.context.now c.args.level c.args.scope.now (named c.args.name.now) c.in-Argument.term.now c.in-Argument.definitions c.in-Argument.user.now
    c.as_str.ensures.value (c.in-Argument.ensures.term (spec_in c.args.context.now) (forms_in c.args.context.now)) w h (c.in-Argument.ensures.met c.args.context.now w h.1))

pub reads::unfold_read-returns-in_default-checked_sub-clause-faults : goal.reads::unfold_read-returns-in_default-checked_sub-clause-faults
reads::unfold_read-returns-in_default-checked_sub-clause-faults t c =
    depth-told c.args.context.now c.refused.result c.refused.ensures
    (λ w h. array-deep c.args.context.now c.args.level.definitions c.args.scope.now c.args.array c.in-Some.ensures.value c.in-Some-first.ensures.value
    (omega (arith, c.in_default-checked_sub.ensures)) h)

pub reads::unfold_read-returns-in-Err-clause-faults : goal.reads::unfold_read-returns-in-Err-clause-faults
reads::unfold_read-returns-in-Err-clause-faults t c =
    λ w h. let met = array-first c.args.context.now c.args.level.definitions c.args.scope.now w c.args.array.name.now.place c.args.array.indices.now c.args.array.arguments.now c.args.level.depth
    c.in-Some.index.now c.in-Some-first.argument.now c.in-Some.ensures.value c.in-Some-first.ensures.value h in
    c.of_index.ensures.faults (surroundings_in c.args.context.now) w 8192 (put c.args.context.now c.args.level.definitions c.args.scope.now (tree.term_of c.in-Some-first.argument.now.term))
    c.in-Err.ensures.term
    (λ many. (at c.args.level.depth c.args.level.definitions (scope_said c.args.context.now c.args.scope.now) (term_form c.in-Some-first.argument.now.term), met, many))
    (c.in-Err.ensures.faults w (met, h.read.scope_met))

pub reads::unfold_read-returns-in-Some-written_as-clause-faults : goal.reads::unfold_read-returns-in-Some-written_as-clause-faults
reads::unfold_read-returns-in-Some-written_as-clause-faults t c =
    λ w h. c.unfold_element.ensures.faults w (element-met c.args.context.now c.args.level.definitions c.args.scope.now c.in-Some-checked_sub.depth
    (omega (arith, c.in-Some-checked_sub.ensures.0, c.in-Some-checked_sub.ensures.1))
    (are-others {array = c.args.array} {others = c.others.result} c.in-Some.ensures.value c.in-Some-first.ensures.value c.others.ensures.name c.others.ensures.indices c.others.ensures.arguments) h)

pub reads::unfold_read-returns-clause-faults : goal.reads::unfold_read-returns-clause-faults
reads::unfold_read-returns-clause-faults t c =
    let a = c.in-Some-first.argument.now in
    let i = c.in-Some.index.now in
    let all : map written_term c.deref.result.now ≡ written_values (spec_in c.args.context.now) i.sort.now = ap (map written_term) c.deref.ensures.value ∙ c.in_ok-values.ensures ∙ ap
    (λ S. written_values S c.in-Some.index.now.sort.now) c.sorts.ensures in
    let w = unwritten-by (put c.args.context.now c.args.level.definitions c.args.scope.now (tree.term_of a.term)) all
    (c.in_default-written_as.ensures (put c.args.context.now c.args.level.definitions c.args.scope.now (tree.term_of a.term)) c.in-Ok.ensures.term.form) in
    let levels = unwritten-levels (surroundings_in c.args.context.now) c.args.level.definitions (scope_said c.args.context.now c.args.scope.now) (term_form a.term) (variable_of i) w in
    let count : length (written_values (spec_in c.args.context.now) i.sort.now) ≡ length c.deref-2.result.now =
    omega (arith, ap length all, mapped-length written_term c.deref.result.now, ap length (c.deref-2.ensures.value ∙ sym c.deref.ensures.value)) in
    λ whole h. c.unfold_choices-read.ensures.faults whole
    (choices-met c.args.context.now c.args.level.definitions c.args.scope.now c.in-Some-checked_sub.depth (omega (arith, c.in-Some-checked_sub.ensures.0, c.in-Some-checked_sub.ensures.1)) _
    (are-others {array = c.args.array} {others = c.others-2.result} c.in-Some.ensures.value c.in-Some-first.ensures.value c.others-2.ensures.name c.others-2.ensures.indices
    c.others-2.ensures.arguments) (omega (arith, levels, count)) h)

pub reads::unfold_choices-returns-in_default-checked_sub-clause-faults : goal.reads::unfold_choices-returns-in_default-checked_sub-clause-faults
reads::unfold_choices-returns-in_default-checked_sub-clause-faults t c =
    depth-told c.args.context.now c.refused.result c.refused.ensures (λ w h. choices-deep c.in-Some.ensures.value h (omega (arith, c.in_default-checked_sub.ensures)))

pub reads::unfold_known-returns-in_err-room-clause-faults : goal.reads::unfold_known-returns-in_err-room-clause-faults
reads::unfold_known-returns-in_err-room-clause-faults t c =
    room-told c.args.context.now c.from_residual.result _ c.from_residual.ensures.1 c.in_err-room.ensures.0 (λ w h. h.read.token)

pub reads::unfold_known-returns-in_err-unfold_element-clause-faults : goal.reads::unfold_known-returns-in_err-unfold_element-clause-faults
reads::unfold_known-returns-in_err-unfold_element-clause-faults t c =
    told c.args.context.now c.from_residual-in_err-unfold_element.result _ c.from_residual-in_err-unfold_element.ensures.1 c.in_err-unfold_element.ensures.faults (λ w h. h)

pub reads::unfold_choices-returns-then-is_empty-clause-faults : goal.reads::unfold_choices-returns-then-is_empty-clause-faults
reads::unfold_choices-returns-then-is_empty-clause-faults t c =
    λ w h. c.unfold_known.ensures.faults w (choice-first c.in-Some.ensures.value h (omega (arith, c.in-Some-checked_sub.ensures.0, c.in-Some-checked_sub.ensures.1)))

-- the first choice and the further ones are met
first-choice : (t : ℕ) (c : reads::unfold_choices-After-truth_value t) → (whole : Occurrence)
    → AreChoicesMet c.args.context.now c.args.level.depth c.args.level.definitions c.args.scope.now c.args.choices whole
    → IsArrayMet c.args.context.now c.in-Some-checked_sub.depth c.args.level.definitions c.args.scope.now c.args.choices.others.name.now.place c.args.choices.others.arguments.now
    c.args.choices.others.indices.now whole
first-choice t c whole h = choice-first c.in-Some.ensures.value h (omega (arith, c.in-Some-checked_sub.ensures.0, c.in-Some-checked_sub.ensures.1))

further-choices : (t : ℕ) (c : reads::unfold_choices-After-truth_value t) {further : Choices} → further.others ≡ c.args.choices.others → further.values.now ≡ further_values c.args.choices
    → (whole : Occurrence) → AreChoicesMet c.args.context.now c.args.level.depth c.args.level.definitions c.args.scope.now c.args.choices whole
    → AreChoicesMet c.args.context.now c.in-Some-checked_sub.depth c.args.level.definitions c.args.scope.now further whole
further-choices t c others values whole h =
    choices-further c.in-Some.ensures.value h _ others values (omega (arith, c.in-Some-checked_sub.ensures.0, c.in-Some-checked_sub.ensures.1))

pub reads::unfold_choices-returns-in-Some-true-clause-faults : goal.reads::unfold_choices-returns-in-Some-true-clause-faults
reads::unfold_choices-returns-in-Some-true-clause-faults t c =
    λ w h. c.unfold_known-in-Some-true.ensures.faults w (first-choice t (goal.at.reads::unfold_choices-returns-in-Some-true-clause-faults t c).After-truth_value w h)

pub reads::unfold_choices-returns-in_err-condition-in-None-3-clause-faults : goal.reads::unfold_choices-returns-in_err-condition-in-None-3-clause-faults
reads::unfold_choices-returns-in_err-condition-in-None-3-clause-faults t c =
    told c.args.context.now c.from_residual-in_err-condition-in-None-3.result _ c.from_residual-in_err-condition-in-None-3.ensures.1
    (rw c.in_err-condition-in-None-3.ensures at c.unfold_element-left.ensures.faults)
    (first-choice t (goal.at.reads::unfold_choices-returns-in_err-condition-in-None-3-clause-faults t c).After-truth_value)

pub reads::unfold_choices-returns-in_err-unfold_choices-in-Some-false-clause-faults : goal.reads::unfold_choices-returns-in_err-unfold_choices-in-Some-false-clause-faults
reads::unfold_choices-returns-in_err-unfold_choices-in-Some-false-clause-faults t c =
    told c.args.context.now c.from_residual-in_err-unfold_choices-in-Some-false.result _ c.from_residual-in_err-unfold_choices-in-Some-false.ensures.1
    c.in_err-unfold_choices-in-Some-false.ensures.faults
    (further-choices t (goal.at.reads::unfold_choices-returns-in_err-unfold_choices-in-Some-false-clause-faults t c).After-truth_value refl refl)

pub reads::unfold_choices-returns-in_err-condition-in-None-4-clause-faults : goal.reads::unfold_choices-returns-in_err-condition-in-None-4-clause-faults
reads::unfold_choices-returns-in_err-condition-in-None-4-clause-faults t c =
    told c.args.context.now c.from_residual-in_err-condition-in-None-4.result _ c.from_residual-in_err-condition-in-None-4.ensures.1
    (rw c.in_err-condition-in-None-4.ensures at c.unfold_choices-right.ensures.faults)
    (further-choices t (goal.at.reads::unfold_choices-returns-in_err-condition-in-None-4-clause-faults t c).After-truth_value refl refl)

pub applications::unfold_arguments-loop-argument-init : goal.applications::unfold_arguments-loop-argument-init
applications::unfold_arguments-loop-argument-init t c =
    none-unfolded c.args.context.now c.args.level c.args.scope.now c.args.arguments.now (c.no_arguments-unfolded.ensures (folding_in c.args.context.now) c.args.level.truth)

pub applications::unfold_arguments-returns-in_err-next-clause-term : goal.applications::unfold_arguments-returns-in_err-next-clause-term
applications::unfold_arguments-returns-in_err-next-clause-term t c =
    next-argument-refused c.args.context.now c.args.level c.args.scope.now c.args.arguments.now c.loop-argument.argument-index c.argument-item.result c.loop-argument-test.true c.argument-item.is
    c.loop-argument.invariant
    c.from_residual.result c.in_err-next.field-0.0 c.from_residual.ensures.1 c.in_err-next.ensures.term

pub applications::unfold_arguments-loop-argument-preserved : goal.applications::unfold_arguments-loop-argument-preserved
applications::unfold_arguments-loop-argument-preserved t c =
    next-argument-unfolded c.args.context.now c.args.level c.args.scope.now c.args.arguments.now c.loop-argument.argument-index c.argument-item.result c.loop-argument-test.true c.argument-item.is
    c.loop-argument.invariant
    c.folding.ensures c.in_ok-next.ensures.term c.in_ok-unfolded.ensures

pub applications::unfold_arguments-returns-clause-term : goal.applications::unfold_arguments-returns-clause-term
applications::unfold_arguments-returns-clause-term t c =
    all-unfolded c.args.context.now c.args.level c.args.scope.now c.args.arguments.now c.loop-argument.argument-index (λ h. omega (arith, h, c.loop-argument-test.false)) c.loop-argument.invariant.0

-- ---- counting

pub applications::unfold_application-returns-then-is_empty-clause-term : goal.applications::unfold_application-returns-then-is_empty-clause-term
applications::unfold_application-returns-then-is_empty-clause-term t c =
    subst (λ (z : Term). Unfolds (folding_in c.args.context.now) c.args.level.truth c.args.level.room z c.unfold_function.result)
    (bare-applied (spec_in c.args.context.now) (forms_in c.args.context.now c.args.level.definitions) (scope_of (spec_in c.args.context.now) (forms_in c.args.context.now) c.args.scope.now)
    (string_bytes c.args.function.now.text) c.args.arguments.now (ap is_counting (sym c.as_str.ensures.value) ∙ sym c.is_counting.ensures ∙ c.if-is_counting.false)
    (none-of c.args.arguments.now (length c.args.arguments.now) refl (sym c.is_empty.ensures ∙ c.if-is_empty.true)))
    c.unfold_function.ensures.term

-- the name counts
counts : {f shown : Name} {b : Bool} → shown ≡ f → b ≡ is_counting shown → b ≡ true → counting ≡ f
counts {shown = shown} shows test holds = sym (same_text shown counting (sym holds ∙ test)) ∙ shows

pub applications::unfold_application-returns-then-is_counting-clause-term : goal.applications::unfold_application-returns-then-is_counting-clause-term
applications::unfold_application-returns-then-is_counting-clause-term t c =
    subst (λ (f : Name). Unfolds (folding_in c.args.context.now) c.args.level.truth c.args.level.room
    (put c.args.context.now c.args.level.definitions c.args.scope.now (Term.Apply f (tree.terms_of c.args.arguments.now))) c.unfold_count.result)
    (counts c.as_str.ensures.value c.is_counting.ensures c.if-is_counting.true) c.unfold_count.ensures.term

pub applications::unfold_application-returns-then-is_counting-clause-faults : goal.applications::unfold_application-returns-then-is_counting-clause-faults
applications::unfold_application-returns-then-is_counting-clause-faults t c =
    λ w h. c.unfold_count.ensures.faults w
    (same-met c.args.context.now c.args.level c.args.scope.now
    (ap (λ (f : Name). TermForm.application (record { place = c.args.function.now.place; text = f }) (argument_forms c.args.arguments.now))
    (sym (counts c.as_str.ensures.value c.is_counting.ensures c.if-is_counting.true))) w h)

pub counting::unfold_one-returns-in_err-behind_one-clause-term : goal.counting::unfold_one-returns-in_err-behind_one-clause-term
counting::unfold_one-returns-in_err-behind_one-clause-term t c =
    one-without-room c.args.context.now _ c.from_residual.result c.in_err-behind_one.field-0.0 c.from_residual.ensures.1 c.in_err-behind_one.ensures.0 c.in_err-behind_one.ensures.1

pub counting::unfold_one-returns-in_err-condition-clause-term : goal.counting::unfold_one-returns-in_err-condition-clause-term
counting::unfold_one-returns-in_err-condition-clause-term t c =
    one-refused c.args.context.now _ c.from_residual-in_err-condition.result c.in_err-condition.field-0.0 c.from_residual-in_err-condition.ensures.1 c.in_ok-behind_one.ensures
    c.in_err-condition.ensures.term

pub counting::unfold_one-returns-clause-term : goal.counting::unfold_one-returns-clause-term
counting::unfold_one-returns-clause-term t c =
    one-unfolded c.args.context.now c.folding.ensures c.in_ok-behind_one.ensures c.in_ok-condition.ensures.term c.in_ok-one_if.ensures

pub counting::unfold_one-returns-in_err-behind_one-clause-faults : goal.counting::unfold_one-returns-in_err-behind_one-clause-faults
counting::unfold_one-returns-in_err-behind_one-clause-faults t c =
    room-told c.args.context.now c.from_residual.result _ c.from_residual.ensures.1 c.in_err-behind_one.ensures.0 (λ w h. h.2)

pub counting::unfold_one-returns-in_err-condition-clause-faults : goal.counting::unfold_one-returns-in_err-condition-clause-faults
counting::unfold_one-returns-in_err-condition-clause-faults t c =
    told c.args.context.now c.from_residual-in_err-condition.result _ c.from_residual-in_err-condition.ensures.1 c.in_err-condition.ensures.faults (λ w h. (h.0, h.1))

pub counting::unfold_sum-returns-in_err-sum-clause-term : goal.counting::unfold_sum-returns-in_err-sum-clause-term
counting::unfold_sum-returns-in_err-sum-clause-term t c =
    first-one-refused c.args.context.now c.args.level c.args.scope.now c.args.counted c.args.tuples.now c.index-tuples-0.result c.from_residual.result c.in_err-sum.field-0.0 c.requires
    c.index-tuples-0.is c.from_residual.ensures.1
    (rw c.deref.ensures.value at (c.in_err-sum.ensures.term c.args.level.truth))

pub counting::unfold_sum-loop-index-init : goal.counting::unfold_sum-loop-index-init
counting::unfold_sum-loop-index-init t c = (
  omega arith,
  first-summed c.args.context.now c.args.level c.args.scope.now c.args.counted c.args.tuples.now c.index-tuples-0.result c.requires c.index-tuples-0.is (rw c.deref.ensures.value at
      c.in_ok-sum.ensures.term),
)

pub counting::unfold_sum-returns-in_err-before-clause-term : goal.counting::unfold_sum-returns-in_err-before-clause-term
counting::unfold_sum-returns-in_err-before-clause-term t c =
    let ts = c.args.tuples.now in
    let i = c.loop-index.index in
    sum-without-room c.args.context.now c.args.level c.args.scope.now c.args.counted ts i (get_or ts i c.index-tuples-0.result) c.loop-index.invariant.0 c.loop-index-test.true
    (tuple-there ts i c.index-tuples-0.result c.loop-index-test.true) c.loop-index.invariant.1 c.from_residual-in_err-before.result c.in_err-before.field-0.0
    c.from_residual-in_err-before.ensures.1 (rw c.in_err-before.ensures at c.behind_one-room.ensures).0 (rw c.in_err-before.ensures at c.behind_one-room.ensures).1

pub counting::unfold_sum-returns-in_err-before-2-clause-term : goal.counting::unfold_sum-returns-in_err-before-2-clause-term
counting::unfold_sum-returns-in_err-before-2-clause-term t c =
    next-one-refused c.args.context.now c.args.level c.args.scope.now c.args.counted c.args.tuples.now c.loop-index.index c.index-tuples-index.result c.loop-index.invariant.0
    c.loop-index-test.true c.index-tuples-index.is
    c.loop-index.invariant.1 c.from_residual-in_err-before-2.result c.in_err-before-2.field-0.0 c.from_residual-in_err-before-2.ensures.1 (rw c.in_ok-before.ensures.1 at c.behind_one-room.ensures)
    (rw c.deref-in-loop-index.ensures.value at (rw c.in_err-before-2.ensures at c.unfold_one-one.ensures.term c.args.level.truth))

pub counting::unfold_sum-loop-index-preserved : goal.counting::unfold_sum-loop-index-preserved
counting::unfold_sum-loop-index-preserved t c = (
  omega arith,
  further-summed c.args.context.now c.args.level c.args.scope.now c.args.counted c.args.tuples.now c.loop-index.index c.index-tuples-index.result c.loop-index.invariant.0
      c.loop-index-test.true c.index-tuples-index.is
      c.loop-index.invariant.1 c.folding.ensures (rw c.in_ok-before.ensures.1 at c.behind_one-room.ensures)
      (rw c.deref-in-loop-index.ensures.value at (rw c.in_ok-before-2.ensures.1 at c.unfold_one-one.ensures.term))
      (rw (c.in_ok-before-2.ensures.0, c.in_ok-before.ensures.0) at c.in_ok-sum-2.ensures),
)

pub counting::unfold_sum-returns-clause-term : goal.counting::unfold_sum-returns-clause-term
counting::unfold_sum-returns-clause-term t c =
    all-summed c.args.context.now c.args.level c.args.scope.now c.args.counted c.args.tuples.now c.loop-index.index (λ h. omega (arith, h, c.loop-index-test.false)) c.loop-index.invariant.1

pub counting::unfold_sum-returns-in_err-sum-clause-faults : goal.counting::unfold_sum-returns-in_err-sum-clause-faults
counting::unfold_sum-returns-in_err-sum-clause-faults t c =
    told c.args.context.now c.from_residual.result _ c.from_residual.ensures.1 (rw c.deref.ensures.value at c.in_err-sum.ensures.faults)
    (counted-at-met c.args.context.now c.args.level c.args.scope.now c.args.counted c.args.tuples.now 0 c.index-tuples-0.result c.requires c.index-tuples-0.is)

pub counting::unfold_sum-returns-in_err-before-clause-faults : goal.counting::unfold_sum-returns-in_err-before-clause-faults
counting::unfold_sum-returns-in_err-before-clause-faults t c =
    room-told c.args.context.now c.from_residual-in_err-before.result _ c.from_residual-in_err-before.ensures.1 (rw c.in_err-before.ensures at c.behind_one-room.ensures).0 (λ w h. h.2)

pub counting::unfold_sum-returns-in_err-before-2-clause-faults : goal.counting::unfold_sum-returns-in_err-before-2-clause-faults
counting::unfold_sum-returns-in_err-before-2-clause-faults t c =
    told c.args.context.now c.from_residual-in_err-before-2.result _ c.from_residual-in_err-before-2.ensures.1
    (rw c.deref-in-loop-index.ensures.value at (rw c.in_err-before-2.ensures at c.unfold_one-one.ensures.faults))
    (counted-at-met c.args.context.now c.args.level c.args.scope.now c.args.counted c.args.tuples.now c.loop-index.index c.index-tuples-index.result c.loop-index-test.true c.index-tuples-index.is)

-- the tuples are those of the quantifier's variables
counted-tuples : (t : ℕ) (c : counting::unfold_counted-After-unfold_sum t)
    → map tuple_of c.deref-3.result.now ≡ written_tuples (spec_in c.args.context.now) (erased_variables (variable_forms c.args.quantified.variables.now))
counted-tuples t c =
    ap (map tuple_of) c.deref-3.ensures.value ∙ tuples-written c.args.context.now c.in_ok-tuples.ensures c.sorts.ensures c.deref.ensures.value c.in_ok-variables.ensures

counted-variables : (t : ℕ) (c : counting::unfold_counted-After-unfold_sum t) → map variable_of c.deref-2.result.now ≡ erased_variables (variable_forms c.args.quantified.variables.now)
counted-variables t c = ap (map variable_of) c.deref-2.ensures.value ∙ c.in_ok-variables.ensures

pub counting::unfold_counted-returns-then-is_empty-clause-term : goal.counting::unfold_counted-returns-then-is_empty-clause-term
counting::unfold_counted-returns-then-is_empty-clause-term t c =
    let v = c.in_ok-tuples.tuples in
    let none : v.items ≡ [] = none-of v.items (vec_len v) (omega (arith, v.ok.0)) (sym c.is_empty.ensures ∙ c.if-is_empty.true) in
    subst (λ (z : Term). IsUnfolded (folding_in c.args.context.now) c.args.level.truth c.args.level.room z c.number.result)
    (none-counted c.args.context.now c.args.level c.args.scope.now (tree.term_of c.args.quantified.body.now) (erased_variables (variable_forms c.args.quantified.variables.now)) none
    (tuples-written c.args.context.now c.in_ok-tuples.ensures c.sorts.ensures c.deref.ensures.value c.in_ok-variables.ensures))
    (c.number.ensures.term (folding_in c.args.context.now) c.args.level.truth)

pub counting::unfold_counted-returns-clause-term : goal.counting::unfold_counted-returns-clause-term
counting::unfold_counted-returns-clause-term t c =
    let here = (goal.at.counting::unfold_counted-returns-clause-term t c).After-unfold_sum in
    subst (λ (z : Term). Unfolds (folding_in c.args.context.now) c.args.level.truth c.args.level.room z c.unfold_sum.result)
    (count-said c.args.context.now c.args.level c.args.scope.now (record { place = c.args.quantified.place; variables = c.deref-2.result; condition = c.args.quantified.body })
    (counted-variables t here) (counted-tuples t here))
    c.unfold_sum.ensures.term

pub counting::unfold_counted-returns-in_err-tuples-clause-faults : goal.counting::unfold_counted-returns-in_err-tuples-clause-faults
counting::unfold_counted-returns-in_err-tuples-clause-faults t c =
    let q = c.args.quantified in
    let form = variable_forms q.variables.now in
    let tuples = tuples-written c.args.context.now {shown = c.deref.result.now} refl c.sorts.ensures c.deref.ensures.value c.in_ok-variables.ensures in
    values-told c.args.context.now (written_tuples (spec_of c.sorts.result) (map variable_of c.deref.result.now)) c.from_residual-in_err-tuples.result _ c.from_residual-in_err-tuples.ensures.1
    c.in_err-tuples.ensures
    (λ w h many. (
      at (suc c.args.level.depth) c.args.level.definitions (scope_said c.args.context.now c.args.scope.now) (TermForm.quantified q.quantifier q.place form (term_form q.body.now)),
      h.0,
      (refl, subst (λ (ts : List (List Term)). 8192 < length ts) tuples many),
    ))

pub counting::unfold_counted-returns-clause-faults : goal.counting::unfold_counted-returns-clause-faults
counting::unfold_counted-returns-clause-faults t c =
    let here = (goal.at.counting::unfold_counted-returns-clause-faults t c).After-unfold_sum in
    λ w h. c.unfold_sum.ensures.faults w
    (quantified-counted c.args.context.now c.args.level c.args.scope.now
    (record { place = c.args.quantified.place; variables = c.deref-2.result; condition = c.args.quantified.body }) c.args.quantified (counted-variables t here) (counted-tuples t here) refl refl w h)

pub counting::unfold_counted-unfold_sum-requires : goal.counting::unfold_counted-unfold_sum-requires
counting::unfold_counted-unfold_sum-requires t c = grind (arith, nat_tests)

pub counting::unfold_count-returns-in_default-clause-term : goal.counting::unfold_count-returns-in_default-clause-term
counting::unfold_count-returns-in_default-clause-term t c =
    subst (λ (z : Term). IsUnfolded (folding_in c.args.context.now) c.args.level.truth c.args.level.room z c.number.result)
    (counting-none (spec_in c.args.context.now) (forms_in c.args.context.now c.args.level.definitions) (scope_of (spec_in c.args.context.now) (forms_in c.args.context.now) c.args.scope.now)
    c.args.arguments.now c.in_default.ensures.value)
    (c.number.ensures.term (folding_in c.args.context.now) c.args.level.truth)

pub counting::unfold_count-returns-in-Some-quantifier_in-clause-term : goal.counting::unfold_count-returns-in-Some-quantifier_in-clause-term
counting::unfold_count-returns-in-Some-quantifier_in-clause-term t c =
    subst (λ (z : Term). Unfolds (folding_in c.args.context.now) c.args.level.truth c.args.level.room z c.unfold_counted.result)
    (counting-quantified c.args.context.now c.args.level c.args.scope.now c.args.place c.args.arguments.now c.in-Some.argument.now c.in-Some.ensures.value c.in-Some-quantifier_in.quantified
    c.in-Some-quantifier_in.ensures)
    c.unfold_counted.ensures.term

pub counting::unfold_count-returns-in-None-clause-term : goal.counting::unfold_count-returns-in-None-clause-term
counting::unfold_count-returns-in-None-clause-term t c =
    subst (λ (z : Term). IsUnfolded (folding_in c.args.context.now) c.args.level.truth c.args.level.room z c.number-in-None.result)
    (counting-other c.args.context.now c.args.level c.args.scope.now c.args.place c.args.arguments.now c.in-Some.argument.now c.in-Some.ensures.value c.in-None.ensures)
    (c.number-in-None.ensures.term (folding_in c.args.context.now) c.args.level.truth)

pub counting::unfold_count-returns-in_default-checked_sub-clause-faults : goal.counting::unfold_count-returns-in_default-checked_sub-clause-faults
counting::unfold_count-returns-in_default-checked_sub-clause-faults t c =
    depth-told c.args.context.now c.refused.result c.refused.ensures
    (counting-deep c.args.context.now c.args.level c.args.scope.now c.args.place c.args.arguments.now c.in-Some.argument.now c.in-Some.ensures.value c.place_of.ensures (omega (
      arith,
      c.in_default-checked_sub.ensures,
    )))

pub counting::unfold_count-returns-in-Some-quantifier_in-clause-faults : goal.counting::unfold_count-returns-in-Some-quantifier_in-clause-faults
counting::unfold_count-returns-in-Some-quantifier_in-clause-faults t c =
    λ w h. c.unfold_counted.ensures.faults w
    (counting-quantifier-met c.args.context.now c.args.level c.args.scope.now c.args.place c.args.arguments.now c.in-Some.argument.now c.in-Some.ensures.value
    c.in-Some-quantifier_in.quantified c.in-Some-quantifier_in.ensures
    (omega (arith, c.in-Some-checked_sub.ensures.0, c.in-Some-checked_sub.ensures.1)) w h)
