use Rattle.std.specs.Prelude.{string_bytes}
use Rattle.std.proofs.Common.{rules, arith, refl, sym, ap, ◌≡◌, ◌<◌, ◌-◌, length, true, false, vec_len, ◌∙◌, Ok}
use Rattle.std.proofs.lemmas.Result.{err_from_is_err_and}
use Rattle.pb_base.proofs.Faults.{if_fault}
use Rattle.pb_protocol_tree.specs.Form.{FormulaForm, formula_form, step_set_form}
use Rattle.pb_protocol_tree.specs.Links.{link_forms}
use Rattle.pb_text_lexer.specs.Kinds.{same_kind}
use Rattle.pb_text_lexer.specs.declared.kind.Kind.TheVariants as k
use Rattle.pb_text_lexer.specs.Steps.{kind}
use Rattle.pb_text_lexer.specs.Tokens.{tok}
use Rattle.pb_text_lexer.proofs.LoopLemmas.{resumed-first, resumed-end, resumed-more, resumed-operator-fails, resumed-operand-fails}
use Rattle.pb_text_terms.specs.Operators.{symbol_kind, is_connective}
use Rattle.pb_text_terms.proofs.ReaderLemmas.{refused, refuses, fails-on, error-on, read-as, may-read-as, reads-on-as, reads-on, goes-on, has-read, known}
use Rattle.pb_model_text.specs.Grammar.{within, within_fair}
use Rattle.pb_model_text.specs.Reading.{node, names_of, operand}
use Rattle.pb_model_text.specs.Links.{processes_form}
use Rattle.pb_model_text.proofs.FairLemmas.{fair-sets-fail, fair-operand-fails, fair-read}
use Rattle.pb_text_terms.proofs.PairLemmas.{fails-where, reads-where, on-ok-where, known-exactly}
use Rattle.pb_model_text.proofs.FormulaLemmas.{plain-at, plain-enter-fails, negation-fails, negation-read, bracketed-fails, bracketed-closes, and-fewer, modal-enter-fails, modal-steps-fail, modal-operand-fails, modal-read, fixpoint-name-fails, fixpoint-period-fails, fixpoint-body-fails, fixpoint-read, level-chain, level-fails, links-last, plain-other, level-alone-or-fails, conjunction-fails, disjunction-fails, primary-fails, primary-alone-or-fails}
use Rattle.pb_text_formulas.specs.Reading.{is_name_kind}
use Rattle.pb_text_lexer.proofs.TokenLemmas.{same-kind}
use Rattle.pb_model_text.proofs.WordLemmas.{not-name, named-state, named-kind, node-atom-at, wordless-atom-at, wordless-fails-at, node-led-at, node-fails-at, joined-word-fails-at, joined-operand-fails-at, joined-again-at, joined-read-at}
use Rattle.pb_model_text.proofs.+formulas.Goals as goal

pub formula::nameless-returns-in_default : goal.formula::nameless-returns-in_default
formula::nameless-returns-in_default t c = rw c.refuse.ensures (record {
  reads = plain-other (names_of c.args.scope.names.now) c.args.scope.depth c.args.input.now (λ q. c.in_default.not-Not (c.kind.ensures ∙ q)) (λ q. c.in_default.not-Open (c.kind.ensures ∙ q))
      (λ q. c.in_default.not-OpenSquare (c.kind.ensures ∙ q)) (λ q. c.in_default.not-Less (c.kind.ensures ∙ q))
      (λ q. c.in_default.not-True (c.kind.ensures ∙ q)) (λ q. c.in_default.not-False (c.kind.ensures ∙ q))
      (λ q. c.in_default.not-Val (c.kind.ensures ∙ q)) (λ q. not-name (kind c.args.input.now) c.requires q)
      (λ q. c.in_default.not-Number (c.kind.ensures ∙ q)) (λ q. c.in_default.not-Minus (c.kind.ensures ∙ q));
  fewer = tt;
})

pub formula::level-returns-in_err-first : goal.formula::level-returns-in_err-first
formula::level-returns-in_err-first t c =
    fails-on c.from_residual.result c.from_residual.ensures.1 c.in_err-first.ensures (level-fails c.args.connective (names_of c.args.scope.names.now) c.args.scope.depth c.args.input.now)

pub formula::level-returns-then-not-same_kind : goal.formula::level-returns-then-not-same_kind
formula::level-returns-then-not-same_kind t c =
    let other : same_kind (kind c.operand-first.new.input) (symbol_kind c.args.connective) ≡ false = search rules in
    record {
      reads = level-alone-or-fails c.args.connective (names_of c.args.scope.names.now) c.args.scope.depth c.args.input.now c.operand-first.new.input c.operand-first.result
          c.operand-first.ensures.reads other;
      fewer = c.operand-first.ensures.fewer;
    }

pub formula::links_behind-links-init : goal.formula::links_behind-links-init
formula::links_behind-links-init t c = record {
  reads = λ s x h fewer. rw (c.in_ok-links.ensures.items, c.in_ok-links.ensures.len) (level-chain c.args.connective (names_of c.args.scope.names.now) c.args.scope.depth s
      ∙ resumed-first (symbol_kind c.args.connective) (FormulaForm.connected c.args.connective) (operand c.args.connective (names_of c.args.scope.names.now) c.args.scope.depth)
      (length s.tokens) s c.args.input.now x h);
  room = omega (arith, c.in_ok-links.ensures.len);
}

pub formula::links_behind-returns-in_err-place-clause-reads : goal.formula::links_behind-returns-in_err-place-clause-reads
formula::links_behind-returns-in_err-place-clause-reads t c s x h fewer =
    let p = err_from_is_err_and c.from_residual-in_err-place.result c.from_residual-in_err-place.ensures.1 in
    rw (p.1, p.2)
    (c.links.invariant.reads s x h fewer
    ∙ resumed-operator-fails (symbol_kind c.args.connective) (FormulaForm.connected c.args.connective) (operand c.args.connective (names_of c.args.scope.names.now) c.args.scope.depth)
    (length s.tokens - vec_len c.links.links) _ (link_forms c.links.links.items) c.links.input c.in_err-place.field-0.0 (search rules) c.in_err-place.ensures.reads)

pub formula::links_behind-returns-in_err-operand-clause-reads : goal.formula::links_behind-returns-in_err-operand-clause-reads
formula::links_behind-returns-in_err-operand-clause-reads t c s x h fewer =
    let p = err_from_is_err_and c.from_residual-in_err-operand.result c.from_residual-in_err-operand.ensures.1 in
    let some : 0 < length s.tokens - vec_len c.links.links = omega arith in
    rw (p.1, p.2) (if_fault c.in_err-operand.field-0.0
    (λ bad e. c.links.invariant.reads s x h fewer
    ∙ resumed-operand-fails (symbol_kind c.args.connective) (FormulaForm.connected c.args.connective) (operand c.args.connective (names_of c.args.scope.names.now) c.args.scope.depth)
    (length s.tokens - vec_len c.links.links) _ (link_forms c.links.links.items)
    c.links.input c.take_operator.new.self (tok c.in_ok-place.field-0) bad some (search rules) c.in_ok-place.ensures.reads e) c.in_err-operand.ensures.reads)

pub formula::links_behind-links-preserved : goal.formula::links_behind-links-preserved
formula::links_behind-links-preserved t c =
    record {
      reads = λ s x h fewer. rw (c.in_ok-push.ensures.items, links-last)
          (c.links.invariant.reads s x h fewer
          ∙ resumed-more (symbol_kind c.args.connective) (FormulaForm.connected c.args.connective) (operand c.args.connective (names_of c.args.scope.names.now) c.args.scope.depth)
          (length s.tokens - vec_len c.links.links) (length s.tokens - vec_len c.push.new.self) _ (link_forms c.links.links.items) c.links.input c.take_operator.new.self c.operand.new.input
          (tok c.in_ok-place.field-0) (formula_form c.in_ok-operand.operand)
          (omega (arith, c.in_ok-push.ensures.len, c.links.invariant.room)) (search rules) c.in_ok-place.ensures.reads
          c.in_ok-operand.ensures.reads);
      room = omega (arith, c.in_ok-place.ensures.fewer, c.in_ok-operand.ensures.fewer, c.in_ok-push.ensures.len);
    }

pub formula::links_behind-returns-clause-reads : goal.formula::links_behind-returns-clause-reads
formula::links_behind-returns-clause-reads t c s x h fewer =
    let other : same_kind (kind c.links.input) (symbol_kind c.args.connective) ≡ false = search rules in
    c.links.invariant.reads s x h fewer
    ∙ resumed-end (symbol_kind c.args.connective) (FormulaForm.connected c.args.connective) (operand c.args.connective (names_of c.args.scope.names.now) c.args.scope.depth)
    (length s.tokens - vec_len c.links.links) _ (link_forms c.links.links.items) c.links.input other

pub formula::chain_behind-returns-in_err-start : goal.formula::chain_behind-returns-in_err-start
formula::chain_behind-returns-in_err-start t c =
    error-on c.from_residual.result _ c.from_residual.ensures.1
    (λ s h. fails-where _ _ c.links_behind-links.result c.links_behind-links.new.input c.in_err-start.field-0.0 c.in_err-start.ensures
    (c.links_behind-links.ensures.reads s (formula_form c.args.first) h.reads h.fewer))

pub formula::chain_behind-returns : goal.formula::chain_behind-returns
formula::chain_behind-returns t c = record {
  reads = λ s h.
      rw (c.in_ok-joined.ensures, c.in_ok-start.ensures.0)
      (reads-where _ _ c.links_behind-links.result c.links_behind-links.new.input c.in_ok-start.links c.in_ok-start.ensures.1
      (c.links_behind-links.ensures.reads s (formula_form c.args.first) h.reads h.fewer));
  fewer = on-ok-where c.links_behind-links.result c.in_ok-start.links _ c.in_ok-start.ensures.1 c.links_behind-links.ensures.fewer;
}

pub formula::level-returns : goal.formula::level-returns
formula::level-returns t c =
    reads-on c.chain_behind.ensures (has-read c.in_ok-first.ensures)

pub formula::chain_behind-returns-then-not-same_kind : goal.formula::chain_behind-returns-then-not-same_kind
formula::chain_behind-returns-then-not-same_kind t c =
    let other : same_kind (kind c.args.input.now) (symbol_kind c.args.connective) ≡ false = search rules in
    record {
      reads = λ s h. level-alone-or-fails c.args.connective (names_of c.args.scope.names.now) c.args.scope.depth s c.args.input.now (Ok c.args.first) h.reads other;
      fewer = search rules;
    }

pub formula::connectives_behind-returns-in_err-conjunction : goal.formula::connectives_behind-returns-in_err-conjunction
formula::connectives_behind-returns-in_err-conjunction t c =
    error-on c.from_residual.result _ c.from_residual.ensures.1
    (λ s h. if_fault c.in_err-conjunction.field-0.0 (conjunction-fails (names_of c.args.scope.names.now) c.args.scope.depth s) (c.in_err-conjunction.ensures.reads s h))

pub formula::connectives_behind-returns-in_err-disjunction : goal.formula::connectives_behind-returns-in_err-disjunction
formula::connectives_behind-returns-in_err-disjunction t c =
    error-on c.from_residual-in_err-disjunction.result _ c.from_residual-in_err-disjunction.ensures.1
    (λ s h. if_fault c.in_err-disjunction.field-0.0 (disjunction-fails (names_of c.args.scope.names.now) c.args.scope.depth s)
    (c.in_err-disjunction.ensures.reads s (goes-on h c.in_ok-conjunction.ensures)))

pub formula::connectives_behind-returns : goal.formula::connectives_behind-returns
formula::connectives_behind-returns t c = record {
  reads = λ s h. c.chain_behind-3.ensures.reads s (goes-on (goes-on h c.in_ok-conjunction.ensures) c.in_ok-disjunction.ensures);
  fewer = search rules;
}

pub formula::formula-returns-in_err-first : goal.formula::formula-returns-in_err-first
formula::formula-returns-in_err-first t c =
    fails-on c.from_residual.result c.from_residual.ensures.1 c.in_err-first.ensures (primary-fails (names_of c.args.scope.names.now) c.args.scope.depth c.args.input.now)

pub formula::formula-returns-then-not-is_connective : goal.formula::formula-returns-then-not-is_connective
formula::formula-returns-then-not-is_connective t c =
    let other : is_connective (kind c.operand-first.new.input) ≡ false = search rules in
    record {
      reads = primary-alone-or-fails (names_of c.args.scope.names.now) c.args.scope.depth c.args.input.now c.operand-first.new.input c.operand-first.result c.operand-first.ensures.reads other;
      fewer = c.operand-first.ensures.fewer;
    }

pub formula::formula-returns : goal.formula::formula-returns
formula::formula-returns t c =
    reads-on c.connectives_behind.ensures (has-read c.in_ok-first.ensures)

pub formula::negation-returns-in_err-place : goal.formula::negation-returns-in_err-place
formula::negation-returns-in_err-place t c =
    refuses c.from_residual.result c.from_residual.ensures.1
    (plain-enter-fails (names_of c.args.scope.names.now) c.args.scope.depth c.args.input.now k.Not refl c.requires c.in_err-place.field-0.0 c.in_err-place.ensures.reads)

pub formula::negation-returns-in_err-operand : goal.formula::negation-returns-in_err-operand
formula::negation-returns-in_err-operand t c =
    fails-on c.from_residual-in_err-operand.result c.from_residual-in_err-operand.ensures.1 c.in_err-operand.ensures
    (λ bad e. negation-fails (names_of c.args.scope.names.now) c.args.scope.depth c.args.input.now c.enter.new.self
    (tok c.in_ok-place.field-0) c.in_ok-place.ensures.reads c.in_ok-place.ensures.deeper c.requires bad e)

pub formula::negation-returns : goal.formula::negation-returns
formula::negation-returns t c = record {
  reads = let operand : c.in_ok-operand-2.operand.value ≡ c.in_ok-operand.operand = search rules in
      negation-read (names_of c.args.scope.names.now) c.args.scope.depth c.args.input.now c.enter.new.self
      (tok c.in_ok-place.field-0) c.in_ok-place.ensures.reads c.in_ok-place.ensures.deeper c.requires
      (formula_form c.in_ok-operand.operand) c.node.new.input c.in_ok-operand.ensures.reads
      ∙ ap (λ v. Ok (FormulaForm.negation c.in_ok-place.field-0.place (formula_form v), c.node.new.input)) (sym operand);
  fewer = search rules;
}

pub formula::modal-returns-in_err-place : goal.formula::modal-returns-in_err-place
formula::modal-returns-in_err-place t c =
    refuses c.from_residual.result c.from_residual.ensures.1
    (modal-enter-fails (names_of c.args.scope.names.now) c.args.scope.depth c.args.input.now c.args.modality c.requires c.in_err-place.field-0.0 c.in_err-place.ensures.reads)

pub formula::modal-returns-in_err-steps : goal.formula::modal-returns-in_err-steps
formula::modal-returns-in_err-steps t c =
    fails-on c.from_residual-in_err-steps.result c.from_residual-in_err-steps.ensures.1 c.in_err-steps.ensures
    (λ bad e. modal-steps-fail (names_of c.args.scope.names.now) c.args.scope.depth c.args.input.now c.enter.new.self
    (tok c.in_ok-place.field-0) c.in_ok-place.ensures.reads c.in_ok-place.ensures.deeper c.args.modality c.requires
    bad e)

pub formula::modal-returns-in_err-within : goal.formula::modal-returns-in_err-within
formula::modal-returns-in_err-within t c =
    fails-on c.from_residual-in_err-within.result c.from_residual-in_err-within.ensures.1 (known c.in_err-within.ensures c.node-operand.ensures)
    (λ bad e. modal-operand-fails (names_of c.args.scope.names.now) c.args.scope.depth c.args.input.now c.enter.new.self
    (tok c.in_ok-place.field-0) c.in_ok-place.ensures.reads c.in_ok-place.ensures.deeper c.args.modality c.requires
    (step_set_form c.in_ok-steps.steps) c.modal_steps.new.input c.in_ok-steps.ensures.reads bad e)

pub formula::modal-returns : goal.formula::modal-returns
formula::modal-returns t c =
    let operand = known c.in_ok-within.ensures.1 c.node-operand.ensures in
    record {
      reads = rw (c.in_ok-modal_node.ensures, c.in_ok-within.ensures.0)
          (modal-read (names_of c.args.scope.names.now) c.args.scope.depth c.args.input.now c.enter.new.self
          (tok c.in_ok-place.field-0) c.in_ok-place.ensures.reads c.in_ok-place.ensures.deeper c.args.modality c.requires
          (step_set_form c.in_ok-steps.steps) c.modal_steps.new.input c.in_ok-steps.ensures.reads
          (formula_form c.in_ok-within.operand) c.node-operand.new.input operand.reads);
      fewer = omega (arith, operand.fewer, c.in_ok-place.ensures.fewer, c.in_ok-steps.ensures.fewer);
    }

pub formula::bracketed-returns-in_err-enter : goal.formula::bracketed-returns-in_err-enter
formula::bracketed-returns-in_err-enter t c =
    refuses c.from_residual.result c.from_residual.ensures.1
    (plain-enter-fails (names_of c.args.scope.names.now) c.args.scope.depth c.args.input.now k.Open refl c.requires c.in_err-enter.field-0.0 c.in_err-enter.ensures.reads)

pub formula::bracketed-returns-in_err-inner : goal.formula::bracketed-returns-in_err-inner
formula::bracketed-returns-in_err-inner t c =
    fails-on c.from_residual-in_err-inner.result c.from_residual-in_err-inner.ensures.1 c.in_err-inner.ensures
    (λ bad e. bracketed-fails (names_of c.args.scope.names.now) c.args.scope.depth c.args.input.now c.enter.new.self
    (tok c.in_ok-enter.field-0) c.in_ok-enter.ensures.reads c.in_ok-enter.ensures.deeper c.requires bad e)

pub formula::bracketed-returns : goal.formula::bracketed-returns
formula::bracketed-returns t c = record {
  reads = rw c.and.ensures
      (bracketed-closes (names_of c.args.scope.names.now) c.args.scope.depth c.args.input.now c.enter.new.self
      (tok c.in_ok-enter.field-0) c.in_ok-enter.ensures.reads c.in_ok-enter.ensures.deeper
      tok c.close.result c.in_ok-inner.inner c.formula.new.input c.close.new.input c.requires c.in_ok-inner.ensures.reads c.close.ensures.reads);
  fewer = let low : length c.formula.new.input.tokens < length c.args.input.now.tokens = omega (arith, c.in_ok-enter.ensures.fewer, c.in_ok-inner.ensures.fewer) in
      rw c.and.ensures (and-fewer c.close.result c.in_ok-inner.inner _ _ _ c.close.ensures.fewer low);
}

pub formula::fixpoint-returns-in_err-name_place : goal.formula::fixpoint-returns-in_err-name_place
formula::fixpoint-returns-in_err-name_place t c =
    refuses c.from_residual-in_err-name_place.result c.from_residual-in_err-name_place.ensures.1
    (fixpoint-name-fails (names_of c.args.scope.names.now) c.args.scope.depth c.args.input.now c.enter.new.self
    c.args.sign (tok c.in_ok-place.field-0) c.requires c.in_ok-place.ensures.reads
    c.in_err-name_place.field-0.0 c.in_err-name_place.ensures.reads)

pub formula::fixpoint-returns-in_err-expect : goal.formula::fixpoint-returns-in_err-expect
formula::fixpoint-returns-in_err-expect t c =
    refuses c.from_residual-in_err-expect.result c.from_residual-in_err-expect.ensures.1
    (fixpoint-period-fails (names_of c.args.scope.names.now) c.args.scope.depth c.args.input.now c.enter.new.self
    c.args.sign (tok c.in_ok-place.field-0) c.requires c.in_ok-place.ensures.reads
    c.expect_name.new.self c.in_ok-name_place.name_place c.in_ok-name_place.text.now c.in_ok-name_place.ensures.reads c.in_err-expect.field-0.0 c.in_err-expect.ensures.reads)

pub formula::fixpoint-returns-in_err-body : goal.formula::fixpoint-returns-in_err-body
formula::fixpoint-returns-in_err-body t c =
    fails-on c.from_residual-in_err-body.result c.from_residual-in_err-body.ensures.1 c.in_err-body.ensures
    (λ bad e. fixpoint-body-fails (names_of c.args.scope.names.now) c.args.scope.depth c.args.input.now c.enter.new.self c.args.sign (tok c.in_ok-place.field-0) c.requires c.in_ok-place.ensures.reads
    c.expect_name.new.self c.in_ok-name_place.name_place c.in_ok-name_place.text.now c.in_ok-name_place.ensures.reads
    c.expect.new.self (tok c.in_ok-expect.field-0) c.in_ok-expect.ensures.reads c.in_ok-place.ensures.deeper bad e)

pub formula::fixpoint-returns : goal.formula::fixpoint-returns
formula::fixpoint-returns t c = record {
  reads = let text : string_bytes c.in_ok-to_owned.field-0 ≡ c.in_ok-name_place.text.now = search rules in
      let body : c.in_ok-body-2.body.value ≡ c.in_ok-body.body = search rules in
      rw (text, body)
      (fixpoint-read (names_of c.args.scope.names.now) c.args.scope.depth c.args.input.now c.enter.new.self c.args.sign (tok c.in_ok-place.field-0) c.requires c.in_ok-place.ensures.reads
      c.expect_name.new.self c.in_ok-name_place.name_place c.in_ok-name_place.text.now c.in_ok-name_place.ensures.reads
      c.expect.new.self (tok c.in_ok-expect.field-0) c.in_ok-expect.ensures.reads c.in_ok-place.ensures.deeper (formula_form c.in_ok-body.body) c.body.new.input c.in_ok-body.ensures.reads);
  fewer = search rules;
}

pub formula::body-returns : goal.formula::body-returns
formula::body-returns t c =
    let inside : names_of c.deref.result.now ≡ within (names_of c.args.scope.names.now) c.args.name.now = search rules in
    rw (← inside) c.formula.ensures

pub formula::nameless-returns-in-True : goal.formula::nameless-returns-in-True
formula::nameless-returns-in-True t c =
    read-as (plain-at (names_of c.args.scope.names.now) c.args.scope.depth c.args.input.now k.True (sym c.kind.ensures ∙ c.in-True.is)) (omega arith) c.constant.ensures

pub formula::nameless-returns-in-False : goal.formula::nameless-returns-in-False
formula::nameless-returns-in-False t c =
    read-as (plain-at (names_of c.args.scope.names.now) c.args.scope.depth c.args.input.now k.False (sym c.kind.ensures ∙ c.in-False.is)) (omega arith) c.constant-in-False.ensures

pub formula::nameless-returns-in-Number : goal.formula::nameless-returns-in-Number
formula::nameless-returns-in-Number t c =
    read-as (plain-at (names_of c.args.scope.names.now) c.args.scope.depth c.args.input.now k.Number (sym c.kind.ensures ∙ c.in-Number.is)) (omega arith) c.data_atom.ensures

pub formula::nameless-returns-in-Minus : goal.formula::nameless-returns-in-Minus
formula::nameless-returns-in-Minus t c =
    read-as (plain-at (names_of c.args.scope.names.now) c.args.scope.depth c.args.input.now k.Minus (sym c.kind.ensures ∙ c.in-Minus.is)) (omega arith) c.data_atom-in-Minus.ensures

pub worded::wordless-returns-in_err-place : goal.worded::wordless-returns-in_err-place
worded::wordless-returns-in_err-place t c =
    let is : is_name_kind (kind c.args.input.now) ≡ true = search rules in
    refuses c.from_residual.result c.from_residual.ensures.1 (absurd (named-state c.args.input.now is c.in_err-place.field-0.0 c.in_err-place.ensures.reads))

pub worded::wordless-returns-then-is_word : goal.worded::wordless-returns-then-is_word
worded::wordless-returns-then-is_word t c =
    refused (rw c.unexpected_name.ensures (wordless-fails-at c.args.input.now c.in_ok-place.ensures.reads (names_of c.args.scope.names.now) c.args.scope.depth (search rules)))

pub worded::wordless-returns : goal.worded::wordless-returns
worded::wordless-returns t c =
    reads-on-as c.name_atom.ensures (wordless-atom-at c.args.input.now c.in_ok-place.ensures.reads (names_of c.args.scope.names.now) c.args.scope.depth (search rules))
    (named-kind c.args.input.now c.in_ok-place.ensures.reads, c.in_ok-place.ensures.reads) c.in_ok-place.ensures.fewer

pub worded::node-returns-in_err-place : goal.worded::node-returns-in_err-place
worded::node-returns-in_err-place t c =
    let is : is_name_kind (kind c.args.input.now) ≡ true = search rules in
    refuses c.from_residual.result c.from_residual.ensures.1 (absurd (named-state c.args.input.now is c.in_err-place.field-0.0 c.in_err-place.ensures.reads))

pub worded::node-returns-then-not-is_word : goal.worded::node-returns-then-not-is_word
worded::node-returns-then-not-is_word t c =
    reads-on-as c.name_atom.ensures (node-atom-at c.args.input.now c.in_ok-place.ensures.reads (names_of c.args.scope.names.now) c.args.scope.depth (search rules))
    (named-kind c.args.input.now c.in_ok-place.ensures.reads, c.in_ok-place.ensures.reads) c.in_ok-place.ensures.fewer

pub worded::node-returns-in-Some : goal.worded::node-returns-in-Some
worded::node-returns-in-Some t c =
    may-read-as (node-led-at c.args.input.now c.in_ok-place.ensures.reads (names_of c.args.scope.names.now) c.args.scope.depth c.in-Some.word (search rules) (search rules))
    c.in_ok-place.ensures.fewer c.led.ensures

pub worded::node-returns-in-None : goal.worded::node-returns-in-None
worded::node-returns-in-None t c =
    refused (rw c.unexpected_name.ensures (node-fails-at c.args.input.now c.in_ok-place.ensures.reads (names_of c.args.scope.names.now) c.args.scope.depth (search rules) (search rules)))

pub worded::joined_behind-returns-in_err-first : goal.worded::joined_behind-returns-in_err-first
worded::joined_behind-returns-in_err-first t c =
    refuses c.from_residual.result c.from_residual.ensures.1
    (absurd (named-state c.args.input.now (ap is_name_kind c.requires ∙ same-kind k.Name) c.in_err-first.field-0.0 (known-exactly _ _ _ c.in_err-first.ensures c.expect_name-named.ensures.reads)))

pub worded::joined_behind-returns-in_default : goal.worded::joined_behind-returns-in_default
worded::joined_behind-returns-in_default t c =
    refused (rw c.unexpected_name.ensures
    (joined-word-fails-at c.args.input.now (known-exactly _ _ _ c.in_ok-first.ensures.1 c.expect_name-named.ensures.reads) (node (names_of c.args.scope.names.now) c.args.scope.depth)
    (formula_form c.args.first) (search rules)))

pub worded::joined_behind-returns-in_err-first-2 : goal.worded::joined_behind-returns-in_err-first-2
worded::joined_behind-returns-in_err-first-2 t c =
    fails-on c.from_residual-in_err-first-2.result c.from_residual-in_err-first-2.ensures.1 (known c.in_err-first-2.ensures c.node-second.ensures)
    (λ bad e. joined-operand-fails-at c.args.input.now (known-exactly _ _ _ c.in_ok-first.ensures.1 c.expect_name-named.ensures.reads) (node (names_of c.args.scope.names.now) c.args.scope.depth)
    (formula_form c.args.first) c.in-Some.word (search rules) bad e)

pub worded::joined_behind-returns-then-same_kind : goal.worded::joined_behind-returns-then-same_kind
worded::joined_behind-returns-then-same_kind t c =
    let again : is_name_kind (kind c.node-second.new.input) ≡ true = search rules in
    refused (rw c.refuse.ensures
    (joined-again-at c.args.input.now (known-exactly _ _ _ c.in_ok-first.ensures.1 c.expect_name-named.ensures.reads) (node (names_of c.args.scope.names.now) c.args.scope.depth)
    (formula_form c.args.first) c.in-Some.word (search rules)
    (formula_form c.in_ok-first-2.second) c.node-second.new.input (known c.in_ok-first-2.ensures.1 c.node-second.ensures).reads again))

pub worded::joined_behind-returns : goal.worded::joined_behind-returns
worded::joined_behind-returns t c =
    let second = known c.in_ok-first-2.ensures.1 c.node-second.ensures in
    record {
      reads = let other : is_name_kind (kind c.node-second.new.input) ≡ false = search rules in
          rw (c.in_ok-infixed.ensures, c.in_ok-first-2.ensures.0, c.in_ok-first.ensures.0)
          (joined-read-at c.args.input.now (known-exactly _ _ _ c.in_ok-first.ensures.1 c.expect_name-named.ensures.reads) (node (names_of c.args.scope.names.now) c.args.scope.depth)
          (formula_form c.args.first) c.in-Some.word (search rules)
          (formula_form c.in_ok-first-2.second) c.node-second.new.input second.reads other);
      fewer = omega (arith, second.fewer, on-ok-where c.expect_name-named.result _ _ c.in_ok-first.ensures.1 c.expect_name-named.ensures.fewer);
    }

pub worded::fair_operand-returns : goal.worded::fair_operand-returns
worded::fair_operand-returns t c =
    let inside : names_of c.deref.result.now ≡ within_fair (names_of c.args.scope.names.now) = search rules in
    rw (← inside) c.wordless.ensures

pub worded::behind_fair-returns-in_err-sets : goal.worded::behind_fair-returns-in_err-sets
worded::behind_fair-returns-in_err-sets t c =
    fails-on c.from_residual.result c.from_residual.ensures.1 c.in_err-sets.ensures.reads
    (λ bad e. fair-sets-fail (names_of c.args.scope.names.now) c.args.scope.depth c.args.place c.args.input.now bad e)

pub worded::behind_fair-returns-in_err-processes : goal.worded::behind_fair-returns-in_err-processes
worded::behind_fair-returns-in_err-processes t c =
    fails-on c.from_residual-in_err-processes.result c.from_residual-in_err-processes.ensures.1 (known c.in_err-processes.ensures c.fair_operand-operand.ensures)
    (λ bad e. fair-operand-fails (names_of c.args.scope.names.now) c.args.scope.depth c.args.place c.args.input.now
    (processes_form c.in_ok-sets.sets) c.process_sets.new.input c.in_ok-sets.ensures.reads.reads c.in_ok-sets.ensures.deeper bad e)

pub worded::behind_fair-returns : goal.worded::behind_fair-returns
worded::behind_fair-returns t c =
    let operand = known c.in_ok-processes.ensures.1 c.fair_operand-operand.ensures in
    record {
      reads = rw (c.in_ok-fair.ensures, c.in_ok-processes.ensures.0)
          (fair-read (names_of c.args.scope.names.now) c.args.scope.depth c.args.place c.args.input.now
          (processes_form c.in_ok-sets.sets) c.process_sets.new.input c.in_ok-sets.ensures.reads.reads c.in_ok-sets.ensures.deeper
          (formula_form c.in_ok-processes.operand) c.fair_operand-operand.new.input operand.reads);
      fewer = omega (arith, operand.fewer, c.in_ok-sets.ensures.reads.fewer);
    }
