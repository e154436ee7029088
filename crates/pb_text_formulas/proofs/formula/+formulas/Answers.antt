use Rattle.std.proofs.Common.{rules, arith, ◌≡◌, ◌<◌, ◌-◌, length, true, false, vec_len, ◌∙◌, Ok}
use Rattle.pb_base.proofs.Faults.{if_fault}
use Rattle.pb_text_tree.specs.Form.{FormulaForm, formula_form, link_forms}
use Rattle.pb_text_lexer.specs.Kinds.{same_kind}
use Rattle.pb_text_lexer.specs.Steps.{kind}
use Rattle.pb_text_lexer.specs.Tokens.{tok}
use Rattle.pb_text_lexer.proofs.LoopLemmas.{resumed-first, resumed-end, resumed-more, resumed-operator-fails, resumed-operand-fails}
use Rattle.pb_text_terms.specs.Operators.{symbol_kind, is_connective}
use Rattle.pb_text_terms.proofs.ReaderLemmas.{fails-on, error-on, error-is, reads-on, has-read, goes-on}
use Rattle.pb_text_terms.proofs.PairLemmas.{fails-where, reads-where, on-ok-where}
use Rattle.pb_text_formulas.specs.Reading.{operand}
use Rattle.pb_text_formulas.proofs.FormulaLemmas.{level-chain, level-fails, links-last, node-other, level-alone-or-fails, conjunction-fails, disjunction-fails, primary-fails, primary-alone-or-fails}
use Rattle.pb_text_formulas.proofs.formula.+formulas.Goals as goal

pub node-returns-in_default : goal.node-returns-in_default
node-returns-in_default t c = rw c.refuse.ensures (record {
  reads = node-other c.args.depth c.args.input.now (λ q. c.in_default.not-Not (c.kind.ensures ∙ q)) (λ q. c.in_default.not-Open (c.kind.ensures ∙ q))
      (λ q. c.in_default.not-True (c.kind.ensures ∙ q)) (λ q. c.in_default.not-False (c.kind.ensures ∙ q))
      (λ q. c.in_default.not-Val (c.kind.ensures ∙ q)) (λ q. c.in_default.not-Name (c.kind.ensures ∙ q));
  fewer = tt;
})

pub level-returns-in_err-first : goal.level-returns-in_err-first
level-returns-in_err-first t c =
    fails-on c.from_residual.result c.from_residual.ensures.1 c.in_err-first.ensures (level-fails c.args.connective c.args.depth c.args.input.now)

pub level-returns-then-not-same_kind : goal.level-returns-then-not-same_kind
level-returns-then-not-same_kind t c =
    let other : same_kind (kind c.operand-first.new.input) (symbol_kind c.args.connective) ≡ false = search rules in
    record {
      reads = level-alone-or-fails c.args.connective c.args.depth c.args.input.now c.operand-first.new.input c.operand-first.result c.operand-first.ensures.reads other;
      fewer = c.operand-first.ensures.fewer;
    }

pub links_behind-links-init : goal.links_behind-links-init
links_behind-links-init t c = record {
  reads = λ s x h. rw (c.in_ok-links.ensures.items, c.in_ok-links.ensures.len) (level-chain c.args.connective c.args.depth s
      ∙ resumed-first (symbol_kind c.args.connective) (FormulaForm.connected c.args.connective) (operand c.args.connective c.args.depth) (length s.tokens) s c.args.input.now
      x h.reads);
  room = omega (arith, c.in_ok-links.ensures.len);
}

pub links_behind-returns-in_err-place-clause-reads : goal.links_behind-returns-in_err-place-clause-reads
links_behind-returns-in_err-place-clause-reads t c s x h =
    let same : same_kind (kind c.links.input) (symbol_kind c.args.connective) ≡ true = search rules in
    rw (error-is c.from_residual-in_err-place.result _ c.from_residual-in_err-place.ensures.1)
    (c.links.invariant.reads s x h
    ∙ resumed-operator-fails (symbol_kind c.args.connective) (FormulaForm.connected c.args.connective) (operand c.args.connective c.args.depth)
    (length s.tokens - vec_len c.links.links) _ (link_forms c.links.links.items) c.links.input c.in_err-place.field-0.0 same c.in_err-place.ensures.reads)

pub links_behind-returns-in_err-operand-clause-reads : goal.links_behind-returns-in_err-operand-clause-reads
links_behind-returns-in_err-operand-clause-reads t c s x h =
    let same : same_kind (kind c.links.input) (symbol_kind c.args.connective) ≡ true = search rules in
    let some : 0 < length s.tokens - vec_len c.links.links = omega (arith, h.fewer) in
    rw (error-is c.from_residual-in_err-operand.result _ c.from_residual-in_err-operand.ensures.1)
    (if_fault c.in_err-operand.field-0.0
    (λ bad e. c.links.invariant.reads s x h
    ∙ resumed-operand-fails (symbol_kind c.args.connective) (FormulaForm.connected c.args.connective) (operand c.args.connective c.args.depth)
    (length s.tokens - vec_len c.links.links) _ (link_forms c.links.links.items)
    c.links.input c.take_operator.new.self (tok c.in_ok-place.field-0) bad some same c.in_ok-place.ensures.reads e) c.in_err-operand.ensures.reads)

pub links_behind-links-preserved : goal.links_behind-links-preserved
links_behind-links-preserved t c =
    let same : same_kind (kind c.links.input) (symbol_kind c.args.connective) ≡ true = search rules in
    record {
      reads = λ s x h. let fewer = h.fewer in
          rw (c.in_ok-push.ensures.items, links-last)
          (c.links.invariant.reads s x h
          ∙ resumed-more (symbol_kind c.args.connective) (FormulaForm.connected c.args.connective)
          (operand c.args.connective c.args.depth) (length s.tokens - vec_len c.links.links)
          (length s.tokens - vec_len c.push.new.self) _ (link_forms c.links.links.items) c.links.input c.take_operator.new.self c.operand.new.input
          (tok c.in_ok-place.field-0) (formula_form c.in_ok-operand.operand)
          (omega (arith, c.in_ok-push.ensures.len, c.links.invariant.room, fewer)) same c.in_ok-place.ensures.reads
          c.in_ok-operand.ensures.reads);
      room = omega (arith, c.in_ok-place.ensures.fewer, c.in_ok-operand.ensures.fewer, c.in_ok-push.ensures.len);
    }

pub links_behind-returns-clause-reads : goal.links_behind-returns-clause-reads
links_behind-returns-clause-reads t c s x h =
    let other : same_kind (kind c.links.input) (symbol_kind c.args.connective) ≡ false = search rules in
    c.links.invariant.reads s x h
    ∙ resumed-end (symbol_kind c.args.connective) (FormulaForm.connected c.args.connective) (operand c.args.connective c.args.depth)
    (length s.tokens - vec_len c.links.links) _ (link_forms c.links.links.items) c.links.input other

pub chain-returns-in_err-start : goal.chain-returns-in_err-start
chain-returns-in_err-start t c =
    error-on c.from_residual.result _ c.from_residual.ensures.1
    (λ s h. fails-where _ _ c.links_behind-links.result c.links_behind-links.new.input c.in_err-start.field-0.0 c.in_err-start.ensures
    (c.links_behind-links.ensures.reads s (formula_form c.args.first) h))

pub chain-returns : goal.chain-returns
chain-returns t c = record {
  reads = λ s h.
      rw (c.in_ok-joined.ensures, c.in_ok-start.ensures.0)
      (reads-where _ _ c.links_behind-links.result c.links_behind-links.new.input c.in_ok-start.links c.in_ok-start.ensures.1
      (c.links_behind-links.ensures.reads s (formula_form c.args.first) h));
  fewer = on-ok-where c.links_behind-links.result c.in_ok-start.links _ c.in_ok-start.ensures.1 c.links_behind-links.ensures.fewer;
}

pub level-returns : goal.level-returns
level-returns t c = reads-on c.chain.ensures (has-read c.in_ok-first.ensures)

pub chain_behind-returns-then-not-same_kind : goal.chain_behind-returns-then-not-same_kind
chain_behind-returns-then-not-same_kind t c =
    let other : same_kind (kind c.args.input.now) (symbol_kind c.args.connective) ≡ false = search rules in
    record {
      reads = λ s h. level-alone-or-fails c.args.connective c.args.depth s c.args.input.now (Ok c.args.first) h.reads other;
      fewer = search rules;
    }

pub chain_behind-returns : goal.chain_behind-returns
chain_behind-returns t c = c.chain.ensures

pub connectives_behind-returns-in_err-conjunction : goal.connectives_behind-returns-in_err-conjunction
connectives_behind-returns-in_err-conjunction t c =
    error-on c.from_residual.result _ c.from_residual.ensures.1
    (λ s h. if_fault c.in_err-conjunction.field-0.0 (conjunction-fails c.args.depth s) (c.in_err-conjunction.ensures.reads s h))

pub connectives_behind-returns-in_err-disjunction : goal.connectives_behind-returns-in_err-disjunction
connectives_behind-returns-in_err-disjunction t c =
    error-on c.from_residual-in_err-disjunction.result _ c.from_residual-in_err-disjunction.ensures.1
    (λ s h. if_fault c.in_err-disjunction.field-0.0 (disjunction-fails c.args.depth s) (c.in_err-disjunction.ensures.reads s (goes-on h c.in_ok-conjunction.ensures)))

pub connectives_behind-returns : goal.connectives_behind-returns
connectives_behind-returns t c = record {
  reads = λ s h. c.chain_behind-3.ensures.reads s (goes-on (goes-on h c.in_ok-conjunction.ensures) c.in_ok-disjunction.ensures);
  fewer = search rules;
}

pub formula-returns-in_err-first : goal.formula-returns-in_err-first
formula-returns-in_err-first t c = fails-on c.from_residual.result c.from_residual.ensures.1 c.in_err-first.ensures (primary-fails c.args.depth c.args.input.now)

pub formula-returns-then-not-is_connective : goal.formula-returns-then-not-is_connective
formula-returns-then-not-is_connective t c =
    let other : is_connective (kind c.operand-first.new.input) ≡ false = search rules in
    record {
      reads = primary-alone-or-fails c.args.depth c.args.input.now c.operand-first.new.input c.operand-first.result c.operand-first.ensures.reads other;
      fewer = c.operand-first.ensures.fewer;
    }

pub formula-returns : goal.formula-returns
formula-returns t c = reads-on c.connectives_behind.ensures (has-read c.in_ok-first.ensures)
