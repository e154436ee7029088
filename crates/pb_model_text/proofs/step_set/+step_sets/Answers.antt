use Rattle.std.proofs.Common.{rules, arith, ◌≡◌, ◌<◌, ◌-◌, length, false, vec_len, ◌∙◌}
use Rattle.pb_base.proofs.Faults.{if_fault}
use Rattle.pb_protocol_tree.specs.Form.{StepSetForm, step_set_form}
use Rattle.pb_text_lexer.specs.declared.kind.Kind.TheVariants.{Name, Or}
use Rattle.pb_text_lexer.specs.Kinds.{same_kind}
use Rattle.pb_text_lexer.specs.Steps.{kind}
use Rattle.pb_text_lexer.specs.Tokens.{tok}
use Rattle.pb_text_lexer.proofs.LoopLemmas.{resumed-first, resumed-first-fails, resumed-end, resumed-more, resumed-operator-fails, resumed-operand-fails}
use Rattle.pb_text_terms.proofs.ReaderLemmas.{fails-on, error-is, read-as}
use Rattle.pb_text_terms.proofs.PairLemmas.{fails-where, reads-where, on-ok-where}
use Rattle.pb_protocol_tree.specs.Links.{step_set_links}
use Rattle.pb_model_text.specs.Reading.{set}
use Rattle.pb_model_text.proofs.StepSetLemmas.{sets-chain, set-links-last, set-other, set-named}
use Rattle.pb_model_text.proofs.step_set.+step_sets.Goals as goal

pub set-returns-in_default : goal.set-returns-in_default
set-returns-in_default t c = rw c.refuse.ensures (record {
  reads = set-other c.args.depth c.args.input.now (λ q. c.in_default.not-True (c.kind.ensures ∙ q)) (λ q. c.in_default.not-Name (c.kind.ensures ∙ q))
      (λ q. c.in_default.not-Not (c.kind.ensures ∙ q)) (λ q. c.in_default.not-Open (c.kind.ensures ∙ q));
  fewer = tt;
})

pub step_set-returns-in_err-first : goal.step_set-returns-in_err-first
step_set-returns-in_err-first t c =
    fails-on c.from_residual.result c.from_residual.ensures.1 c.in_err-first.ensures
    (λ bad e. sets-chain c.args.depth c.args.input.now
    ∙ resumed-first-fails Or StepSetForm.union (set c.args.depth) (length c.args.input.now.tokens) c.args.input.now
    bad e)

pub links_behind-links-init : goal.links_behind-links-init
links_behind-links-init t c = record {
  reads = λ s x h. rw (c.new-links.ensures.items, c.new-links.ensures.len) (sets-chain c.args.depth s
      ∙ resumed-first Or StepSetForm.union (set c.args.depth) (length s.tokens) s c.args.input.now x h.reads);
  room = omega (arith, c.new-links.ensures.len);
}

pub links_behind-returns-in_err-place-clause-reads : goal.links_behind-returns-in_err-place-clause-reads
links_behind-returns-in_err-place-clause-reads t c s x h =
    rw (error-is c.from_residual.result _ c.from_residual.ensures.1)
    (c.links.invariant.reads s x h ∙ resumed-operator-fails Or StepSetForm.union (set c.args.depth)
    (length s.tokens - vec_len c.links.links) _ (step_set_links c.links.links.items) c.links.input c.in_err-place.field-0.0 (search rules) c.in_err-place.ensures.reads)

pub links_behind-returns-in_err-operand-clause-reads : goal.links_behind-returns-in_err-operand-clause-reads
links_behind-returns-in_err-operand-clause-reads t c s x h =
    let some : 0 < length s.tokens - vec_len c.links.links = omega (arith, h.fewer, c.links.invariant.room) in
    rw (error-is c.from_residual-in_err-operand.result _ c.from_residual-in_err-operand.ensures.1)
    (if_fault c.in_err-operand.field-0.0
    (λ bad e. c.links.invariant.reads s x h ∙ resumed-operand-fails Or StepSetForm.union (set c.args.depth)
    (length s.tokens - vec_len c.links.links) _ (step_set_links c.links.links.items)
    c.links.input c.take_operator.new.self (tok c.in_ok-place.field-0) bad some (search rules) c.in_ok-place.ensures.reads e) c.in_err-operand.ensures.reads)

pub links_behind-links-preserved : goal.links_behind-links-preserved
links_behind-links-preserved t c =
    record {
      reads = λ s x h. let fewer = h.fewer in
          rw (c.in_ok-push.ensures.items, set-links-last) (c.links.invariant.reads s x h ∙ resumed-more Or StepSetForm.union (set c.args.depth) (length s.tokens - vec_len c.links.links)
          (length s.tokens - vec_len c.push.new.self) _ (step_set_links c.links.links.items) c.links.input c.take_operator.new.self c.set.new.input
          (tok c.in_ok-place.field-0) (step_set_form c.in_ok-operand.operand)
          (omega (arith, c.in_ok-push.ensures.len, c.links.invariant.room, fewer)) (search rules) c.in_ok-place.ensures.reads
          c.in_ok-operand.ensures.reads);
      room = omega (arith, c.in_ok-place.ensures.fewer, c.in_ok-operand.ensures.fewer, c.in_ok-push.ensures.len, c.links.invariant.room);
    }

pub links_behind-returns-clause-reads : goal.links_behind-returns-clause-reads
links_behind-returns-clause-reads t c s x h =
    let other : same_kind (kind c.links.input) Or ≡ false = search rules in
    c.links.invariant.reads s x h
    ∙ resumed-end Or StepSetForm.union (set c.args.depth) (length s.tokens - vec_len c.links.links) _ (step_set_links c.links.links.items) c.links.input other

pub step_set-returns-in_err-start : goal.step_set-returns-in_err-start
step_set-returns-in_err-start t c =
    rw (error-is c.from_residual-in_err-start.result _ c.from_residual-in_err-start.ensures.1)
    (record {
      reads = fails-where _ _ c.links_behind-links.result c.links_behind-links.new.input c.in_err-start.field-0.0 c.in_err-start.ensures
          (c.links_behind-links.ensures.reads c.args.input.now (step_set_form c.in_ok-first.first) (record { reads = c.in_ok-first.ensures.reads; fewer = c.in_ok-first.ensures.fewer }));
      fewer = tt;
    })

pub step_set-returns : goal.step_set-returns
step_set-returns t c =
    let fewer = on-ok-where c.links_behind-links.result c.in_ok-start.links _ c.in_ok-start.ensures.1 c.links_behind-links.ensures.fewer in
    record {
      reads = rw (c.in_ok-joined.ensures, c.in_ok-start.ensures.0)
          (reads-where _ _ c.links_behind-links.result c.links_behind-links.new.input c.in_ok-start.links c.in_ok-start.ensures.1
          (c.links_behind-links.ensures.reads c.args.input.now (step_set_form c.in_ok-first.first) (record { reads = c.in_ok-first.ensures.reads; fewer = c.in_ok-first.ensures.fewer })));
      fewer = omega (arith, fewer, c.in_ok-first.ensures.fewer);
    }

pub set-returns-in-Name : goal.set-returns-in-Name
set-returns-in-Name t c =
    let is : kind c.args.input.now ≡ Name = search rules in
    read-as (set-named c.args.depth c.args.input.now is) (omega arith) c.step_instances.ensures
