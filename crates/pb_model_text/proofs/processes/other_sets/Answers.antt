use Rattle.std.proofs.Common.{rules, arith, ◌≡◌, ◌∷◌, [], ◌-◌, ◌<◌, ◌∙◌, map, true, false, suc, ap, vec_len, Ok}
use Rattle.std.proofs.lemmas.List.{append-nil}
use Rattle.pb_base.proofs.Faults.{if_fault}
use Rattle.pb_protocol_tree.specs.Form.{step_set_form}
use Rattle.pb_text_lexer.specs.Steps.{kind}
use Rattle.pb_text_lexer.specs.Tokens.{tok}
use Rattle.pb_text_terms.specs.Reading.{is_comma}
use Rattle.pb_text_terms.proofs.ReaderLemmas.{error-is}
use Rattle.pb_model_text.specs.Grammar.{most_others}
use Rattle.pb_model_text.specs.Reading.{step_set, other_sets}
use Rattle.pb_model_text.proofs.FairLemmas.{more_behind, twice-behind, sets-last, others-end, others-full, others-fail, others-more}
use Rattle.pb_model_text.proofs.processes.other_sets.Goals as goal

pub returns-then-len-eq-MOST_OTHERS : goal.returns-then-len-eq-MOST_OTHERS
returns-then-len-eq-MOST_OTHERS c = record {
  reads = let on : is_comma (kind c.others.input) ≡ true = search rules in
      let full : most_others - vec_len c.others.others ≡ 0 = omega (arith, c.if-len-eq-MOST_OTHERS.true, c.len.ensures) in
      rw c.refuse.ensures (c.others.invariant.reads ∙ ap (λ n. more_behind (map step_set_form c.others.others.items) (other_sets n (step_set c.args.depth) c.others.input)) full
      ∙ ap (more_behind (map step_set_form c.others.others.items)) (others-full (step_set c.args.depth) c.others.input on));
  fewer = search rules;
}

pub returns-in_err-set : goal.returns-in_err-set
returns-in_err-set c =
    let on : is_comma (kind c.others.input) ≡ true = search rules in
    let some : 0 < most_others - vec_len c.others.others = omega (arith, c.if-len-eq-MOST_OTHERS.false, c.len.ensures, c.others.invariant.room) in
    rw (error-is c.from_residual.result _ c.from_residual.ensures.1)
    (record {
      reads = if_fault c.in_err-set.field-0.0
          (λ bad e. c.others.invariant.reads ∙ ap (more_behind (map step_set_form c.others.others.items))
          (others-fail (step_set c.args.depth) c.others.input on (tok c.take.result) c.take.new.self c.take.ensures.reads (most_others - vec_len c.others.others) some bad e))
          c.in_err-set.ensures.reads;
      fewer = tt;
    })

pub others-preserved : goal.others-preserved
others-preserved c =
    let on : is_comma (kind c.others.input) ≡ true = search rules in
    let xs = map step_set_form c.others.others.items in
    let one : most_others - vec_len c.others.others ≡ suc (most_others - vec_len c.push.new.self) =
    omega (arith, c.if-len-eq-MOST_OTHERS.false, c.len.ensures, c.others.invariant.room, c.in_ok-push.ensures.len) in
    let more = others-more (step_set c.args.depth) c.others.input on (tok c.take.result) c.take.new.self c.take.ensures.reads
    (most_others - vec_len c.others.others) (most_others - vec_len c.push.new.self) one (step_set_form c.in_ok-set.set) c.step_set.new.input c.in_ok-set.ensures.reads in
    record {
      reads = rw (c.in_ok-push.ensures.items, sets-last) (c.others.invariant.reads ∙ ap (more_behind xs) more ∙ twice-behind xs (step_set_form c.in_ok-set.set ∷ []) _);
      room = omega (arith, c.if-len-eq-MOST_OTHERS.false, c.len.ensures, c.others.invariant.room, c.in_ok-push.ensures.len);
      fewer = omega (arith, c.take.ensures.fewer, c.in_ok-set.ensures.fewer, c.others.invariant.fewer);
    }

pub returns : goal.returns
returns c = record {
  reads = let other : is_comma (kind c.others.input) ≡ false = search rules in
      c.others.invariant.reads ∙ ap (more_behind (map step_set_form c.others.others.items)) (others-end (step_set c.args.depth) c.others.input (most_others - vec_len c.others.others) other)
      ∙ ap (λ v. Ok (v, c.others.input)) (append-nil (map step_set_form c.others.others.items));
  fewer = search rules;
}
