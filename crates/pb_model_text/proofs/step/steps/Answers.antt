use Rattle.std.proofs.Common.{rules, arith, ◌≡◌, true, false, refl}
use Rattle.std.proofs.lemmas.List.{map_push}
use Rattle.pb_base.proofs.Faults.{if_fault}
use Rattle.pb_text_lexer.specs.Steps.{kind, nothing_between}
use Rattle.pb_text_terms.proofs.ReaderLemmas.{error-is}
use Rattle.pb_text_terms.proofs.ListLemmas.{listed-none, listed-fails, listed-ends, listed-goes-on}
use Rattle.pb_model_text.specs.ModelReading.{step}
use Rattle.pb_text_formulas.specs.Reading.{is_name_kind}
use Rattle.pb_model_text.proofs.step.steps.Goals as goal

pub steps-init : goal.steps-init
steps-init c = rw (c.new-steps.ensures.items, c.new-steps.ensures.len) (listed-none (step 64) is_name_kind nothing_between c.args.input.now)

pub returns-in_err-step : goal.returns-in_err-step
returns-in_err-step c =
    rw (error-is c.from_residual.result _ c.from_residual.ensures.1)
    (if_fault c.in_err-step.field-0.0 (listed-fails c.steps.invariant) c.in_err-step.ensures.reads)

pub returns-then-not-same_kind : goal.returns-then-not-same_kind
returns-then-not-same_kind c =
    let stops : is_name_kind (kind c.step.new.input) ≡ false = search rules in
    rw (c.in_ok-push.ensures.items, map_push) (listed-ends c.steps.invariant c.in_ok-step.ensures.reads stops)

pub steps-preserved : goal.steps-preserved
steps-preserved c =
    let goes : is_name_kind (kind c.step.new.input) ≡ true = search rules in
    rw (c.in_ok-push.ensures.items, map_push)
    (listed-goes-on c.steps.invariant c.in_ok-step.ensures.reads goes refl c.in_ok-push.ensures.len (omega (arith, c.in_ok-step.ensures.fewer)))
