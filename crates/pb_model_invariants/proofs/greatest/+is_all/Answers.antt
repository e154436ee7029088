use Rattle.std.proofs.Common.{◌∙◌, refl, sym, false}
use Rattle.pb_model_invariants.specs.Invariants.{is_all}
use Rattle.pb_model_invariants.proofs.Chains.{set-alone, set-several}
use Rattle.pb_model_invariants.proofs.greatest.+is_all.Goals as goal

pub returns-in-Some : goal.returns-in-Some
returns-in-Some t c =
    sym (set-several is_all false (λ q C D. refl) c.args.steps.now c.in-Union.first c.in-Union.links c.deref.result.now
    c.in-Some.field-0.now c.in-Union.is c.deref.ensures.value c.in-Some.ensures.value)

pub returns-in-None : goal.returns-in-None
returns-in-None t c =
    c.is_all.ensures
    ∙ sym (set-alone is_all c.args.steps.now c.deref-in-None.result.now c.in-Union.first c.in-Union.links c.deref.result.now
    c.in-Union.is c.deref-in-None.ensures c.deref.ensures.value c.in-None.ensures.value)
