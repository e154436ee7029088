-- One text after another passes.
use Rattle.std.proofs.Common.{◌≡◌, ℕ, ◌+◌, ◌<◌, ◌≤◌, Some, subst, rules, inl, inr, arith}
use Rattle.std.specs.Prelude.{◌⊎◌}
use Rattle.std.specs.List.{slice_get}
use Rattle.std.proofs.lemmas.Bool.{cases_lt}
use Rattle.std.proofs.lemmas.List.{length-map}
use Rattle.pb_base.specs.OrMemory.{IfFault}
use Rattle.pb_model_tree.specs.Form.{PropertyForm, model_form, property_form}
use Rattle.pb_model_properties.specs.Refusals.{HasRefusedText, PassesAsText}
use Rattle.pb_model_properties.proofs.PassingTexts.{refused-among, stands-at}
use Rattle.pb_model_properties.proofs.whole.check_texts.Goals as goal

pub loop-place-init : goal.loop-place-init
loop-place-init c = λ k p below at. absurd (omega (arith, below))

pub loop-place-preserved : goal.loop-place-preserved
loop-place-preserved c = λ k p below at. by k p below at (cases_lt k c.loop-place.place)
  where
    by : (k : ℕ) (p : PropertyForm) → k < c.loop-place.place + 1 → slice_get (model_form c.args.solved.now.typed.model).properties k ≡ Some p
        → (k < c.loop-place.place) ⊎ (c.loop-place.place ≤ k) → PassesAsText c.args.solved.now p
    by k p below at (inl before) = c.loop-place.invariant k p before at
    by k p below at (inr last) =
        let here : k ≡ c.loop-place.place = omega (arith, below, last) in
        c.in_ok-check_text.ensures.passes p (subst (λ (j : ℕ). slice_get (model_form c.args.solved.now.typed.model).properties j ≡ Some p) here at)

pub returns-clause-passes : goal.returns-clause-passes
returns-clause-passes c = λ p among.
    let items = c.args.solved.now.typed.model.properties in
    let found = stands-at (model_form c.args.solved.now.typed.model).properties p among in
    let many = length-map items.items property_form in
    c.loop-place.invariant found.0 p (omega (arith, found.1, many, c.len-place-end.ensures, items.ok.0, c.loop-place-test.false)) found.2

pub returns-in_err-check_text-clause-refused : goal.returns-in_err-check_text-clause-refused
returns-in_err-check_text-clause-refused c =
    let items = c.args.solved.now.typed.model.properties in
    let e = c.in_err-check_text.field-0.0 in
    let h : IfFault e (HasRefusedText c.args.solved.now) =
    refused-among c.args.solved.now c.loop-place.place (omega (arith, c.len-place-end.ensures, items.ok.0, c.loop-place-test.true)) e c.in_err-check_text.ensures.refused in
    search rules
