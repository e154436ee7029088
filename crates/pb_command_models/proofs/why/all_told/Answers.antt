-- Each turn tells one property more.
use Rattle.std.proofs.Common.{rules, ◌∙◌, ℕ, ◌<◌, ◌≤◌, List, [], ◌++◌, length, string_bytes, ap, refl, sym, subst, arith}
use Rattle.std.proofs.lemmas.List.{length-map}
use Rattle.pb_model_tree.specs.Form.{model_form, property_form}
use Rattle.pb_model_properties.specs.Words.{words_in, IsToldModelOf}
use Rattle.pb_command_faults.proofs.HandedUp.{handed_on}
use Rattle.pb_command_models.specs.Models.{IsUnexplained}
use Rattle.pb_command_models.specs.Why.{IsUnexplainedOf}
use Rattle.pb_command_models.proofs.Decisions.{same_at, same_lengths}
use Rattle.pb_command_models.proofs.PropertyVerdicts.{some_property}
use Rattle.pb_command_models.proofs.Tellings.{all_are_told, next_told}
use Rattle.pb_command_models.proofs.why.all_told.Goals as goal

pub loop-place-init : goal.loop-place-init
loop-place-init g c = record { same = c.new-asked_input.ensures; told = λ said. c.new-lines.ensures.bytes }

pub loop-place-preserved : goal.loop-place-preserved
loop-place-preserved g c =
    let model = c.args.solved.now.typed.model in
    let items = model.properties.items in
    let place = c.loop-place.place in
    let told = c.in_ok-told.told in
    let old = string_bytes c.loop-place.lines in
    let within : place < length items = omega (arith, c.len-place-end.ensures, c.loop-place-test.true, model.properties.ok.0) in
    let some = some_property property_form items place within in
    record {
      same = c.told_at.ensures.same ∙ c.loop-place.invariant.same;
      told = λ said.
          let same = same_at said.protocol (model_form model) said.protocol.properties (model_form model).properties place some.0 said.is_for.solved.properties some.1 in
          next_told c.args.options.lines (words_in c.args.solved.now) said.protocol (model_form model) place same.0 some.0 (string_bytes told) old (string_bytes c.push_str.new.self)
          same.1 some.1 ((rw c.loop-place.invariant.same at c.in_ok-told.ensures.told) said same.0 some.0 same.1 some.1) (c.loop-place.invariant.told said)
          (c.in_ok-push_str.ensures.bytes ∙ ap (λ (xs : List ℕ). old ++ xs) c.as_str.ensures.value);
    }

pub told_at-requires-clause-said : goal.told_at-requires-clause-said
told_at-requires-clause-said g c κs within = subst (λ bs. IsToldModelOf bs c.args.solved.now) (sym c.loop-place.invariant.same) c.requires

pub returns-in_err-told : goal.returns-in_err-told
returns-in_err-told g c = record {
  told = search rules;
  refused =
      let bytes = c.args.input.bytes.now in
      let model = c.args.solved.now.typed.model in
      let place = c.loop-place.place in
      let within : place < length model.properties.items = omega (arith, c.len-place-end.ensures, c.loop-place-test.true, model.properties.ok.0) in
      let some = some_property property_form model.properties.items place within in
      handed_on (IsUnexplainedOf bytes (model_form model) place) (IsUnexplained [] bytes) (λ f h. h [] some.0 some.1 refl)
      c.in_err-told.field-0.0 c.from_residual.result (rw c.loop-place.invariant.same at c.in_err-told.ensures.refused) c.from_residual.ensures.1;
}

pub returns : goal.returns
returns g c = record {
  told = λ said.
      let model = c.args.solved.now.typed.model in
      let properties = (model_form model).properties in
      let long : length properties ≤ c.loop-place.place =
      omega (arith, length-map model.properties.items property_form, c.len-place-end.ensures, c.loop-place-test.false, model.properties.ok.0) in
      let same = same_lengths said.protocol (model_form model) said.protocol.properties properties said.is_for.solved.properties in
      let as_long : length said.protocol.properties ≤ c.loop-place.place = omega (arith, long, same) in
      all_are_told c.args.options.lines (words_in c.args.solved.now) said.protocol (model_form model) c.loop-place.place (string_bytes c.loop-place.lines) as_long long
      (c.loop-place.invariant.told said);
  refused = tt;
}
