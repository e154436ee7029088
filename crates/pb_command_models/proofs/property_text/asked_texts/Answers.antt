-- Each turn adds the text at the next place.
use Rattle.std.proofs.Common.{rules, ℕ, ◌+◌, List, ◌∷◌, drop, get_or, ap, refl, sym}
use Rattle.std.specs.Prelude.{Contains}
use Rattle.std.proofs.lemmas.List.Elements.{Contains-get_or}
use Rattle.pb_model_tree.specs.Form.{model_form}
use Rattle.pb_command_models.specs.Outcomes.{IsTextAt}
use Rattle.pb_command_models.specs.declared.property_text.AskedText.{AskedText}
use Rattle.pb_command_models.proofs.Orders.{all_pushed, next_made}
use Rattle.pb_command_models.specs.Outcomes.{IsUntypedAt}
use Rattle.pb_command_faults.proofs.HandedUp.{handed_on}
use Rattle.pb_command_models.proofs.property_text.asked_texts.Goals as goal

pub loop-place-preserved : goal.loop-place-preserved
loop-place-preserved c =
    let asked = c.in_ok-asked.asked in
    let rest = c.loop-place in
    record {
      places = next_made (λ (a : AskedText). a.place) (λ (ps : List ℕ). ps) c.push.new.self.items rest.texts.items
          c.args.places.now rest.place-index asked (get_or c.args.places.now rest.place-index 0) 0
          c.in_ok-push.ensures.items c.loop-place-test.true refl (ap (λ (p : ℕ). p ∷ drop (rest.place-index + 1) c.args.places.now) (sym c.in_ok-asked.ensures.place)) rest.invariant.places;
      texts = all_pushed (IsTextAt (model_form c.args.solved.now.typed.model)) c.push.new.self.items rest.texts.items asked c.in_ok-push.ensures.items rest.invariant.texts c.in_ok-asked.ensures.text;
    }

pub returns-in_err-asked : goal.returns-in_err-asked
returns-in_err-asked c = record {
  places = search rules;
  texts = search rules;
  refused =
      let solved = c.args.solved.now in
      let places = c.args.places.now in
      let place = get_or places c.loop-place.place-index 0 in
      handed_on (IsUntypedAt solved place) (λ fault. (k : ℕ) × Contains places k × IsUntypedAt solved k fault)
      (λ fault h. (place, Contains-get_or places c.loop-place.place-index 0 c.loop-place-test.true, h))
      c.in_err-asked.field-0.0 c.from_residual.result c.in_err-asked.ensures.refused c.from_residual.ensures.1;
}
