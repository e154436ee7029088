-- One more is found.
use Rattle.std.proofs.Common.{◌≡◌, ◌∙◌, ◌++◌, ◌∷◌, ℕ, [], length, map, ap, refl, sym}
use Rattle.std.specs.List.{All}
use Rattle.std.proofs.lemmas.Iterator.Adapters.{YieldsList-from_vec}
use Rattle.std.proofs.lemmas.Iterator.Consumers.{YieldsList-turn, YieldsList-end}
use Rattle.std.proofs.lemmas.List.{map-id, map_push}
use Rattle.pb_model_properties.specs.Said.{IsModelOf}
use Rattle.pb_model_tree.specs.Form.{ModelForm}
use Rattle.pb_command_models.specs.declared.finding.PropertyFinding.{PropertyFinding}
use Rattle.pb_command_models.specs.declared.property_text.AskedText.{AskedText}
use Rattle.pb_command_models.specs.Models.{IsPropertyFound}
use Rattle.pb_command_models.specs.Outcomes.{AreSatisfied, IsTextAt}
use Rattle.pb_command_models.proofs.Decisions.{still_has}
use Rattle.pb_command_models.proofs.Orders.{all_pushed, of_item}
use Rattle.pb_command_models.proofs.decision.findings_of.Given.{Over}
use Rattle.pb_command_models.proofs.decision.findings_of.Goals as goal
use Rattle.pb_command_models.proofs.decision.findings_of.Goals.{In-Some, In_ok-push}

-- the text that is taken is the model's at its place where each is
text_taken : (g : Over) (c : In-Some g) (model : ModelForm) → All (IsTextAt model) c.args.texts.items → IsTextAt model c.in-Some.asked
text_taken g c model all =
    let texts = c.args.texts.items in
    let gives = c.into_iter-asked-iterator.ensures.into_iter_gives in
    let turn = YieldsList-turn (YieldsList-from_vec {s = c.into_iter-asked-iterator.result} texts gives.0 (gives.1 ∙ c.args.texts.ok.0))
    c.texts.yielded c.texts.asked-iterator c.texts.yielded_by _ c.next.new.self c.in-Some.asked c.in-Some.is c.next.ensures.steps in
    of_item (IsTextAt model) texts (length c.texts.yielded) c.in-Some.asked all turn.0 turn.1

pub finding_of_text-requires-after_bounds : goal.finding_of_text-requires-after_bounds
finding_of_text-requires-after_bounds g c κs within =
    let given = c.requires in
    let at = text_taken g (goal.at.finding_of_text-requires-after_bounds g c).In-Some given.0 given.2.0 in
    still_has _ c.texts.invariant.same (given.0, given.1, (at, given.2.1))

module _ (g : Over) (c : In_ok-push g) where
  -- one place more is found
  places : map (λ (f : PropertyFinding). f.place) c.push.new.self.items ≡ map (λ (a : AskedText). a.place) (c.texts.yielded ++ c.in-Some.asked ∷ [])
  places =
      let asked = c.in-Some.asked in
      let found = c.in_ok-found.found in
      let pushed : c.push.new.self.items ≡ c.texts.findings.items ++ found ∷ [] = c.in_ok-push.ensures.items in
      let place : PropertyFinding → ℕ = λ f. f.place in
      let asked_place : AskedText → ℕ = λ a. a.place in
      let more : map place (c.texts.findings.items ++ found ∷ []) ≡ map asked_place (c.texts.yielded ++ asked ∷ []) =
      rw (map_push place c.texts.findings.items found, map_push asked_place c.texts.yielded asked, c.texts.invariant.places, c.in_ok-found.ensures.place) refl in
      ap (map place) pushed ∙ more

  -- what is found is, of each text that was taken
  all_found : (model : ModelForm) (said : IsModelOf c.args.input.bytes.now model) → All (IsTextAt model) c.args.texts.items → IsTextAt model c.in-Some.asked
      → AreSatisfied c.args.satisfied.now model → All (IsPropertyFound c.args.options.counts said.protocol model) c.push.new.self.items
  all_found model said all at satisfied =
      all_pushed (IsPropertyFound c.args.options.counts said.protocol model) c.push.new.self.items c.texts.findings.items
      c.in_ok-found.found c.in_ok-push.ensures.items (c.texts.invariant.found model said all satisfied)
      ((rw c.texts.invariant.same at c.in_ok-found.ensures.found) model said at satisfied)

pub texts-preserved : goal.texts-preserved
texts-preserved g c =
    let at = goal.at.texts-preserved g c in
    record {
      same = c.finding_of_text.ensures.same ∙ c.texts.invariant.same;
      places = places g at.In_ok-push;
      found = λ model said all satisfied. all_found g at.In_ok-push model said all (text_taken g at.In-Some model all) satisfied;
    }

pub returns : goal.returns
returns g c =
    let given = c.into_iter-asked-iterator.ensures.into_iter_gives in
    let ended = YieldsList-end (YieldsList-from_vec {s = c.into_iter-asked-iterator.result} c.args.texts.items given.0 (given.1 ∙ c.args.texts.ok.0))
    c.texts.yielded c.texts.asked-iterator c.texts.yielded_by _ c.next.new.self c.in-None.is c.next.ensures.steps in
    let all : c.texts.yielded ≡ c.args.texts.items = sym (map-id c.texts.yielded) ∙ ended.0 in
    record { places = c.texts.invariant.places ∙ ap (map (λ (a : AskedText). a.place)) all; found = c.texts.invariant.found }
