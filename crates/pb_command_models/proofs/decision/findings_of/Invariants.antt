use Rattle.std.proofs.Common.{◌≡◌, map}
use Rattle.std.specs.List.{All}
use Rattle.pb_model_tree.specs.Form.{ModelForm}
use Rattle.pb_model_properties.specs.Said.{IsModelOf}
use Rattle.pb_command_models.specs.Models.{IsPropertyFound}
use Rattle.pb_command_models.specs.Outcomes.{AreSatisfied, IsTextAt}
use Rattle.pb_command_models.proofs.decision.findings_of.Given as goal

abbrev pub invariant-texts : goal.invariant-texts
invariant-texts g l = record {
  same : l.asked_input ≡ l.fn.input.bytes.now;
  places : map (λ found. found.place) l.findings.items ≡ map (λ asked. asked.place) l.yielded;
  found : (model : ModelForm) → (said : IsModelOf l.fn.input.bytes.now model) → All (IsTextAt model) l.fn.texts.items
      → AreSatisfied l.fn.satisfied model → All (IsPropertyFound l.options.counts said.protocol model) l.findings.items;
}
