-- The text of the property at the place is explained, and tells the verdict or not.
use Rattle.std.proofs.Common.{◌≡◌, ◌∙◌, Some, refl, ap, sym}
use Rattle.std.specs.List.{slice_get}
use Rattle.std.proofs.lemmas.List.{get_or_read}
use Rattle.pb_command_faults.proofs.HandedUp.{handed_on}
use Rattle.pb_model_tree.specs.Form.{PropertyForm, property_form}
use Rattle.pb_command_models.specs.Models.{solved_form}
use Rattle.pb_command_models.specs.Outcomes.{IsUnexplainedAt}
use Rattle.pb_command_models.specs.Why.{IsUnexplainedOf}
use Rattle.pb_command_models.proofs.Checked.{text_unexplained}
use Rattle.pb_command_models.proofs.Findings.{no_status}
use Rattle.pb_command_models.proofs.Tellings.{within_form}
use Rattle.pb_command_models.proofs.Verdicts.{at_mapped}
use Rattle.pb_command_models.proofs.told.told_at.Given.{Over}
use Rattle.pb_command_models.proofs.told.told_at.Goals as goal
use Rattle.pb_command_models.proofs.told.told_at.Goals.{After-rests_on_cut}

-- the property at the place has the name
named : (g : Over) (c : After-rests_on_cut g) (q : PropertyForm) → slice_get (solved_form c.args.solved.now).properties c.args.asked.place ≡ Some q → q.name.text ≡ c.deref.result.now
named g c q there =
    let items = c.args.solved.now.typed.model.properties.items in
    let place = c.args.asked.place in
    let property = c.index.result.now in
    let at = at_mapped property_form items place property c.requires.within (get_or_read items place property c.requires.within c.index.ensures property) in
    let both : Some (property_form property) ≡ Some q = sym at ∙ there in
    let same : property_form property ≡ q = cc both in
    sym (c.deref.ensures ∙ ap (λ (x : PropertyForm). x.name.text) same)

pub cut_told-requires-clause-own : goal.cut_told-requires-clause-own
cut_told-requires-clause-own g c κs within = record {
  explained = (within_form property_form c.args.solved.now.typed.model.properties.items c.args.asked.place c.requires.within, c.in_ok-explained.ensures.explained);
  own = refl;
  name = named g (goal.at.cut_told-requires-clause-own g c).After-rests_on_cut;
}

pub own_told-requires-clause-own : goal.own_told-requires-clause-own
own_told-requires-clause-own g c κs within = record {
  explained = (within_form property_form c.args.solved.now.typed.model.properties.items c.args.asked.place c.requires.within, c.in_ok-explained.ensures.explained);
  own = refl;
  name = named g (goal.at.own_told-requires-clause-own g c).After-rests_on_cut;
}

pub returns-in_err-explained : goal.returns-in_err-explained
returns-in_err-explained g c = record {
  same = refl;
  told = no_status _ _ c.from_residual.result c.from_residual.ensures.1;
  refused =
      let solved = c.args.solved.now in
      let place = c.args.asked.place in
      let bytes = c.args.input.now in
      handed_on (IsUnexplainedAt solved place) (IsUnexplainedOf bytes (solved_form solved) place) (text_unexplained bytes solved c.requires.said place)
      c.in_err-explained.field-0.0 c.from_residual.result c.in_err-explained.ensures.refused c.from_residual.ensures.1;
}
