-- The property of the name stands at the place that was found. Where none is named no property is missed.
use Rattle.std.proofs.Common.{rules, ◌≡◌, List, [], ◌∷◌, Option, Some, None, map, refl, string_bytes, sym, subst}
use Rattle.std.specs.Prelude.{IfNone, IfOk, option_copied}
use Rattle.pb_base.specs.OrMemory.{IfFault, IfRefused}
use Rattle.pb_base.specs.declared.or_memory.OrMemory.{OrMemory}
use Rattle.pb_command_faults.specs.declared.solve_fault.SolveFault.{SolveFault}
use Rattle.pb_base.proofs.Faults.{if_refused}
use Rattle.pb_model_tree.specs.Form.{model_form, property_form}
use Rattle.pb_model_properties.specs.Asked.{IsAskedAt, NoneIsAskedFor}
use Rattle.pb_model_properties.specs.Words.{words_in, IsToldModelOf}
use Rattle.pb_command_models.specs.Why.{IsUnshown, TellWhere}
use Rattle.pb_command_models.proofs.Tellings.{named_asked, named_is_told, never_missed, ok_more, unshown, within_mapped}
use Rattle.pb_command_models.proofs.why.asked_told.Goals as goal

pub told_at-requires-clause-within : goal.told_at-requires-clause-within
told_at-requires-clause-within g c κs outlive =
    within_mapped property_form c.deref.result.now c.args.solved.now.typed.model.properties.items c.in-Some-place_of.place c.in-Some-place_of.ensures.found.property
    c.deref.ensures.value c.in-Some-place_of.ensures.found.stands

pub told_at-requires-clause-said : goal.told_at-requires-clause-said
told_at-requires-clause-said g c κs outlive = subst (λ bs. IsToldModelOf bs c.args.solved.now) (sym c.new.ensures) c.requires

pub returns-in-Some-place_of : goal.returns-in-Some-place_of
returns-in-Some-place_of g c = record {
  told =
      let model = model_form c.args.solved.now.typed.model in
      let name = c.in-Some.name.now in
      let found = subst (λ (ps : List _). IsAskedAt (Some name) (map property_form ps) c.in-Some-place_of.place) c.deref.ensures.value c.in-Some-place_of.ensures.found in
      subst (λ o. IfOk c.told_at.result (λ lines. TellWhere c.args.options.lines (option_copied o) c.args.input.bytes.now c.args.solved.now (string_bytes lines))) (sym c.in-Some.is)
      (ok_more _ _ (λ lines h said. named_is_told c.args.options.lines name (words_in c.args.solved.now) said.protocol model said.is_for c.in-Some-place_of.place found (string_bytes lines) (h said))
      c.told_at.result (rw c.new.ensures at c.told_at.ensures.told));
  refused =
      let bytes = c.args.input.bytes.now in
      let name = c.in-Some.name.now in
      let found = subst (λ (ps : List _). IsAskedAt (Some name) (map property_form ps) c.in-Some-place_of.place) c.deref.ensures.value c.in-Some-place_of.ensures.found in
      subst (λ o. IfRefused c.told_at.result (IsUnshown (option_copied o) bytes)) (sym c.in-Some.is)
      (if_refused c.told_at.result (λ f h. unshown (Some name) bytes f (h (name ∷ []) found.property found.stands (named_asked name found.property found.asked.1)))
      (rw c.new.ensures at c.told_at.ensures.refused));
  named = search rules;
}

-- what holds where nothing is found
where_none : {T : Type 0} (Q : Type 0) (r : Option T) → ((x : T) → r ≡ Some x → ⊥) → IfNone r Q → Q
where_none Q None other h = h
where_none Q (Some x) other h = absurd (other x refl)

pub returns-in_default : goal.returns-in_default
returns-in_default g c = record {
  told = search rules;
  refused =
      let model = model_form c.args.solved.now.typed.model in
      let name = Some c.in-Some.name.now in
      let none = subst (λ (ps : List _). IfNone c.place_of.result (NoneIsAskedFor name (map property_form ps))) c.deref.ensures.value c.place_of.ensures.none in
      subst (λ o. IfFault c.into.result (IsUnshown (option_copied o) c.args.input.bytes.now)) (sym c.in-Some.is)
      (subst (λ (e : OrMemory SolveFault). IfFault e (IsUnshown name c.args.input.bytes.now)) (sym c.into.ensures)
      (model, c.requires.said, where_none (NoneIsAskedFor name model.properties) c.place_of.result c.in_default.not-Some none));
  named = search rules;
}

pub returns-in-None : goal.returns-in-None
returns-in-None g c = record {
  told = search rules;
  refused = subst (λ o. IfRefused c.all_told.result (IsUnshown (option_copied o) c.args.input.bytes.now)) (sym c.in-None.is)
      (if_refused c.all_told.result (unshown None c.args.input.bytes.now) c.all_told.ensures.refused);
  named =
      λ is.
      never_missed _ c.args.input.bytes.now c.all_told.result c.all_told.ensures.refused is;
}
