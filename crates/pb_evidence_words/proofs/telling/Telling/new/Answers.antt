use Rattle.std.proofs.Common.{◌≡◌, Bool, List, sym, ap, ◌∙◌, subst, true}
use Rattle.pb_text_tree.specs.Form.{SpecForm, spec_form}
use Rattle.pb_text_meaning.specs.Erase.{erase}
use Rattle.pb_sorts.specs.declared.carrier.Carrier.{Carrier}
use Rattle.pb_sorts.specs.Instance.{is_instance}
use Rattle.pb_sorts.specs.Layout.{carriers_of}
use Rattle.pb_typing.specs.Typed.{IsLayout}
use Rattle.pb_model_tree.specs.Form.{model_form}
use Rattle.pb_evidence_places.proofs.Carriers.{same_carriers}
use Rattle.pb_report.proofs.Lines.{instance_below}
use Rattle.pb_evidence.specs.Evidence.{graph_of}
use Rattle.pb_evidence_words.specs.Lines.{AreLinesOf}
use Rattle.pb_evidence_words.proofs.States.{state-known}
use Rattle.pb_evidence_words.proofs.Told.{has-lines}
use Rattle.pb_evidence_words.proofs.telling.Telling.new.Goals as goal

pub new-requires : goal.new-requires
new-requires c =
    let s = c.args.shown.now in
    has-lines s.verified.now c.requires.trees s.explanation.now c.requires.explanation

pub invariant_of-result : goal.invariant_of-result
invariant_of-result c =
    let s = c.args.shown.now in
    let typed = s.typed.now in
    let steps = s.steps.now in
    let whole = same_carriers (spec_form typed.spec) typed.layout s.verified.now typed.laid_out c.requires.compiled in
    let laid = subst (λ (t : SpecForm). IsLayout (erase t) typed.layout) c.requires.property.2 typed.laid_out in
    let also = subst (λ (t : SpecForm). IsLayout (erase t) steps.layout) c.requires.steps.2 steps.laid_out in
    record {
      ready = record {
        text = ∣ c.new-calls.ensures.text ∣₁;
        steps_text = ∣ c.new-steps.ensures.text ∣₁;
        layout = ap carriers_of c.new-calls.ensures.layout ∙ sym whole;
        states = λ i known.
            subst (λ (l : List (List Carrier)). is_instance (carriers_of l) (record { equation = 0; values = i.values }) ≡ true) (sym c.new-steps.ensures.layout)
            (state-known (model_form s.model.now) c.requires.property.0 c.requires.steps.0 c.requires.property.1 c.requires.steps.1
            typed.layout steps.layout laid also i (subst (λ css. is_instance css i ≡ true) whole known));
        evidence = has-lines s.verified.now c.requires.trees s.explanation.now c.requires.explanation;
        ordered = subst (λ (cuts : List Bool). AreLinesOf (graph_of s.explanation.now.evidence) cuts c.in_ok-lines.lines) c.deref.ensures.value c.in_ok-lines.ensures;
        below = instance_below s.verified.now c.requires.trees s.explanation.now c.requires.explanation;
      };
    }
