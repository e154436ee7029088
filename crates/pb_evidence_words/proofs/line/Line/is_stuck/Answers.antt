use Rattle.std.proofs.Common.{List, ap, ◌∙◌}
use Rattle.std.proofs.Props.{props}
use Rattle.std.proofs.Math.Logic.{∥∥₁_elim}
use Rattle.pb_text_tree.specs.Form.{SpecForm, spec_form}
use Rattle.pb_sorts.specs.Instance.{Instance, instance_of}
use Rattle.pb_typing_calls.specs.MadeCalls.{calls_at}
use Rattle.pb_typing_calls.specs.declared.made_call.MadeCall as declared_call
use Rattle.pb_typing_calls.specs.MadeCallView.{call_views}
use Rattle.pb_evidence_words.specs.WhyText.{is_empty}
use Rattle.pb_evidence_words.proofs.line.Line.is_stuck.Goals as goal

pub calls-requires : goal.calls-requires
calls-requires c = c.args.self.now.telling.now.ready.states (instance_of c.instance-state.result) c.instance-state.ensures.known

pub returns : goal.returns
returns c =
    let i : Instance = instance_of c.instance-state.result in
    ∥∥₁_elim c.args.self.now.telling.now.ready.steps_text (hlevel props) (λ steps_text.
    c.are_none.ensures
    ∙ (ap (λ (cs : List declared_call.MadeCall). is_empty (call_views cs)) c.deref.ensures.value
    ∙ (ap is_empty c.in_ok-calls.ensures
    ∙ (ap (λ (t : SpecForm). is_empty (calls_at t (record { equation = 0; values = i.values }))) steps_text
    ∙ ap (λ (j : Instance). is_empty (calls_at (spec_form c.args.self.now.telling.now.shown.now.steps.now.spec) (record { equation = 0; values = j.values })))
    c.instance-state.ensures.value))))
