use Rattle.std.proofs.Common.{ap, ◌∙◌}
use Rattle.std.proofs.Math.Logic.{∥∥₁_map}
use Rattle.pb_text_tree.specs.Form.{SpecForm, spec_form}
use Rattle.pb_sorts.specs.Instance.{Instance, instance_of}
use Rattle.pb_typing_calls.specs.MadeCalls.{calls_at}
use Rattle.pb_evidence_words.proofs.line.Line.caller.Goals as goal

pub invariant_of-result : goal.invariant_of-result
invariant_of-result c =
    let i : Instance = instance_of c.instance-instance.result in
    record {
      known = c.instance-instance.ensures.known;
      made = ∥∥₁_map c.args.self.now.telling.now.ready.text (λ text. record {
        instance = c.instance-instance.ensures.value;
        calls = c.in_ok-calls.ensures
            ∙ (ap (λ (t : SpecForm). calls_at t i) text
            ∙ ap (λ (j : Instance). calls_at (spec_form c.args.self.now.telling.now.shown.now.typed.now.spec) j) c.instance-instance.ensures.value);
      });
    }
