use Rattle.std.proofs.Common.{◌∙◌, ℕ, length, sym, ap}
use Rattle.std.specs.Prelude.{◌==◌}
use Rattle.std.proofs.lemmas.List.{length-map}
use Rattle.pb_text_tree.specs.Form.{argument_forms}
use Rattle.pb_protocol_typing.specs.Steps.{count}
use Rattle.pb_protocol_typing.specs.View.{state_entry_form}
use Rattle.pb_protocol_typing.proofs.Steps.{count_length}
use Rattle.pb_protocol_typing.proofs.step.is_count.Goals as goal

pub returns : goal.returns
returns c =
    let vs = c.args.values.now in
    let es = c.args.entries.now in
    ap (λ (n : ℕ). n == length es) (sym (count_length vs)) ∙ ap (λ (m : ℕ). count (argument_forms vs) == m) (sym (length-map es state_entry_form))
