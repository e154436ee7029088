use Rattle.std.proofs.Common.{map, string_bytes}
use Rattle.pb_model_words.specs.View.{variable_said}
use Rattle.pb_model_words.proofs.Summands.{lines-went-on}
use Rattle.pb_model_words.proofs.group_lines.push_lines.Goals as goal

pub loop-group-preserved : goal.loop-group-preserved
loop-group-preserved c =
    lines-went-on (string_bytes c.loop-group.text) (string_bytes c.push_group.new.text) _ c.args.groups.now
    c.loop-group.group-index c.group-item.result (map variable_said c.loop-group.variables.now)
    (map variable_said c.behind-variables.result.now)
    c.loop-group-test.true c.group-item.is c.loop-group.invariant c.in_ok-push_group.ensures c.behind-variables.ensures
