use Rattle.std.proofs.Common.{◌≡◌, ◌-◌, ◌≤◌, length, map, vec_len}
use Rattle.pb_protocol_tree.specs.Form.{step_set_form}
use Rattle.pb_model_text.specs.Grammar.{most_others}
use Rattle.pb_model_text.specs.Reading.{step_set, other_sets}
use Rattle.pb_model_text.proofs.FairLemmas.{more_behind}
use Rattle.pb_model_text.proofs.processes.other_sets.Given as goal

abbrev pub invariant-others : goal.invariant-others
invariant-others l = record {
  reads : other_sets most_others (step_set l.depth) l.fn.input ≡ more_behind (map step_set_form l.others.items) (other_sets (most_others - vec_len l.others) (step_set l.depth) l.input);
  room : vec_len l.others ≤ most_others;
  fewer : length l.input.tokens ≤ length l.fn.input.tokens;
}

abbrev pub decreases-others : goal.decreases-others
decreases-others l = length l.input.tokens
