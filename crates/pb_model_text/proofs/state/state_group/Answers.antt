use Rattle.std.proofs.Common.{rules, ap, Ok}
use Rattle.pb_model_text.specs.ModelReading.{state_group}
use Rattle.pb_model_text.proofs.StateLemmas.{variables-of-sort}
use Rattle.pb_model_text.proofs.state.state_group.Goals as goal

pub returns : goal.returns
unfolding state_group
returns c = record {
  reads = rw (c.in_ok-variables.ensures.reads, c.in_ok-expect.ensures.reads, c.in_ok-sort.ensures.reads)
      (ap (λ v. Ok (v, c.name.new.input)) (variables-of-sort c.in_ok-sort.sort c.in_ok-variables.variables.items));
  fewer = search rules;
}
