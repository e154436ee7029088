use Rattle.std.proofs.Common.{length, map, vec_len}
use Rattle.pb_protocol_tree.specs.Form.{step_form}
use Rattle.pb_text_lexer.specs.Steps.{nothing_between}
use Rattle.pb_text_terms.proofs.ListLemmas.{IsListed}
use Rattle.pb_model_text.specs.ModelReading.{step, steps}
use Rattle.pb_text_formulas.specs.Reading.{is_name_kind}
use Rattle.pb_model_text.proofs.step.steps.Given as goal

abbrev pub invariant-steps : goal.invariant-steps
invariant-steps l = IsListed (step 64) is_name_kind nothing_between (steps 64 l.fn.input) (map step_form l.steps.items) (vec_len l.steps) (length l.fn.input.tokens) l.input

abbrev pub decreases-steps : goal.decreases-steps
decreases-steps l = length l.input.tokens
