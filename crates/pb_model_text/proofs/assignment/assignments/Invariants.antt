use Rattle.std.proofs.Common.{length, map, vec_len}
use Rattle.pb_protocol_tree.specs.Form.{assignment_form}
use Rattle.pb_text_lexer.specs.Steps.{take_token}
use Rattle.pb_text_terms.specs.Reading.{is_comma}
use Rattle.pb_text_terms.proofs.ListLemmas.{IsListed}
use Rattle.pb_model_text.specs.ModelReading.{assignment, assignments}
use Rattle.pb_model_text.proofs.assignment.assignments.Given as goal

abbrev pub invariant-assignments : goal.invariant-assignments
invariant-assignments l = IsListed (assignment 64) is_comma take_token (assignments 64 l.fn.input) (map assignment_form l.assignments.items) (vec_len l.assignments) (length l.fn.input.tokens) l.input

abbrev pub decreases-assignments : goal.decreases-assignments
decreases-assignments l = length l.input.tokens
