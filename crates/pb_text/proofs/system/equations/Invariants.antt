use Rattle.std.proofs.Common.{length, map, vec_len}
use Rattle.pb_text_tree.specs.Form.{equation_form}
use Rattle.pb_text_lexer.specs.Steps.{nothing_between}
use Rattle.pb_text_terms.proofs.ListLemmas.{IsListed}
use Rattle.pb_text.specs.Reading.{equation, equations, begins_equation}
use Rattle.pb_text.proofs.system.equations.Given as goal

abbrev pub invariant-equations : goal.invariant-equations
invariant-equations l = IsListed (equation 64) begins_equation nothing_between (equations 64 l.fn.input) (map equation_form l.equations.items) (vec_len l.equations) (length l.fn.input.tokens) l.input

abbrev pub decreases-equations : goal.decreases-equations
decreases-equations l = length l.input.tokens
