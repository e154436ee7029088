-- The values at the start, as the code goes through them.
use Rattle.std.specs.Prelude.{false, List, [], ◌∷◌, ◌++◌, map, flat_map}
use Rattle.std.specs.Borrow.{Bor}
use Rattle.pb_text_meaning.specs.Syntax.{Variable, Term}
use Rattle.pb_text_meaning.specs.Erase.{erased_variables}
use Rattle.pb_text_tree.specs.Form.{variable_forms}
use Rattle.pb_text_tree.specs.declared.term.Argument as declared_argument
use Rattle.pb_protocol_folding.specs.Folding.{folded}
use Rattle.pb_protocol_folding.specs.View.{term_of}
use Rattle.pb_protocol_tree.specs.declared.protocol.StateVariable as declared_variable
use Rattle.pb_protocol_tree.specs.declared.protocol.StateVariables as declared_state
use Rattle.pb_protocol_meaning.specs.Syntax.{Protocol}
use Rattle.pb_protocol_meaning.specs.Steps.{data_of}
use Rattle.pb_protocol_unfolding.specs.Written.{written_tuples}
use Rattle.pb_protocol_unfolding.specs.PutIn.{TermScope, put_in}
use Rattle.pb_protocol_unfolding.specs.Unfolding.{forms_at_start, written}

abbrev pub argument_term : declared_argument.Argument → Term
argument_term a = term_of a.term

abbrev pub indices_said : declared_variable.StateVariable → List Variable
indices_said y = erased_variables (variable_forms y.indices.items)

abbrev pub indices_behind : Bor declared_variable.StateVariable → List Variable
indices_behind y = indices_said y.now

abbrev pub indices_of_group : declared_state.StateVariables → List (List Variable)
indices_of_group group = map indices_said group.variables.items

abbrev pub indices_of_state : List declared_state.StateVariables → List (List Variable)
indices_of_state state = flat_map indices_of_group state

-- a term without state, where names stand for these terms, folded
abbrev pub folded_at_start : Protocol → TermScope → Term → Term
folded_at_start m ρ x = folded (data_of m) false (put_in (data_of m) (forms_at_start m) ρ x)

-- at these values of indices
abbrev pub term_at : Protocol → List Variable → Term → List Term → Term
term_at m indices x ks = folded_at_start m (written indices ks) x

-- a term at each tuple of values of indices
abbrev pub terms_at : Protocol → List Variable → Term → List Term
terms_at m indices x = map (term_at m indices x) (written_tuples (data_of m) indices)

-- the term of each variable, for each of its elements
abbrev pub initial_terms_of : Protocol → List (List Variable) → List Term → List Term
initial_terms_of m [] xs = []
initial_terms_of m (is ∷ iss) [] = []
initial_terms_of m (is ∷ iss) (x ∷ xs) = terms_at m is x ++ initial_terms_of m iss xs
