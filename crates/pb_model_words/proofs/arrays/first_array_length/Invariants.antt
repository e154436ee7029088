use Rattle.std.proofs.Common.{◌≡◌, ◌+◌, map, drop}
use Rattle.std.specs.List.{prefix_len}
use Rattle.pb_text_tree.specs.Form.{VariableForm}
use Rattle.pb_model_words.specs.Arrays.{first_array_length, is_element_of}
use Rattle.pb_model_words.specs.View.{variable_said}
use Rattle.pb_model_words.proofs.arrays.first_array_length.Given as goal

-- the variables so far, and the next ones that are elements
abbrev pub invariant-loop-k : goal.invariant-loop-k
invariant-loop-k l =
    first_array_length (map variable_said l.variables)
    ≡ l.k + prefix_len (λ (y : VariableForm). is_element_of l.array y.name.text) (map variable_said (drop l.k l.variables))
