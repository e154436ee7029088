use Rattle.std.proofs.Common.{◌≡◌, ◌++◌, map, drop, codes}
use Rattle.std.specs.Prelude.{string_bytes, if◌then◌else◌}
use Rattle.pb_model_words.specs.Words.{value_texts, marked}
use Rattle.pb_model_words.specs.View.{declarations, variable_said}
use Rattle.pb_model_words.proofs.values.Values.push_in_brackets.Given as goal

-- what is there with what is left is the whole but for the last bracket
abbrev pub invariant-loop-k : goal.invariant-loop-k
invariant-loop-k l =
    let sorts = declarations l.self.sorts.now in
    string_bytes l.text ++ marked (if l.is_first then codes "(" else codes ",") (codes ",") (value_texts sorts (map variable_said (drop l.k l.variables)) (drop l.k l.values))
    ≡ string_bytes l.initial.text ++ marked (codes "(") (codes ",") (value_texts sorts (map variable_said l.variables) l.values)
