use Rattle.std.proofs.Common.{◌≡◌, ◌++◌, [], length, map, codes}
use Rattle.std.specs.Prelude.{string_bytes, if◌then◌else◌}
use Rattle.pb_model_words.specs.Words.{equations, marked}
use Rattle.pb_model_words.specs.View.{declarations, variable_said}
use Rattle.pb_model_words.proofs.values.Values.push_equations.Given as goal

-- what is there with the arrays that are left is the whole
abbrev pub invariant-loop-variables_left : goal.invariant-loop-variables_left
invariant-loop-variables_left l =
    let sorts = declarations l.self.sorts.now in
    (length l.variables_left ≡ length l.values_left)
    × (string_bytes l.text ++ marked (if l.is_first then [] else codes ", ") (codes ", ") (equations sorts (map variable_said l.variables_left) l.values_left)
    ≡ string_bytes l.initial.text ++ marked [] (codes ", ") (equations sorts (map variable_said l.initial.variables_left) l.initial.values_left))

abbrev pub decreases-loop-variables_left : goal.decreases-loop-variables_left
decreases-loop-variables_left l = length l.variables_left
