use Rattle.std.proofs.Common.{◌≡◌, ◌++◌, map, drop, codes}
use Rattle.std.specs.Prelude.{string_bytes, if◌then◌else◌}
use Rattle.pb_model_words.specs.Words.{changes, marked}
use Rattle.pb_model_words.specs.View.{declarations, variable_said}
use Rattle.pb_model_words.proofs.values.Values.push_changes.Given as goal

-- what is there with what is left is the whole
abbrev pub invariant-loop-k : goal.invariant-loop-k
invariant-loop-k l =
    let sorts = declarations l.self.sorts.now in
    string_bytes l.text ++ marked (if l.is_first then codes ": " else codes ", ") (codes ", ") (changes sorts (map variable_said (drop l.k l.variables)) (drop l.k l.before) (drop l.k l.after))
    ≡ string_bytes l.initial.text ++ marked (codes ": ") (codes ", ") (changes sorts (map variable_said l.variables) l.before l.after)
