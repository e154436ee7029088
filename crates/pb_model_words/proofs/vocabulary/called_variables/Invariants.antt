use Rattle.std.proofs.Common.{◌≡◌, ◌++◌, drop, map}
use Rattle.std.specs.Prelude.{string_bytes}
use Rattle.pb_model_words.specs.Vocabulary as words
use Rattle.pb_model_words.specs.View.{variable_said}
use Rattle.pb_model_words.proofs.vocabulary.called_variables.Given as goal

-- the variables so far, and those that are left
abbrev pub invariant-loop-k : goal.invariant-loop-k
invariant-loop-k l =
    map variable_said l.told.items ++ words.called_variables (map string_bytes (drop l.k l.names)) (map variable_said (drop l.k l.variables))
    ≡ words.called_variables (map string_bytes l.names) (map variable_said l.variables)
