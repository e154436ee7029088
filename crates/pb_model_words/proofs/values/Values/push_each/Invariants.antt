use Rattle.std.proofs.Common.{◌≡◌, ◌++◌, [], drop, codes}
use Rattle.std.specs.Prelude.{string_bytes, if◌then◌else◌}
use Rattle.pb_model_words.specs.Words.{marked}
use Rattle.pb_model_words.specs.View.{declarations}
use Rattle.pb_model_words.proofs.Listed.{each_equation}
use Rattle.pb_model_words.proofs.values.Values.push_each.Given as goal

-- what is there with what is left is the whole
abbrev pub invariant-loop-k : goal.invariant-loop-k
invariant-loop-k l =
    let sorts = declarations l.self.sorts.now in
    string_bytes l.text ++ marked (if l.is_first then [] else codes ", ") (codes ", ") (each_equation sorts (drop l.k l.variables) (drop l.k l.values))
    ≡ string_bytes l.initial.text ++ marked (if l.begins then [] else codes ", ") (codes ", ") (each_equation sorts l.variables l.values)
