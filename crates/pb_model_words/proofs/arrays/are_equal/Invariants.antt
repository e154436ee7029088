use Rattle.std.proofs.Common.{◌≡◌, pos, drop, get_or}
use Rattle.std.specs.List.{list_all}
use Rattle.std.specs.Ordering.{int_eq}
use Rattle.pb_model_words.specs.Arrays.{are_equal}
use Rattle.pb_model_words.proofs.arrays.are_equal.Given as goal

-- the values that are left decide
abbrev pub invariant-loop-k : goal.invariant-loop-k
invariant-loop-k l = are_equal l.values ≡ list_all (int_eq (get_or l.values 0 (pos 0))) (drop l.k l.values)
