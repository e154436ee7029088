use Rattle.std.proofs.Common.{◌≡◌, map, drop}
use Rattle.pb_base_values.specs.Carrier.{is_within}
use Rattle.pb_sorts.specs.Carrier.{values_of}
use Rattle.pb_evidence_words.proofs.below.are_within.Given as goal

-- the carriers and values that are left decide
abbrev pub invariant-loop-k : goal.invariant-loop-k
invariant-loop-k l =
    is_within (map values_of (drop l.k l.carriers)) (drop l.k l.values)
    ≡ is_within (map values_of l.carriers) l.values
