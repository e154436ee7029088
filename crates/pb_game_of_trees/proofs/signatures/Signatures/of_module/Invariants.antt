use Rattle.std.proofs.Common.{◌≡◌, map, take}
use Rattle.pb_bytecode.specs.Meaning.{signature_of}
use Rattle.pb_game_of_trees.specs.Equations.{plain}
use Rattle.pb_game_of_trees.proofs.signatures.Signatures.of_module.Given as goal

abbrev pub invariant-loop-k : goal.invariant-loop-k
invariant-loop-k l = map plain l.signatures.items ≡ take l.k (map signature_of l.verified.equations)
