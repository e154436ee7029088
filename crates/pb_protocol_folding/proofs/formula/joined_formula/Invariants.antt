use Rattle.std.proofs.Common.{◌≡◌, ◌++◌, map, flat_map, length}
use Rattle.pb_protocol_folding.specs.FoldedModels.{folded_joined_formula}
use Rattle.pb_protocol_folding.specs.Kept.{joining}
use Rattle.pb_protocol_folding.specs.Places.{AreAmong, places_of}
use Rattle.pb_protocol_folding.specs.View.{formula_of}
use Rattle.pb_protocol_folding.proofs.Joined.{behind_formula}
use Rattle.pb_protocol_folding.proofs.formula.joined_formula.Given as goal

-- what is joined stands behind the operands that are left
abbrev pub invariant-loop-operand : goal.invariant-loop-operand
invariant-loop-operand l = record {
  formula :
      behind_formula (joining l.fn.quantifier) (map formula_of l.operands.items) (formula_of l.joined)
      ≡ folded_joined_formula l.fn.quantifier (map formula_of l.fn.operands.items);
  places : AreAmong (flat_map places_of l.operands.items ++ places_of l.joined) (flat_map places_of l.fn.operands.items);
}

abbrev pub decreases-loop-operand : goal.decreases-loop-operand
decreases-loop-operand l = length l.operands.items
