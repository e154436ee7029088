use Rattle.std.proofs.Common.{◌≡◌, ◌++◌, drop, map}
use Rattle.pb_protocol_tree.specs.Form.{definition_form, protocol_form}
use Rattle.pb_protocol_constants.specs.Settled.{settled_constants, HasNoSorts, HaveNumbers, HaveNumbersBy}
use Rattle.pb_protocol_constants.proofs.Lists.{left}
use Rattle.pb_protocol_constants.proofs.settled.settled_constants.Given as goal

-- the constants so far, and those that are left
abbrev pub invariant-loop-at : goal.invariant-loop-at
invariant-loop-at l = record {
  definitions : HasNoSorts (protocol_form l.constants)
      → settled_constants (protocol_form l.constants) l.places ≡ map definition_form l.settled.items ++ left (protocol_form l.constants) l.all l.places l.at;
  numbers : HasNoSorts (protocol_form l.constants) → HaveNumbersBy (protocol_form l.constants) (map definition_form (drop l.at l.all)) (drop l.at l.places)
      → HaveNumbers (protocol_form l.constants) l.places;
}
