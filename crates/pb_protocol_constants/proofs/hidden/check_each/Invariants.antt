use Rattle.std.proofs.Common.{◌≡◌, List, drop}
use Rattle.std.specs.Prelude.{flat_map}
use Rattle.pb_protocol_tree.specs.Form.{DefinitionForm}
use Rattle.pb_protocol_typing.specs.View.{names_in}
use Rattle.pb_protocol_constants.specs.Hidden.{AreNamesOf, hiding_faults}
use Rattle.pb_protocol_constants.proofs.hidden.check_each.Given as goal

-- all faults are those of the names that are left
abbrev pub invariant-loop-name : goal.invariant-loop-name
invariant-loop-name l =
    (all : List DefinitionForm) → AreNamesOf all l.constants
    → flat_map (hiding_faults all) (names_in l.names) ≡ flat_map (hiding_faults all) (names_in (drop l.name-index l.names))
