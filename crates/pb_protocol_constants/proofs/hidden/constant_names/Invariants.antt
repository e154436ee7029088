use Rattle.std.proofs.Common.{◌≡◌, ◌||◌, drop, map}
use Rattle.pb_text_meaning.specs.Syntax.{Name}
use Rattle.pb_protocol_tree.specs.Form.{definition_form}
use Rattle.pb_protocol_typing.proofs.Seen.{in_set}
use Rattle.pb_protocol_constants.specs.Hidden.{is_constant}
use Rattle.pb_protocol_constants.proofs.hidden.constant_names.Given as goal

-- a constant's name is in the set, or that of one of those that are left
abbrev pub invariant-loop-constant : goal.invariant-loop-constant
invariant-loop-constant l =
    (x : Name) → (in_set l.names x || is_constant (map definition_form (drop l.constant-index l.constants)) x) ≡ is_constant (map definition_form l.constants) x
