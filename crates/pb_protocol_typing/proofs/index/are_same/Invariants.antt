use Rattle.std.proofs.Common.{◌≡◌, drop}
use Rattle.pb_text_tree.specs.Form.{argument_forms}
use Rattle.pb_protocol_typing.specs.Indices.{are_same}
use Rattle.pb_protocol_typing.proofs.index.are_same.Given as goal

-- they are the same where those that are left are
abbrev pub invariant-loop-index : goal.invariant-loop-index
invariant-loop-index l = are_same (argument_forms l.left) (argument_forms l.right) ≡ are_same (argument_forms (drop l.index l.left)) (argument_forms (drop l.index l.right))
