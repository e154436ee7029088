use Rattle.std.proofs.Common.{◌≡◌, drop}
use Rattle.pb_text_tree.specs.Form.{variable_forms}
use Rattle.pb_protocol_typing.specs.Scopes.{sort_in}
use Rattle.pb_protocol_typing.proofs.around.sort_in.Given as goal

-- what is looked for stands in the groups that are left
abbrev pub invariant-loop-group : goal.invariant-loop-group
invariant-loop-group l = sort_in (variable_forms l.groups) l.name ≡ sort_in (variable_forms (drop l.group-index l.groups)) l.name
