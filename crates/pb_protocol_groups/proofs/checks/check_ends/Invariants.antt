use Rattle.std.proofs.Common.{◌≡◌, drop, map}
use Rattle.std.specs.Prelude.{flat_map}
use Rattle.pb_text_tree.specs.Form.{sort_declaration_form}
use Rattle.pb_model_meaning.specs.Erase.{model_of}
use Rattle.pb_protocol_groups.specs.Checks.{chain_faults}
use Rattle.pb_protocol_groups.proofs.checks.check_ends.Given as goal

-- all faults are those of the sorts that are left
abbrev pub invariant-loop-declaration : goal.invariant-loop-declaration
invariant-loop-declaration l =
    let faults = chain_faults (model_of l.model) in
    flat_map faults (map sort_declaration_form l.declaration-items) ≡ flat_map faults (map sort_declaration_form (drop l.declaration-index l.declaration-items))
