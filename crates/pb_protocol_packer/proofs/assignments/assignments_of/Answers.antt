use Rattle.std.proofs.Common.{◌∙◌, ◌+◌, ◌++◌, List, [], ◌∷◌, ap, sym, append_assoc, drop}
use Rattle.pb_model_meaning.specs.Syntax.{Assignment}
use Rattle.pb_model_meaning.specs.Steps.{assigned_term}
use Rattle.pb_protocol_packing.specs.Packing.{assignments_of}
use Rattle.pb_protocol_packer.specs.declared.group.Group.{Group}
use Rattle.pb_protocol_packer.specs.Groups.{group_of, groups_in}
use Rattle.pb_protocol_packer.specs.Given.{given_in}
use Rattle.pb_protocol_packer.specs.Steps.{assignments_in}
use Rattle.pb_protocol_packer.proofs.AssignmentRows.{assignments-more}
use Rattle.pb_protocol_packer.proofs.LoopRows.{loop-goes}
use Rattle.pb_protocol_packer.proofs.assignments.assignments_of.Goals as goal

pub loop-group-preserved : goal.loop-group-preserved
loop-group-preserved c =
    let new = assigned_term (given_in c.args.given.now) in
    let g = c.group-item.result in
    let old = assignments_in c.loop-group.assignments.items in
    let behind = groups_in (drop (c.loop-group.group-index + 1) c.args.groups.now) in
    loop-goes (λ (gs : List Group). old ++ assignments_of new (groups_in gs)) c.args.groups.now c.loop-group.group-index g _ _ c.loop-group-test.true c.group-item.is
    (ap (λ (xs : List Assignment). xs ++ assignments_of new behind) c.in_ok-push_assignment.ensures ∙ append_assoc old (assignments_of new (group_of g ∷ [])) (assignments_of new behind)
    ∙ ap (λ (xs : List Assignment). old ++ xs) (sym (assignments-more new (group_of g) behind))) c.loop-group.invariant
