use Rattle.std.proofs.Common.{◌≡◌, ◌+◌, drop, ◌∙◌, Bool, if◌then◌else◌, sym, ap, Option, Some, string_bytes}
use Rattle.std.specs.List.{list_any}
use Rattle.std.specs.Option.{option_map}
use Rattle.pb_text_tree.specs.Form.{variable_forms}
use Rattle.pb_text_meaning.specs.Syntax.{Name}
use Rattle.pb_text_meaning.specs.Erase.{erased_variables}
use Rattle.pb_protocol_scalar_sets.specs.Scopes.{is_called, last_sort}
use Rattle.pb_protocol_scalar_sets.specs.View.{text_of}
use Rattle.pb_protocol_scalar_sets.proofs.Scopes.{group-next}
use Rattle.pb_protocol_scalar_sets.proofs.scope.last_sort.Goals as goal
use Rattle.pb_protocol_scalar_sets.proofs.scope.last_sort.Goals.{then-is_among, else-is_among, After-is_among}

-- whether the group has the name
test : (c : After-is_among) → list_any (is_called c.args.name.now) c.group-item.result.names.items ≡ c.is_among.result
test c = ap (list_any (is_called c.args.name.now)) (sym c.deref.ensures.value) ∙ sym c.is_among.ensures

-- the sort that is found by the groups up to this one
pub loop-group-preserved : goal.loop-group-preserved
loop-group-preserved c =
    let x = c.args.name.now in
    let g = c.group-item.result in
    let rest = erased_variables (variable_forms (drop (c.loop-group.group-index + 1) c.args.groups.now)) in
    let o = option_map text_of c.loop-group.found in
    let sort_if : Bool → Option Name = λ b. if b then Some (string_bytes g.sort.text) else o in
    let here = test (goal.at.loop-group-preserved c).After-is_among in
    let before : (if list_any (is_called x) g.names.items then Some (string_bytes g.sort.text) else o) ≡ option_map text_of c.if-is_among.found =
    elim c.if-is_among.branch [
      | then-is_among w ↦ ap sort_if (here ∙ w.if-is_among.true) ∙ ap (option_map text_of) (sym w.found-is)
      | else-is_among w ↦ ap sort_if (here ∙ w.if-is_among.false) ∙ ap (option_map text_of) (sym w.found-is)
    ] in
    ap (λ (p : Option Name). last_sort p rest x) (sym before)
    ∙ (sym (group-next o c.args.groups.now c.loop-group.group-index g x c.loop-group-test.true c.group-item.is) ∙ c.loop-group.invariant)
