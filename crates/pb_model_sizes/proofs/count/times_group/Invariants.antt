use Rattle.std.proofs.Common.{◌≡◌, ◌*◌, ◌≤◌, drop}
use Rattle.pb_text_tree.specs.Form.{named, variables_form}
use Rattle.pb_typing_declarations.specs.View.{spec_of}
use Rattle.pb_model_sizes.specs.declared.count.TheConstants.{MAX_COUNT}
use Rattle.pb_model_sizes.specs.Counts.{capped, tuples_of}
use Rattle.pb_model_sizes.proofs.Groups.{of_sort}
use Rattle.pb_model_sizes.proofs.count.times_group.Given as goal

-- the product so far, with those that are left
abbrev pub invariant-loop-name : goal.invariant-loop-name
invariant-loop-name l =
    let spec = spec_of l.declarations in
    record {
      left : capped (l.count * tuples_of spec (variables_form l.group)) ≡ capped (l.product * tuples_of spec (of_sort (named l.group.sort) (drop l.name-index l.name-items)));
      fits : l.product ≤ MAX_COUNT;
    }
