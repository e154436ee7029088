use Rattle.std.proofs.Common.{◌≡◌, ◌*◌, ◌≤◌, drop}
use Rattle.pb_text_tree.specs.Form.{variable_forms}
use Rattle.pb_typing_declarations.specs.View.{spec_of}
use Rattle.pb_model_sizes.specs.declared.count.TheConstants.{MAX_COUNT}
use Rattle.pb_model_sizes.specs.Counts.{capped, tuples_of}
use Rattle.pb_model_sizes.proofs.count.tuples_of.Given as goal

-- the product so far, with those that are left
abbrev pub invariant-loop-group : goal.invariant-loop-group
invariant-loop-group l =
    let spec = spec_of l.declarations in
    record {
      left : capped (tuples_of spec (variable_forms l.groups)) ≡ capped (l.count * tuples_of spec (variable_forms (drop l.group-index l.groups)));
      fits : l.count ≤ MAX_COUNT;
    }
