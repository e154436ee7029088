use Rattle.std.proofs.Common.{arith, ◌≡◌, map}
use Rattle.std.proofs.lemmas.Grind.{common_steps}
use Rattle.pb_text_tree.specs.Form.{variables_form}
use Rattle.pb_text_tree.proofs.CopyLemmas.{variables-copied}
use Rattle.pb_text_tree.proofs.variable_copies.copy_variables.Goals as goal

pub returns : goal.returns
returns c =
    let same : map variables_form c.loop-group.copies.items ≡ map variables_form c.args.groups.now = grind (arith, common_steps) in
    variables-copied c.loop-group.copies.items c.args.groups.now same
