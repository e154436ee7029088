use Rattle.std.proofs.Common.{rules, ◌∙◌, ◌≢◌, length}
use Rattle.pb_text_tree.specs.Form.{named}
use Rattle.pb_text_tree.proofs.FormLemmas.{term-application}
use Rattle.pb_text_terms.proofs.TermLemmas.{some-applied}
use Rattle.pb_text_terms.proofs.node.applied.Goals as goal

pub returns-else-is_empty : goal.returns-else-is_empty
returns-else-is_empty c =
    let some : length c.args.instance.arguments.items ≢ 0 = search rules in
    term-application c.args.instance.name c.args.instance.arguments ∙ some-applied (named c.args.instance.name) c.args.instance.arguments.items some
