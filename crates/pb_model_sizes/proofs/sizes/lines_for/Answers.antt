use Rattle.std.specs.Prelude.{option_copied}
use Rattle.pb_protocol_tree.specs.Form.{protocol_form}
use Rattle.pb_model_sizes.proofs.Refused.{rules_broken}
use Rattle.pb_model_sizes.proofs.Sorts.{rule-broken}
use Rattle.pb_model_sizes.proofs.sizes.lines_for.Goals as goal

pub returns-in-Err-clause-refused : goal.returns-in-Err-clause-refused
returns-in-Err-clause-refused c =
    let text = protocol_form c.args.protocol.now in
    rules_broken (option_copied c.args.name) text c.in-Err.error c.raise.result c.raise.ensures (rule-broken text c.in-Err.error c.in-Err.ensures.fails)
