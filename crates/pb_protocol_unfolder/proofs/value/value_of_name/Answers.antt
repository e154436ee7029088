use Rattle.std.proofs.Common.{ap, string_bytes}
use Rattle.pb_text_tree.specs.Form.{Named}
use Rattle.pb_text_meaning.specs.Syntax.{Term}
use Rattle.pb_protocol_unfolder_steps.specs.Unfolder.{protocol_in}
use Rattle.pb_protocol_unfolder.proofs.ValueFaults.{said-so, said-value}
use Rattle.pb_protocol_unfolder.proofs.value.value_of_name.Goals as goal

pub returns-clause-value : goal.returns-clause-value
returns-clause-value c =
    let same = ap (λ (n : Named). Term.Named n.text) c.in_ok-copy.ensures in
    said-value (protocol_in c.args.unfolder.now) (Term.Named (string_bytes c.in_ok-copy.copy.text)) _ c.plain_value.result same c.plain_value.ensures.value

pub returns-clause-refused : goal.returns-clause-refused
returns-clause-refused c =
    let same = ap (λ (n : Named). Term.Named n.text) c.in_ok-copy.ensures in
    said-so (protocol_in c.args.unfolder.now) c.args.place (Term.Named (string_bytes c.in_ok-copy.copy.text)) _ c.plain_value.result same c.plain_value.ensures.refused
