use Rattle.std.proofs.Common.{◌≡◌, ◌∙◌, ap, Some, []}
use Rattle.std.proofs.lemmas.Result.{IfOk-weaker}
use Rattle.pb_base_values.specs.Carrier.{Value}
use Rattle.pb_text_meaning.specs.Value.{value}
use Rattle.pb_protocol_folding.specs.Folding as folding
use Rattle.pb_protocol_folding.specs.View.{term_of}
use Rattle.pb_protocol_meaning.specs.Steps.{data_of}
use Rattle.pb_protocol_unfolder_terms.specs.Values.{written_term}
use Rattle.pb_protocol_unfolder_steps.specs.Unfolder.{protocol_in}
use Rattle.pb_protocol_unfolder.proofs.ValueLemmas.{written-value}
use Rattle.pb_protocol_unfolder.proofs.ValueFaults.{said-so}
use Rattle.pb_protocol_unfolder.proofs.value.value_of_written.Goals as goal

pub returns-clause-value : goal.returns-clause-value
returns-clause-value c =
    let spec = data_of (protocol_in c.args.unfolder.now) in
    let t = term_of c.in_ok-term.term in
    IfOk-weaker c.plain_value.result (λ (v : Value). folding.written_value spec t ≡ Some v) (λ (v : Value). v ≡ value spec [] (written_term c.args.written))
    (λ v h. written-value spec t v h ∙ ap (value spec []) c.in_ok-term.ensures) c.plain_value.ensures.value

pub returns-clause-refused : goal.returns-clause-refused
returns-clause-refused c =
    said-so (protocol_in c.args.unfolder.now) c.args.place (term_of c.in_ok-term.term) (written_term c.args.written) c.plain_value.result c.in_ok-term.ensures c.plain_value.ensures.refused
