use Rattle.std.proofs.Common.{◌≡◌, ◌∙◌, sym, ap, List, string_bytes}
use Rattle.pb_protocol_tree.specs.declared.protocol.Definition.{Definition}
use Rattle.pb_protocol_tree.specs.declared.protocol.Protocol.{Protocol}
use Rattle.pb_protocol_meaning.specs.Erase.{protocol_of}
use Rattle.pb_protocol_unfolder_steps.specs.Unfolder.{protocol_in}
use Rattle.pb_protocol_unfolder.specs.Defined.{definitions_said, stands_for, term_defined}
use Rattle.pb_protocol_unfolder.proofs.ValueFaults.{said-so, said-value}
use Rattle.pb_protocol_unfolder.proofs.value.defined_value.Goals.{After-resolve}
use Rattle.pb_protocol_unfolder.proofs.value.defined_value.Goals as goal

-- what is found is what the name stands for
found : (c : After-resolve) → term_defined c.resolve.result ≡ stands_for (protocol_in c.args.unfolder.now).definitions (string_bytes c.args.name.now.text)
found c =
    let x = string_bytes c.args.name.now.text in
    c.resolve.ensures
    ∙ ap (λ (ds : List Definition). stands_for (definitions_said ds) x) c.deref.ensures.value
    ∙ ap (λ (p : Protocol). stands_for (protocol_of p).definitions x) c.protocol.ensures

pub returns-in-Term : goal.returns-in-Term
returns-in-Term c =
    let m = protocol_in c.args.unfolder.now in
    let same = ap term_defined (sym c.in-Term.is) ∙ found (goal.at.returns-in-Term c).After-resolve in
    record {
      value = said-value m _ _ c.plain_value.result same c.plain_value.ensures.value;
      refused = said-so m c.args.place _ _ c.plain_value.result same c.plain_value.ensures.refused;
    }

pub returns-in-Name : goal.returns-in-Name
returns-in-Name c =
    let m = protocol_in c.args.unfolder.now in
    let same = ap term_defined (sym c.in-Name.is) ∙ found (goal.at.returns-in-Name c).After-resolve in
    record {
      value = said-value m _ _ c.value_of_name.result same c.value_of_name.ensures.value;
      refused = said-so m c.args.place _ _ c.value_of_name.result same c.value_of_name.ensures.refused;
    }
