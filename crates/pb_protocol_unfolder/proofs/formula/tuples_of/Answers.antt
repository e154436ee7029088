use Rattle.std.proofs.Common.{◌∙◌, ap, map, subst}
use Rattle.pb_base.specs.OrMemory.{IfFault}
use Rattle.pb_text_meaning.specs.Syntax.{Spec}
use Rattle.pb_protocol_tree.specs.declared.protocol.Protocol.{Protocol}
use Rattle.pb_protocol_meaning.specs.Erase.{protocol_of}
use Rattle.pb_protocol_meaning.specs.Steps.{data_of}
use Rattle.pb_protocol_unfolding.specs.Written.{written_tuples}
use Rattle.pb_protocol_unfolder_terms.specs.View.{spec_of, variable_of}
use Rattle.pb_protocol_unfolder.specs.Parts.{OfManyTuples}
use Rattle.pb_protocol_unfolder.proofs.NameFaults.{too-many-told}
use Rattle.pb_protocol_unfolder.proofs.formula.tuples_of.Goals as goal

pub returns-in-Err-clause-refused : goal.returns-in-Err-clause-refused
returns-in-Err-clause-refused c =
    let vs = map variable_of c.args.variables.now in
    let sorts = c.sorts_of.ensures ∙ ap (λ (p : Protocol). data_of (protocol_of p)) c.protocol.ensures in
    subst (λ (S : Spec). IfFault c.of_term.result (OfManyTuples c.args.place (written_tuples S vs))) sorts
    (too-many-told (written_tuples (spec_of c.sorts_of.result) vs) c.args.place c.in-Err.error c.of_term.result c.of_term.ensures c.in-Err.ensures)
