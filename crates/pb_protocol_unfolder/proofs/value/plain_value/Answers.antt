use Rattle.std.proofs.Common.{◌∙◌, sym, ap, refl, subst, List}
use Rattle.pb_base.specs.OrMemory.{IfFault}
use Rattle.pb_base.specs.declared.or_memory.OrMemory.{OrMemory}
use Rattle.pb_text_tree.specs.declared.sort.SortDeclaration.{SortDeclaration}
use Rattle.pb_protocol_folding.specs.Folding as folding
use Rattle.pb_protocol_folding.specs.View.{term_of, spec_of}
use Rattle.pb_protocol_tree.specs.declared.protocol.Protocol.{Protocol}
use Rattle.pb_protocol_meaning.specs.Erase.{protocol_of}
use Rattle.pb_protocol_meaning.specs.Steps.{data_of}
use Rattle.pb_protocol_unfolder_steps.specs.Unfolder.{protocol_in}
use Rattle.pb_protocol_unfolder.specs.declared.fault.UnfoldingFault.{UnfoldingFault}
use Rattle.pb_protocol_unfolder.specs.Faults.{HasNoValue}
use Rattle.pb_protocol_unfolder.specs.Parts.{IsAt, IsFaultIn}
use Rattle.pb_protocol_unfolder.proofs.ValueLemmas.{from-ok, written-by}
use Rattle.pb_protocol_unfolder.proofs.ValueFaults.{refused-or}
use Rattle.pb_protocol_unfolder.proofs.value.plain_value.Goals as goal

pub returns-clause-value : goal.returns-clause-value
returns-clause-value c =
    let spec = data_of (protocol_in c.args.unfolder.now) in
    let sorts = ap (λ (p : Protocol). (data_of (protocol_of p)).sorts) c.protocol.ensures in
    from-ok c.ok_or.result c.written_value.result (folding.written_value spec (term_of c.args.term.now)) c.ok_or.ensures.ok_part
    (c.written_value.ensures ∙ ap (λ (ds : List SortDeclaration). folding.written_value (spec_of ds) (term_of c.args.term.now)) c.deref.ensures.value ∙ written-by spec
    c.protocol.result.now.sorts.items (term_of c.args.term.now) sorts)

pub returns-clause-refused : goal.returns-clause-refused
returns-clause-refused c =
    let m = protocol_in c.args.unfolder.now in
    let t = term_of c.args.term.now in
    let fault : UnfoldingFault → Type 0 = IsFaultIn (IsAt c.args.place (HasNoValue m t)) in
    let sorts = ap (λ (p : Protocol). (data_of (protocol_of p)).sorts) c.protocol.ensures in
    let said =
    c.written_value.ensures
    ∙ ap (λ (ds : List SortDeclaration). folding.written_value (spec_of ds) t) c.deref.ensures.value
    ∙ written-by (data_of m) c.protocol.result.now.sorts.items t sorts in
    refused-or c.written_value.result c.refused.result c.ok_or.result fault c.ok_or.ensures.value
    (λ none. subst (λ (e : OrMemory UnfoldingFault). IfFault e fault) (sym c.refused.ensures) (refl, sym said ∙ none))
