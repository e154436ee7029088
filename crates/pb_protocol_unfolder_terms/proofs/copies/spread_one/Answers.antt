use Rattle.std.proofs.Common.{◌≡◌, ◌∙◌, [], ◌∷◌, ap, List, map}
use Rattle.pb_base.specs.OrMemory.{IfFault}
use Rattle.pb_text_tree.specs.declared.variable.Variables.{Variables}
use Rattle.pb_text_tree.specs.Form.{variable_forms}
use Rattle.pb_text_meaning.specs.Erase.{erased_variables}
use Rattle.pb_protocol_tree.specs.Form.{assignment_form}
use Rattle.pb_protocol_unfolder_terms.specs.AssignmentCopies.{IsSpreadOf, variables_before}
use Rattle.pb_protocol_unfolder_terms.specs.TermFaults.{IsFaultAt, IsFaultInCopying}
use Rattle.pb_protocol_unfolder_terms.specs.View.{spec_of, variable_of}
use Rattle.pb_protocol_unfolder_terms.proofs.ChainLemmas.{err-kept}
use Rattle.pb_protocol_unfolder_terms.proofs.SpreadLemmas.{groups-said, too-copied}
use Rattle.pb_protocol_unfolder_terms.proofs.copies.spread_one.Goals as goal

pub returns-in_err-tuples : goal.returns-in_err-tuples
returns-in_err-tuples c =
    let S = spec_of c.args.sorts in
    let b = c.args.assignment.now in
    let e = c.in_err-tuples.field-0.0 in
    let same : map variable_of c.deref.result.now ≡ variables_before b =
    ap (map variable_of) c.deref.ensures.value ∙ c.in_ok-variables.ensures ∙ ap (λ (gs : List Variables). erased_variables (variable_forms gs)) c.copied_groups.ensures ∙ groups-said b.copies in
    err-kept c.from_residual-in_err-tuples.result e (IsSpreadOf S b) (λ error. IfFault error (IsFaultAt (IsFaultInCopying S (assignment_form b ∷ [])))) c.from_residual-in_err-tuples.ensures.1
    (too-copied S b e same c.place_of_copies-place.ensures c.in_err-tuples.ensures)
