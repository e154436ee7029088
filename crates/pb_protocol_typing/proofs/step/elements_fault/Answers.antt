use Rattle.std.proofs.Common.{◌≡◌, ◌+◌, ◌∙◌, drop}
use Rattle.std.specs.List.{slice_get}
use Rattle.pb_text_tree.specs.Form.{argument_forms, term_form}
use Rattle.pb_typing_declarations.specs.View.{spec_of}
use Rattle.pb_protocol_typing.specs.Fault.{either_fault}
use Rattle.pb_protocol_typing.specs.Steps.{element_value_fault, elements_fault}
use Rattle.pb_protocol_typing.specs.View.{signatures_in, state_forms}
use Rattle.pb_protocol_typing.proofs.Rows.{found, left_out}
use Rattle.pb_protocol_typing.proofs.Steps.{element-next}
use Rattle.pb_protocol_typing.proofs.step.elements_fault.Goals as goal
use Rattle.pb_protocol_typing.proofs.step.elements_fault.Goals.{After-index-values-index}

-- the fault of a term, or of those behind it
next : (c : After-index-values-index) →
    let spec = spec_of c.args.declarations.now in
    let known = signatures_in c.args.known.now in
    let ys = state_forms c.args.entries.now in
    let k = c.loop-index.index in
    let e = c.index-values-index.result in
    elements_fault spec known 0 ys (argument_forms c.args.values.now)
    ≡ either_fault (element_value_fault spec known (slice_get ys k) e.place (term_form e.term)) (elements_fault spec known (k + 1) ys (argument_forms (drop (k + 1) c.args.values.now)))
next c =
    c.loop-index.invariant
    ∙ element-next (spec_of c.args.declarations.now) (signatures_in c.args.known.now) (state_forms c.args.entries.now) c.args.values.now
    c.loop-index.index c.index-values-index.result c.loop-index-test.true c.index-values-index.is

pub returns-in-Some : goal.returns-in-Some
returns-in-Some c = found _ _ _ c.in-Some.fault (next (goal.at.returns-in-Some c).After-index-values-index) c.in-Some.ensures

pub loop-index-preserved : goal.loop-index-preserved
loop-index-preserved c = left_out _ _ _ (next (goal.at.loop-index-preserved c).After-index-values-index) c.in_default.ensures
