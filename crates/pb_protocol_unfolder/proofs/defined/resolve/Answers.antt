use Rattle.std.proofs.Common.{◌≡◌, ◌∙◌, ◌-◌, sym, ap, take, arith, ◌&&◌, if◌then◌else◌}
use Rattle.pb_text_tree.specs.Form.{variable_forms}
use Rattle.pb_text_meaning.specs.Syntax.{Name, same_name}
use Rattle.pb_protocol_folding.specs.View.{term_of}
use Rattle.pb_protocol_unfolder.specs.Apart.{name_bytes}
use Rattle.pb_protocol_unfolder.specs.Defined.{definitions_said, said_by, stands_for}
use Rattle.pb_protocol_unfolder.specs.Plain.{has_no_variables}
use Rattle.pb_protocol_unfolder.proofs.DefinedLemmas.{definition-next, said-itself, said-name}
use Rattle.pb_protocol_unfolder.proofs.defined.resolve.Goals as goal
use Rattle.pb_protocol_unfolder.proofs.defined.resolve.Goals.{After-is_meant}

-- by the definition at hand, if it is meant, else by those before it
here : (c : After-is_meant) → stands_for (definitions_said c.args.definitions.now) (name_bytes c.args.name.now)
    ≡ (if c.is_meant.result then said_by (stands_for (definitions_said (take (c.loop-place.place - 1) c.args.definitions.now))) (term_of c.index-definitions-place.result.term)
    else stands_for (definitions_said (take (c.loop-place.place - 1) c.args.definitions.now)) (name_bytes c.loop-place.found.now))
here c =
    let d = c.index-definitions-place.result in
    let ds = c.args.definitions.now in
    let x = name_bytes c.loop-place.found.now in
    sym c.loop-place.invariant
    ∙ definition-next ds c.loop-place.place (c.loop-place.place - 1) d x (omega (arith, c.loop-place-test.true))
    (omega (arith, c.loop-place.auto.place, c.loop-place-test.true)) c.index-definitions-place.is
    (ap (λ (n : Name). same_name n x && has_no_variables (variable_forms d.parameters.items)) (sym c.as_str-declared.ensures.value)
    ∙ ap (λ (n : Name). same_name c.as_str-declared.result.now n && has_no_variables (variable_forms d.parameters.items)) (sym c.as_str.ensures.value)
    ∙ ap (λ ps. same_name c.as_str-declared.result.now c.as_str.result.now && has_no_variables (variable_forms ps)) (sym c.deref.ensures.value)
    ∙ sym c.is_meant.ensures)

pub returns-in-None : goal.returns-in-None
returns-in-None c =
    let same = rw c.if-is_meant.true at (here (goal.at.returns-in-None c).After-is_meant) in
    sym
    (same ∙ said-itself (stands_for (definitions_said (take (c.loop-place.place - 1) c.args.definitions.now))) (term_of c.index-definitions-place.result.term) c.in-None.ensures)

pub loop-place-preserved-in-Some : goal.loop-place-preserved-in-Some
loop-place-preserved-in-Some c =
    let same = rw c.if-is_meant.true at (here (goal.at.loop-place-preserved-in-Some c).After-is_meant) in
    sym
    (same
    ∙ said-name (stands_for (definitions_said (take (c.loop-place.place - 1) c.args.definitions.now))) (term_of c.index-definitions-place.result.term) (name_bytes c.in-Some.other.now)
    c.in-Some.ensures)

pub loop-place-preserved : goal.loop-place-preserved
loop-place-preserved c =
    sym (rw c.if-is_meant.false at (here (goal.at.loop-place-preserved c).After-is_meant))
