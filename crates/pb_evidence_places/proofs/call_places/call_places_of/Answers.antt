use Rattle.std.proofs.Common.{◌∙◌, ℕ, ◌<◌, List, Option, IfOk, length, sym, ap, subst}
use Rattle.std.specs.Prelude.{slice_index}
use Rattle.pb_text_tree.specs.declared.place.Place.{Place}
use Rattle.pb_text_tree.specs.Form.{spec_form}
use Rattle.pb_sorts.specs.declared.carrier.Carrier.{Carrier}
use Rattle.pb_sorts.specs.Layout.{carriers_of, count_of}
use Rattle.pb_bytecode.specs.Meaning.{parameters}
use Rattle.pb_typing_calls.specs.View.{said_by}
use Rattle.pb_report.specs.CallPlaces.{AreCallPlaces}
use Rattle.pb_report.proofs.Lines.{instance_below, dependency_below}
use Rattle.pb_evidence_places.proofs.Carriers.{same_carriers}
use Rattle.pb_evidence_places.proofs.Placing.{are_told_places}
use Rattle.pb_evidence_places.proofs.call_places.call_places_of.Goals as goal

pub invariant_of-numbered : goal.invariant_of-numbered
invariant_of-numbered c =
    let typed = c.args.typed.now in
    record {
      same = ap carriers_of c.layout.ensures
          ∙ (same_carriers (spec_form typed.spec) typed.layout c.args.verified.now typed.laid_out c.requires.compiled
          ∙ ap carriers_of (sym c.new-2.ensures.layout));
    }

pub of_evidence-requires-clause-callers : goal.of_evidence-requires-clause-callers
of_evidence-requires-clause-callers c =
    let e = c.args.explanation.now.evidence in
    subst (λ (l : List (List Carrier)). (k : ℕ) → k < length e.instances.items → slice_index e.instances.items k < count_of l) (sym c.layout.ensures)
    (instance_below c.args.verified.now c.requires.trees c.args.explanation.now c.requires.explanation)

pub of_evidence-requires-clause-called : goal.of_evidence-requires-clause-called
of_evidence-requires-clause-called c = λ k within called is j h.
    subst (λ (l : List (List Carrier)). slice_index called j < count_of l) (sym c.layout.ensures)
    (dependency_below c.args.verified.now c.requires.trees c.args.explanation.now c.requires.explanation k within called is j h)

pub returns : goal.returns
returns c =
    let same = are_told_places (said_by c.new-2.result) (spec_form c.args.typed.now.spec) c.new-2.ensures.text
    c.layout.result.now (parameters c.args.verified.now) c.layout.ensures c.args.are_told c.if-not-are_told.false in
    subst (λ (place : ℕ → ℕ → Option Place). IfOk c.of_evidence.result (λ places. AreCallPlaces place c.args.explanation.now.evidence places.items))
    same c.of_evidence.ensures
