-- Evidence of the module of what a text says is evidence of the text.
use Rattle.std.proofs.Common.{List, Option, sym, subst}
use Rattle.pb_text_tree.specs.declared.place.Place.{Place}
use Rattle.pb_text_tree.specs.Form.{spec_form}
use Rattle.pb_bytecode.specs.Meaning.{parameters}
use Rattle.pb_report.specs.CallPlaces.{AreCallPlaces}
use Rattle.pb_evidence_places.specs.CallPlaces.{told_place}
use Rattle.pb_command_modules.specs.Writes.{WritesEvidence}
use Rattle.pb_command_texts.specs.Writes.{WritesTextEvidence}
use Rattle.pb_command_texts.specs.Refusals.{IsRefused}
use Rattle.pb_command_modules.specs.Refusals.{IsRefusedModule}
use Rattle.pb_command_modules.proofs.Deliveries.{less_delivered, nothing_in_want}
use Rattle.pb_command_texts.proofs.Evidence.{text_evidence}
use Rattle.pb_command_texts.proofs.Refusals.{module_of_text_refused}
use Rattle.pb_command_faults.proofs.HandedUp.{if_input_refused, wanting_up}
use Rattle.pb_command_texts.proofs.Texts.{of_bytes}
use Rattle.pb_command_texts.proofs.solve.write_explained.Given.{Over}
use Rattle.pb_command_texts.proofs.solve.write_explained.Goals as goal
use Rattle.pb_command_texts.proofs.solve.write_explained.Goals.{After-deref}

-- the places that the calls are told at
call_places : (g : Over) (c : After-deref g)
    → AreCallPlaces (told_place c.args.places (spec_form c.args.explained.now.typed.spec) (parameters c.args.explained.now.verified))
    c.args.explained.now.explanation.evidence c.deref.result.now
call_places g c =
    let place = told_place c.args.places (spec_form c.args.explained.now.typed.spec) (parameters c.args.explained.now.verified) in
    subst (λ (xs : List (Option Place)). AreCallPlaces place c.args.explained.now.explanation.evidence xs) (sym c.deref.ensures.value) c.in_ok-call_places.ensures

pub write_evidence-requires : goal.write_evidence-requires
write_evidence-requires g c =
    let told = told_place c.args.places (spec_form c.args.explained.now.typed.spec) (parameters c.args.explained.now.verified) in
    record { explanation = c.requires.explains; places = (told, call_places g (goal.at.write_evidence-requires g c).After-deref) }

pub returns-in_err-call_places : goal.returns-in_err-call_places
returns-in_err-call_places g c counting bytes read typed = (
  nothing_in_want g.S.Sink (WritesTextEvidence counting c.args.places bytes) c.args.writer.now c.from_residual.result c.from_residual.ensures.1,
  wanting_up (IsRefused counting bytes) c.from_residual.result c.from_residual.ensures.1,
)

pub returns : goal.returns
returns g c counting bytes read typed =
    let explained = c.args.explained.now in
    let text = spec_form explained.typed.spec in
    let m = explained.verified in
    let place = told_place c.args.places text (parameters m) in
    let are = call_places g (goal.at.returns g c).After-deref in
    let of_text = of_bytes counting bytes text m read typed c.requires.of_text in (
      less_delivered g.S.Sink (WritesEvidence m place) (WritesTextEvidence counting c.args.places bytes)
          (text_evidence c.named_instances_are_called.ensures counting bytes text m read typed c.requires.of_text c.args.places)
          c.args.writer.now c.write_evidence.new.writer c.write_evidence.result (c.write_evidence.ensures counting place are).0,
      if_input_refused (IsRefusedModule counting m) (IsRefused counting bytes) (module_of_text_refused counting bytes m of_text)
          c.write_evidence.result (c.write_evidence.ensures counting place are).1,
    )
