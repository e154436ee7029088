-- What is found is told, or the model is refused.
use Rattle.std.proofs.Common.{◌≡◌, ◌∙◌, ◌++◌, ◌<◌, ℕ, List, Result, Ok, Err, IsErrAnd, length, map, sym, ap, subst, string_bytes}
use Rattle.std.specs.Prelude.{Contains, String}
use Rattle.std.specs.declared.alloc.Global.{Global}
use Rattle.pb_command_models.specs.Symmetries.{AreSymmetryLines}
use Rattle.std.specs.List.{All}
use Rattle.std.proofs.lemmas.List.{length-map}
use Rattle.pb_base.specs.OrMemory.{IfFault}
use Rattle.pb_base.specs.declared.or_memory.OrMemory.{OrMemory}
use Rattle.pb_command_faults.specs.declared.solve_fault.SolveFault.{SolveFault}
use Rattle.pb_command_line.specs.declared.options.Checking.{Checking}
use Rattle.pb_base.proofs.Faults.{if_fault, if_raised}
use Rattle.pb_model_tree.specs.Form.{model_form, property_form}
use Rattle.pb_model_tree.specs.declared.model.Property.{Property}
use Rattle.pb_model_words.specs.Vocabulary.{Vocabulary}
use Rattle.pb_model_properties.specs.Asked.{asked_places}
use Rattle.pb_model_properties.specs.Words.{impossible_in, words_in, words_of}
use Rattle.pb_command_models.specs.Models.{found_lines, ArePropertiesFound, IsUnchecked}
use Rattle.pb_command_models.specs.Outcomes.{AreSatisfied}
use Rattle.pb_command_models.specs.ReachedSteps.{impossible_lines, status_of_checked, step_lines}
use Rattle.pb_command_models.specs.Writes.{ReportsVerdicts}
use Rattle.pb_command_models.specs.declared.check.CheckReport.{CheckReport}
use Rattle.pb_command_models.specs.declared.finding.PropertyFinding.{PropertyFinding}
use Rattle.pb_command_models.specs.declared.step_finding.StepFinding.{StepFinding}
use Rattle.pb_command_models.proofs.Checked.{model_unchecked, names_unchecked, step_unchecked, text_unchecked}
use Rattle.pb_command_models.proofs.Decisions.{found_within, places_within}
use Rattle.pb_command_models.proofs.check.checked_report.Given.{Over}
use Rattle.pb_command_models.proofs.check.checked_report.Goals as goal
use Rattle.pb_command_models.proofs.check.checked_report.Goals.{After-deref-3, After-deref-6}

-- the places are those of the properties that are asked for
asked : (g : Over) (c : After-deref-3 g)
    → c.deref-3.result.now ≡ asked_places (map string_bytes c.args.options.now.properties.items) (map property_form c.in-Ok.solved.typed.model.properties.items)
asked g c =
    c.deref-3.ensures.value
    ∙ (c.in-Ok-asked_of.ensures.places ∙ (ap (λ ns. asked_places (map string_bytes ns) (map property_form c.deref.result.now)) c.deref-2.ensures.value
    ∙ ap (λ ps. asked_places (map string_bytes c.args.options.now.properties.items) (map property_form ps)) c.deref.ensures.value))

pub asked_texts-requires : goal.asked_texts-requires
asked_texts-requires g c =
    let items = c.in-Ok.solved.typed.model.properties.items in
    subst (All (λ (k : ℕ). k < length items)) (sym (asked g (goal.at.asked_texts-requires g c).After-deref-3))
    (places_within (map string_bytes c.args.options.now.properties.items) (map property_form items) (length items) (sym (length-map items property_form)))

pub symmetry_findings-requires-clause-within : goal.symmetry_findings-requires-clause-within
symmetry_findings-requires-clause-within g c κs within =
    let items = c.in-Ok.solved.typed.model.properties.items in
    let places = c.deref-4.ensures.value ∙ (sym c.deref-3.ensures.value ∙ asked g (goal.at.symmetry_findings-requires-clause-within g c).After-deref-3) in
    subst (All (λ (k : ℕ). k < length items)) (sym places)
    (places_within (map string_bytes c.args.options.now.properties.items) (map property_form items) (length items) (sym (length-map items property_form)))

pub satisfied_too-requires-clause-within : goal.satisfied_too-requires-clause-within
satisfied_too-requires-clause-within g c κs within =
    let items = c.in-Ok.solved.typed.model.properties.items in
    let places = c.deref-5.ensures.value ∙ (sym c.deref-3.ensures.value ∙ asked g (goal.at.satisfied_too-requires-clause-within g c).After-deref-3) in
    subst (All (λ (k : ℕ). k < length items)) (sym places)
    (places_within (map string_bytes c.args.options.now.properties.items) (map property_form items) (length items) (sym (length-map items property_form)))

-- the model satisfies the properties that are known to be satisfied
satisfied_here : (g : Over) (c : After-deref-6 g) → AreSatisfied c.deref-6.result.now (model_form c.in-Ok.solved.typed.model)
satisfied_here g c = subst (λ (ks : List ℕ). AreSatisfied ks (model_form c.in-Ok.solved.typed.model)) (sym c.deref-6.ensures.value) c.in_ok-satisfied.ensures

pub findings_of-requires-after_bounds : goal.findings_of-requires-after_bounds
findings_of-requires-after_bounds g c κs within =
    (model_form c.in-Ok.solved.typed.model, c.in-Ok.ensures.model.said, (c.in_ok-texts.ensures.texts, satisfied_here g (goal.at.findings_of-requires-after_bounds g c).After-deref-6))

pub returns-in-Err-asked_of : goal.returns-in-Err-asked_of
returns-in-Err-asked_of g c = record {
  report = tt;
  refused =
      let bytes = c.args.input.bytes.now in
      let options = c.args.options.now in
      if_raised c.in-Err-asked_of.error c.raise-in-Err-asked_of.result c.raise-in-Err-asked_of.ensures
      (λ fault above same h. subst (IsUnchecked options bytes) (sym same) (names_unchecked bytes options (model_form c.in-Ok.solved.typed.model) c.in-Ok.ensures.model.said fault h))
      (rw c.deref.ensures.value at rw c.deref-2.ensures.value at c.in-Err-asked_of.ensures.refused);
}

pub returns-in-Err : goal.returns-in-Err
returns-in-Err g c = record {
  report = tt;
  refused =
      let bytes = c.args.input.bytes.now in
      let options = c.args.options.now in
      if_raised c.in-Err.error c.raise.result c.raise.ensures
      (λ fault above same h. subst (IsUnchecked options bytes) (sym same) (model_unchecked bytes options fault h))
      c.in-Err.ensures.refused;
}

-- where an error is handed up, the model is refused by its fault
handed : {options : Checking} {bytes : List ℕ} (e : OrMemory SolveFault) (r : Result CheckReport (OrMemory SolveFault)) → IsErrAnd r (λ x. x ≡ e)
    → IfFault e (IsUnchecked options bytes) → ReportsVerdicts options bytes r
handed e (Ok x) made h = absurd made
handed {options} {bytes} e (Err x) made h = record { report = tt; refused = subst (λ (y : OrMemory SolveFault). IfFault y (IsUnchecked options bytes)) (sym made) h }

pub returns-in_err-texts : goal.returns-in_err-texts
returns-in_err-texts g c =
    let options = c.args.options.now in
    let solved = c.in-Ok.solved in
    handed c.in_err-texts.field-0.0 c.from_residual.result c.from_residual.ensures.1 (if_fault c.in_err-texts.field-0.0
    (λ fault h. text_unchecked c.args.input.bytes.now solved c.in-Ok.ensures.model options h.0
    (subst (λ (ks : List ℕ). Contains ks h.0) (asked g (goal.at.returns-in_err-texts g c).After-deref-3) h.1) fault h.2) c.in_err-texts.ensures.refused)

pub returns-in_err-steps : goal.returns-in_err-steps
returns-in_err-steps g c = handed c.in_err-steps.field-0.0 c.from_residual-in_err-steps.result c.from_residual-in_err-steps.ensures.1 (if_fault c.in_err-steps.field-0.0
    (step_unchecked c.args.input.bytes.now c.in-Ok.solved c.in-Ok.ensures.model c.args.options.now) c.in_err-steps.ensures.refused)

pub lines_of-requires : goal.lines_of-requires
lines_of-requires g c =
    let model = c.in-Ok.solved.typed.model in
    let items = model.properties.items in
    let said = c.in-Ok.ensures.model.said in
    let within = found_within c.args.options.now.counts said.protocol (model_form model) (length items) (length-map items property_form)
    c.in_ok-findings.findings.items (c.in_ok-findings.ensures.found (model_form model) said c.in_ok-texts.ensures.texts (satisfied_here g (goal.at.lines_of-requires g c).After-deref-6)) in
    subst (λ (ps : List Property). All (λ (x : PropertyFinding). x.place < length ps) c.deref-8.result.now) (sym c.deref-7.ensures.value)
    (subst (All (λ (x : PropertyFinding). x.place < length items)) (sym c.deref-8.ensures.value) within)

pub returns : goal.returns
returns g c =
    let solved = c.in-Ok.solved in
    let model = model_form solved.typed.model in
    let told = c.in-Ok.ensures.model in
    let said = told.said in
    let counts = c.args.options.now.counts in
    let findings = c.in_ok-findings.findings.items in
    let steps = c.in_ok-steps.steps.items in
    let notes = map string_bytes c.in_ok-symmetry.symmetry.lines.items in
    let places = c.deref-4.ensures.value ∙ (sym c.deref-3.ensures.value ∙ asked g (goal.at.returns g c).After-deref-3) in
    let symmetries = subst (λ (ks : List ℕ). AreSymmetryLines c.args.options.now.symmetry said.protocol ks notes) places (c.in_ok-symmetry.ensures.lines said) in
    let found : ArePropertiesFound counts said.protocol model (map string_bytes c.args.options.now.properties.items) findings = record {
      places = c.in_ok-findings.ensures.places ∙ (c.in_ok-texts.ensures.places ∙ asked g (goal.at.returns g c).After-deref-3);
      found = c.in_ok-findings.ensures.found model said c.in_ok-texts.ensures.texts (satisfied_here g (goal.at.returns g c).After-deref-6);
    } in
    let tells = c.args.options.now.status in
    let status = c.status_of_checked-status.ensures ∙ (ap (λ fs. status_of_checked tells fs c.deref-12.result.now) c.deref-11.ensures.value
    ∙ ap (status_of_checked tells findings) c.deref-12.ensures.value) in
    let others = impossible_lines counts (impossible_in solved.names) in
    let lines = c.in_ok-push_lines_of_steps.ensures
    ∙ (ap (λ (l : List ℕ). l ++ (step_lines (words_in solved) c.deref-10.result.now ++ others)) (c.in_ok-lines.ensures model (ap (map property_form) (sym c.deref-7.ensures.value))
    ∙ (ap (λ (ns : List (String Global)). found_lines counts model (map string_bytes ns) c.deref-8.result.now) c.deref-9.ensures.value
    ∙ ap (found_lines counts model notes) c.deref-8.ensures.value))
    ∙ (ap (λ (fs : List StepFinding). found_lines counts model notes findings ++ (step_lines (words_in solved) fs ++ others)) c.deref-10.ensures.value
    ∙ (ap (λ (w : Vocabulary). found_lines counts model notes findings ++ (step_lines w steps ++ others)) told.words
    ∙ ap (λ (names : List (List ℕ)). found_lines counts model notes findings
    ++ (step_lines (words_of said.protocol model said.is_for.made) steps ++ impossible_lines counts names)) told.impossible))) in
    record {
      report = (model, findings, steps, notes, said, found, c.in_ok-steps.ensures.found, symmetries, status, lines);
      refused = tt;
    }
