-- The lines of one more finding.
use Rattle.std.proofs.Common.{◌∙◌, ◌++◌, ◌<◌, ℕ, List, false, get_or, length, map, refl, sym, ap, string_bytes}
use Rattle.std.proofs.lemmas.List.Elements.{All-get_or}
use Rattle.pb_model_properties.specs.declared.verdicts.Verdict.TheVariants.{True}
use Rattle.pb_command_models.specs.declared.finding.Finding.TheVariants.{Decided}
use Rattle.pb_command_models.specs.declared.finding.PropertyFinding.{PropertyFinding}
use Rattle.pb_command_models.specs.Models.{finding_lines}
use Rattle.pb_command_models.proofs.Findings.{lines_step, name_there}
use Rattle.pb_command_models.proofs.finding_lines.lines_of.Goals as goal

pub loop-place-preserved : goal.loop-place-preserved
loop-place-preserved c model same =
    let other : PropertyFinding = record { place = 0; finding = Decided True (record { truth = false; instances = 0; cut = 0; vertices = 0 }) } in
    let k = c.loop-place.place in
    let all = c.args.findings.now in
    let f = get_or all k other in
    let counts = c.args.counts in
    let within = All-get_or (λ (x : PropertyFinding). x.place < length c.args.properties.now) all k other c.loop-place-test.true c.requires in
    let name = c.deref.ensures ∙ sym (name_there model c.args.properties.now f.place (get_or c.args.properties.now f.place c.index-properties-found.result)
    c.index-properties-found.result same within refl) in
    lines_step counts model (map string_bytes c.args.notes.now) all k f other (string_bytes c.loop-place.lines) (string_bytes c.push_finding.new.lines)
    (string_bytes c.push_note.new.lines) _ c.loop-place-test.true refl
    (c.in_ok-push_finding.ensures ∙ ap (λ (n : List ℕ). string_bytes c.loop-place.lines ++ finding_lines counts n f.finding) name)
    c.in_ok-push_note.ensures (c.loop-place.invariant model same)
