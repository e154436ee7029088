use Rattle.std.proofs.Common.{◌≡◌, ◌++◌, drop, map, string_bytes}
use Rattle.pb_model_tree.specs.Form.{ModelForm, property_form}
use Rattle.pb_command_models.specs.Models.{found_lines}
use Rattle.pb_command_models.proofs.finding_lines.lines_of.Given as goal

-- the lines so far, and those of what is left
abbrev pub invariant-loop-place : goal.invariant-loop-place
invariant-loop-place l = (model : ModelForm) → model.properties ≡ map property_form l.properties
    → string_bytes l.lines ++ found_lines l.counts model (drop l.place (map string_bytes l.notes)) (drop l.place l.findings)
    ≡ found_lines l.counts model (map string_bytes l.notes) l.findings
