-- The protocol that is read again is the one in whose place the model is solved.
use Rattle.std.proofs.Common.{◌≡◌, ℕ, true, false, not, Bool, List, Result, Ok, Err, map, refl, sym, subst, string_bytes}
use Rattle.std.specs.Prelude.{IfOk}
use Rattle.pb_protocol_tree.specs.Form.{ProtocolForm, protocol_form}
use Rattle.pb_model_tree.specs.Form.{ModelForm, model_form}
use Rattle.pb_model_properties.specs.Said.{IsModelFor, IsModelOf}
use Rattle.pb_model_properties.proofs.Negations.{same_reading}
use Rattle.pb_command_models.specs.declared.symmetry.SymmetryFindings.{SymmetryFindings}
use Rattle.pb_command_models.specs.Symmetries.{AreLinesAt, AreSymmetryLines}
use Rattle.pb_command_models.proofs.symmetry.symmetry_findings.Goals as goal

pub findings_in-requires-clause-model : goal.findings_in-requires-clause-model
findings_in-requires-clause-model g c κs within =
    let said = c.requires.told.said in
    let model = model_form c.args.solved.now.typed.model in
    subst (λ (q : ProtocolForm). IsModelFor q model) (same_reading c.args.input.bytes.now (protocol_form c.in-Ok.protocol) said.protocol c.in-Ok.ensures.said said.read) said.is_for

requested : (b : Bool) → not b ≡ false → b ≡ true
requested true is = refl
requested false is = absurd (cc is)

-- lines of the protocol are those of whatever protocol the bytes say
lines_of_it : {E : Type 0} (bytes : List ℕ) (protocol : ProtocolForm) (model : ModelForm) (symmetry : Bool) (places : List ℕ) (r : Result SymmetryFindings E) → symmetry ≡ true
    → ((q : IsModelOf bytes model) → q.protocol ≡ protocol)
    → IfOk r (λ f. AreLinesAt protocol places (map string_bytes f.lines.items))
    → IfOk r (λ f. (said : IsModelOf bytes model) → AreSymmetryLines symmetry said.protocol places (map string_bytes f.lines.items))
lines_of_it bytes protocol model symmetry places (Ok f) is same h = λ said.
    let lines = map string_bytes f.lines.items in
    subst (λ (b : Bool). AreSymmetryLines b said.protocol places lines) (sym is)
    (subst (λ (q : ProtocolForm). AreLinesAt q places lines) (sym (same said)) h)
lines_of_it bytes protocol model symmetry places (Err e) is same h = tt

pub returns-in-Ok-clause-lines : goal.returns-in-Ok-clause-lines
returns-in-Ok-clause-lines g c =
    let bytes = c.args.input.bytes.now in
    let protocol = protocol_form c.in-Ok.protocol in
    lines_of_it bytes protocol (model_form c.args.solved.now.typed.model) c.args.options.symmetry c.args.places.now c.findings_in.result (requested c.args.options.symmetry c.if-not-options.false)
    (λ said. same_reading bytes protocol said.protocol c.in-Ok.ensures.said said.read) c.findings_in.ensures.lines
