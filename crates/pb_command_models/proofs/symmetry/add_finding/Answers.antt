-- One line more, and the place where the property is satisfied.
use Rattle.std.proofs.Common.{◌≡◌, ◌∙◌, ◌++◌, ℕ, List, [], ◌∷◌, ap, sym, subst}
use Rattle.std.proofs.lemmas.List.Elements.{All-append, All-cons, All-nil}
use Rattle.pb_protocol_tree.specs.Form.{protocol_form}
use Rattle.pb_model_tree.specs.Form.{model_form}
use Rattle.pb_model_properties.specs.Joint.{IsSatisfiedAt}
use Rattle.pb_command_models.specs.declared.symmetry.SymmetryFindings.{SymmetryFindings}
use Rattle.pb_command_models.specs.Outcomes.{AreSatisfied}
use Rattle.pb_command_models.specs.Symmetries.{AddsFinding}
use Rattle.pb_command_models.proofs.symmetry.add_finding.Goals as goal
use Rattle.pb_command_models.proofs.symmetry.add_finding.Goals.{then-satisfied+in_ok-push-2, else-satisfied}

pub returns : goal.returns
returns g c =
    let protocol = protocol_form c.args.modelled.protocol.now in
    let model = model_form c.args.modelled.solved.now.typed.model in
    let place = c.args.place in
    let old = c.args.findings.now in
    let text = c.in_ok-line.line in
    let has = c.in_ok-line.ensures place c.in_ok-found.ensures in
    elim c.if-satisfied.branch [
      | then-satisfied+in_ok-push-2 w ↦ record {
        line = (text, ap (λ (f : SymmetryFindings). f.lines.items) w.findings-is ∙ c.in_ok-push.ensures.items, has);
        satisfied = λ before. subst (λ (ks : List ℕ). AreSatisfied ks model) (sym (ap (λ (f : SymmetryFindings). f.satisfied.items) w.findings-is ∙ w.in_ok-push-2.ensures.items))
            (All-append (IsSatisfiedAt model) old.satisfied.items (place ∷ []) before
            (All-cons (IsSatisfiedAt model) place [] (c.in_ok-satisfied.ensures w.if-satisfied.true) (All-nil (IsSatisfiedAt model))));
      }
      | else-satisfied w ↦ record {
        line = (text, ap (λ (f : SymmetryFindings). f.lines.items) w.findings-is ∙ c.in_ok-push.ensures.items, has);
        satisfied = λ before. subst (λ (ks : List ℕ). AreSatisfied ks model) (sym (ap (λ (f : SymmetryFindings). f.satisfied.items) w.findings-is)) before;
      }
    ]
