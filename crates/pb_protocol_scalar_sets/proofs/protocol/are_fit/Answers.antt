use Rattle.std.proofs.Common.{◌∙◌, List, map, ap}
use Rattle.std.specs.List.{list_all}
use Rattle.pb_protocol_tree.specs.declared.step.Step as declared_step
use Rattle.pb_protocol_tree.specs.Form.{step_form}
use Rattle.pb_protocol_meaning.specs.Syntax.{Step}
use Rattle.pb_protocol_meaning.specs.Erase.{erased_step, protocol_of}
use Rattle.pb_protocol_scalar_sets.specs.declared.term.Context.{Context}
use Rattle.pb_protocol_scalar_sets.specs.Steps.{step_fits}
use Rattle.pb_protocol_scalar_sets.proofs.Symmetric.{steps-kinds}
use Rattle.pb_protocol_scalar_sets.proofs.protocol.are_fit.Goals as goal

pub returns : goal.returns
returns c = λ ys e.
    let context : Context = record { set = c.args.set.now; known = record { state = c.args.state; definitions = c.args.definitions } } in
    let known_kind : List declared_step.Step → List Step = λ xs. map erased_step (map step_form xs) in
    c.in_ok-steps_fit.ensures
    ∙ (ap (λ (xs : List declared_step.Step). list_all (step_fits context) (known_kind xs)) c.deref.ensures.value ∙ steps-kinds context ys e (protocol_of c.args.set.now.protocol.now).steps)
