use Rattle.std.proofs.Common.{◌∙◌, ◌++◌, List, map, ap}
use Rattle.std.specs.Prelude.{reverse}
use Rattle.pb_protocol_tree.specs.Form.{formula_form}
use Rattle.pb_protocol_meaning.specs.Erase.{erased_formula}
use Rattle.pb_protocol_symmetry.specs.Kinds.{Signature}
use Rattle.pb_protocol_scalar_sets.specs.Symmetric.{is_same}
use Rattle.pb_protocol_scalar_sets.specs.View.{signature_said}
use Rattle.pb_protocol_scalar_sets.proofs.protocol.is_same.Goals as goal

pub returns : goal.returns
returns c =
    let states = reverse (map signature_said c.args.at_states.now) ++ map signature_said c.args.state.now in
    c.formula_fits.ensures ∙ ap (λ (start : List Signature). is_same c.args.set.now states start (erased_formula (formula_form c.args.formula.now))) c.at_start-at_start.ensures
