-- A summand for each group.
use Rattle.std.proofs.Common.{◌∙◌, ℕ, ◌+◌, List, sym, ap, arith}
use Rattle.std.specs.Prelude.{flat_map}
use Rattle.std.proofs.lemmas.List.{drop_all}
use Rattle.pb_typing_declarations.specs.View.{spec_of}
use Rattle.pb_protocol_tree.specs.declared.protocol.StateVariables.{StateVariables}
use Rattle.pb_protocol_tree.specs.Form.{state_variables_form}
use Rattle.pb_model_sizes.specs.Counts.{element_sum, capped}
use Rattle.pb_model_sizes.proofs.Groups.{elements-next}
use Rattle.pb_model_sizes.proofs.state.elements_of.Goals as goal

pub loop-group-preserved : goal.loop-group-preserved
loop-group-preserved c =
    let spec = spec_of c.args.declarations.now in
    let groups = c.args.groups.now in
    let k = c.loop-group.group-index in
    let next = elements-next spec groups k c.group-item.result c.loop-group-test.true c.group-item.is in
    let sum = c.plus_group-elements.ensures in
    record {
      left = c.loop-group.invariant.left ∙ (ap (λ (n : ℕ). capped (c.loop-group.elements + n)) next ∙ (omega arith));
      fits = omega arith;
    }

pub returns : goal.returns
returns c =
    let spec = spec_of c.args.declarations.now in
    let sum = c.loop-group.elements in
    sym (c.loop-group.invariant.left
    ∙ (ap (λ (gs : List StateVariables). capped (sum + element_sum spec (flat_map state_variables_form gs)))
    (drop_all c.loop-group.group-index c.args.groups.now (omega (arith, c.loop-group-test.false)))
    ∙ (omega arith)))
