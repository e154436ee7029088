-- A factor for each group.
use Rattle.std.proofs.Common.{◌∙◌, ℕ, ◌+◌, ◌*◌, List, drop, sym, ap, arith}
use Rattle.std.specs.Prelude.{flat_map}
use Rattle.std.proofs.lemmas.List.{drop_all}
use Rattle.std.proofs.Math.Nat.{mul-one, one-mul}
use Rattle.pb_typing_declarations.specs.View.{spec_of}
use Rattle.pb_protocol_tree.specs.declared.protocol.StateVariables.{StateVariables}
use Rattle.pb_protocol_tree.specs.Form.{state_variables_form}
use Rattle.pb_model_sizes.specs.Counts.{state_product}
use Rattle.pb_model_sizes.specs.Numbers.{number_in}
use Rattle.pb_model_sizes.proofs.Groups.{elements-next, states-next}
use Rattle.pb_model_sizes.proofs.Factors.{group-in}
use Rattle.pb_model_sizes.proofs.states.states_of.Goals as goal

pub loop-group-init : goal.loop-group-init
loop-group-init c =
    let all = state_product (spec_of c.args.declarations.now) (flat_map state_variables_form c.args.groups.now) in
    record {
      states = sym (ap (λ (n : ℕ). n * all) c.in_ok-product.ensures ∙ one-mul all);
      few = c.requires;
    }

pub times_group-requires : goal.times_group-requires
times_group-requires c =
    let next = elements-next (spec_of c.args.declarations.now) c.args.groups.now c.loop-group.group-index c.group-item.result c.loop-group-test.true c.group-item.is in
    let few = c.loop-group.invariant.few in
    omega arith

pub loop-group-preserved : goal.loop-group-preserved
loop-group-preserved c =
    let spec = spec_of c.args.declarations.now in
    let groups = c.args.groups.now in
    let k = c.loop-group.group-index in
    let g = c.group-item.result in
    let rest = flat_map state_variables_form (drop (k + 1) groups) in
    let p = number_in c.loop-group.product in
    let elements = elements-next spec groups k g c.loop-group-test.true c.group-item.is in
    let few = c.loop-group.invariant.few in
    record {
      states = c.loop-group.invariant.states
          ∙ (ap (λ (n : ℕ). p * n) (states-next spec groups k g c.loop-group-test.true c.group-item.is)
          ∙ group-in p (state_product spec (state_variables_form g)) (state_product spec rest) (number_in c.in_ok-product-2.product) c.in_ok-product-2.ensures);
      few = omega arith;
    }

pub returns : goal.returns
returns c =
    let spec = spec_of c.args.declarations.now in
    let p = number_in c.loop-group.product in
    sym (c.loop-group.invariant.states
    ∙ (ap (λ (gs : List StateVariables). p * state_product spec (flat_map state_variables_form gs)) (drop_all c.loop-group.group-index c.args.groups.now (omega (arith, c.loop-group-test.false)))
    ∙ mul-one p))
