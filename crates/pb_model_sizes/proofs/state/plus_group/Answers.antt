-- A summand for each variable of the group.
use Rattle.std.proofs.Common.{◌∙◌, ◌+◌, List, drop, map, sym, ap, arith}
use Rattle.std.proofs.lemmas.List.{drop_all}
use Rattle.pb_sorts.proofs.Places.{drop-at}
use Rattle.pb_text_tree.specs.Form.{variable_forms}
use Rattle.pb_typing_declarations.specs.View.{spec_of}
use Rattle.pb_protocol_tree.specs.declared.protocol.StateVariable.{StateVariable}
use Rattle.pb_protocol_tree.specs.Form.{state_variable_form}
use Rattle.pb_model_sizes.specs.Counts.{element_sum, capped, tuples_of}
use Rattle.pb_model_sizes.proofs.Capped.{summand-in}
use Rattle.pb_model_sizes.proofs.state.plus_group.Goals as goal

pub loop-variable-init : goal.loop-variable-init
loop-variable-init c =
    let spec = spec_of c.args.declarations.now in
    record {
      left = ap (λ (xs : List StateVariable). capped (c.args.elements + element_sum spec (map (state_variable_form c.args.group.now.sort) xs))) (sym c.deref-variable-items.ensures.value);
      fits = omega arith;
    }

pub loop-variable-preserved : goal.loop-variable-preserved
loop-variable-preserved c =
    let spec = spec_of c.args.declarations.now in
    let form = state_variable_form c.args.group.now.sort in
    let items = c.deref-variable-items.result.now in
    let k = c.loop-variable.variable-index in
    let x = c.variable-item.result in
    let sum = c.loop-variable.sum in
    let e = tuples_of spec (variable_forms x.indices.items) in
    record {
      left = c.loop-variable.invariant.left
          ∙ (ap (λ (xs : List StateVariable). capped (sum + element_sum spec (map form xs))) (drop-at items k x c.loop-variable-test.true c.variable-item.is)
          ∙ summand-in sum e (element_sum spec (map form (drop (k + 1) items))) c.tuples_of.result c.saturating_add-sum.result
          (c.tuples_of.ensures ∙ ap (λ gs. capped (tuples_of spec (variable_forms gs))) c.deref.ensures.value) c.saturating_add-sum.ensures);
      fits = omega arith;
    }

pub returns : goal.returns
returns c =
    let spec = spec_of c.args.declarations.now in
    let form = state_variable_form c.args.group.now.sort in
    let sum = c.loop-variable.sum in
    sym (c.loop-variable.invariant.left
    ∙ (ap (λ (xs : List StateVariable). capped (sum + element_sum spec (map form xs)))
    (drop_all c.loop-variable.variable-index c.deref-variable-items.result.now (omega (arith, c.loop-variable-test.false)))
    ∙ (omega arith)))
