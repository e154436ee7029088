-- A power for each variable of the group.
use Rattle.std.proofs.Common.{◌∙◌, ◌+◌, ◌*◌, ◌≤◌, List, drop, map, sym, ap, subst, arith}
use Rattle.std.proofs.lemmas.List.{drop_all}
use Rattle.std.proofs.Math.Nat.{mul-one}
use Rattle.pb_sorts.proofs.Places.{drop-at}
use Rattle.pb_text_tree.specs.Form.{named, variable_forms}
use Rattle.pb_typing_declarations.specs.View.{spec_of}
use Rattle.pb_protocol_tree.specs.declared.protocol.StateVariable.{StateVariable}
use Rattle.pb_protocol_tree.specs.Form.{state_variable_form}
use Rattle.pb_model_sizes.specs.declared.states.TheConstants.{MAX_MULTIPLIED}
use Rattle.pb_model_sizes.specs.Counts.{element_sum, capped, state_product, tuples_of, value_count}
use Rattle.pb_model_sizes.specs.Numbers.{number_in}
use Rattle.pb_model_sizes.proofs.Factors.{variable-in}
use Rattle.pb_model_sizes.proofs.states.times_group.Goals as goal

pub loop-variable-init : goal.loop-variable-init
loop-variable-init c =
    let spec = spec_of c.args.declarations.now in
    let form = state_variable_form c.args.group.now.sort in
    record {
      states = ap (λ (xs : List StateVariable). number_in c.args.number * state_product spec (map form xs)) (sym c.deref-variable-items.ensures.value);
      few = subst (λ (xs : List StateVariable). element_sum spec (map form xs) ≤ MAX_MULTIPLIED) (sym c.deref-variable-items.ensures.value) c.requires;
    }

pub loop-variable-preserved : goal.loop-variable-preserved
loop-variable-preserved c =
    let spec = spec_of c.args.declarations.now in
    let sort = c.args.group.now.sort in
    let form = state_variable_form sort in
    let items = c.deref-variable-items.result.now in
    let k = c.loop-variable.variable-index in
    let x = c.variable-item.result in
    let rest = map form (drop (k + 1) items) in
    let t = tuples_of spec (variable_forms x.indices.items) in
    let p = number_in c.loop-variable.product in
    let next = drop-at items k x c.loop-variable-test.true c.variable-item.is in
    let few : t + element_sum spec rest ≤ MAX_MULTIPLIED = subst (λ (xs : List StateVariable). element_sum spec (map form xs) ≤ MAX_MULTIPLIED) next c.loop-variable.invariant.few in
    let counted = c.tuples_of-count.ensures ∙ ap (λ gs. capped (tuples_of spec (variable_forms gs))) c.deref.ensures.value in
    record {
      states = c.loop-variable.invariant.states
          ∙ (ap (λ (xs : List StateVariable). p * state_product spec (map form xs)) next
          ∙ variable-in p (value_count spec (named sort).text) t (state_product spec rest) c.value_count-size.result c.tuples_of-count.result (number_in c.in_ok-product.product)
          c.value_count-size.ensures.count counted (omega arith) c.in_ok-product.ensures);
      few = omega arith;
    }

pub returns : goal.returns
returns c =
    let spec = spec_of c.args.declarations.now in
    let form = state_variable_form c.args.group.now.sort in
    let p = number_in c.loop-variable.product in
    sym (c.loop-variable.invariant.states
    ∙ (ap (λ (xs : List StateVariable). p * state_product spec (map form xs)) (drop_all c.loop-variable.variable-index c.deref-variable-items.result.now (omega (arith, c.loop-variable-test.false)))
    ∙ mul-one p))
