-- A factor for each name of the group.
use Rattle.std.proofs.Common.{◌∙◌, ℕ, ◌+◌, ◌*◌, min, List, drop, sym, ap, arith}
use Rattle.std.proofs.lemmas.List.{drop_all}
use Rattle.std.proofs.Math.Nat.{mul-one}
use Rattle.pb_sorts.proofs.Places.{drop-at}
use Rattle.pb_text_tree.specs.declared.name.Name as declared_name
use Rattle.pb_text_tree.specs.Form.{named}
use Rattle.pb_typing_declarations.specs.View.{spec_of}
use Rattle.pb_model_sizes.specs.declared.count.TheConstants.{MAX_COUNT}
use Rattle.pb_model_sizes.specs.Counts.{capped, tuples_of, value_count}
use Rattle.pb_model_sizes.proofs.Capped.{capped-small, factor-in}
use Rattle.pb_model_sizes.proofs.Groups.{of_sort}
use Rattle.pb_model_sizes.proofs.count.times_group.Goals as goal

pub loop-name-init : goal.loop-name-init
loop-name-init c =
    let spec = spec_of c.args.declarations.now in
    record {
      left = ap (λ (ns : List declared_name.Name). capped (c.args.count * tuples_of spec (of_sort (named c.args.group.now.sort) ns))) (sym c.deref-name-items.ensures.value);
      fits = omega arith;
    }

pub loop-name-preserved : goal.loop-name-preserved
loop-name-preserved c =
    let spec = spec_of c.args.declarations.now in
    let sort = named c.args.group.now.sort in
    let items = c.deref-name-items.result.now in
    let k = c.loop-name.name-index in
    let p = c.loop-name.product in
    record {
      left = c.loop-name.invariant.left
          ∙ (ap (λ (ns : List declared_name.Name). capped (p * tuples_of spec (of_sort sort ns))) (drop-at items k c.name-item.result c.loop-name-test.true c.name-item.is)
          ∙ factor-in p (value_count spec sort.text) (tuples_of spec (of_sort sort (drop (k + 1) items))) c.saturating_mul-product.result
          (c.saturating_mul-product.ensures ∙ ap (λ (s : ℕ). min (p * s) MAX_COUNT) c.value_count-size.ensures.count));
      fits = omega arith;
    }

pub returns : goal.returns
returns c =
    let spec = spec_of c.args.declarations.now in
    let sort = named c.args.group.now.sort in
    let items = c.deref-name-items.result.now in
    let p = c.loop-name.product in
    sym (c.loop-name.invariant.left
    ∙ (ap (λ (ns : List declared_name.Name). capped (p * tuples_of spec (of_sort sort ns))) (drop_all c.loop-name.name-index items (omega (arith, c.loop-name-test.false)))
    ∙ (ap capped (mul-one p) ∙ capped-small p (omega arith))))
