-- A factor for each group.
use Rattle.std.proofs.Common.{◌∙◌, ℕ, ◌+◌, ◌*◌, List, drop, sym, ap, arith}
use Rattle.std.proofs.lemmas.List.{drop_all}
use Rattle.std.proofs.Math.Nat.{mul-one, one-mul}
use Rattle.pb_text_tree.specs.declared.variable.Variables.{Variables}
use Rattle.pb_text_tree.specs.Form.{variable_forms, variables_form}
use Rattle.pb_typing_declarations.specs.View.{spec_of}
use Rattle.pb_model_sizes.specs.Counts.{capped, tuples_of}
use Rattle.pb_model_sizes.proofs.Capped.{capped-small, factor-in}
use Rattle.pb_model_sizes.proofs.Groups.{tuples-next}
use Rattle.pb_model_sizes.proofs.count.tuples_of.Goals as goal

pub loop-group-init : goal.loop-group-init
loop-group-init c =
    record {
      left = ap capped (sym (one-mul (tuples_of (spec_of c.args.declarations.now) (variable_forms c.args.groups.now))));
      fits = omega arith;
    }

pub loop-group-preserved : goal.loop-group-preserved
loop-group-preserved c =
    let spec = spec_of c.args.declarations.now in
    let groups = c.args.groups.now in
    let k = c.loop-group.group-index in
    let g = c.group-item.result in
    let p = c.loop-group.count in
    record {
      left = c.loop-group.invariant.left
          ∙ (ap (λ (n : ℕ). capped (p * n)) (tuples-next spec groups k g c.loop-group-test.true c.group-item.is)
          ∙ factor-in p (tuples_of spec (variables_form g)) (tuples_of spec (variable_forms (drop (k + 1) groups))) c.times_group-count.result c.times_group-count.ensures);
      fits = omega arith;
    }

pub returns : goal.returns
returns c =
    let spec = spec_of c.args.declarations.now in
    let p = c.loop-group.count in
    sym (c.loop-group.invariant.left
    ∙ (ap (λ (gs : List Variables). capped (p * tuples_of spec (variable_forms gs))) (drop_all c.loop-group.group-index c.args.groups.now (omega (arith, c.loop-group-test.false)))
    ∙ (ap capped (mul-one p) ∙ capped-small p (omega arith))))
