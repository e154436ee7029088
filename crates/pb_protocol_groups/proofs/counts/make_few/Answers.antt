use Rattle.std.proofs.Common.{◌≡◌, ◌+◌, ◌-◌, ◌∙◌, ℕ, List, ◌∷◌, drop, get_or, length, sym, ap, arith}
use Rattle.std.specs.Prelude.{min}
use Rattle.std.specs.List.{list_all}
use Rattle.std.proofs.lemmas.List.{drop_more}
use Rattle.pb_model_meaning.specs.Erase.{model_of}
use Rattle.pb_protocol_packing.specs.Sizes.{cut_into_groups, makes_few}
use Rattle.pb_protocol_groups.specs.Variables.{members_for}
use Rattle.pb_protocol_groups.proofs.Fitting.{step-few, step-many}
use Rattle.pb_protocol_groups.proofs.counts.make_few.Goals.{After-makes_few}
use Rattle.pb_protocol_groups.proofs.counts.make_few.Goals as goal

-- the next group, and those behind it
next : (c : After-makes_few) →
    list_all makes_few (cut_into_groups (get_or c.args.sizes.now c.loop-size.size-index 0 ∷ drop (c.loop-size.size-index + 1) c.args.sizes.now)
    (members_for (model_of c.args.model.now) (drop c.loop-size.first c.args.variables.now)))
    ≡ list_all makes_few (cut_into_groups c.args.sizes.now (members_for (model_of c.args.model.now) c.args.variables.now))
next c =
    sym (ap (λ (ks : List ℕ). list_all makes_few (cut_into_groups ks (members_for (model_of c.args.model.now) (drop c.loop-size.first c.args.variables.now))))
    (drop_more c.args.sizes.now c.loop-size.size-index 0 c.loop-size-test.true))
    ∙ c.loop-size.invariant.few

pub returns-then-not-branch : goal.returns-then-not-branch
returns-then-not-branch c =
    let xs = c.args.variables.now in
    let i = c.loop-size.size-index in
    let k = get_or c.args.sizes.now i 0 in
    let first = c.loop-size.first in
    let end = first + c.min.result in
    let is : end ≡ first + min (length xs - first) k = omega (arith, c.min.ensures) in
    sym (step-many (model_of c.args.model.now) xs k first end (drop (i + 1) c.args.sizes.now) c.in_ok-makes_few.field-0 c.loop-size.invariant.within is c.in_ok-makes_few.ensures c.if-not-branch.true)
    ∙ next (goal.at.returns-then-not-branch c).After-makes_few

pub loop-size-preserved : goal.loop-size-preserved
loop-size-preserved c =
    let xs = c.args.variables.now in
    let i = c.loop-size.size-index in
    let k = get_or c.args.sizes.now i 0 in
    let first = c.loop-size.first in
    let end = first + c.min.result in
    let is : end ≡ first + min (length xs - first) k = omega (arith, c.min.ensures) in
    record {
      within = omega (arith, is, c.loop-size.invariant.within);
      few =
          sym (step-few (model_of c.args.model.now) xs k first end (drop (i + 1) c.args.sizes.now) c.in_ok-makes_few.field-0 c.loop-size.invariant.within is c.in_ok-makes_few.ensures c.if-not-branch.false)
          ∙ next (goal.at.loop-size-preserved c).After-makes_few;
    }
