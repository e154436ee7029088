use Rattle.std.proofs.Common.{◌≡◌, ◌+◌, ◌∷◌, drop, arith, rules}
use Rattle.std.proofs.lemmas.Grind.{common_steps}
use Rattle.std.proofs.lemmas.List.{drop_all}
use Rattle.pb_sorts.proofs.Places.{drop-at}
use Rattle.pb_sorts.proofs.Filling.{weight_is_some, digit_below, filling_goes_on, filling_ends}
use Rattle.pb_sorts.proofs.tuple.tuple_at.Goals as goal
use Rattle.pb_sorts.proofs.tuple.tuple_at.Goals.{After-carrier-item}

next : (c : After-carrier-item) → drop c.loop-carrier.carrier-index c.args.carriers.now ≡ c.carrier-item.result ∷ drop (c.loop-carrier.carrier-index + 1) c.args.carriers.now
next c = drop-at c.args.carriers.now c.loop-carrier.carrier-index c.carrier-item.result c.loop-carrier-test.true c.carrier-item.is

pub nonzero_div-rest : goal.nonzero_div-rest
nonzero_div-rest c =
    weight_is_some c.args.carriers.now c.args.place _ _ c.loop-carrier.rest c.loop-carrier.weight c.carrier-item.result
    _ c.size-weight.result c.loop-carrier.invariant.filling (next (goal.at.nonzero_div-rest c).After-carrier-item) c.size-weight.ensures.count

pub value-requires : goal.value-requires
value-requires c =
    digit_below c.args.carriers.now c.args.place _ _ c.loop-carrier.rest c.loop-carrier.weight c.carrier-item.result _
    c.size-weight.result c.loop-carrier.invariant.filling (next (goal.at.value-requires c).After-carrier-item) c.size-weight.ensures.count

pub loop-carrier-preserved : goal.loop-carrier-preserved
loop-carrier-preserved c = record {
  filling = filling_goes_on c.args.carriers.now c.args.place _ _ c.loop-carrier.rest c.loop-carrier.weight
      c.carrier-item.result _ c.size-weight.result c.value.result _ c.loop-carrier.invariant.filling (next (goal.at.loop-carrier-preserved c).After-carrier-item)
      c.size-weight.ensures.count c.value.ensures (search rules);
  long = grind (arith, common_steps, c.push_reserved.ensures.items, c.loop-carrier.invariant.long);
  inline = search rules;
}

pub returns : goal.returns
returns c =
    filling_ends c.args.carriers.now c.args.place _ _ c.loop-carrier.rest c.loop-carrier.weight
    c.loop-carrier.invariant.filling (drop_all c.loop-carrier.carrier-index c.args.carriers.now c.loop-carrier-test.false)
