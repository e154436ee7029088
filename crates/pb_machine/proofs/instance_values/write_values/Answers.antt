use Rattle.std.proofs.Common.{◌≡◌, ◌∙◌, ◌+◌, ◌-◌, ◌<◌, ◌∷◌, ℕ, length, drop, slice_set, refl, sym, ap, subst, arith, FitsSigned, w64, to_z, of_z, rules}
use Rattle.std.proofs.lemmas.Int.{to_z-of_z}
use Rattle.std.proofs.lemmas.List.{drop_all}
use Rattle.std.proofs.lemmas.Grind.{drop-set_at}
use Rattle.pb_base_values.specs.Carrier.{Value}
use Rattle.pb_sorts.proofs.Places.{drop-at}
use Rattle.pb_machine.proofs.Digits.{IsEnd, nothing_written, one_more, all_written}
use Rattle.pb_machine.proofs.instance_values.write_values.Goals as goal

pub loop-index-init : goal.loop-index-init
loop-index-init c =
    let cs = c.args.carriers.now in
    let vs = c.args.values.now in
    nothing_written c.args.place _ _ (drop_all (length cs) cs (omega arith)) (drop_all (length cs) vs (omega (arith, c.requires.one_each)))

pub loop-index-preserved : goal.loop-index-preserved
loop-index-preserved c =
    let cs = c.args.carriers.now in
    let cur = c.loop-index.values in
    let j = c.loop-index.index - 1 in
    let d = c.index-carriers-index in
    let is : c.loop-index.index ≡ j + 1 = omega (arith, c.loop-index-test.true) in
    let within : j < length cs = omega (arith, c.loop-index.auto.index, c.loop-index-test.true) in
    let long : j < length cur = omega (arith, c.loop-index.auto.values, c.requires.one_each, within) in
    let fits : FitsSigned w64 c.value_at.result = search rules in
    let carriers : drop j cs ≡ d.result ∷ drop c.loop-index.index cs = drop-at cs j d.result within d.is ∙ ap (λ (n : ℕ). d.result ∷ drop n cs) (sym is) in
    let values : drop j (slice_set cur j (to_z w64 (of_z w64 c.value_at.result))) ≡ c.value_at.result ∷ drop c.loop-index.index cur =
    drop-set_at cur j j _ refl long ∙ (ap (λ (v : Value). v ∷ drop (j + 1) cur) (to_z-of_z w64 c.value_at.result fits) ∙ ap (λ (n : ℕ). c.value_at.result ∷ drop n cur) (sym is)) in
    one_more c.args.place c.loop-index.rest c.divided-before.result.0 c.divided-before.result.1 c.size.result d.result (drop c.loop-index.index cs) _ c.value_at.result (drop c.loop-index.index cur) _
    c.loop-index.invariant c.divided-before.ensures.whole c.size.ensures.count c.value_at.ensures carriers values

pub returns : goal.returns
returns c =
    let first : c.loop-index.index ≡ 0 = omega (arith, c.loop-index-test.false) in
    let all = subst (λ (n : ℕ). IsEnd c.args.place c.loop-index.rest (drop n c.args.carriers.now) (drop n c.loop-index.values)) first c.loop-index.invariant in
    all_written c.args.place c.loop-index.rest c.args.carriers.now c.loop-index.values all c.requires.below
