use Rattle.std.proofs.Common.{◌≡◌, ◌+◌, ◌-◌, ◌++◌, ◌∙◌, ◌<◌, ◌≤◌, ℕ, suc, List, take, drop, length, append-nil, sym, ap, subst, arith}
use Rattle.std.proofs.lemmas.List.{length-drop, take_all}
use Rattle.pb_model_meaning.specs.Erase.{model_of}
use Rattle.pb_protocol_packing.specs.Sizes.{fitting}
use Rattle.pb_protocol_groups.specs.declared.state_variables.StateVariable.{StateVariable}
use Rattle.pb_protocol_groups.specs.Variables.{members_for}
use Rattle.pb_protocol_groups.proofs.Fitting.{last-size, no-size, size-more}
use Rattle.pb_protocol_groups.proofs.counts.fitting_sizes.Goals.{then-first-variables-2+in_ok-push-2, else-first-variables-2}
use Rattle.pb_protocol_groups.proofs.counts.fitting_sizes.Goals as goal

pub loop-preserved : goal.loop-preserved
loop-preserved c =
    let m = model_of c.args.model.now in
    let xs = c.args.variables.now in
    let first = c.loop.first in
    let k = c.loop.counter in
    let n = c.fitting-count.result in
    let own = c.value_count-own.result in
    let less : first < length xs = omega (arith, c.loop.invariant.within, c.if-first-variables.false) in
    let next : 8 - k ≡ suc (8 - (k + 1)) = omega (arith, c.loop-test.true) in
    let others : take (length xs - (first + 1)) (drop (first + 1) xs) ≡ drop (first + 1) xs =
    take_all (length xs - (first + 1)) (drop (first + 1) xs) (omega (arith, length-drop (first + 1) xs)) in
    let within : n ≤ length (drop (first + 1) xs) = subst (λ (ys : List StateVariable). n ≤ length ys) others c.fitting-count.ensures.within in
    let count = c.fitting-count.ensures.fitting ∙ ap (λ (ys : List StateVariable). fitting own (members_for m ys)) others in
    record {
      within = omega (arith, less, within, length-drop (first + 1) xs);
      sizes =
          size-more m xs (8 - k) (8 - (k + 1)) first n own c.index-variables-first.result c.loop.sizes.items c.push.new.self.items
          _ less c.index-variables-first.is c.value_count-own.ensures count next c.in_ok-push.ensures.items c.loop.invariant.sizes;
    }

pub returns : goal.returns
returns c =
    let m = model_of c.args.model.now in
    let xs = c.args.variables.now in
    let done = c.loop.sizes.items in
    let none : 8 - c.loop.counter ≡ 0 = omega (arith, c.loop-test.false) in
    elim c.if-first-variables-2.branch [
      | then-first-variables-2+in_ok-push-2 w ↦
          ap (λ v. v.items) w.sizes-is ∙ w.in_ok-push-2.ensures.items
          ∙ ap (λ (ks : List ℕ). done ++ ks) (sym (last-size m xs (8 - c.loop.counter) c.loop.first none w.if-first-variables-2.true)) ∙ c.loop.invariant.sizes
      | else-first-variables-2 w ↦
          ap (λ v. v.items) w.sizes-is ∙ sym (append-nil done)
          ∙ ap (λ (ks : List ℕ). done ++ ks) (sym (no-size m xs (8 - c.loop.counter) c.loop.first w.if-first-variables-2.false)) ∙ c.loop.invariant.sizes
    ]
