use Rattle.std.proofs.Common.{◌≡◌, ℕ, false, get_or, arith, rules, inl, inr}
use Rattle.std.proofs.lemmas.Bool.Decides.{nat_tests}
use Rattle.pb_game.specs.Games.{priority_of}
use Rattle.pb_zielonka.specs.Regions.{IsIn}
use Rattle.pb_zielonka.specs.Kept.{IsTargetOn}
use Rattle.pb_zielonka.proofs.Lists.{taken_more, passed_more, taken_all}
use Rattle.pb_zielonka.proofs.support.list_target.Goals as goal
use Rattle.pb_zielonka.proofs.support.list_target.Goals.{then-kept-v+in_ok-push, then-kept-v-via-then-kept-v, then-kept-v-via-else-kept-v+then-priority-standing, else-kept-v+else-priority-standing}

pub loop-v-preserved : goal.loop-v-preserved
loop-v-preserved c =
    let st = c.args.standing.now in
    let kept = c.args.kept.now in
    let P = λ (v : ℕ). IsTargetOn st kept v in
    let list = c.args.standing.now.list.now in
    let k = c.loop-v.v-index in
    let v = get_or list k 0 in
    elim c.if-kept-v.branch [
      | then-kept-v+in_ok-push w ↦
          let meets : P v = elim w.then-kept-v.branch [
            | then-kept-v-via-then-kept-v w' ↦ let on : IsIn kept v = search rules in inl on
            | then-kept-v-via-else-kept-v+then-priority-standing w' ↦
                let head : priority_of st.game.now v ≡ st.top = grind (arith, nat_tests, w'.if-priority-standing.true, w'.priority.ensures.value) in inr head
          ] in
          taken_more P c.loop-v.target.items c.if-kept-v.target.items list k c.loop-v-test.true meets (cc (w.target-is, w.in_ok-push.ensures.items)) c.loop-v.invariant
      | else-kept-v+else-priority-standing w ↦
          let off : get_or kept v false ≡ false = search rules in
          let none : P v → ⊥ = λ m. elim m [
            | inl on ↦ absurd (cc)
            | inr head ↦ absurd (grind (arith, nat_tests, head, w.if-priority-standing.false, w.priority.ensures.value))
          ] in
          passed_more P c.loop-v.target.items c.if-kept-v.target.items list k c.loop-v-test.true none (cc (w.target-is)) c.loop-v.invariant
    ]

pub returns : goal.returns
returns c = taken_all (λ v. IsTargetOn c.args.standing.now c.args.kept.now v) c.loop-v.target.items c.args.standing.now.list.now c.loop-v.v-index c.loop-v-test.false c.loop-v.invariant
