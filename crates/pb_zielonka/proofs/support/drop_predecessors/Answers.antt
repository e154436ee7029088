use Rattle.std.proofs.Common.{◌≡◌, ◌<◌, ◌≤◌, ℕ, List, false, length, get_or, arith, rules, refl, sym, subst}
use Rattle.std.specs.Prelude.{IsTrue}
use Rattle.pb_game.specs.Games.{vertex_count, owner_of, predecessors_of}
use Rattle.pb_game.specs.Solutions.{choice_of}
use Rattle.pb_game.proofs.Laws.{is_game}
use Rattle.pb_game.proofs.Membership.{contains_place}
use Rattle.pb_zielonka.specs.Regions.{IsIn}
use Rattle.pb_zielonka.proofs.LevelLemmas.{in_below}
use Rattle.pb_zielonka.specs.Kept.{StandsOn}
use Rattle.pb_zielonka.proofs.Dropping.{IsClearedUpTo, cleared_up_same, cleared_up_drop, cleared_up_stay}
use Rattle.pb_zielonka.proofs.support.drop_predecessors.Goals as goal
use Rattle.pb_zielonka.proofs.support.drop_predecessors.Goals.{then-standing-v+then-kept-v+then-stands_on+in_ok-push, else-standing-v, else-standing-v-via-then-standing-v+then-kept-v+else-stands_on, else-standing-v-via-then-standing-v+else-kept-v, else-standing-v-via-else-standing-v}

pub loop-v-preserved : goal.loop-v-preserved
loop-v-preserved c =
    let st = c.args.standing.now in
    let g = st.game.now in
    let u = c.args.u in
    let xs = predecessors_of g u in
    let k = c.loop-v.v-index in
    let e0 = c.predecessors-v-items.ensures.list in
    let v = get_or xs k 0 in
    let same : get_or c.predecessors-v-items.result.now k 0 ≡ v = subst (λ (ys : List ℕ). get_or c.predecessors-v-items.result.now k 0 ≡ get_or ys k 0) e0 refl in
    let old = c.args.kept.now in
    let before = c.args.dropped.now.items in
    let kept = c.loop-v.kept in
    let dropped = c.loop-v.dropped.items in
    let below : v < vertex_count g = subst (λ (x : ℕ). x < vertex_count g) same (c.predecessors-v-items.ensures.closed k c.loop-v-test.true) in
    let i : IsClearedUpTo st old kept before dropped xs u k = c.loop-v.invariant in
    elim c.if-standing-v.branch [
      | then-standing-v+then-kept-v+then-stands_on+in_ok-push w ↦
          let on' : IsIn kept (get_or c.predecessors-v-items.result.now k 0) = search rules in
          let on : IsIn kept v = subst (λ (x : ℕ). IsIn kept x) same on' in
          cleared_up_same (cleared_up_drop st old kept before dropped xs u k below on i) (cc (w.kept-is, same)) (cc (w.dropped-is, w.in_ok-push.ensures.items, same))
      | else-standing-v w ↦
          let none : IsIn st.region.now v → IsIn kept v → StandsOn g st.solution.now st.player v u → ⊥ = elim w.else-standing-v.branch [
            | else-standing-v-via-then-standing-v+then-kept-v+else-stands_on w' ↦ λ inside on stands.
                let no : IsTrue w'.stands_on.result → ⊥ = search rules in
                w'.stands_on.ensures.apart no (subst (λ (x : ℕ). choice_of st.solution.now x ≡ u) (sym same)
                (stands.choice (subst (λ (x : ℕ). owner_of g x ≡ st.player) same (w'.stands_on.ensures.free no))))
            | else-standing-v-via-then-standing-v+else-kept-v w' ↦ λ inside on stands.
                let off : get_or kept (get_or c.predecessors-v-items.result.now k 0) false ≡ false = search rules in
                let off' : get_or kept v false ≡ false = subst (λ (x : ℕ). get_or kept x false ≡ false) same off in
                absurd (cc)
            | else-standing-v-via-else-standing-v w' ↦ λ inside on stands.
                let off : get_or st.region.now (get_or c.predecessors-v-items.result.now k 0) false ≡ false = search rules in
                let off' : get_or st.region.now v false ≡ false = subst (λ (x : ℕ). get_or st.region.now x false ≡ false) same off in
                absurd (cc)
          ] in
          cleared_up_same (cleared_up_stay st old kept before dropped xs u k none i) (cc (w.kept-is)) (cc (w.dropped-is))
    ]

pub returns-clause-cleared : goal.returns-clause-cleared
returns-clause-cleared c = λ v inside on stands.
    let st = c.args.standing.now in
    let g = st.game.now in
    let u = c.args.u in
    let e = c.predecessors-v-items.ensures.list in
    let below : v < vertex_count g = in_below st.region.now v _ st.sized inside in
    let p = contains_place (predecessors_of g u) v (((is_game g).predecessor v u below c.requires.vertex).1 stands.edge) in
    let done : p.0 < c.loop-v.v-index = omega (arith, p.1.within, subst (λ (xs : List ℕ). length xs ≤ c.loop-v.v-index) e c.loop-v-test.false) in
    c.loop-v.invariant.cleared p.0 done (subst (λ (x : ℕ). IsIn st.region.now x) (sym p.1.there) inside)
    (subst (λ (x : ℕ). IsIn c.loop-v.kept x) (sym p.1.there) on)
    (subst (λ (x : ℕ). StandsOn g st.solution.now st.player x u) (sym p.1.there) stands)
