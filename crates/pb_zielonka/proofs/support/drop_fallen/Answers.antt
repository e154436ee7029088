use Rattle.std.proofs.Common.{◌≡◌, ◌<◌, ℕ, get_or, arith, rules, refl, subst}
use Rattle.std.specs.Prelude.{IsTrue}
use Rattle.std.proofs.lemmas.Bool.Decides.{nat_tests}
use Rattle.pb_game.specs.Games.{vertex_count, priority_of}
use Rattle.pb_game.proofs.Membership.{contains_at, contains_place}
use Rattle.pb_zielonka.specs.Regions.{IsIn}
use Rattle.pb_zielonka.proofs.Dropping.{IsSiftedAt, IsSiftedUpTo, sifted_up_same, sifted_up_head, sifted_up_drop, sifted_up_stay}
use Rattle.pb_zielonka.proofs.support.drop_fallen.Goals as goal
use Rattle.pb_zielonka.proofs.support.drop_fallen.Goals.{then-priority-standing, else-priority-standing+then-not-stands+in_ok-push, else-priority-standing+else-not-stands}

pub priority-requires : goal.priority-requires
priority-requires c = c.args.standing.now.vertices c.loop-v.v-index c.loop-v-test.true

pub bounds-kept-v : goal.bounds-kept-v
bounds-kept-v c = omega (arith, c.args.standing.now.vertices c.loop-v.v-index c.loop-v-test.true, c.loop-v.invariant.size)

pub bounds-kept-v-then-not-stands : goal.bounds-kept-v-then-not-stands
bounds-kept-v-then-not-stands c = omega (arith, c.args.standing.now.vertices c.loop-v.v-index c.loop-v-test.true, c.loop-v.invariant.size)

pub stands-requires-clause-vertex : goal.stands-requires-clause-vertex
stands-requires-clause-vertex c = c.args.standing.now.vertices c.loop-v.v-index c.loop-v-test.true

pub stands-requires-clause-choice : goal.stands-requires-clause-choice
stands-requires-clause-choice c = λ on o.
    let v = get_or c.args.standing.now.list.now c.loop-v.v-index 0 in
    let inside = c.requires.listed.inside v (contains_at c.args.standing.now.list.now v c.loop-v.v-index (record { within = c.loop-v-test.true; there = refl })) in
    c.requires.choices.choice v inside (c.loop-v.invariant.fewer v on) (λ e. absurd (grind (arith, nat_tests, e, c.if-priority-standing.false, c.priority.ensures.value))) o

pub loop-v-preserved : goal.loop-v-preserved
loop-v-preserved c =
    let st = c.args.standing.now in
    let list = c.args.standing.now.list.now in
    let k = c.loop-v.v-index in
    let v = get_or list k 0 in
    let old = c.args.kept.now in
    let kept = c.loop-v.kept in
    let dropped = c.loop-v.dropped.items in
    let below : v < vertex_count st.game.now = st.vertices k c.loop-v-test.true in
    let i : IsSiftedUpTo st old kept dropped list k = c.loop-v.invariant in
    elim c.if-priority-standing.branch [
      | then-priority-standing w ↦
          let head : priority_of st.game.now v ≡ st.top = grind (arith, nat_tests, w.if-priority-standing.true, c.priority.ensures.value) in
          sifted_up_same (sifted_up_head st old kept dropped list k below head i) (cc (w.kept-is)) (cc (w.dropped-is))
      | else-priority-standing+then-not-stands+in_ok-push w ↦
          sifted_up_same (sifted_up_drop st old kept dropped list k below i) (cc (w.kept-is)) (cc (w.dropped-is, w.in_ok-push.ensures.items))
      | else-priority-standing+else-not-stands w ↦
          let ok : IsTrue w.stands.result = search rules in
          let on : IsIn kept v = w.stands.ensures.kept ok in
          let here : IsSiftedAt st kept dropped v = record {
            below = λ h p. absurd (grind (arith, nat_tests, p, w.if-priority-standing.false, c.priority.ensures.value));
            choice = λ h o. w.stands.ensures.stays ok o;
            height = λ h. w.stands.ensures.small ok;
            listed = λ out p. absurd (out on);
          } in
          sifted_up_same (sifted_up_stay st old kept dropped list k here i) (cc (w.kept-is)) (cc (w.dropped-is))
    ]

pub returns : goal.returns
returns c =
    let st = c.args.standing.now in
    let list = c.args.standing.now.list.now in
    let i = c.loop-v.invariant in
    let at : (v : ℕ) → IsIn st.region.now v → IsSiftedAt st c.loop-v.kept c.loop-v.dropped.items v = λ v inside.
    let p = contains_place list v (c.requires.listed.all v inside) in
    subst (λ (x : ℕ). IsSiftedAt st c.loop-v.kept c.loop-v.dropped.items x) p.1.there (i.done p.0 (omega (arith, p.1.within, c.loop-v-test.false))) in
    record {
      sifted = record {
        size = i.size;
        below = λ v h. (at v h).below;
        choice = λ v h. (at v h).choice;
        height = λ v h. (at v h).height;
        listed = λ v h. (at v h).listed;
        vertices = i.vertices;
      };
      fewer = i.fewer;
    }
