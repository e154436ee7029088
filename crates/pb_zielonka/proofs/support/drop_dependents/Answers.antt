use Rattle.std.proofs.Common.{◌≡◌, ◌<◌, ℕ, length, get_or, arith, sym, subst}
use Rattle.pb_game.proofs.Membership.{contains_at, contains_place}
use Rattle.std.proofs.lemmas.List.{get_or_read}
use Rattle.pb_zielonka.specs.Kept.{IsClearedOn}
use Rattle.pb_zielonka.proofs.support.drop_dependents.Goals as goal

pub drop_predecessors-requires-clause-vertex : goal.drop_predecessors-requires-clause-vertex
drop_predecessors-requires-clause-vertex c =
    let dropped = c.loop-k.dropped.items in
    let here : c.loop-k.k < length dropped = omega (arith, c.len.ensures) in
    let at : c.index-u.result.now ≡ get_or dropped c.loop-k.k 0 = get_or_read dropped c.loop-k.k _ here c.index-u.ensures 0 in
    c.loop-k.invariant.sifted.sifted.vertices c.index-u.result.now (contains_at dropped c.index-u.result.now c.loop-k.k (record { within = here; there = sym at }))

pub returns-clause-cleared : goal.returns-clause-cleared
returns-clause-cleared c = λ u h.
    let dropped = c.loop-k.dropped.items in
    let p = contains_place dropped u h in
    subst (λ (x : ℕ). IsClearedOn c.args.standing.now c.loop-k.kept x) p.1.there (c.loop-k.invariant.cleared p.0 (omega (arith, p.1.within, c.len.ensures, c.loop-k-test.false)))
