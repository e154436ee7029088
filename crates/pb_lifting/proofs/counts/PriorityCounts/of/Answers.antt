use Rattle.std.proofs.Common.{◌≡◌, ◌<◌, refl, subst, arith}
use Rattle.std.specs.Prelude.{slice_index}
use Rattle.std.proofs.lemmas.List.{get_or-replicate}
use Rattle.pb_game.specs.Games.{vertex_count}
use Rattle.pb_game.proofs.Laws.{is_game}
use Rattle.pb_lifting.specs.Measures.{vertices_upto}
use Rattle.pb_lifting.proofs.Counting.{counted_within}
use Rattle.pb_lifting.proofs.counts.PriorityCounts.of.Goals as goal

pub loop-v-init : goal.loop-v-init
loop-v-init c = record { sized = refl; counted = λ q h. get_or-replicate 256 q 0 0 h }

pub bounds-vertices-priority : goal.bounds-vertices-priority
bounds-vertices-priority c = omega (arith, (is_game c.args.game.now).few_priorities, c.priority.ensures.within)

pub overflow_add-vertices : goal.overflow_add-vertices
overflow_add-vertices c =
    let g = c.args.game.now in let v = c.loop-v.v in let p = c.priority.result in
    let inside : p < 256 = omega (arith, (is_game g).few_priorities, c.priority.ensures.within) in
    omega (arith, c.loop-v.invariant.counted p inside, counted_within g p v, c.loop-v-test.true, c.len-v-end.ensures.small)

pub bounds-vertices-priority-in-loop-v : goal.bounds-vertices-priority-in-loop-v
bounds-vertices-priority-in-loop-v c = omega (arith, (is_game c.args.game.now).few_priorities, c.priority.ensures.within)

pub returns : goal.returns
returns c q h =
    let g = c.args.game.now in
    let e : c.loop-v.v ≡ vertex_count g = omega (arith, c.loop-v-test.false, c.loop-v.auto.v-end, c.len-v-end.ensures.value) in
    subst (λ n. slice_index c.loop-v.vertices q ≡ vertices_upto g q n) e (c.loop-v.invariant.counted q (omega (arith, (is_game g).few_priorities, h)))
