use Rattle.std.proofs.Common.{◌≡◌, ◌<◌, ◌+◌, ◌∙◌, ◌++◌, ℕ, List, Bool, false, length, get_or, take, drop, arith, rules, sym, ap, subst}
use Rattle.std.proofs.lemmas.List.{take_all}
use Rattle.std.proofs.lemmas.List.Sums.{count_by-le-length}
use Rattle.std.proofs.lemmas.List.Sorted.{IsPermutation-refl}
use Rattle.pb_fixpoint_trees.specs.Players.{opponent_of}
use Rattle.pb_game.specs.Games.{vertex_count}
use Rattle.pb_game.proofs.Laws.{is_game}
use Rattle.pb_zielonka.specs.Regions.{IsIn, ListsRegion, IsWonPart, IsGreatestIn, region_count}
use Rattle.pb_zielonka.specs.Changes.{HasRoomAt, IsRaisedAt, IsClearedAt}
use Rattle.pb_zielonka.specs.Turns.{IsRemaining}
use Rattle.pb_zielonka.proofs.Frames.{same_refl, same_trans}
use Rattle.pb_zielonka.proofs.Lists.{lists_permuted}
use Rattle.pb_zielonka.proofs.Parts.{level_list, ready_with, ready_again, list_turned, list_cut, list_below, list_vertices, behind_below, marked_again, marked_behind}
use Rattle.pb_zielonka.proofs.LevelLemmas.{level_won, level_cleared}
use Rattle.pb_zielonka.proofs.LostLemmas.{level_lost}
use Rattle.pb_zielonka.proofs.TurnLemmas.{IsTurnInSteps, front_below, steps_turn, turn_played, won_part, none_lost, rest_room, level_bounded, turn_fewer, reduced_at, outside_lost, next_won}
use Rattle.pb_zielonka.proofs.levels.+turns.Goals as goal

pub solve_below-greatest_in-requires : goal.solve_below-greatest_in-requires
solve_below-greatest_in-requires bound m0 c = list_vertices c.args.level.now.game.now c.requires.ready.subgame.size c.requires.ready.listed

pub solve_below-mark-requires : goal.solve_below-mark-requires
solve_below-mark-requires bound m0 c = λ k h. omega (arith, list_below c.requires.ready.subgame.size c.requires.ready.listed k h, c.requires.ready.sized)

pub solve_below-turns-init : goal.solve_below-turns-init
solve_below-turns-init bound m0 c =
    let region = c.args.space.now.region.items in
    let list = c.args.list.now in
    let greatest : IsGreatestIn c.args.level.now.game.now list c.in-Some.top = c.in-Some.ensures in
    let listed = subst (λ (ys : List ℕ). ListsRegion region ys) (sym (take_all (length list) list (omega arith))) c.requires.ready.listed in
    record {
      ready = record {
        subgame = c.requires.ready.subgame;
        listed = listed;
        blank = c.requires.ready.blank;
        sized = c.mark.ensures.size ∙ c.requires.ready.sized;
        lengths = c.requires.ready.lengths;
      };
      limit = λ v h. greatest.upper v (c.requires.ready.listed.all v h);
      below = omega (arith, c.requires.priorities greatest.vertex (c.requires.ready.listed.inside greatest.vertex greatest.inside), greatest.reached);
      remaining = record {
        within = λ v h. h;
        subgame = c.requires.ready.subgame;
        trap = λ v u h o e. e.inside;
        done = λ v h out. absurd (out h);
      };
      list = record {
        whole = IsPermutation-refl list;
        within = omega arith;
        listed = listed;
      };
      won = λ v h on ne. (let off : get_or c.mark.new.region.items v false ≡ false = c.mark.ensures.listed v (c.requires.ready.listed.all v h) in absurd (cc));
      bound = omega (arith, count_by-le-length (λ (b : Bool). b) region, c.requires.ready.subgame.size);
      outside = λ v l out. same_refl c.args.level.now.game.now c.args.solution.now v;
    }

pub solve_below-invariant_of-turn : goal.solve_below-invariant_of-turn
solve_below-invariant_of-turn bound m0 c =
    let i = c.turns.invariant in
    record {
      parity = sym c.of_priority-player.ensures;
      counted = omega (arith, c.args.level.now.limited, i.below);
      small = omega (arith, i.bound, (is_game c.args.level.now.game.now).small);
    }

pub solve_below-play_turn-requires-clause-ready : goal.solve_below-play_turn-requires-clause-ready
solve_below-play_turn-requires-clause-ready bound m0 c κs lt = record { ready = c.turns.invariant.ready; won = c.turns.invariant.won }

pub solve_below-play_turn-requires-clause-limit : goal.solve_below-play_turn-requires-clause-limit
solve_below-play_turn-requires-clause-limit bound m0 c κs lt = λ v h. c.turns.invariant.limit v (c.turns.invariant.remaining.within v h)

pub solve_below-mark-requires-then-is_empty : goal.solve_below-mark-requires-then-is_empty
solve_below-mark-requires-then-is_empty bound m0 c =
    let i = c.turns.invariant in
    let e = c.in_ok-play_turn.ensures in
    let lists = list_turned i.list e.again.permuted in
    behind_below c.args.space.now.region.items _ c.turns.left _ lists.within (c.requires.ready.subgame.size ∙ sym (ap length e.again.region ∙ i.remaining.subgame.size))
    (lists_permuted lists.whole c.requires.ready.listed)

pub solve_below-clear-requires-clause-listed : goal.solve_below-clear-requires-clause-listed
solve_below-clear-requires-clause-listed bound m0 c =
    let i = c.turns.invariant in
    let e = c.in_ok-play_turn.ensures in
    let lists = list_turned i.list e.again.permuted in
    let marked = c.mark-then-is_empty.ensures in
    subst (λ (x : List Bool). ListsRegion x (c.play_turn.new.list ++ drop c.turns.left c.turns.list)) (sym (c.deref.ensures.value ∙
    marked_behind e.again.region (i.remaining.subgame.size ∙ sym c.requires.ready.subgame.size) marked.size c.requires.ready.listed lists marked.listed marked.others))
    (lists_permuted lists.whole c.requires.ready.listed)

pub solve_below-returns-then-is_empty : goal.solve_below-returns-then-is_empty
solve_below-returns-then-is_empty bound m0 c =
    let g = c.args.level.now.game.now in
    let i = c.turns.invariant in
    let e = c.in_ok-play_turn.ensures in
    let t = e.played in
    let p = turn_played t c.requires.ready.subgame.size i.limit i.remaining in
    let none : length c.play_turn.new.space.frontier.items ≡ 0 = search rules in
    let all = none_lost c.of_priority-player.result t.part none in
    let lists = list_turned i.list e.again.permuted in
    let marked = c.mark-then-is_empty.ensures in
    let back : c.mark-then-is_empty.new.region.items ≡ c.args.space.now.region.items =
    marked_behind e.again.region (i.remaining.subgame.size ∙ sym c.requires.ready.subgame.size) marked.size c.requires.ready.listed lists marked.listed marked.others in
    let cleared = subst (λ (x : List Bool). (v : ℕ) → v < vertex_count g → IsClearedAt g c.play_turn.new.solution c.clear.new.solution x c.in-Some.top c.args.level.now.limit v)
    (c.deref.ensures.value ∙ back) c.clear.ensures.cleared in
    record {
      again = ready_again c.requires.ready back lists.whole e.again.ready.blank e.again.ready.sized c.clear.ensures.lengths;
      certified = level_cleared i.below c.args.level.now.limited c.requires.ready.subgame.size (level_won p t.stands all) cleared;
      outside = λ v l out. same_trans g _ _ _ v (same_trans g _ _ _ v (i.outside v l out) (t.same v l (λ h. out (i.remaining.within v h)))) ((cleared v l).outside out);
      bounded = level_bounded i.below (omega (arith, i.bound, (is_game g).small)) p all t.stands cleared;
    }

pub solve_below-concede-requires-clause-ready : goal.solve_below-concede-requires-clause-ready
solve_below-concede-requires-clause-ready bound m0 c κs fits =
    let again = c.in_ok-play_turn.ensures.again in
    let listed = subst (λ (x : List Bool). ListsRegion x (take c.turns.left (c.play_turn.new.list ++ drop c.turns.left c.turns.list))) (sym again.region)
    (list_turned c.turns.invariant.list again.permuted).listed in
    ready_with again.ready listed again.ready.lengths

pub solve_below-concede-requires-clause-within : goal.solve_below-concede-requires-clause-within
solve_below-concede-requires-clause-within bound m0 c κs fits = λ v h.
    let t = c.in_ok-play_turn.ensures.played in
    subst (λ (x : List Bool). IsIn x v) (sym c.in_ok-play_turn.ensures.again.region) (t.front.without.within v (t.part.within v h))

pub solve_below-turns-smaller : goal.solve_below-turns-smaller
solve_below-turns-smaller bound m0 c =
    let e = c.in_ok-play_turn.ensures in
    turn_fewer e.played e.again.region c.in_ok-remainder.ensures.conceded (search rules)

pub solve_below-turns-preserved : goal.solve_below-turns-preserved
solve_below-turns-preserved bound m0 c =
    let g = c.args.level.now.game.now in
    let region = c.args.space.now.region.items in
    let i = c.turns.invariant in
    let e = c.in_ok-play_turn.ensures in
    let t = e.played in
    let p = turn_played t c.requires.ready.subgame.size i.limit i.remaining in
    let after = c.in_ok-remainder.ensures in
    let conceded = after.conceded in
    let left' = c.concede.new.space.region.items in
    let fewer : region_count left' < region_count c.turns.space.region.items = turn_fewer t e.again.region conceded (search rules) in
    let list = list_cut (list_turned i.list e.again.permuted) after.left.permuted after.left.within after.left.ready.listed in
    let r = reduced_at p t.part e.again.region conceded in
    let sum : c.turns.base + conceded.attractor.rounds ≡ c.turns.base + c.from-base.result = omega (arith, conceded.counted, c.from-base.ensures) in
    record {
      ready = ready_with after.left.ready list.listed after.left.ready.lengths;
      limit = i.limit;
      below = i.below;
      remaining = subst (λ (x : ℕ). IsRemaining g region c.concede.new.solution left' c.of_priority-player.result c.in-Some.top x) sum (level_lost r);
      list = list;
      won = λ v h on ne. next_won r t.stands v h ne;
      bound = omega (arith, i.bound, fewer, conceded.counted, conceded.taken.rounds, c.from-base.ensures, (is_game g).small);
      outside = λ v l out. outside_lost r v l out (same_trans g _ _ _ v (i.outside v l out) (t.same v l (λ h. out (i.remaining.within v h))));
    }

pub play_turn-invariant_of-next : goal.play_turn-invariant_of-next
play_turn-invariant_of-next bound m0 c = record {
  few = (is_game c.args.turn.now.game.now).few_priorities;
  limited = (let counted = c.args.turn.now.counted in omega (arith, counted));
}

pub play_turn-solve_below-requires-clause-ready : goal.play_turn-solve_below-requires-clause-ready
play_turn-solve_below-requires-clause-ready bound m0 c κs lt = c.in_ok-front.ensures.left.ready

pub play_turn-solve_below-requires-clause-priorities : goal.play_turn-solve_below-requires-clause-priorities
play_turn-solve_below-requires-clause-priorities bound m0 c κs lt = front_below c.args.turn.now c.in_ok-front.ensures.claimed c.requires.limit

pub play_turn-overflow_add-gain : goal.play_turn-overflow_add-gain
play_turn-overflow_add-gain bound m0 c =
    let front = c.in_ok-front.ensures.claimed in
    omega (arith, front.counted, front.small, front.front.rounds, (is_game c.args.turn.now.game.now).small)

pub play_turn-win_rest-requires-clause-listed : goal.play_turn-win_rest-requires-clause-listed
play_turn-win_rest-requires-clause-listed bound m0 c =
    let f = c.in_ok-front.ensures in
    let e = c.in_ok-solve_below.ensures in
    let m = c.in_ok-front.front.vertices in
    let lists = list_turned (level_list f.left) e.again.permuted in
    subst (λ (x : List Bool). ListsRegion x (take m (c.solve_below.new.list ++ drop m c.claim_front.new.list))) (sym (c.deref.ensures.value ∙ e.again.region)) lists.listed

pub play_turn-win_rest-requires-clause-small : goal.play_turn-win_rest-requires-clause-small
play_turn-win_rest-requires-clause-small bound m0 c =
    let turn = c.args.turn.now in
    let s = c.solve_below.new.solution in
    let e = c.in_ok-solve_below.ensures in
    subst (λ (x : List Bool). (v : ℕ) → HasRoomAt turn s x (c.in_ok-front.front.peak + 1) v) (sym (c.deref.ensures.value ∙ e.again.region))
    (rest_room turn c.in_ok-front.ensures.claimed s e.bounded)

pub play_turn-won_by-requires : goal.play_turn-won_by-requires
play_turn-won_by-requires bound m0 c = λ k h.
    let f = c.in_ok-front.ensures in
    let lists = list_turned (level_list f.left) c.in_ok-solve_below.ensures.again.permuted in
    omega (arith, list_below (f.claimed.front.without.size ∙ c.requires.ready.ready.subgame.size) lists.listed k h, c.win_rest.ensures.lengths.winner)

pub play_turn-mark-requires : goal.play_turn-mark-requires
play_turn-mark-requires bound m0 c = λ k h.
    let f = c.in_ok-front.ensures in
    let e = c.in_ok-solve_below.ensures in
    let lists = list_turned (level_list f.left) e.again.permuted in
    let ready = c.requires.ready.ready in
    omega (arith, list_below ready.subgame.size (lists_permuted lists.whole ready.listed) k h, ap length e.again.region, f.claimed.front.without.size, ready.subgame.size)

pub play_turn-returns : goal.play_turn-returns
play_turn-returns bound m0 c =
    let turn = c.args.turn.now in
    let left = c.args.space.now.region.items in
    let kept = c.args.space.now.kept.items in
    let rest = c.claim_front.new.space.region.items in
    let peak = c.in_ok-front.front.peak in
    let s2 = c.solve_below.new.solution in
    let s3 = c.win_rest.new.solution in
    let f = c.in_ok-front.ensures in
    let front = f.claimed.front in
    let e = c.in_ok-solve_below.ensures in
    let lists = list_turned (level_list f.left) e.again.permuted in
    let part : IsWonPart s3 c.won_by.new.part.items rest (opponent_of turn.player) = won_part s3 _ _ rest _ _ c.opponent.ensures lists.listed c.in_ok-won_by.ensures in
    let steps : IsTurnInSteps turn left kept rest c.args.solution.now c.claim_front.new.solution s2 s3 peak = record {
      subgame = c.requires.ready.ready.subgame;
      limit = c.requires.limit;
      won = c.requires.ready.won;
      claimed = f.claimed;
      certified = e.certified;
      same = e.outside;
      raised = subst (λ (x : List Bool). (v : ℕ) → v < vertex_count turn.game.now → IsRaisedAt turn s2 s3 x (peak + 1) v) (c.deref.ensures.value ∙ e.again.region) c.win_rest.ensures.raised;
    } in
    let back : c.mark.new.region.items ≡ left =
    marked_again e.again.region front.without.size c.mark.ensures.size (lists_permuted lists.whole c.requires.ready.ready.listed)
    front.without.within c.mark.ensures.listed c.mark.ensures.others in
    record {
      again = ready_again c.requires.ready.ready back lists.whole e.again.ready.blank e.again.ready.sized c.win_rest.ensures.lengths;
      played = steps_turn steps part;
    }
