use Rattle.std.proofs.Common.{◌<◌, ◌≤◌, length, ap, refl, arith}
use Rattle.pb_game.specs.Games.{successors_of}
use Rattle.pb_zielonka.proofs.RoundLemmas.{on_ok3, grows_none, passed_taken, under_way_passed, stops_outside}
use Rattle.pb_zielonka.proofs.rounds.settle.Goals as goal

pub take_in-requires-clause-under_way : goal.take_in-requires-clause-under_way
take_in-requires-clause-under_way c =
    under_way_passed c.args.arena.now c.args.attractor.now _ c.args.next.now.items c.args.v c.args.place refl refl refl refl c.requires.candidate c.requires.stops c.requires.under_way

pub take_in-requires-clause-taken : goal.take_in-requires-clause-taken
take_in-requires-clause-taken c =
    let all : length (successors_of c.args.arena.now.game.now c.args.v) ≤ c.args.place = omega (arith, ap length c.successors.ensures.list) in
    passed_taken c.args.arena.now c.args.attractor.now.rank.items c.args.attractor.now.rounds c.args.v c.args.place 0
    c.requires.candidate.theirs c.requires.stops all

pub take_in-requires-clause-untaken : goal.take_in-requires-clause-untaken
take_in-requires-clause-untaken c = c.requires.candidate.untaken

pub returns-then-place-successors-clause-under_way : goal.returns-then-place-successors-clause-under_way
returns-then-place-successors-clause-under_way c = record {
  under_way = under_way_passed c.args.arena.now c.args.attractor.now _ c.args.next.now.items c.args.v c.args.place refl refl refl refl c.requires.candidate c.requires.stops
      c.requires.under_way;
  rounds = refl;
  listed = refl;
  grows = grows_none c.args.attractor.now.rank.items c.args.attractor.now.rounds;
}

pub returns-then-place-successors-clause-outside : goal.returns-then-place-successors-clause-outside
returns-then-place-successors-clause-outside c = λ inside z.
    let some : c.args.place < length (successors_of c.args.arena.now.game.now c.args.v) = omega (arith, ap length c.successors.ensures.list) in
    stops_outside c.args.arena.now c.args.attractor.now.rank.items c.args.attractor.now.rounds c.args.v c.args.place
    c.requires.candidate.theirs c.requires.stops some

pub returns-clause-outside : goal.returns-clause-outside
returns-clause-outside c =
    on_ok3 c.take_in.result (λ w x y inside z. absurd (omega (arith, w.there, z))) c.take_in.ensures.written c.take_in.ensures.written c.take_in.ensures.written

pub returns-clause-under_way : goal.returns-clause-under_way
returns-clause-under_way c =
    on_ok3 c.take_in.result (λ stays x y. record { under_way = stays.under_way; rounds = stays.rounds; listed = stays.listed; grows = stays.grows })
    c.take_in.ensures.under_way c.take_in.ensures.written c.take_in.ensures.written
