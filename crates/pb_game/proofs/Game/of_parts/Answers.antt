use Rattle.std.proofs.Common.{◌≡◌, ℕ, List, rules, arith, length, refl, subst}
use Rattle.pb_game.specs.Adjacency.{IsRows, IsReverse}
use Rattle.pb_game.specs.Games.{vertex_count, owner_of, priority_of, successors_of}
use Rattle.pb_game.specs.Parts.{AreGame}
use Rattle.pb_game.proofs.Checking.{parts_rows, game_rows, game_total}
use Rattle.pb_game.proofs.Greatest.{greatest_of-below}
use Rattle.pb_game.proofs.Laws.{is_game}
use Rattle.pb_game.proofs.Game.of_parts.Goals as goal

pub transpose-requires-clause-rows : goal.transpose-requires-clause-rows
transpose-requires-clause-rows c =
    let g : AreGame c.args.parts = c.requires in
    let n : c.len.result ≡ length c.args.parts.owners.items = search rules in
    game_rows c.args.parts g _ _ _ n c.deref.ensures.value c.deref-2.ensures.value

pub invariant_of-result : goal.invariant_of-result
invariant_of-result c =
    let p = c.args.parts in
    let g : AreGame p = c.requires in
    let places = c.in_ok-places.field-0.places.items in
    let vertices = c.in_ok-places.field-0.vertices.items in
    let n : c.len.result ≡ length p.owners.items = search rules in
    let rows : IsRows (length p.owners.items) places vertices =
    subst (λ (x : ℕ). IsRows x places vertices) n c.in_ok-places.ensures.rows in
    let reverse : IsReverse (length p.owners.items) p.places.items p.successors.items places vertices =
    subst (λ (x : List ℕ). IsReverse (length p.owners.items) x p.successors.items places vertices) c.deref.ensures.value
    (subst (λ (x : List ℕ). IsReverse (length p.owners.items) c.deref.result.now x places vertices) c.deref-2.ensures.value
    (subst (λ (x : ℕ). IsReverse x c.deref.result.now c.deref-2.result.now places vertices) n c.in_ok-places.ensures.reverse)) in
    record {
      well_formed = record {
        small = g.few;
        priority = g.priorities;
        maximum = c.greatest-greatest.ensures;
        few = omega (arith, c.greatest-greatest.ensures, greatest_of-below p.priorities.items 256 (omega arith) (λ k h. g.few_priorities k 0 h));
        rows = parts_rows p g.places g.successors;
        total = game_total p g.places;
        reverse_rows = rows;
        reverse = reverse;
      };
    }

pub returns-clause-game : goal.returns-clause-game
unfolding vertex_count owner_of priority_of successors_of
returns-clause-game c =
    let g : AreGame c.args.parts = c.requires in
    record { parts = g; vertices = refl; owner = λ v h. refl; priority = λ v h. refl; successors = λ v h. refl }

pub returns-clause-well_formed : goal.returns-clause-well_formed
returns-clause-well_formed c = is_game _
