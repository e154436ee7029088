use Rattle.std.proofs.Common.{◌≡◌, ℕ, ◌-◌, List, map, length, get_or, reverse, ap, ◌∙◌, arith}
use Rattle.std.specs.Vec.{with_items}
use Rattle.std.proofs.lemmas.List.{length-map, reverse-reverse, with_items_is}
use Rattle.pb_fixpoint_trees.specs.Game.{Vertex}
use Rattle.pb_game_of_trees.specs.Draft.{IsDraft, owners, priorities, all_successors, edge_sums}
use Rattle.pb_game_of_trees.proofs.Sums.{edge_sums-le}
use Rattle.pb_game_of_trees.proofs.draft.Draft.into_parts.Goals.{After-deref_mut}
use Rattle.pb_game_of_trees.proofs.draft.Draft.into_parts.Goals as goal

-- the lists once they are turned round
module _ (c : After-deref_mut) {vs : List Vertex} (is : IsDraft c.args.self vs) where
  sums : c.deref_mut.result.now ≡ edge_sums vs
  sums = c.deref_mut.ensures.value ∙ (c.reverse-4.ensures.items ∙ (ap reverse is.edges ∙ reverse-reverse (edge_sums vs)))

  all : c.reverse-3.new.self.items ≡ all_successors vs
  all = c.reverse-3.ensures.items ∙ (ap reverse is.successor ∙ reverse-reverse (all_successors vs))

  size : c.len.result ≡ length (all_successors vs)
  size = omega (arith, ap length all, c.len.ensures, c.reverse-3.new.self.ok.0)

pub subtract_from-requires : goal.subtract_from-requires
subtract_from-requires c =
    let vs = c.requires.0 in
    let places = sums c c.requires.1 in
    λ k d l. omega (arith, edge_sums-le vs k d (omega (arith, l, ap length places)), ap (λ (xs : List ℕ). get_or xs k d) places, size c c.requires.1)

pub returns : goal.returns
returns c = λ vs is.
    let turned = (goal.at.returns c).After-deref_mut in
    let back : (with_items c.reverse-4.new.self c.subtract_from.new.numbers).items ≡ c.subtract_from.new.numbers =
    with_items_is c.reverse-4.new.self c.subtract_from.new.numbers (omega (
      arith,
      ap length c.subtract_from.ensures,
      length-map c.deref_mut.result.now (λ n. c.len.result - n),
      ap length c.deref_mut.ensures.value,
      c.reverse-4.new.self.ok.0,
    )) in
    record {
      owner = c.reverse.ensures.items ∙ (ap reverse is.owner ∙ reverse-reverse (owners vs));
      priority = c.reverse-2.ensures.items ∙ (ap reverse is.priority ∙ reverse-reverse (priorities vs));
      place = back ∙ (c.subtract_from.ensures ∙ (ap (map (λ n. c.len.result - n)) (sums turned is) ∙ ap (λ (t : ℕ). map (λ n. t - n) (edge_sums vs)) (size turned is)));
      successor = all turned is;
    }
