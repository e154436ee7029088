-- Flat lists of vertices divide into the vertices' successors.
use Rattle.std.proofs.Common.{◌≡◌, ℕ, zero, suc, ◌+◌, ◌-◌, ◌<◌, ◌≤◌, List, [], ◌∷◌, ◌++◌, length, get_or, take, drop, Some, refl, sym, ap, ◌∙◌, subst, length-append, arith}
use Rattle.std.specs.Prelude.{slice_get, slice_range, All}
use Rattle.std.specs.List.Sorted.{IsStrictlyIncreasing}
use Rattle.std.proofs.lemmas.List.{get_or-map, length-map, take_at, drop_at, take-append-drop, take_all, get_or_default}
use Rattle.std.proofs.lemmas.List.Elements.{All-append}
use Rattle.std.proofs.lemmas.List.Concat.{flat_map-append}
use Rattle.std.proofs.lemmas.Option.{slice_get_within, get_or_from_slice_get, slice_get-get_or}
use Rattle.pb_fixpoint_trees.specs.Game.{Vertex}
use Rattle.pb_fixpoint_trees.specs.declared.player.Player.{Player}
use Rattle.pb_fixpoint_trees.specs.declared.player.Player.TheVariants.{Even}
use Rattle.pb_game.specs.declared.Game.{Game}
use Rattle.pb_game.specs.declared.parts.Parts.{Parts}
use Rattle.pb_game.specs.Adjacency.{row}
use Rattle.pb_game.specs.Parts.{AreGame, IsGameOfParts}
use Rattle.pb_strategy.specs.Vertices.{HasVertices}
use Rattle.pb_game_of_trees.specs.Draft.{all_successors, edge_sums, places, ArePartsOf, MakeGame}

length-edge_sums : (vs : List Vertex) → length (edge_sums vs) ≡ length vs + 1
length-edge_sums [] = refl
length-edge_sums (x ∷ vs) = omega (arith, length-edge_sums vs)

edge_sums-at : (vs : List Vertex) (v d : ℕ) → v ≤ length vs → get_or (edge_sums vs) v d ≡ length (all_successors (drop v vs))
edge_sums-at [] zero d l = refl
edge_sums-at [] (suc v) d l = absurd (omega arith)
edge_sums-at (x ∷ vs) zero d l = refl
edge_sums-at (x ∷ vs) (suc v) d l = edge_sums-at vs v d (omega arith)

-- the successors before v and from v on
parted : (vs : List Vertex) (v : ℕ) → all_successors vs ≡ all_successors (take v vs) ++ all_successors (drop v vs)
parted vs v = sym (ap all_successors (take-append-drop v vs)) ∙ flat_map-append (λ (x : Vertex). x.successors) (take v vs) (drop v vs)

pub place-at : (vs : List Vertex) (v d : ℕ) → v ≤ length vs → get_or (places vs) v d ≡ length (all_successors (take v vs))
place-at vs v d l =
    let at = get_or-map (λ (n : ℕ). length (all_successors vs) - n) (edge_sums vs) v d d (omega (arith, length-edge_sums vs)) in
    let sum = edge_sums-at vs v d l in
    let all = ap length (parted vs v) in
    let parts = length-append (all_successors (take v vs)) (all_successors (drop v vs)) in
    omega arith

at_vertex : (vs : List Vertex) (v : ℕ) (x : Vertex) → slice_get vs v ≡ Some x → drop v vs ≡ x ∷ drop (v + 1) vs
at_vertex [] v x e = cc
at_vertex (y ∷ vs) zero x e = let same : y ≡ x = cc in ap (λ (z : Vertex). z ∷ vs) same
at_vertex (y ∷ vs) (suc v) x e =
    let n : suc v + 1 ≡ suc (v + 1) = omega arith in
    at_vertex vs v x e ∙ ap (λ (k : ℕ). x ∷ drop k (y ∷ vs)) (sym n)

-- x's successors stand between those before it and those behind it
cut : (before here behind : List ℕ) (i j : ℕ) → i ≡ length before → j ≡ length before + length here → slice_range (before ++ (here ++ behind)) i j ≡ here
cut before here behind i j e f =
    ap (λ (xs : List ℕ). take (j - i) xs) (drop_at before (here ++ behind) i (sym e)) ∙ take_at here behind (j - i) (omega arith)

-- one more vertex before a place
place-more : (vs : List Vertex) (v : ℕ) (x : Vertex) → slice_get vs v ≡ Some x →
    length (all_successors (take (v + 1) vs)) ≡ length (all_successors (take v vs)) + length x.successors
place-more vs v x e =
    let l = slice_get_within vs v x e in
    let now = ap length (parted vs v) in
    let now_parts = length-append (all_successors (take v vs)) (all_successors (drop v vs)) in
    let next = ap length (parted vs (v + 1)) in
    let next_parts = length-append (all_successors (take (v + 1) vs)) (all_successors (drop (v + 1) vs)) in
    let here = ap (λ (xs : List Vertex). length (all_successors xs)) (at_vertex vs v x e) in
    let here_parts = length-append x.successors (all_successors (drop (v + 1) vs)) in
    omega arith

pub row_is : (vs : List Vertex) (v : ℕ) (x : Vertex) → slice_get vs v ≡ Some x → row (places vs) (all_successors vs) v ≡ x.successors
row_is vs v x e =
    let l = slice_get_within vs v x e in
    let from = place-at vs v 0 (omega arith) in
    let to = place-at vs (v + 1) 0 (omega arith) ∙ place-more vs v x e in
    let list : all_successors vs ≡ all_successors (take v vs) ++ (x.successors ++ all_successors (drop (v + 1) vs)) =
    parted vs v ∙ ap (λ (xs : List Vertex). all_successors (take v vs) ++ all_successors xs) (at_vertex vs v x e) in
    ap (λ (xs : List ℕ). slice_range xs (get_or (places vs) v 0) (get_or (places vs) (v + 1) 0)) list
    ∙ cut (all_successors (take v vs)) x.successors (all_successors (drop (v + 1) vs)) (get_or (places vs) v 0) (get_or (places vs) (v + 1) 0) from to

abbrev none : Vertex
none = record { owner = Even; priority = 0; successors = [] }

-- the vertex at a place
vertex_at : (vs : List Vertex) (v : ℕ) → v < length vs → slice_get vs v ≡ Some (get_or vs v none)
vertex_at vs v l = slice_get-get_or vs v none l

-- a fact of each vertex's successors holds of all
each_successor : (P : ℕ → Type 0) (vs : List Vertex) → ((v : ℕ) (x : Vertex) → slice_get vs v ≡ Some x → All P x.successors) → All P (all_successors vs)
each_successor P [] h k d l = absurd (omega arith)
each_successor P (x ∷ vs) h k d l = All-append P x.successors (all_successors vs) (h 0 x refl) (each_successor P vs (λ v y e. h (suc v) y e)) k d l

length-places : (vs : List Vertex) → length (places vs) ≡ length vs + 1
length-places vs = length-map (edge_sums vs) (λ (n : ℕ). length (all_successors vs) - n) ∙ length-edge_sums vs

pub parts_are_game : (vs : List Vertex) → MakeGame vs → (p : Parts) → ArePartsOf p vs → AreGame p
parts_are_game vs make p is =
    let count : length p.owners.items ≡ length vs = ap length is.owner ∙ length-map vs (λ (x : Vertex). x.owner) in
    let of_priorities : length p.priorities.items ≡ length vs = ap length is.priority ∙ length-map vs (λ (x : Vertex). x.priority) in
    let of_places : length p.places.items ≡ length vs + 1 = ap length is.place ∙ length-places vs in
    let of_successors = ap length is.successor in
    let at_place = λ (v : ℕ). ap (λ (xs : List ℕ). get_or xs v 0) is.place in
    record {
      few = omega (arith, make.few);
      priorities = omega arith;
      places = record {
        size = omega arith;
        first = at_place 0 ∙ place-at vs 0 0 (omega arith);
        rising = λ k l.
            let x = get_or vs k none in
            let e = vertex_at vs k (omega arith) in
            let some = (make.each k x e).some in
            omega (arith, at_place k, at_place (k + 1), place-at vs k 0 (omega arith), place-at vs (k + 1) 0 (omega arith), place-more vs k x e, some);
        last =
            let all : take (length vs) vs ≡ vs = take_all (length vs) vs (omega arith) in
            ap (λ (k : ℕ). get_or p.places.items k 0) count ∙ (at_place (length vs) ∙ (place-at vs (length vs) 0 (omega arith)
            ∙ (ap (λ (xs : List Vertex). length (all_successors xs)) all ∙ sym (ap length is.successor))));
      };
      few_priorities = λ k d l.
          let e = get_or-map (λ (x : Vertex). x.priority) vs k none d (omega arith) in
          let low = make.low k (get_or vs k none) (vertex_at vs k (omega arith)) in
          omega (arith, ap (λ (xs : List ℕ). get_or xs k d) is.priority, e, low);
      successors = record {
        closed =
            let each : All (λ u. u < length vs) (all_successors vs) = each_successor (λ u. u < length vs) vs
            (λ v x e. λ k d l. (make.each v x e).closed (get_or x.successors k d) (k, l, get_or_default x.successors k (get_or x.successors k d) d l)) in
            λ k d l. omega (arith, each k d (omega arith), ap (λ (xs : List ℕ). get_or xs k d) is.successor);
        rising = λ v l.
            let x = get_or vs v none in
            let e = vertex_at vs v (omega arith) in
            let same : row p.places.items p.successors.items v ≡ x.successors =
            ap (λ (xs : List ℕ). row xs p.successors.items v) is.place ∙ (ap (λ (xs : List ℕ). row (places vs) xs v) is.successor ∙ row_is vs v x e) in
            subst IsStrictlyIncreasing (sym same) (make.each v x e).rising;
      };
    }

pub has_vertices : (vs : List Vertex) (p : Parts) (g : Game) → ArePartsOf p vs → IsGameOfParts p g → HasVertices g vs
has_vertices vs p g is game =
    let count : length p.owners.items ≡ length vs = ap length is.owner ∙ length-map vs (λ (x : Vertex). x.owner) in
    record {
      count = game.vertices ∙ count;
      each = λ v x e.
          let l = slice_get_within vs v x e in
          let at : get_or vs v none ≡ x = get_or_from_slice_get vs v x none e in
          record {
            owner = game.owner v (omega arith) ∙ (ap (λ (xs : List Player). get_or xs v Even) is.owner ∙ (get_or-map (λ (y : Vertex). y.owner) vs v none Even l ∙ ap (λ (y : Vertex). y.owner) at));
            priority = game.priority v (omega arith) ∙ (ap (λ (xs : List ℕ). get_or xs v 0) is.priority ∙ (get_or-map (λ (y : Vertex). y.priority) vs v none 0 l ∙ ap (λ (y : Vertex). y.priority) at));
            successors = game.successors v (omega arith)
                ∙ (ap (λ (xs : List ℕ). row xs p.successors.items v) is.place ∙ (ap (λ (xs : List ℕ). row (places vs) xs v) is.successor ∙ row_is vs v x e));
          };
    }
