-- The strategies of a certificate give proof graphs. An instance's tree has the value by the kept edges through its
-- brackets; around a cycle the loser's counts would fall if the greatest priority were the loser's.
use Rattle.std.proofs.Common.{◌≡◌, ◌≢◌, ℕ, suc, ◌+◌, ◌%◌, ◌<◌, ◌≤◌, Bool, not, List, [], ◌∷◌, ◌++◌, Some, inl, inr, refl, sym, ap, ◌∙◌, subst, arith}
use Rattle.std.specs.Prelude.{Contains, slice_get, ◌==◌}
use Rattle.std.proofs.lemmas.Bool.{cases_Bool, cases_lt, eqb-true, eqb-false, cond-true}
use Rattle.std.proofs.Math.Bool.{Bool-set}
use Rattle.std.proofs.Math.Nat.{ℕ_set}
use Rattle.std.proofs.Math.Logic.{∥∥₁_elim}
use Rattle.std.proofs.lemmas.Option.{slice_get_within}
use Rattle.pb_fixpoint_trees.proofs.Players.{parity_exact}
use Rattle.pb_fixpoint_trees.specs.Players.{parity_of}
use Rattle.pb_game.specs.declared.Game.{Game}
use Rattle.pb_game.specs.Adjacency.{is_among}
use Rattle.pb_game.specs.Games.{vertex_count, priority_of, priority_count}
use Rattle.pb_game.proofs.Laws.{successors_closed}
use Rattle.pb_game.specs.declared.certificate.Solution.{Solution}
use Rattle.pb_game.specs.Solutions.{winner_of, choice_of, count_of}
use Rattle.pb_game.specs.Certificates.{IsCertificate, IsKept, IsProgress}
use Rattle.pb_fixpoint_trees.specs.Tree.{Tree, Single, Root, tree_truth}
use Rattle.pb_fixpoint_trees.specs.Equations.{Signature, total}
use Rattle.pb_fixpoint_trees.specs.Game.{Vertex, inner, vertex_of, priority_from, tree_vertices, game_vertices}
use Rattle.pb_fixpoint_trees.specs.Rows.{Row, IsReached}
use Rattle.pb_fixpoint_trees.proofs.Members.{among_of_contains, contains_of_among}
use Rattle.pb_strategy.specs.Meaning.{IsGameOfRows}
use Rattle.pb_strategy.proofs.Players.{player}
use Rattle.pb_strategy.proofs.Lexicographic.{IsLess, IsAtMost, less_of_at_most, less-trans}
use Rattle.pb_strategy.proofs.Counts.{losing_counts, progress-at_most, progress-less}
use Rattle.pb_strategy.proofs.Standing.{StandAt}
use Rattle.pb_strategy.proofs.CertifiedVertices.{IsCertified, row_at, priority_is, local_over}
use Rattle.pb_strategy.proofs.Winners.{certified, kept_there}
use Rattle.pb_evidence.specs.ProofGraphs.{Graph, RestsOn, RestsThrough, exactly, IsProofGraph}
use Rattle.pb_evidence.specs.Priorities.{dominating_priority}
use Rattle.pb_evidence.proofs.Signs.{sign_of_priority, in_graph, player_is}
use Rattle.pb_evidence.specs.Strategies.{player_for, IsInner, IsKeptPath, IsStrategyGraph, StrategiesProve}
use Rattle.pb_evidence.proofs.Proving.{test_of}
use Rattle.pb_evidence.proofs.Places.{HasRow, has_row, apart}

-- ---- lists of counts

at_most_trans : (xs ys zs : List ℕ) → IsAtMost xs ys → IsAtMost ys zs → IsAtMost xs zs
at_most_trans xs ys zs h (inl k) = inl (less_of_at_most xs ys zs h k)
at_most_trans xs ys zs h (inr e) = subst (λ (us : List ℕ). IsAtMost xs us) e h

less_then_at_most : (xs ys zs : List ℕ) → IsLess xs ys → IsAtMost ys zs → IsLess xs zs
less_then_at_most xs ys zs h (inl k) = less-trans xs ys zs h k
less_then_at_most xs ys zs h (inr e) = subst (λ (us : List ℕ). IsLess xs us) e h

not_less : (xs : List ℕ) → IsLess xs xs → ⊥
not_less [] h = h
not_less (x ∷ xs) (inl h) = absurd (omega arith)
not_less (x ∷ xs) (inr h) = not_less xs h.1

-- ---- paths

pub path_then : (g : Game) (s : Solution) (Inner : ℕ → Type 0) (v : ℕ) (xs : List ℕ) (u w : ℕ) →
    IsKeptPath g s Inner v xs u → Inner u → IsKept g s u w → IsKeptPath g s Inner v (xs ++ u ∷ []) w
path_then g s Inner v [] u w h i k = (h, i, k)
path_then g s Inner v (x ∷ xs) u w h i k = (h.0, h.1, path_then g s Inner x xs u w h.2 i k)

module _ (g : Game) (s : Solution) (Inner : ℕ → Type 0) where
  module _ (is : IsCertificate g s) where
    path_winner : (v : ℕ) (xs : List ℕ) (u : ℕ) → v < vertex_count g → IsKeptPath g s Inner v xs u → winner_of s u ≡ winner_of s v
    path_winner v [] u below h = (is.vertices v below).region u h
    path_winner v (x ∷ xs) u below h =
        path_winner x xs u (successors_closed g v x below h.0.edge) h.2 ∙ (is.vertices v below).region x h.0

  -- the winner stays the same along a path
  pub merely_winner : ∥ IsCertificate g s ∥₁ → (v : ℕ) (xs : List ℕ) (u : ℕ) → v < vertex_count g → IsKeptPath g s Inner v xs u → winner_of s u ≡ winner_of s v
  merely_winner is v xs u below h = parity_exact _ _ (∥∥₁_elim is (ℕ_set (parity_of (winner_of s u)) (parity_of (winner_of s v)))
      (λ certificate. ap parity_of (path_winner certificate v xs u below h)))

-- ---- counts along paths

module _ (g : Game) (s : Solution) (is : IsCertificate g s) (rows : List Row) (b : Bool) where
  abbrev rank : ℕ → ℕ → List ℕ
  rank v q = losing_counts (count_of g s v) (player b) q (priority_count g)

  progress : (v u : ℕ) → v < vertex_count g → winner_of s v ≡ player b → IsKept g s v u →
      IsProgress (count_of g s v) (count_of g s u) (player b) (priority_of g v) (priority_count g)
  progress v u below wins kept =
      subst (λ p. IsProgress (count_of g s v) (count_of g s u) p (priority_of g v) (priority_count g)) wins ((is.vertices v below).progress u kept)

  edge_at_most : (v u q : ℕ) → v < vertex_count g → winner_of s v ≡ player b → priority_of g v ≤ q → IsKept g s v u → IsAtMost (rank u q) (rank v q)
  edge_at_most v u q below wins low kept =
      progress-at_most (count_of g s v) (count_of g s u) (player b) (priority_of g v) q (priority_count g) low (progress v u below wins kept)

  edge_less : (v u : ℕ) → v < vertex_count g → winner_of s v ≡ player b → priority_of g v % 2 ≢ parity_of (player b) → IsKept g s v u →
      IsLess (rank u (priority_of g v)) (rank v (priority_of g v))
  edge_less v u below wins odd kept =
      progress-less (count_of g s v) (count_of g s u) (player b) (priority_of g v) (priority_count g) odd (progress v u below wins kept)

  path_at_most : (v : ℕ) (xs : List ℕ) (u q : ℕ) → v < vertex_count g → winner_of s v ≡ player b → priority_of g v ≤ q →
      IsKeptPath g s (IsInner g rows) v xs u → IsAtMost (rank u q) (rank v q)
  path_at_most v [] u q below wins low h = edge_at_most v u q below wins low h
  path_at_most v (x ∷ xs) u q below wins low h =
      let zero_there = h.1.priority in
      at_most_trans (rank u q) (rank x q) (rank v q)
      (path_at_most x xs u q (successors_closed g v x below h.0.edge) ((is.vertices v below).region x h.0 ∙ wins) (omega arith) h.2)
      (edge_at_most v x q below wins low h.0)

  path_less : (v : ℕ) (xs : List ℕ) (u : ℕ) → v < vertex_count g → winner_of s v ≡ player b → priority_of g v % 2 ≢ parity_of (player b) →
      IsKeptPath g s (IsInner g rows) v xs u → IsLess (rank u (priority_of g v)) (rank v (priority_of g v))
  path_less v [] u below wins odd h = edge_less v u below wins odd h
  path_less v (x ∷ xs) u below wins odd h =
      let q = priority_of g v in
      let zero_there = h.1.priority in
      less_of_at_most (rank u q) (rank x q) (rank v q)
      (path_at_most x xs u q (successors_closed g v x below h.0.edge) ((is.vertices v below).region x h.0 ∙ wins) (omega arith) h.2)
      (edge_less v x below wins odd h.0)

-- ---- the graph

-- the vertex that stands for a tree
pub record Stood (vertices : List Vertex) (v p : ℕ) : Type 0 where
  pub vertex : Vertex
  pub stands : slice_get vertices v ≡ Some vertex
  pub priority : vertex.priority ≡ p

tree_stood : (vertices : List Vertex) (at : ℕ → ℕ) (tree : Tree) (v p : ℕ) → StandAt vertices v (tree_vertices at p tree v) → Stood vertices v p
tree_stood vertices at (Single l) v p h = record { vertex = _; stands = h.0; priority = refl }
tree_stood vertices at (Root c f) v p h = record { vertex = _; stands = h.0; priority = refl }

module _ (g : Game) (s : Solution) (signatures : List Signature) (trees : ℕ → Tree) (rows : List Row) (game : IsGameOfRows signatures trees rows g)
    (is : IsCertificate g s) where
  abbrev vertices : List Vertex
  vertices = game_vertices signatures rows

  abbrev at : ℕ → ℕ
  at = vertex_of rows

  abbrev level : ℕ → ℕ
  level = priority_from 0 signatures

  cert : IsCertified vertices (winner_of s) (choice_of s) (count_of g s) (priority_count g)
  cert = certified g s vertices game.vertices is

  stood : (n : ℕ) → IsReached rows n → Stood vertices (at n) (level n)
  stood n reached =
      let found = row_at signatures trees rows game.reached (winner_of s) (choice_of s) (count_of g s) (priority_count g) cert n reached in
      tree_stood vertices at found.row.tree (at n) (level n) found.stands

  pub at_within : (n : ℕ) → IsReached rows n → at n < vertex_count g
  at_within n reached =
      let x = stood n reached in
      let below = slice_get_within vertices (at n) x.vertex x.stands in
      let count = game.vertices.count in
      omega arith

  at_priority : (n : ℕ) → IsReached rows n → priority_of g (at n) ≡ level n
  at_priority n reached = let x = stood n reached in (game.vertices.each (at n) x.vertex x.stands).priority ∙ x.priority

  row_of : (n : ℕ) → IsReached rows n → HasRow rows n
  row_of n h = has_row rows h.0 n (among_of_contains rows h.0 h.1) h.2

  brackets_inside : (n : ℕ) → IsReached rows n → (k : ℕ) → at n < k → k < suc (at n + inner (trees n)) → (m : ℕ) → IsReached rows m → at m ≢ k
  brackets_inside n reached k low high m reached' e =
      elim (apart trees rows 2 n m (λ r among. game.reached.of_trees r (contains_of_among rows r among)) (row_of n reached) (row_of m reached')) [
        | inl before ↦ omega arith
        | inr behind ↦ omega arith
      ]

  module _ (b : Bool) (graph : Graph) (of : IsStrategyGraph g s rows (player_for b) graph) where
    won : (n : ℕ) → Contains graph.instances n → winner_of s (at n) ≡ player b
    won n h = of.won n h ∙ player_is b

    -- what a play from n's vertex comes to over brackets
    abbrev Visited : ℕ → ℕ → Type 0
    Visited n u = (over : List ℕ) × IsKeptPath g s (IsInner g rows) (at n) over u

    pub sufficient : (n : ℕ) → Contains graph.instances n → tree_truth (exactly b (graph.dependencies n)) (trees n) ≡ b
    sufficient n contained =
        let reached = of.reached n contained in
        local_over signatures trees rows game.reached (winner_of s) (choice_of s) (count_of g s) (priority_count g) cert b
        (λ k. (m : ℕ) → IsReached rows m → at m ≢ k) (Visited n) (exactly b (graph.dependencies n))
        (λ v path. path_winner g s (IsInner g rows) is (at n) path.0 v (at_within n reached) path.1 ∙ won n contained)
        (λ v w path bracket zero_there kept. (
          path.0 ++ v ∷ [],
          path_then g s (IsInner g rows) (at n) path.0 v w path.1
              (record {
                priority = (game.vertices.each v kept.vertex kept.stands).priority
                    ∙ (sym (priority_is signatures trees rows game.reached (winner_of s) (choice_of s) (count_of g s) (priority_count g) cert v kept.vertex kept.stands) ∙ zero_there);
                bracket = bracket;
              })
              (kept_there g s vertices game.vertices is v w kept),
        ))
        (λ v m path stands.
        let there : Contains (graph.dependencies n) m = of.all n m contained stands.reached (subst (Visited n) stands.place path) in
        cond-true (is_among (graph.dependencies n) m) b (not b) (test_of (graph.dependencies n) m there))
        (at n) n (won n contained) (record { reached = reached; place = refl })
        (brackets_inside n reached)
        (λ w kept. ([], kept_there g s vertices game.vertices is (at n) w kept))

    -- along dependencies the counts don't increase, and fall at the greatest priority where that is the loser's
    step_at_most : (n m q : ℕ) → RestsOn graph n m → level n ≤ q → IsAtMost (rank g s is rows b (at m) q) (rank g s is rows b (at n) q)
    step_at_most n m q h low =
        let reached = of.reached n h.0 in
        let path = of.some n m h in
        let same = at_priority n reached in
        path_at_most g s is rows b (at n) path.0 (at m) q (at_within n reached) (won n h.0) (omega arith) path.1

    step_less : (n m : ℕ) → RestsOn graph n m → level n % 2 ≢ parity_of (player b) → IsLess (rank g s is rows b (at m) (level n)) (rank g s is rows b (at n) (level n))
    step_less n m h odd =
        let reached = of.reached n h.0 in
        let path = of.some n m h in
        let same = at_priority n reached in
        subst (λ q. IsLess (rank g s is rows b (at m) q) (rank g s is rows b (at n) q)) same
        (path_less g s is rows b (at n) path.0 (at m) (at_within n reached) (won n h.0) (λ even. odd (ap (λ q. q % 2) (sym same) ∙ even)) path.1)

    leads_at_most : (n : ℕ) (over : List ℕ) (m q : ℕ) → RestsThrough graph n over m → dominating_priority signatures (n ∷ over) ≤ q →
        IsAtMost (rank g s is rows b (at m) q) (rank g s is rows b (at n) q)
    leads_at_most n [] m q h low = step_at_most n m q h (omega arith)
    leads_at_most n (x ∷ xs) m q h low =
        at_most_trans (rank g s is rows b (at m) q) (rank g s is rows b (at x) q) (rank g s is rows b (at n) q)
        (leads_at_most x xs m q h.1 (omega arith)) (step_at_most n x q h.0 (omega arith))

    leads_less : (n : ℕ) (over : List ℕ) (m q : ℕ) → RestsThrough graph n over m → dominating_priority signatures (n ∷ over) ≡ q → q % 2 ≢ parity_of (player b) →
        IsLess (rank g s is rows b (at m) q) (rank g s is rows b (at n) q)
    leads_less n [] m q h top odd =
        let same : level n ≡ q = omega arith in
        subst (λ p. IsLess (rank g s is rows b (at m) p) (rank g s is rows b (at n) p)) same
        (step_less n m h (λ even. odd (ap (λ p. p % 2) (sym same) ∙ even)))
    leads_less n (x ∷ xs) m q h top odd = elim (cases_lt (level n) q) [
      | inl less ↦
          less_then_at_most (rank g s is rows b (at m) q) (rank g s is rows b (at x) q) (rank g s is rows b (at n) q)
          (leads_less x xs m q h.1 (omega arith) odd) (step_at_most n x q h.0 (omega arith))
      | inr ge ↦
          let same : level n ≡ q = omega arith in
          less_of_at_most (rank g s is rows b (at m) q) (rank g s is rows b (at x) q) (rank g s is rows b (at n) q)
          (leads_at_most x xs m q h.1 (omega arith))
          (subst (λ p. IsLess (rank g s is rows b (at x) p) (rank g s is rows b (at n) p)) same
          (step_less n x h.0 (λ even. odd (ap (λ p. p % 2) (sym same) ∙ even))))
    ]

    pub cycles : (n : ℕ) (over : List ℕ) → RestsThrough graph n over n → dominating_priority signatures (n ∷ over) % 2 ≡ parity_of (player b)
    cycles n over h =
        let q = dominating_priority signatures (n ∷ over) in
        elim (cases_Bool (q % 2 == parity_of (player b))) [
          | inl even ↦ eqb-true (q % 2) (parity_of (player b)) even
          | inr odd ↦ absurd (not_less (rank g s is rows b (at n) q) (leads_less n over n q h refl (eqb-false (q % 2) (parity_of (player b)) odd)))
        ]

-- the same of a certificate of which a struct's ghost field says no more than that there is one
pub merely_prove : (g : Game) (s : Solution) → ∥ IsCertificate g s ∥₁ →
    (signatures : List Signature) (trees : ℕ → Tree) (rows : List Row) → IsGameOfRows signatures trees rows g →
    (b : Bool) (graph : Graph) → IsStrategyGraph g s rows (player_for b) graph → IsProofGraph signatures trees b graph
merely_prove g s is signatures trees rows game b graph of =
    let below : (n : ℕ) → Contains graph.instances n → n < total signatures = λ n contained.
    (let reached = of.reached n contained in let below = game.reached.below reached.0 reached.1 in let numbered = reached.2 in omega arith) in
    record {
      below = below;
      closed = of.closed;
      sufficient = λ n contained. ∥∥₁_elim is (Bool-set (tree_truth (exactly b (graph.dependencies n)) (trees n)) b)
          (λ certificate. sufficient g s signatures trees rows game certificate b graph of n contained);
      cycles = λ n over h. sign_of_priority signatures b n (below n (in_graph graph n over n h)) over
          (∥∥₁_elim is (ℕ_set (dominating_priority signatures (n ∷ over) % 2) (parity_of (player b)))
          (λ certificate. cycles g s signatures trees rows game certificate b graph of n over h));
    }

pub strategies_prove : StrategiesProve
strategies_prove g s is signatures trees rows game b graph of = merely_prove g s ∣ is ∣₁ signatures trees rows game b graph of
