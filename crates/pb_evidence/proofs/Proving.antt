-- A proof graph is an arena: the rank of an instance at a priority of the wrong parity is the number of instances of that
-- priority that it leads to over no greater one. No such instance leads back to itself, so that the rank falls there.
use Rattle.std.proofs.Common.{◌≡◌, ◌≢◌, ℕ, ◌%◌, ◌≤◌, Bool, true, not, ◌&&◌, ◌||◌, List, [], ◌∷◌, inl, inr, refl, sym, ap, ◌∙◌, subst, arith}
use Rattle.std.specs.Prelude.{Contains, nat_le, ◌==◌}
use Rattle.std.proofs.lemmas.Bool.{cases_Bool, cases_lt, and_parts, and_from, or_cases, or_right, leb-true, le-leb, eqb-true, eq-eqb, cond-false}
use Rattle.pb_fixpoint.specs.Solution.{empty}
use Rattle.pb_fixpoint_trees.specs.Players.{parity_of}
use Rattle.pb_game.specs.Adjacency.{is_among}
use Rattle.pb_game.proofs.Membership.{among_at, among_place, contains_at, contains_place}
use Rattle.pb_fixpoint_trees.specs.Tree.{Tree}
use Rattle.pb_fixpoint_trees.specs.Equations.{Signature, solved}
use Rattle.pb_fixpoint_trees.specs.Game.{priority_from}
use Rattle.pb_fixpoint_trees.proofs.Members.{among_of_contains}
use Rattle.pb_fixpoint_trees.proofs.Monotone.{tree_truth-keeps}
use Rattle.pb_strategy.proofs.Players.{player, not_other}
use Rattle.pb_strategy.proofs.Lexicographic.{IsLess, IsAtMost}
use Rattle.pb_strategy.proofs.Arena.{Arena, claim}
use Rattle.pb_evidence.specs.ProofGraphs.{Graph, RestsOn, RestsThrough, exactly, IsProofGraph, ProofGraphsProve}
use Rattle.pb_evidence.specs.Priorities.{dominating_priority}
use Rattle.pb_evidence.proofs.Signs.{priority_of_sign, in_graph}
use Rattle.pb_evidence.proofs.Reaching.{Path, path_of, reaches, reaches_edge, reaches_over}
use Rattle.pb_evidence.proofs.Counting.{count, count_at_most, count_less}

pub test_of : (xs : List ℕ) (x : ℕ) → Contains xs x → is_among xs x ≡ true
test_of xs x h = let place = contains_place xs x h in among_at xs x place.0 place.1

pub contained_of : (xs : List ℕ) (x : ℕ) → is_among xs x ≡ true → Contains xs x
contained_of xs x h = let place = among_place xs x h in contains_at xs x place.0 place.1

-- what has the value among exactly these is one of these
pub exactly_these : (b : Bool) (xs : List ℕ) (n : ℕ) → exactly b xs n ≡ b → Contains xs n
exactly_these b xs n h = elim (cases_Bool (is_among xs n)) [
  | inl yes' ↦ contained_of xs n yes'
  | inr no' ↦ absurd (not_other b (sym (cond-false (is_among xs n) b (not b) no') ∙ h))
]

at_most_one : (m n : ℕ) → m ≤ n → IsAtMost (m ∷ []) (n ∷ [])
at_most_one m n h = elim (cases_lt m n) [
  | inl less ↦ inl (inl less)
  | inr ge ↦ let e : m ≡ n = omega arith in inr (ap (λ (k : ℕ). k ∷ []) e)
]

module _ (signatures : List Signature) (trees : ℕ → Tree) (b : Bool) (graph : Graph) (is : IsProofGraph signatures trees b graph) where
  abbrev level : ℕ → ℕ
  level = priority_from 0 signatures

  -- an edge from an instance of no greater priority
  abbrev edge : ℕ → ℕ → ℕ → Bool
  edge p v m = (is_among graph.instances v && is_among (graph.dependencies v) m) && nat_le (level v) p

  -- v is an instance of this priority to which w leads
  abbrev counts : ℕ → ℕ → ℕ → Bool
  counts p w v = (w == v || reaches (edge p) graph.instances w v) && level v == p

  abbrev rank : ℕ → ℕ → List ℕ
  rank v p = count (counts p v) graph.instances ∷ []

  edge_of : (p v w : ℕ) → RestsOn graph v w → level v ≤ p → edge p v w ≡ true
  edge_of p v w h low =
      and_from (is_among graph.instances v && is_among (graph.dependencies v) w) (nat_le (level v) p)
      (and_from (is_among graph.instances v) (is_among (graph.dependencies v) w) (test_of graph.instances v h.0) (test_of (graph.dependencies v) w h.1))
      (le-leb (level v) p low)

  -- an edge before a path
  before : (p v w m : ℕ) → RestsOn graph v w → level v ≤ p → counts p w m ≡ true → reaches (edge p) graph.instances v m ≡ true
  before p v w m h low c =
      let first : reaches (edge p) graph.instances v w ≡ true = reaches_edge (edge p) graph.instances v w (edge_of p v w h low) in
      let w_in = among_of_contains graph.instances w (is.closed v w h) in
      elim (or_cases (w == m) (reaches (edge p) graph.instances w m) (and_parts (w == m || reaches (edge p) graph.instances w m) (level m == p) c).0) [
        | inl e ↦ subst (λ k. reaches (edge p) graph.instances v k ≡ true) (eqb-true w m e) first
        | inr there ↦ reaches_over (edge p) graph.instances v w m w_in first there
      ]

  counts_before : (p v w m : ℕ) → RestsOn graph v w → level v ≤ p → counts p w m ≡ true → counts p v m ≡ true
  counts_before p v w m h low c =
      and_from (v == m || reaches (edge p) graph.instances v m) (level m == p)
      (or_right (v == m) (reaches (edge p) graph.instances v m) (before p v w m h low c))
      (and_parts (w == m || reaches (edge p) graph.instances w m) (level m == p) c).1

  -- an edge is the graph's, from an instance of no greater priority
  rests_of : (p v m : ℕ) → edge p v m ≡ true → RestsOn graph v m
  rests_of p v m h =
      let both = and_parts (is_among graph.instances v && is_among (graph.dependencies v) m) (nat_le (level v) p) h in
      let tests = and_parts (is_among graph.instances v) (is_among (graph.dependencies v) m) both.0 in
      (contained_of graph.instances v tests.0, contained_of (graph.dependencies v) m tests.1)

  low_of : (p v m : ℕ) → edge p v m ≡ true → level v ≤ p
  low_of p v m h = leb-true (level v) p (and_parts (is_among graph.instances v && is_among (graph.dependencies v) m) (nat_le (level v) p) h).1

  leads_of : (p v : ℕ) (over : List ℕ) (m : ℕ) → Path (edge p) v over m → RestsThrough graph v over m
  leads_of p v [] m h = rests_of p v m h
  leads_of p v (x ∷ xs) m h = (rests_of p v x h.0, leads_of p x xs m h.1)

  levels_of : (p v : ℕ) (over : List ℕ) (m : ℕ) → Path (edge p) v over m → dominating_priority signatures (v ∷ over) ≤ p
  levels_of p v [] m h = let low = low_of p v m h in omega arith
  levels_of p v (x ∷ xs) m h =
      let low = low_of p v x h.0 in
      let rest = levels_of p x xs m h.1 in
      omega arith

  -- an instance of the wrong parity doesn't lead back to itself over no greater priorities
  no_return : (v w : ℕ) → RestsOn graph v w → level v % 2 ≢ parity_of (player b) → counts (level v) w v ≡ true → ⊥
  no_return v w h odd c =
      let p = level v in
      let path = path_of (edge p) graph.instances v v (before p v w v h (omega arith) c) in
      let low : dominating_priority signatures (v ∷ path.0) ≤ level v = levels_of p v path.0 v path.1 in
      let top : dominating_priority signatures (v ∷ path.0) ≡ level v = omega arith in
      let leads = leads_of p v path.0 v path.1 in
      let even = priority_of_sign signatures b v (is.below v (in_graph graph v path.0 v leads)) path.0 (is.cycles v path.0 leads) in
      odd (ap (λ k. k % 2) (sym top) ∙ even)

  counts_itself : (v : ℕ) → counts (level v) v v ≡ true
  counts_itself v =
      and_from (v == v || reaches (edge (level v)) graph.instances v v) (level v == level v)
      (ap (λ x. x || reaches (edge (level v)) graph.instances v v) (eq-eqb v v refl)) (eq-eqb (level v) (level v) refl)

  along : (v w p : ℕ) → Contains graph.instances v → Contains (graph.dependencies v) w → level v ≤ p → IsAtMost (rank w p) (rank v p)
  along v w p won kept low =
      at_most_one (count (counts p w) graph.instances) (count (counts p v) graph.instances)
      (count_at_most (counts p w) (counts p v) (λ m. counts_before p v w m (won, kept) low) graph.instances)

  down : (v w : ℕ) → Contains graph.instances v → Contains (graph.dependencies v) w → level v % 2 ≢ parity_of (player b) → IsLess (rank w (level v)) (rank v (level v))
  down v w won kept odd =
      inl (count_less (counts (level v) w) (counts (level v) v) (λ m. counts_before (level v) v w m (won, kept) (omega arith)) graph.instances v
      (among_of_contains graph.instances v won)
      (elim (cases_Bool (counts (level v) w v)) [
        | inl yes' ↦ absurd (no_return v w (won, kept) odd yes')
        | inr no' ↦ no'
      ])
      (counts_itself v))

  arena : Arena b trees level
  arena = record {
    IsAt = λ v n. v ≡ n;
    priority = level;
    IsWon = λ v. Contains graph.instances v;
    Kept = λ v w. Contains (graph.dependencies v) w;
    rank = rank;
    width = λ p. 1;
    lengths = λ v p. refl;
    at_level = λ v n e. ap level e;
    along = along;
    down = down;
    local = λ S t won closed has v n in_it at kept.
        tree_truth-keeps b (exactly b (graph.dependencies n)) t
        (λ m h. has m m (kept m (subst (λ k. Contains (graph.dependencies k) m) (sym at) (exactly_these b (graph.dependencies n) m h))) refl)
        (trees n) (is.sufficient n (subst (λ k. Contains graph.instances k) at in_it));
  }

  pub solved_at : (n : ℕ) → Contains graph.instances n → solved signatures trees n ≡ b
  unfolding arena
  solved_at n contained =
      claim b trees level arena signatures 0 (λ k _. refl)
      (λ v. Contains graph.instances v)
      (record {
        won = λ v s. s;
        closed = λ v w s _ kept. is.closed v w (s, kept);
        bounded = λ v k s at. let below = is.below v s in omega arith;
      })
      empty (λ v k s at _ none. absurd (omega arith))
      n n contained refl

pub proof_graphs_prove : ProofGraphsProve
proof_graphs_prove signatures trees b graph is n contained = solved_at signatures trees b graph is n contained
