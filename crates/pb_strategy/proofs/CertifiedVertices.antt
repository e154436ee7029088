-- A certificate of the game of trees is one of the abstract graph, so that its winners are the solution's values.
use Rattle.std.proofs.Common.{◌≡◌, ◌≢◌, ℕ, suc, ◌+◌, ◌%◌, ◌<◌, ◌≤◌, Bool, true, false, List, [], ◌∷◌, length, get_or, Some, refl, sym, ap, ◌∙◌, subst, inl, inr, arith}
use Rattle.std.specs.Prelude.{Contains, slice_get}
use Rattle.std.proofs.lemmas.Option.{get_or_from_slice_get}
use Rattle.pb_fixpoint.specs.Solution.{Environment, empty}
use Rattle.pb_fixpoint_trees.specs.Tree.{Tree, Single, Root, TreeCalls, tree_truth}
use Rattle.pb_fixpoint_trees.specs.Equations.{Signature, solved}
use Rattle.pb_fixpoint_trees.specs.Game.{Vertex, inner, target, vertex_of, priority_from, tree_vertices, row_vertices, game_vertices, false_sink, true_sink}
use Rattle.pb_fixpoint_trees.specs.Rows.{Row, IsReached, AreRows}
use Rattle.pb_fixpoint_trees.specs.declared.player.Player.TheVariants.{Even, Odd}
use Rattle.pb_fixpoint_trees.specs.Players.{parity_of}
use Rattle.pb_fixpoint_trees.proofs.Players.{even_not_odd}
use Rattle.pb_fixpoint_trees.specs.declared.player.Player.{Player}
use Rattle.pb_game.specs.Certificates.{IsProgress}
use Rattle.pb_strategy.proofs.Players.{player}
use Rattle.pb_fixpoint_trees.proofs.Members.{among_of_contains, contains_of_among}
use Rattle.pb_strategy.proofs.Lexicographic.{IsLess, IsAtMost}
use Rattle.pb_strategy.proofs.Counts.{losing_counts, length-losing_counts, progress-at_most, progress-less, no_loop}
use Rattle.pb_strategy.proofs.Standing.{StandAt, stand_all, RowStands, row_stands}
use Rattle.pb_strategy.proofs.Local.{KeptEdge, values, leaf-value, bracket-value}
use Rattle.pb_strategy.proofs.Arena.{Arena, claim}

-- What the proof reads of a certificate: a winner, a choice and counts for each vertex, and what holds along kept edges.
pub record IsCertified (vertices : List Vertex) (winner : ℕ → Player) (choice : ℕ → ℕ) (count : ℕ → ℕ → ℕ) (limit : ℕ) : Type 0 where
  pub chosen : (v : ℕ) (x : Vertex) → slice_get vertices v ≡ Some x → x.owner ≡ winner v → Contains x.successors (choice v)
  pub region : (v w : ℕ) → KeptEdge vertices winner choice v w → winner w ≡ winner v
  pub progress : (v w : ℕ) (k : KeptEdge vertices winner choice v w) → IsProgress (count v) (count w) (winner v) k.vertex.priority limit

module _ (signatures : List Signature) (trees : ℕ → Tree) (rows : List Row) (are : AreRows signatures trees rows)
    (winner : ℕ → Player) (choice : ℕ → ℕ) (count : ℕ → ℕ → ℕ) (limit : ℕ) (is : IsCertified (game_vertices signatures rows) winner choice count limit) where
  abbrev g : List Vertex
  g = game_vertices signatures rows

  abbrev at : ℕ → ℕ
  at = vertex_of rows

  abbrev level : ℕ → ℕ
  level = priority_from 0 signatures

  abbrev Kept : ℕ → ℕ → Type 0
  Kept = KeptEdge g winner choice

  -- Odd wins the false sink: its loop is kept, and would have to decrease Odd's counts
  false_sink-lost : winner 0 ≡ Even → ⊥
  false_sink-lost wins =
      let edge : Contains false_sink.successors (choice 0) = is.chosen 0 false_sink refl (sym wins) in
      let stays : choice 0 ≡ 0 = elim (among_of_contains false_sink.successors (choice 0) edge) [ inl e ↦ sym e | inr no' ↦ absurd no' ] in
      let kept : Kept 0 0 = record { vertex = false_sink; stands = refl; edge = contains_of_among false_sink.successors 0 (inl refl); chosen = λ _. stays } in
      no_loop (count 0) (winner 0) 1 limit (λ e. let one : 1 ≡ 0 = e ∙ ap parity_of wins in omega arith) (is.progress 0 0 kept)

  true_sink-won : winner 1 ≡ Odd → ⊥
  true_sink-won wins =
      let kept : Kept 1 1 = record {
        vertex = true_sink;
        stands = refl;
        edge = contains_of_among true_sink.successors 1 (inl refl);
        chosen = λ owned. absurd (even_not_odd (owned ∙ wins));
      } in
      no_loop (count 1) (winner 1) 0 limit (λ e. let one : 0 ≡ 1 = e ∙ ap parity_of wins in omega arith) (is.progress 1 1 kept)

  pub false_sink-value : (b : Bool) → winner 0 ≡ player b → b ≡ false
  false_sink-value true h = absurd (false_sink-lost h)
  false_sink-value false h = refl

  pub true_sink-value : (b : Bool) → winner 1 ≡ player b → b ≡ true
  true_sink-value true h = refl
  true_sink-value false h = absurd (true_sink-won h)

  abbrev priority_at : ℕ → ℕ
  priority_at v = (get_or g v false_sink).priority

  pub priority_is : (v : ℕ) (x : Vertex) → slice_get g v ≡ Some x → priority_at v ≡ x.priority
  priority_is v x h = ap (λ (y : Vertex). y.priority) (get_or_from_slice_get g v x false_sink h)

  progress_at : (b : Bool) (v w : ℕ) → winner v ≡ player b → Kept v w → IsProgress (count v) (count w) (player b) (priority_at v) limit
  progress_at b v w wins k =
      subst (λ p. IsProgress (count v) (count w) (player b) p limit) (sym (priority_is v k.vertex k.stands))
      (subst (λ p. IsProgress (count v) (count w) p k.vertex.priority limit) wins (is.progress v w k))

  abbrev rank : Bool → ℕ → ℕ → List ℕ
  rank b v p = losing_counts (count v) (player b) p limit

  -- the vertex is that of a reached instance
  pub record IsVertexOf (v n : ℕ) : Type 0 where
    pub reached : IsReached rows n
    pub place : v ≡ at n

  pub row_at : (n : ℕ) → IsReached rows n → RowStands g at level rows 2 n
  row_at n h = row_stands g at level rows 2 n (stand_all (row_vertices at level rows 2) (false_sink ∷ (true_sink ∷ []))) h.0 (among_of_contains rows h.0 h.1) h.2

  pub tree_priority : (tree : Tree) (v p : ℕ) → StandAt g v (tree_vertices at p tree v) → priority_at v ≡ p
  tree_priority (Single l) v p h = priority_is v _ h.0
  tree_priority (Root c f) v p h = priority_is v _ h.0

  pub at_level : (v n : ℕ) → IsVertexOf v n → priority_at v ≡ level n
  at_level v n h =
      let found = row_at n h.reached in
      subst (λ w. priority_at w ≡ level n) (sym h.place) (tree_priority found.row.tree (at n) (level n) found.stands)

  along : (b : Bool) (v w p : ℕ) → winner v ≡ player b → Kept v w → priority_at v ≤ p → IsAtMost (rank b w p) (rank b v p)
  along b v w p wins kept low = progress-at_most (count v) (count w) (player b) (priority_at v) p limit low (progress_at b v w wins kept)

  down : (b : Bool) (v w : ℕ) → winner v ≡ player b → Kept v w → priority_at v % 2 ≢ parity_of (player b) → IsLess (rank b w (priority_at v)) (rank b v (priority_at v))
  down b v w wins kept odd = progress-less (count v) (count w) (player b) (priority_at v) limit odd (progress_at b v w wins kept)

  -- S need only be closed under kept edges from inner vertices, among which those of the brackets inside the tree are
  pub local_over : (b : Bool) (IsInner : ℕ → Type 0) (S : ℕ → Type 0) (t : Environment ℕ) → ((v : ℕ) → S v → winner v ≡ player b) →
      ((v w : ℕ) → S v → IsInner v → priority_at v ≡ 0 → Kept v w → S w) → ((v n : ℕ) → S v → IsVertexOf v n → t n ≡ b) →
      (v n : ℕ) → winner v ≡ player b → IsVertexOf v n → ((k : ℕ) → v < k → k < suc (v + inner (trees n)) → IsInner k) →
      ((w : ℕ) → Kept v w → S w) → tree_truth t (trees n) ≡ b
  local_over b IsInner S t won closed has v n wins h inners kept =
      let found = row_at n h.reached in
      let contained = contains_of_among rows found.row found.among in
      let of_tree : found.row.tree ≡ trees n = are.of_trees found.row contained ∙ ap trees found.numbered in
      subst (λ tree. tree_truth t tree ≡ b) of_tree
      (go found.row.tree (are.closed found.row contained) (subst (λ w. StandAt g w (tree_vertices at (level n) found.row.tree w)) (sym h.place) found.stands)
      (subst (λ tree. (k : ℕ) → v < k → k < suc (v + inner tree) → IsInner k) (sym of_tree) inners))
    where
      closed' : (v w : ℕ) (x : Vertex) → S v → IsInner v → slice_get g v ≡ Some x → x.priority ≡ 0 → Kept v w → S w
      closed' v w x s inner_v stands is_zero kept = closed v w s inner_v (priority_is v x stands ∙ is_zero) kept

      calls : (n : ℕ) → IsReached rows n → S (at n) → t n ≡ b
      calls n reached s = has (at n) n s (record { reached = reached; place = refl })

      to_false : S 0 → b ≡ false
      to_false s = false_sink-value b (won 0 s)

      to_true : S 1 → b ≡ true
      to_true s = true_sink-value b (won 1 s)

      go : (tree : Tree) → TreeCalls (IsReached rows) tree → StandAt g v (tree_vertices at (level n) tree v) →
          ((k : ℕ) → v < k → k < suc (v + inner tree) → IsInner k) → tree_truth t tree ≡ b
      go (Single l) reached stands inners' =
          let x : Vertex = record { owner = Even; priority = level n; successors = target at l ∷ [] } in
          let chosen : Even ≡ winner v → choice v ≡ target at l = λ owned.
          elim (among_of_contains x.successors (choice v) (is.chosen v x stands.0 owned)) [ inl e ↦ sym e | inr no' ↦ absurd no' ] in
          leaf-value b g winner choice is.chosen at (IsReached rows) IsInner S t won closed' calls to_false to_true l reached
          (kept (target at l) (record { vertex = x; stands = stands.0; edge = contains_of_among x.successors (target at l) (inl refl); chosen = chosen }))
      go (Root c f) reached stands inners' =
          bracket-value b g winner choice is.chosen at (IsReached rows) IsInner S t won closed' calls to_false to_true c f v (level n)
          (values b g winner choice is.chosen at (IsReached rows) IsInner S t won closed' calls to_false to_true f (suc v) reached (λ k l m. inners' k (omega arith) (omega arith)) stands.1)
          stands.0 wins kept

  local : (b : Bool) (S : ℕ → Type 0) (t : Environment ℕ) → ((v : ℕ) → S v → winner v ≡ player b) →
      ((v w : ℕ) → S v → priority_at v ≡ 0 → Kept v w → S w) → ((v n : ℕ) → S v → IsVertexOf v n → t n ≡ b) →
      (v n : ℕ) → winner v ≡ player b → IsVertexOf v n → ((w : ℕ) → Kept v w → S w) → tree_truth t (trees n) ≡ b
  local b S t won closed has v n wins h kept =
      local_over b (λ _. Unit {0}) S t won (λ x w s _ zero k. closed x w s zero k) has v n wins h (λ _ _ _. tt) kept

  arena : (b : Bool) → Arena b trees level
  arena b = record {
    IsAt = IsVertexOf;
    priority = priority_at;
    IsWon = λ v. winner v ≡ player b;
    Kept = Kept;
    rank = rank b;
    width = λ p. length (rank b 0 p);
    lengths = λ v p. length-losing_counts (count v) (count 0) (player b) p limit;
    at_level = at_level;
    along = along b;
    down = down b;
    local = local b;
  }

  -- the value of a reached instance is what its vertex's winner wants
  pub value_at : (b : Bool) (row : Row) → Contains rows row → winner (at row.number) ≡ player b → solved signatures trees row.number ≡ b
  unfolding arena
  value_at b row contained wins =
      claim b trees level (arena b) signatures 0 (λ n _. refl)
      (λ v. winner v ≡ player b)
      (record {
        won = λ v s. s;
        closed = λ v w s _ kept. is.region v w kept ∙ s;
        bounded = λ v n s at_n. let reached = at_n.reached in let below = are.below reached.0 reached.1 in let numbered = reached.2 in omega arith;
      })
      empty (λ v n s at_n _ none. absurd (omega arith))
      (at row.number) row.number wins (record { reached = (row, contained, refl); place = refl })
