-- A certificate's rules as a test that computes, and that what passes meets them. It serves examples alone.
use Rattle.std.proofs.Common.{◌≡◌, ◌≢◌, ℕ, zero, suc, ◌+◌, ◌%◌, ◌≤◌, Bool, true, false, not, ◌&&◌, ◌||◌, List, [], ◌∷◌, Some, inl, inr, sym, ◌∙◌, subst, arith}
use Rattle.std.specs.Prelude.{Contains, slice_get, nat_lt, ◌==◌, if◌then◌else◌}
use Rattle.std.proofs.lemmas.Bool.{false≢true, and_parts, or_cases, cases_Bool, cases_lt, lt-ltb, le-ltb, ltb-true, eqb-true, eqb-false, eq-eqb, cond-true}
use Rattle.pb_fixpoint_trees.specs.Game.{Vertex}
use Rattle.pb_fixpoint_trees.proofs.Players.{same_is, same_yes}
use Rattle.pb_fixpoint_trees.specs.Players.{parity_of, is_same}
use Rattle.pb_fixpoint_trees.specs.declared.player.Player.{Player}
use Rattle.pb_game.specs.Certificates.{Decreases, IsSame, IsProgress}
use Rattle.pb_fixpoint_trees.proofs.Members.{Among, among_of_contains, contains_of_among}
use Rattle.pb_strategy.proofs.Counts.{losing_counts}

-- ---- lists of counts

abbrev is_less : List ℕ → List ℕ → Bool
is_less [] ys = false
is_less (x ∷ xs) [] = false
is_less (x ∷ xs) (y ∷ ys) = nat_lt x y || (x == y && is_less xs ys)

abbrev is_equal : List ℕ → List ℕ → Bool
is_equal [] [] = true
is_equal [] (y ∷ ys) = false
is_equal (x ∷ xs) [] = false
is_equal (x ∷ xs) (y ∷ ys) = x == y && is_equal xs ys

module _ (from to : ℕ → ℕ) (winner : Player) (p : ℕ) where
  -- with one priority more, at which the counts are equal where it is the loser's
  longer_decrease : (q : ℕ) → Decreases from to winner p q → (q % 2 ≢ parity_of winner → to q ≡ from q) → Decreases from to winner p (suc q)
  longer_decrease q d last = record {
    place = d.place;
    above = d.above;
    below = (let below = d.below in omega arith);
    losing = d.losing;
    less = d.less;
    same = λ r l m odd. elim (cases_lt r q) [
      | inl lt ↦ d.same r l lt odd
      | inr ge ↦ let e : q ≡ r = omega arith in subst (λ k. k % 2 ≢ parity_of winner → to k ≡ from k) e last odd
    ];
  }

  longer_same : (q : ℕ) → IsSame from to winner p q → (q % 2 ≢ parity_of winner → to q ≡ from q) → IsSame from to winner p (suc q)
  longer_same q s last = record {
    same = λ r l m odd. elim (cases_lt r q) [
      | inl lt ↦ s.same r l lt odd
      | inr ge ↦ let e : q ≡ r = omega arith in subst (λ k. k % 2 ≢ parity_of winner → to k ≡ from k) e last odd
    ];
  }

  from_less : (limit : ℕ) → is_less (losing_counts to winner p limit) (losing_counts from winner p limit) ≡ true → Decreases from to winner p limit
  from_less zero h = absurd (false≢true h)
  from_less (suc q) h = elim (cases_lt q p) [
    | inl lt ↦ absurd (false≢true (rw (lt-ltb q p lt) at h))
    | inr ge ↦ elim (cases_Bool (q % 2 == parity_of winner)) [
      | inl is ↦ longer_decrease q (from_less q (rw (le-ltb q p ge, is) at h)) (λ odd. absurd (odd (eqb-true (q % 2) (parity_of winner) is)))
      | inr isnt ↦ here (λ l. from_less q l) ge (eqb-false (q % 2) (parity_of winner) isnt) (rw (le-ltb q p ge, isnt) at h)
    ]
  ]
    where
      here : (is_less (losing_counts to winner p q) (losing_counts from winner p q) ≡ true → Decreases from to winner p q) → p ≤ q → q % 2 ≢ parity_of winner →
          (nat_lt (to q) (from q) || (to q == from q && is_less (losing_counts to winner p q) (losing_counts from winner p q))) ≡ true →
          Decreases from to winner p (suc q)
      here before ge odd h = elim (or_cases (nat_lt (to q) (from q)) _ h) [
        | inl l ↦ record {
          place = q;
          above = ge;
          below = omega arith;
          losing = odd;
          less = ltb-true (to q) (from q) l;
          same = λ r l' m _. absurd (omega arith);
        }
        | inr e ↦
            let both = and_parts (to q == from q) (is_less (losing_counts to winner p q) (losing_counts from winner p q)) e in
            longer_decrease q (before both.1) (λ _. eqb-true (to q) (from q) both.0)
      ]

  from_equal : (limit : ℕ) → is_equal (losing_counts to winner p limit) (losing_counts from winner p limit) ≡ true → IsSame from to winner p limit
  from_equal zero h = record { same = λ r l m odd. absurd (omega arith) }
  from_equal (suc q) h = elim (cases_lt q p) [
    | inl lt ↦ record { same = λ r l m odd. absurd (omega arith) }
    | inr ge ↦ elim (cases_Bool (q % 2 == parity_of winner)) [
      | inl is ↦ longer_same q (from_equal q (rw (le-ltb q p ge, is) at h)) (λ odd. absurd (odd (eqb-true (q % 2) (parity_of winner) is)))
      | inr isnt ↦
          let both = and_parts (to q == from q) (is_equal (losing_counts to winner p q) (losing_counts from winner p q)) (rw (le-ltb q p ge, isnt) at h) in
          longer_same q (from_equal q both.1) (λ _. eqb-true (to q) (from q) both.0)
    ]
  ]

abbrev progresses : (ℕ → ℕ) → (ℕ → ℕ) → Player → ℕ → ℕ → Bool
progresses from to winner p limit =
    is_less (losing_counts to winner p limit) (losing_counts from winner p limit)
    || (p % 2 == parity_of winner && is_equal (losing_counts to winner p limit) (losing_counts from winner p limit))

progress_of_test : (from to : ℕ → ℕ) (winner : Player) (p limit : ℕ) → progresses from to winner p limit ≡ true → IsProgress from to winner p limit
progress_of_test from to winner p limit h = elim (or_cases (is_less (losing_counts to winner p limit) (losing_counts from winner p limit)) _ h) [
  | inl l ↦ inl (from_less from to winner p limit l)
  | inr e ↦
      let both = and_parts (p % 2 == parity_of winner) (is_equal (losing_counts to winner p limit) (losing_counts from winner p limit)) e in
      inr (eqb-true (p % 2) (parity_of winner) both.0, from_equal from to winner p limit both.1)
]

-- ---- vertices

abbrev is_among : List ℕ → ℕ → Bool
is_among [] w = false
is_among (x ∷ xs) w = x == w || is_among xs w

among_of_test : (xs : List ℕ) (w : ℕ) → is_among xs w ≡ true → Among xs w
among_of_test [] w h = false≢true h
among_of_test (x ∷ xs) w h = elim (or_cases (x == w) (is_among xs w) h) [ inl e ↦ inl (eqb-true x w e) | inr later ↦ inr (among_of_test xs w later) ]

module _ (winner : ℕ → Player) (choice : ℕ → ℕ) (count : ℕ → ℕ → ℕ) (limit : ℕ) where
  abbrev edge_passes : ℕ → Vertex → ℕ → Bool
  edge_passes v x w =
      if is_same x.owner (winner v) && not (choice v == w) then true
      else (is_same (winner w) (winner v) && progresses (count v) (count w) (winner v) x.priority limit)

  abbrev edges_pass : ℕ → Vertex → List ℕ → Bool
  edges_pass v x [] = true
  edges_pass v x (w ∷ ws) = edge_passes v x w && edges_pass v x ws

  abbrev vertex_passes : ℕ → Vertex → Bool
  vertex_passes v x = (if is_same x.owner (winner v) then is_among x.successors (choice v) else true) && edges_pass v x x.successors

  -- the vertices from v on
  abbrev pub vertices_pass : ℕ → List Vertex → Bool
  vertices_pass v [] = true
  vertices_pass v (x ∷ xs) = vertex_passes v x && vertices_pass (suc v) xs

  -- what a vertex that passes meets
  pub record Meets (v : ℕ) (x : Vertex) : Type 0 where
    pub chosen : x.owner ≡ winner v → Contains x.successors (choice v)
    pub region : (w : ℕ) → Contains x.successors w → (x.owner ≡ winner v → choice v ≡ w) → winner w ≡ winner v
    pub progress : (w : ℕ) → Contains x.successors w → (x.owner ≡ winner v → choice v ≡ w) → IsProgress (count v) (count w) (winner v) x.priority limit

  edges_of_test : (v w : ℕ) (x : Vertex) (ws : List ℕ) → edges_pass v x ws ≡ true → Among ws w → edge_passes v x w ≡ true
  edges_of_test v w x [] h among = absurd among
  edges_of_test v w x (u ∷ us) h (inl e) = subst (λ y. edge_passes v x y ≡ true) e (and_parts (edge_passes v x u) (edges_pass v x us) h).0
  edges_of_test v w x (u ∷ us) h (inr later) = edges_of_test v w x us (and_parts (edge_passes v x u) (edges_pass v x us) h).1 later

  kept_of_test : (v w : ℕ) (x : Vertex) → edge_passes v x w ≡ true → (x.owner ≡ winner v → choice v ≡ w) →
      (is_same (winner w) (winner v) && progresses (count v) (count w) (winner v) x.priority limit) ≡ true
  kept_of_test v w x h chosen = elim (cases_Bool (is_same x.owner (winner v))) [
    | inl own ↦ rw (own, eq-eqb (choice v) w (chosen (same_is x.owner (winner v) own))) at h
    | inr other ↦ rw other at h
  ]

  meets_of_test : (v : ℕ) (x : Vertex) → vertex_passes v x ≡ true → Meets v x
  meets_of_test v x h =
      let both = and_parts (if is_same x.owner (winner v) then is_among x.successors (choice v) else true) (edges_pass v x x.successors) h in
      let kept = λ (w : ℕ) (edge : Contains x.successors w) (chosen : x.owner ≡ winner v → choice v ≡ w).
      and_parts (is_same (winner w) (winner v)) (progresses (count v) (count w) (winner v) x.priority limit)
      (kept_of_test v w x (edges_of_test v w x x.successors both.1 (among_of_contains x.successors w edge)) chosen) in
      record {
        chosen = λ own. contains_of_among x.successors (choice v) (among_of_test x.successors (choice v)
            (sym (cond-true (is_same x.owner (winner v)) (is_among x.successors (choice v)) true (same_yes x.owner (winner v) own)) ∙ both.0));
        region = λ w edge chosen. same_is (winner w) (winner v) (kept w edge chosen).0;
        progress = λ w edge chosen. progress_of_test (count v) (count w) (winner v) x.priority limit (kept w edge chosen).1;
      }

  pub vertices_of_test : (n : ℕ) (xs : List Vertex) → vertices_pass n xs ≡ true → (k : ℕ) (x : Vertex) → slice_get xs k ≡ Some x → Meets (n + k) x
  vertices_of_test n [] h k x e = cc
  vertices_of_test n (y ∷ ys) h zero x e =
      let both = and_parts (vertex_passes n y) (vertices_pass (suc n) ys) h in
      let is : y ≡ x = cc in
      let at : n ≡ n + 0 = omega arith in
      subst (λ m. Meets m x) at (subst (Meets n) is (meets_of_test n y both.0))
  vertices_of_test n (y ∷ ys) h (suc k) x e =
      let both = and_parts (vertex_passes n y) (vertices_pass (suc n) ys) h in
      let at : suc n + k ≡ n + suc k = omega arith in
      subst (λ m. Meets m x) at (vertices_of_test (suc n) ys both.1 k x e)
