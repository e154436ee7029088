-- The least rank: it is monotone, at most every measure, and where no lift raises a word the words are a measure.
use Rattle.std.proofs.Common.{◌≡◌, ◌≢◌, ℕ, zero, suc, ◌+◌, ◌-◌, ◌*◌, ◌/◌, ◌%◌, ◌<◌, ◌≤◌, ◌==◌, if◌then◌else◌, Bool, true, false, min, List, length, replicate, set, length-set, mul_comm, sym, refl, ap, ◌∙◌, inl, inr, ⊎_elim, eq-eqb, div-mul-le_self, arith}
use Rattle.std.specs.Prelude.{slice_index, Contains}
use Rattle.std.proofs.lemmas.Nat.{le-div}
use Rattle.std.proofs.lemmas.List.{get_or_past, get_or-replicate, get_or_default, get_or-set_same, get_or-set_other, length-replicate}
use Rattle.std.proofs.lemmas.Bool.{cases_lt}
use mathlib.Core.Logic.{dite}
use native.Mathlib.Decide.{ℕ_discrete}
use Rattle.pb_fixpoint_trees.proofs.Players.{cases_player, same_yes, same_no}
use Rattle.pb_fixpoint_trees.specs.Players.{parity_of, is_same}
use Rattle.pb_fixpoint_trees.specs.declared.player.Player.{Player}
use Rattle.pb_game.specs.declared.Game.{Game}
use Rattle.pb_game.specs.Games.{vertex_count, owner_of, priority_of, successors_of, priority_count}
use Rattle.pb_game.proofs.Laws.{is_game}
use Rattle.pb_game.specs.Certificates.{IsProgress}
use Rattle.pb_lifting.proofs.Lists.{element_in}
use Rattle.pb_lifting.specs.Radix.{unit, step_up, better, best}
use Rattle.pb_lifting.specs.Measures.{vertices_upto, base_of, top_of, counts_of, FallsTo, Falls, IsMeasure, more_of, asked, asked_by, least_rank, IsBelowAll, IsWithinAll, IsFixed, IsLeastMeasure}
use Rattle.pb_lifting.specs.Sweep.{AreWords}
use Rattle.pb_lifting.proofs.Radix.{unit_pos, next_unit, multiple, mul_grows, step_grows, step_below, progress_is, is_progress}

pub better_grows : (own : Bool) (a b c d : ℕ) → a ≤ c → b ≤ d → better own a b ≤ better own c d
better_grows true a b c d h h' = omega arith
better_grows false a b c d h h' = omega arith

pub best_grows : (own : Bool) (top : ℕ) (f g : ℕ → ℕ) (i : ℕ) → ((j : ℕ) → j < i → f j ≤ g j) → best own top f i ≤ best own top g i
best_grows own top f g zero h = omega arith
best_grows own top f g (suc i) h = better_grows own _ _ _ _ (best_grows own top f g i (λ j b. h j (omega arith))) (h i (omega arith))

-- one more successor, where the index is written `i + 1`
best_next : (own : Bool) (top : ℕ) (f : ℕ → ℕ) (i : ℕ) → best own top f (i + 1) ≡ better own (best own top f i) (f i)
best_next own top f i = let e : i + 1 ≡ suc i = omega arith in ap (best own top f) e

pub best_suc : (own : Bool) (top : ℕ) (f : ℕ → ℕ) (i r : ℕ) {x : ℕ} → r ≡ x → better own (best own top f i) (f i) ≤ x → best own top f (i + 1) ≤ r
best_suc own top f i r e h = let n = best_next own top f i in omega arith

pub suc_best : (own : Bool) (top : ℕ) (f : ℕ → ℕ) (i r : ℕ) {x : ℕ} → r ≡ x → x ≤ better own (best own top f i) (f i) → r ≤ best own top f (i + 1)
suc_best own top f i r e h = let n = best_next own top f i in omega arith

pub best_below : (own : Bool) (top : ℕ) (f : ℕ → ℕ) (i : ℕ) → ((j : ℕ) → j < i → f j ≤ top) → best own top f i ≤ top
best_below true top f zero h = omega arith
best_below false top f zero h = omega arith
best_below true top f (suc i) h = let r = best_below true top f i (λ j b. h j (omega arith)) in omega arith
best_below false top f (suc i) h = let r = best_below false top f i (λ j b. h j (omega arith)) in let l = h i (omega arith) in omega arith

pub least_at : (top : ℕ) (f : ℕ → ℕ) (i j : ℕ) → j < i → best true top f i ≤ f j
least_at top f zero j h = absurd (omega arith)
least_at top f (suc i) j h = dite (ℕ_discrete j i) (λ e. let s : f j ≡ f i = ap f e in omega arith) (λ ne. let r = least_at top f i j (omega arith) in omega arith)

pub least_from : (top : ℕ) (f : ℕ → ℕ) (i : ℕ) → best true top f i < top → (j : ℕ) × (j < i) × (f j ≤ best true top f i)
least_from top f zero h = absurd (omega arith)
least_from top f (suc i) h = dite (ℕ_discrete (min (best true top f i) (f i)) (f i))
    (λ e. (i, omega arith, omega arith))
    (λ ne. let r = least_from top f i (omega arith) in (r.0, (let b = r.1 in omega arith), (let b = r.2 in omega arith)))

pub greatest_at : (top : ℕ) (f : ℕ → ℕ) (i j : ℕ) → j < i → f j ≤ best false top f i
greatest_at top f zero j h = absurd (omega arith)
greatest_at top f (suc i) j h = dite (ℕ_discrete j i) (λ e. let s : f j ≡ f i = ap f e in omega arith) (λ ne. let r = greatest_at top f i j (omega arith) in omega arith)

pub greatest_below : (top bound : ℕ) (f : ℕ → ℕ) (i : ℕ) → ((j : ℕ) → j < i → f j ≤ bound) → best false top f i ≤ bound
greatest_below top bound f zero h = omega arith
greatest_below top bound f (suc i) h = let r = greatest_below top bound f i (λ j b. h j (omega arith)) in let l = h i (omega arith) in omega arith

-- what an element of a list is at its place
place_of : (xs : List ℕ) (x : ℕ) → Contains xs x → (j : ℕ) × (j < length xs) × (slice_index xs j ≡ x)
place_of xs x c = (c.0, c.1, get_or_default xs c.0 0 x c.1 ∙ c.2)

factor_within : (t m u : ℕ) → 0 < t → t ≡ m * u → u ≤ t
factor_within t zero u pos e = absurd (omega arith)
factor_within t (suc m) u pos e = omega arith

module _ (g : Game) (player : Player) where
  pub base_positive : (q : ℕ) → 0 < base_of g player q
  unfolding base_of
  base_positive q = by_test (q % 2 == parity_of player)
    where
      by_test : (b : Bool) → 0 < (if b then 1 else vertices_upto g q (vertex_count g) + 1)
      by_test true = omega arith
      by_test false = omega arith

  pub base_one : (q : ℕ) → q % 2 ≡ parity_of player → base_of g player q ≡ 1
  unfolding base_of
  base_one q e = ap (λ (b : Bool). if b then 1 else vertices_upto g q (vertex_count g) + 1) (eq-eqb (q % 2) (parity_of player) e)

  -- what the base at a priority is, by how many vertices have it
  base_is : (q count : ℕ) → count ≡ vertices_upto g q (vertex_count g) → (if q % 2 == parity_of player then 1 else count + 1) ≡ base_of g player q
  unfolding base_of
  base_is q count e = ap (λ x. if q % 2 == parity_of player then 1 else x + 1) e

  -- the next place value is the product with the base
  pub next_place : (k place base count : ℕ) → place ≡ unit (base_of g player) k → count ≡ vertices_upto g k (vertex_count g) → base ≡ (if k % 2 == parity_of player then 1 else count + 1)
      → place * base ≡ unit (base_of g player) (k + 1)
  next_place k place base count p c b = (λ i. p i * (b ∙ base_is k count c) i) ∙ (mul_comm (unit (base_of g player) k) (base_of g player k) ∙ sym (next_unit (base_of g player) k))

  pub place_positive : (p : ℕ) → 0 < unit (base_of g player) p
  place_positive p = unit_pos (base_of g player) player 0 base_positive base_one p

  pub top_multiple : (p : ℕ) → p ≤ priority_count g → (m : ℕ) × (top_of g player ≡ m * unit (base_of g player) p)
  unfolding top_of
  top_multiple p h = multiple (base_of g player) player 0 base_positive base_one (priority_count g - p) p (priority_count g) (omega arith)

  -- no place value is above the top rank
  pub place_within : (p : ℕ) → p ≤ priority_count g → unit (base_of g player) p ≤ top_of g player
  unfolding top_of
  place_within p h = let r = top_multiple p h in let e = r.1 in let pos = place_positive (priority_count g) in factor_within (top_of g player) r.0 (unit (base_of g player) p) (omega arith) e

  pub top_is : (p t : ℕ) → p ≡ priority_count g → t ≡ unit (base_of g player) p → t ≡ top_of g player
  unfolding top_of
  top_is p t e h = h ∙ ap (unit (base_of g player)) e

  pub asked_is : (v rank place top more : ℕ) → place ≡ unit (base_of g player) (priority_of g v) → top ≡ top_of g player
      → more ≡ more_of player (priority_of g v) → step_up place top more rank ≡ asked g player v rank
  unfolding asked
  asked_is v rank place top more a b c i = step_up (a i) (b i) (c i) rank

  pub asked_grows : (v m n : ℕ) → m ≤ n → asked g player v m ≤ asked g player v n
  unfolding asked
  asked_grows v m n h = step_grows _ (top_of g player) _ m n (place_positive (priority_of g v)) h

  pub asked_below : (v m : ℕ) → asked g player v m ≤ top_of g player
  unfolding asked
  asked_below v m = step_below (unit (base_of g player) (priority_of g v)) (top_of g player) (more_of player (priority_of g v)) m

  pub least_grows : (known more : List ℕ) → ((v : ℕ) → slice_index known v ≤ slice_index more v) → (v : ℕ) → least_rank g player known v ≤ least_rank g player more v
  least_grows known more h v =
      best_grows (is_same (owner_of g v) player) (top_of g player) (asked_by g player known v)
      (asked_by g player more v) (length (successors_of g v)) (λ j _. asked_grows v _ _ (h _))

  pub least_below : (known : List ℕ) (v : ℕ) → least_rank g player known v ≤ top_of g player
  least_below known v = best_below (is_same (owner_of g v) player) (top_of g player) (asked_by g player known v) (length (successors_of g v)) (λ j _. asked_below v _)

  step_top : (u m s more : ℕ) → 0 < u → m * u ≤ s → m * u ≤ (s / u + more) * u
  step_top u m s more pos b = let d = le-div m s u pos b in mul_grows m (s / u + more) u (omega arith)

  -- top asks for top
  pub asked_top : (v s : ℕ) → priority_of g v ≤ priority_count g → top_of g player ≤ s → asked g player v s ≡ top_of g player
  unfolding asked
  asked_top v s inside h =
      let u = unit (base_of g player) (priority_of g v) in
      let m = top_multiple (priority_of g v) inside in
      let e = m.1 in
      let t = step_top u m.0 s (more_of player (priority_of g v)) (place_positive (priority_of g v)) (omega arith) in
      omega arith

  -- the edge condition asks for this rank, and no more
  pub meets : (v r s : ℕ) → priority_of g v ≤ priority_count g → r < top_of g player → s < top_of g player → asked g player v s ≤ r
      → IsProgress (counts_of g player r) (counts_of g player s) player (priority_of g v) (priority_count g)
  unfolding asked top_of
  meets v r s inside rl sl h =
      let u = unit (base_of g player) (priority_of g v) in
      let more = more_of player (priority_of g v) in
      let pos = place_positive (priority_of g v) in
      progress_is (base_of g player) player (priority_count g) base_positive base_one r s (priority_of g v) more rl sl inside refl
      (le-div (s / u + more) r u pos (omega arith))

  pub asks : (v r s : ℕ) → priority_of g v ≤ priority_count g → r < top_of g player → s < top_of g player
      → IsProgress (counts_of g player r) (counts_of g player s) player (priority_of g v) (priority_count g) → asked g player v s ≤ r
  unfolding asked top_of
  asks v r s inside rl sl h =
      let u = unit (base_of g player) (priority_of g v) in
      let more = more_of player (priority_of g v) in
      let d = is_progress (base_of g player) player (priority_count g) base_positive base_one r s (priority_of g v) more rl sl inside refl h in
      let a = mul_grows (s / u + more) (r / u) u d in
      let b = div-mul-le_self r u in
      omega arith

  pub inside : (v : ℕ) → v < vertex_count g → priority_of g v ≤ priority_count g
  inside v h = let game = is_game g in let p = game.greatest v h in omega arith

  falls_asks : (m : List ℕ) (v u : ℕ) → v < vertex_count g → slice_index m v < top_of g player → FallsTo g player m v u → asked g player v (slice_index m u) ≤ slice_index m v
  falls_asks m v u h l f = asks v (slice_index m v) (slice_index m u) (inside v h) l f.0 f.1

  -- the least rank over a measure is at most the measure
  pub least_of_measure : (m : List ℕ) → IsMeasure g player m → (v : ℕ) → v < vertex_count g → least_rank g player m v ≤ slice_index m v
  least_of_measure m is v h = ⊎_elim
      (λ (top : slice_index m v ≡ top_of g player). let l = least_below m v in omega arith)
      (λ (low : (slice_index m v < top_of g player) × Falls g player m v). ⊎_elim
      (λ (mine : owner_of g v ≡ player).
      let e = low.1.own mine in let j = place_of (successors_of g v) e.0 e.1 in
      let a = falls_asks m v e.0 h low.0 e.2 in
      let l = least_at (top_of g player) (asked_by g player m v) (length (successors_of g v)) j.0 j.1 in
      let f : asked_by g player m v j.0 ≡ asked g player v (slice_index m e.0) = ap (λ x. asked g player v (slice_index m x)) j.2 in
      let t : least_rank g player m v
      ≡ best true (top_of g player) (asked_by g player m v) (length (successors_of g v)) =
      ap (λ b. best b (top_of g player) (asked_by g player m v) (length (successors_of g v))) (same_yes (owner_of g v) player mine) in
      omega arith)
      (λ (ne : owner_of g v ≢ player).
      let t : least_rank g player m v
      ≡ best false (top_of g player) (asked_by g player m v) (length (successors_of g v)) =
      ap (λ b. best b (top_of g player) (asked_by g player m v) (length (successors_of g v))) (same_no (owner_of g v) player ne) in
      let l = greatest_below (top_of g player) (slice_index m v) (asked_by g player m v) (length (successors_of g v))
      (λ j b. falls_asks m v _ h low.0 (low.1.other ne _ (element_in (successors_of g v) j _ b refl))) in
      omega arith) (cases_player (owner_of g v) player))
      (is.ranked v h)

  -- a raise from known values stays within every measure
  pub raise_within : (known m : List ℕ) → IsMeasure g player m → ((v : ℕ) → slice_index known v ≤ slice_index m v) → (v : ℕ) → v < vertex_count g → least_rank g player known v ≤ slice_index m v
  raise_within known m is h v b = let a = least_grows known m h v in let c = least_of_measure m is v b in omega arith

  -- the ranks that are all top are a measure, so words below all measures are at most top
  falls_to : (m : List ℕ) (v u : ℕ) → v < vertex_count g → slice_index m v < top_of g player → asked g player v (slice_index m u) ≤ slice_index m v → FallsTo g player m v u
  falls_to m v u h l a =
      let low : slice_index m u < top_of g player =
      ⊎_elim (λ (x : slice_index m u < top_of g player). x)
      (λ (x : top_of g player ≤ slice_index m u). let t = asked_top v (slice_index m u) (inside v h) x in
      absurd (omega arith)) (cases_lt (slice_index m u) (top_of g player)) in
      (low, meets v (slice_index m v) (slice_index m u) (inside v h) l low a)

  -- ranks that no lift raises are a measure
  pub fixed_is_measure : (m : List ℕ) → length m ≡ vertex_count g → ((v : ℕ) → slice_index m v ≤ top_of g player) → IsFixed g player m → IsMeasure g player m
  fixed_is_measure m sized low fixed = record {
    sized = sized;
    ranked = λ v h. dite (ℕ_discrete (slice_index m v) (top_of g player))
        (λ e. inl e)
        (λ ne. let b = low v in let l : slice_index m v < top_of g player = omega arith in inr (
          l,
          record {
            own = λ mine.
                let t : least_rank g player m v
                ≡ best true (top_of g player) (asked_by g player m v) (length (successors_of g v)) =
                ap (λ b. best b (top_of g player) (asked_by g player m v) (length (successors_of g v)))
                (same_yes (owner_of g v) player mine) in
                let f = fixed v h in
                let j = least_from (top_of g player) (asked_by g player m v) (length (successors_of g v)) (omega arith) in
                let a = j.2 in
                (slice_index (successors_of g v) j.0, element_in (successors_of g v) j.0 _ j.1 refl, falls_to m v _ h l (omega arith));
            other = λ ne' u edge.
                let t : least_rank g player m v
                ≡ best false (top_of g player) (asked_by g player m v) (length (successors_of g v)) =
                ap (λ b. best b (top_of g player) (asked_by g player m v) (length (successors_of g v)))
                (same_no (owner_of g v) player ne') in
                let f = fixed v h in
                let j = place_of (successors_of g v) u edge in
                let a = greatest_at (top_of g player) (asked_by g player m v) (length (successors_of g v)) j.0 j.1 in
                let e : asked_by g player m v j.0 ≡ asked g player v (slice_index m u) = ap (λ x. asked g player v (slice_index m x)) j.2 in
                falls_to m v u h l (omega arith);
          },
        ));
  }

  -- a word raised to the least rank stays within every measure
  pub raised_words : (words : List ℕ) (v : ℕ) → v < vertex_count g → AreWords g player words → AreWords g player (set words v (least_rank g player words v))
  raised_words words v h a = record {
    sized = length-set words v (least_rank g player words v) ∙ a.sized;
    below = λ m is u. let sized = a.sized in dite (ℕ_discrete u v)
        (λ e. let same : slice_index (set words v (least_rank g player words v)) u ≡ least_rank g player words v =
        ap (slice_index (set words v (least_rank g player words v))) e
        ∙ get_or-set_same words v (least_rank g player words v) 0 (omega arith) in
        let same_m : slice_index m u ≡ slice_index m v = ap (slice_index m) e in
        let r = raise_within words m is (a.below m is) v h in omega arith)
        (λ ne. let c = get_or-set_other words v u (least_rank g player words v) 0 ne in let b = a.below m is u in omega arith);
  }

  -- the ranks that are all top are a measure
  all_top : IsMeasure g player (replicate (vertex_count g) (top_of g player))
  all_top = record {
    sized = length-replicate {A = ℕ} (vertex_count g) (top_of g player);
    ranked = λ v h. inl (get_or-replicate (vertex_count g) v (top_of g player) 0 h);
  }

  never_above : (n v : ℕ) → slice_index (replicate n (top_of g player)) v ≤ top_of g player
  never_above zero v = omega arith
  never_above (suc n) zero = omega arith
  never_above (suc n) (suc v) = never_above n v

  -- so what is within every measure is at most top
  pub within_top : (v word : ℕ) → IsWithinAll g player v word → word ≤ top_of g player
  within_top v word within = let b = within _ all_top in let t = never_above (vertex_count g) v in omega arith

  -- the word behind the vertices is 0
  pub last_is_zero : (words : List ℕ) (n : ℕ) → n ≡ vertex_count g → IsBelowAll g player words → slice_index words n ≡ 0
  last_is_zero words n at below = let b = below _ all_top n in let z = get_or_past (replicate (vertex_count g) (top_of g player)) n 0 (omega (arith, at, all_top.sized)) in omega arith

  -- words that no lift raises are the least measure
  pub fixed_is_least : (words : List ℕ) → AreWords g player words → IsFixed g player words → IsLeastMeasure g player words
  fixed_is_least words a fixed = (fixed_is_measure words a.sized (λ v. within_top v (slice_index words v) (λ m is. a.below m is v)) fixed, a.below)
