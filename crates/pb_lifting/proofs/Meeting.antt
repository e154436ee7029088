-- The counts of a rank, those of top being 0, and when an edge meets the edge condition on them.
use Rattle.std.proofs.Common.{◌≡◌, ◌≢◌, ℕ, ◌%◌, ◌<◌, ◌≤◌, ◌==◌, if◌then◌else◌, Bool, true, false, sym, refl, ap, ◌∙◌, subst, eq-eqb, ne_eqb, arith}
use Rattle.std.proofs.Math.Nat.{zero-div, zero-mod}
use mathlib.Core.Logic.{dite}
use native.Mathlib.Decide.{ℕ_discrete}
use Rattle.pb_fixpoint_trees.specs.declared.player.Player.{Player}
use Rattle.pb_game.specs.declared.Game.{Game}
use Rattle.pb_game.specs.Games.{vertex_count, priority_of, priority_count}
use Rattle.pb_game.specs.Certificates.{IsProgress}
use Rattle.pb_lifting.specs.Radix.{unit}
use Rattle.pb_lifting.specs.Measures.{base_of, top_of, counts_of, asked}
use Rattle.pb_lifting.specs.Solutions.{count_by_rank}
use Rattle.pb_lifting.proofs.Measures.{meets, asks, inside}

module _ (g : Game) (player : Player) where
  abbrev pub counted : ℕ → ℕ
  counted rank = if rank == top_of g player then 0 else rank

  no_counts : (q : ℕ) → counts_of g player 0 q ≡ 0
  no_counts q = ap (λ x. x % base_of g player q) (zero-div (unit (base_of g player) q)) ∙ zero-mod (base_of g player q)

  counts_at : (rank q : ℕ) → counts_of g player (counted rank) q ≡ count_by_rank g player rank q
  counts_at rank q = by_test (rank == top_of g player)
    where
      by_test : (b : Bool) → counts_of g player (if b then 0 else rank) q ≡ (if b then 0 else counts_of g player rank q)
      by_test true = no_counts q
      by_test false = refl

  same_counts : (rank : ℕ) → counts_of g player (counted rank) ≡ count_by_rank g player rank
  same_counts rank = λ i q. counts_at rank q i

  low : (rank : ℕ) → rank ≢ top_of g player → counted rank ≡ rank
  low rank ne = ap (λ (b : Bool). if b then 0 else rank) (ne_eqb rank (top_of g player) ne)

  counted_below : (rank : ℕ) → 0 < top_of g player → rank ≤ top_of g player → counted rank < top_of g player
  counted_below rank pos h = dite (ℕ_discrete rank (top_of g player))
      (λ e. let z : counted rank ≡ 0 = ap (λ (b : Bool). if b then 0 else rank) (eq-eqb rank (top_of g player) e) in omega arith)
      (λ ne. let l = low rank ne in omega arith)

  abbrev Progress : ℕ → ℕ → ℕ → Type 0
  Progress v r s = IsProgress (count_by_rank g player r) (count_by_rank g player s) player (priority_of g v) (priority_count g)

  same_progress : (v r s : ℕ) → s < top_of g player → IsProgress (counts_of g player (counted r)) (counts_of g player s) player (priority_of g v) (priority_count g) ≡ Progress v r s
  same_progress v r s h =
      let e : counts_of g player s ≡ count_by_rank g player s = ap (counts_of g player) (sym (low s (λ e. absurd (omega arith)))) ∙ same_counts s in
      λ i. IsProgress (same_counts r i) (e i) player (priority_of g v) (priority_count g)

  -- the edge condition on the counts asks for this rank
  pub enough : (v r s own : ℕ) → v < vertex_count g → own ≡ counted r → r ≤ top_of g player → s < top_of g player → asked g player v s ≤ own → Progress v r s
  enough v r s own h e rl sl a =
      let b = counted_below r (omega arith) rl in
      subst (λ x. x) (same_progress v r s sl) (meets g player v (counted r) s (inside g player v h) b sl (omega arith))

  pub needed : (v r s own : ℕ) → v < vertex_count g → own ≡ counted r → r ≤ top_of g player → s < top_of g player → Progress v r s → asked g player v s ≤ own
  needed v r s own h e rl sl p =
      let b = counted_below r (omega arith) rl in
      let a = asks g player v (counted r) s (inside g player v h) b sl (subst (λ x. x) (sym (same_progress v r s sl)) p) in omega arith
