-- The loser's counts at a vertex as a list, the highest priority first. Where a certificate's counts decrease along an
-- edge the lists do, and where they are the same the lists are.
use Rattle.std.proofs.Common.{◌≡◌, ◌≢◌, ℕ, zero, suc, ◌%◌, ◌<◌, ◌≤◌, Bool, true, false, List, [], ◌∷◌, length, inl, inr, refl, ap, arith}
use Rattle.std.specs.Prelude.{nat_lt, ◌==◌, if◌then◌else◌}
use Rattle.std.proofs.lemmas.Bool.{cases_Bool, cases_lt, lt-ltb, le-ltb, eqb-false, ne_eqb}
use Rattle.pb_fixpoint_trees.specs.declared.player.Player.{Player}
use Rattle.pb_fixpoint_trees.specs.Players.{parity_of}
use Rattle.pb_game.specs.Certificates.{Decreases, IsSame, IsProgress}
use Rattle.pb_strategy.proofs.Lexicographic.{IsLess, IsAtMost}

-- the counts at the priorities from p up to below limit that haven't the winner's parity
abbrev pub losing_counts : (ℕ → ℕ) → Player → ℕ → ℕ → List ℕ
losing_counts count winner p zero = []
losing_counts count winner p (suc q) =
    if nat_lt q p then [] else (if q % 2 == parity_of winner then losing_counts count winner p q else count q ∷ losing_counts count winner p q)

length-cut : (b c : Bool) (x y : ℕ) (xs ys : List ℕ) → length xs ≡ length ys →
    length (if b then [] else (if c then xs else x ∷ xs)) ≡ length (if b then [] else (if c then ys else y ∷ ys))
length-cut true c x y xs ys h = refl
length-cut false true x y xs ys h = h
length-cut false false x y xs ys h = ap suc h

pub length-losing_counts : (f g : ℕ → ℕ) (winner : Player) (p limit : ℕ) → length (losing_counts f winner p limit) ≡ length (losing_counts g winner p limit)
length-losing_counts f g winner p zero = refl
length-losing_counts f g winner p (suc q) =
    length-cut (nat_lt q p) (q % 2 == parity_of winner) (f q) (g q) _ _ (length-losing_counts f g winner p q)

module _ (from to : ℕ → ℕ) (winner : Player) (p : ℕ) where
  counts : (ℕ → ℕ) → ℕ → List ℕ
  counts count limit = losing_counts count winner p limit

  below_limit : (q : ℕ) → (d : Decreases from to winner p (suc q)) → d.place < q → Decreases from to winner p q
  below_limit q d lt = record {
    place = d.place;
    above = d.above;
    below = lt;
    losing = d.losing;
    less = d.less;
    same = λ r l m odd. d.same r l (omega arith) odd;
  }

  less_here : (q : ℕ) → p ≤ q → q % 2 ≢ parity_of winner → to q < from q → IsLess (losing_counts to winner p (suc q)) (losing_counts from winner p (suc q))
  less_here q h odd l = rw (le-ltb q p h, ne_eqb (q % 2) (parity_of winner) odd) (inl l)

  less_below : (q : ℕ) → p ≤ q → (q % 2 ≢ parity_of winner → to q ≡ from q) →
      IsLess (losing_counts to winner p q) (losing_counts from winner p q) → IsLess (losing_counts to winner p (suc q)) (losing_counts from winner p (suc q))
  less_below q h same l = elim (cases_Bool (q % 2 == parity_of winner)) [
    | inl is ↦ rw (le-ltb q p h, is) l
    | inr isnt ↦ rw (le-ltb q p h, isnt) (inr (same (eqb-false (q % 2) (parity_of winner) isnt), l))
  ]

  pub decreases-less : (limit : ℕ) → Decreases from to winner p limit → IsLess (losing_counts to winner p limit) (losing_counts from winner p limit)
  decreases-less zero d = absurd (let none = d.below in omega arith)
  decreases-less (suc q) d = elim (cases_lt d.place q) [
    | inl lt ↦ less_below q (let h = d.above in omega arith) (λ odd. d.same q lt (omega arith) odd) (decreases-less q (below_limit q d lt))
    | inr ge ↦
        let e : d.place ≡ q = (let h = d.below in omega arith) in
        let above = d.above in
        let less : to q < from q = rw e at d.less in
        less_here q (omega arith) (rw e at d.losing) less
  ]

  pub same-equal : (limit : ℕ) → IsSame from to winner p limit → losing_counts to winner p limit ≡ losing_counts from winner p limit
  same-equal zero s = refl
  same-equal (suc q) s =
      let rest : losing_counts to winner p q ≡ losing_counts from winner p q = same-equal q (record { same = λ r l m odd. s.same r l (omega arith) odd }) in
      elim (cases_lt q p) [
        | inl lt ↦ rw (lt-ltb q p lt) refl
        | inr ge ↦ elim (cases_Bool (q % 2 == parity_of winner)) [
          | inl is ↦ rw (le-ltb q p ge, is) rest
          | inr isnt ↦ let here : to q ≡ from q = s.same q ge (omega arith) (eqb-false (q % 2) (parity_of winner) isnt) in rw (le-ltb q p ge, isnt, here, rest) refl
        ]
      ]

  -- from a priority q above p on
  from_above : (q limit : ℕ) → p ≤ q → IsSame from to winner p limit → IsSame from to winner q limit
  from_above q limit h s = record { same = λ r l m odd. s.same r (omega arith) m odd }

-- progress from p on doesn't increase the counts from a higher priority on
pub progress-at_most : (from to : ℕ → ℕ) (winner : Player) (p q limit : ℕ) → p ≤ q → IsProgress from to winner p limit →
    IsAtMost (losing_counts to winner q limit) (losing_counts from winner q limit)
progress-at_most from to winner p q limit h (inl d) = elim (cases_lt d.place q) [
  | inl lt ↦ inr (same-equal from to winner q limit (record { same = λ r l m odd. d.same r (omega arith) m odd }))
  | inr ge ↦ inl (decreases-less from to winner q limit (record {
    place = d.place;
    above = ge;
    below = d.below;
    losing = d.losing;
    less = d.less;
    same = d.same;
  }))
]
progress-at_most from to winner p q limit h (inr s) = inr (same-equal from to winner q limit (from_above from to winner p q limit h s.1))

-- and decreases those from p on where p has the loser's parity
pub progress-less : (from to : ℕ → ℕ) (winner : Player) (p limit : ℕ) → p % 2 ≢ parity_of winner → IsProgress from to winner p limit →
    IsLess (losing_counts to winner p limit) (losing_counts from winner p limit)
progress-less from to winner p limit odd (inl d) = decreases-less from to winner p limit d
progress-less from to winner p limit odd (inr s) = absurd (odd s.0)

-- no counts decrease along a loop
pub no_loop : (f : ℕ → ℕ) (winner : Player) (p limit : ℕ) → p % 2 ≢ parity_of winner → IsProgress f f winner p limit → ⊥
no_loop f winner p limit odd (inl d) = let h = d.less in omega arith
no_loop f winner p limit odd (inr s) = odd s.0
