-- Two certificates of a game name the same winners, and no vertex has ranks below top for both players. Where they
-- differed, the two strategies together would keep an edge at each vertex of the difference, and along it the counts
-- of both measures, read as one, would fall for ever.
use Rattle.std.proofs.Common.{◌≡◌, ◌≢◌, ℕ, zero, suc, ◌+◌, ◌%◌, ◌<◌, ◌≤◌, ◌==◌, if◌then◌else◌, Bool, List, sym, refl, ap, ◌∙◌, subst, inl, inr, ⊎_elim, eq-eqb, ne_eqb, arith}
use Rattle.std.proofs.lemmas.Nat.{mod_below}
use Rattle.std.proofs.lemmas.Bool.{cases_lt}
use mathlib.Core.Logic.{dite}
use native.Mathlib.Decide.{ℕ_discrete}
use Rattle.std.specs.Prelude.{slice_index}
use Rattle.pb_fixpoint_trees.proofs.Players.{even_or_odd, even_not_odd}
use Rattle.pb_fixpoint_trees.specs.Players.{opponent_of}
use Rattle.pb_fixpoint_trees.specs.declared.player.Player.{Player}
use Rattle.pb_fixpoint_trees.specs.declared.player.Player.TheVariants.{Even, Odd}
use Rattle.pb_game.specs.declared.Game.{Game}
use Rattle.pb_game.specs.Games.{vertex_count, owner_of, priority_of, priority_count, HasEdge}
use Rattle.pb_game.proofs.Laws.{is_game}
use Rattle.pb_game.specs.declared.certificate.Solution.{Solution}
use Rattle.pb_game.specs.Solutions.{winner_of, choice_of, count_of}
use Rattle.pb_game.specs.Certificates.{Decreases, IsProgress, IsKept, IsCertificate}
use Rattle.pb_lifting.specs.Measures.{top_of, counts_of, FallsTo, Falls as FallsSomewhere, IsMeasure, IsWithinAll}

-- the counts fall: below n some place is lower at the end, and all places above it are the same
record Falls (from to : ℕ → ℕ) (n : ℕ) : Type 0 where
  pub place : ℕ
  pub below : place < n
  pub less : to place < from place
  pub same : (q : ℕ) → place < q → q < n → to q ≡ from q

-- each vertex with the property has another one, to which the counts fall
abbrev Descends : (ℕ → ℕ → ℕ) → ℕ → (ℕ → Type 0) → Type 0
Descends m n Bad = (v : ℕ) → Bad v → (u : ℕ) × Bad u × Falls (m v) (m u) n

-- of the vertices whose count at the highest place is x, if there is none with a lesser one
module _ (m : ℕ → ℕ → ℕ) (n : ℕ) (lower_places : (Bad : ℕ → Type 0) → Descends m n Bad → (v : ℕ) → Bad v → ⊥) (Bad : ℕ → Type 0) (step : Descends m (suc n) Bad) where
  level : (x : ℕ) → ((w : ℕ) → m w n < x → Bad w → ⊥) → (v : ℕ) → m v n ≡ x → Bad v → ⊥
  level x lower v at bad = lower_places (λ u. Bad u × (m u n ≡ x)) next v (bad, at)
    where
      next : (v : ℕ) → Bad v × (m v n ≡ x) → (u : ℕ) × (Bad u × (m u n ≡ x)) × Falls (m v) (m u) n
      next v b =
          let s = step v b.0 in let u = s.0 in let f = s.2 in let at = b.1 in
          dite (ℕ_discrete f.place n)
          (λ (e : f.place ≡ n). let less : m u n < m v n = subst (λ p. m u p < m v p) e f.less in absurd (lower u (omega arith) s.1))
          (λ ne. let inside = f.below in let same = f.same n (omega arith) (omega arith) in
          (u, (s.1, same ∙ at), record { place = f.place; below = omega arith; less = f.less; same = λ q a c. f.same q a (omega arith) }))

  within : (bound : ℕ) (v : ℕ) → m v n ≤ bound → Bad v → ⊥
  within zero v h bad = level 0 (λ w l b. absurd (omega arith)) v (omega arith) bad
  within (suc bound) v h bad = dite (ℕ_discrete (m v n) (suc bound))
      (λ (e : m v n ≡ suc bound). level (suc bound) (λ w l b. within bound w (omega arith) b) v e bad)
      (λ ne. within bound v (omega arith) bad)

-- counts don't fall for ever
no_descent : (m : ℕ → ℕ → ℕ) (n : ℕ) (Bad : ℕ → Type 0) → Descends m n Bad → (v : ℕ) → Bad v → ⊥
no_descent m zero Bad step v bad = let s = step v bad in let f = s.2 in let b = f.below in absurd (omega arith)
no_descent m (suc n) Bad step v bad = within m n (no_descent m n) Bad step (m v n) v (omega arith) bad

-- the count at a priority, of the counts of Even's measure and of Odd's: that of the player who loses there
abbrev both : (ℕ → ℕ → ℕ) → (ℕ → ℕ → ℕ) → ℕ → ℕ → ℕ
both even odd v q = if q % 2 == 0 then odd v q else even v q

-- Even wins v in one certificate and Odd in the other
record Disputed (g : Game) (s t : Solution) (v : ℕ) : Type 0 where
  pub vertex : v < vertex_count g
  pub even_wins : winner_of s v ≡ Even
  pub odd_wins : winner_of t v ≡ Odd

parity : (n : ℕ) → n % 2 ≢ 0 → n % 2 ≡ 1
parity n h = let b = mod_below n 2 (omega arith) in omega arith

module _ (even odd : ℕ → ℕ → ℕ) (v u : ℕ) where
  at_even : (w q : ℕ) → q % 2 ≡ 0 → both even odd w q ≡ odd w q
  at_even w q e = ap (λ (b : Bool). if b then odd w q else even w q) (eq-eqb (q % 2) 0 e)

  at_odd : (w q : ℕ) → q % 2 ≢ 0 → both even odd w q ≡ even w q
  at_odd w q e = ap (λ (b : Bool). if b then odd w q else even w q) (ne_eqb (q % 2) 0 e)

  -- where neither measure changes from p on above a place, nor do both together
  abbrev Same0 : ℕ → ℕ → Type 0
  Same0 from limit = (q : ℕ) → from ≤ q → q < limit → q % 2 ≢ 0 → even u q ≡ even v q

  abbrev Same1 : ℕ → ℕ → Type 0
  Same1 from limit = (q : ℕ) → from ≤ q → q < limit → q % 2 ≢ 1 → odd u q ≡ odd v q

  all_same : (from limit : ℕ) → Same0 from limit → Same1 from limit → (q : ℕ) → from ≤ q → q < limit → both even odd u q ≡ both even odd v q
  all_same from limit in_even in_odd q a b = dite (ℕ_discrete (q % 2) 0)
      (λ e. at_even u q e ∙ (in_odd q a b (λ o. absurd (omega arith)) ∙ sym (at_even v q e)))
      (λ ne. at_odd u q ne ∙ (in_even q a b ne ∙ sym (at_odd v q ne)))

  falls_at_odd : (p limit : ℕ) (d : Decreases (even v) (even u) Even p limit) → Same1 (d.place + 1) limit → Falls (both even odd v) (both even odd u) limit
  falls_at_odd p limit d in_odd = record {
    place = d.place;
    below = d.below;
    less = let a = at_odd u d.place d.losing in let b = at_odd v d.place d.losing in let l = d.less in omega arith;
    same = λ q a b. all_same (d.place + 1) limit (λ r h k o. d.same r (omega arith) k o) in_odd q (omega arith) b;
  }

  falls_at_even : (p limit : ℕ) (d : Decreases (odd v) (odd u) Odd p limit) → Same0 (d.place + 1) limit → Falls (both even odd v) (both even odd u) limit
  falls_at_even p limit d in_even =
      let is : d.place % 2 ≡ 0 = dite (ℕ_discrete (d.place % 2) 0) (λ e. e) (λ ne. absurd (d.losing (parity d.place ne))) in record {
        place = d.place;
        below = d.below;
        less = let a = at_even u d.place is in let b = at_even v d.place is in let l = d.less in omega arith;
        same = λ q a b. all_same (d.place + 1) limit in_even (λ r h k o. d.same r (omega arith) k o) q (omega arith) b;
      }

  -- along an edge on which both measures make progress, both together fall
  falls : (p limit : ℕ) → IsProgress (even v) (even u) Even p limit → IsProgress (odd v) (odd u) Odd p limit → Falls (both even odd v) (both even odd u) limit
  falls p limit (inl d) (inl e) = ⊎_elim
      (λ (h : e.place < d.place). falls_at_odd p limit d (λ r k b o. e.same r (omega arith) b o))
      (λ (h : d.place ≤ e.place). falls_at_even p limit e (λ r k b o. d.same r (omega arith) b o))
      (cases_lt e.place d.place)
  falls p limit (inl d) (inr e) = falls_at_odd p limit d (λ r k b o. let a = d.above in e.1.same r (omega arith) b o)
  falls p limit (inr d) (inl e) = falls_at_even p limit e (λ r k b o. let a = e.above in d.1.same r (omega arith) b o)
  falls p limit (inr d) (inr e) = let x = d.0 in let y = e.0 in absurd (omega arith)

module _ (g : Game) (s t : Solution) (first : IsCertificate g s) (second : IsCertificate g t) where
  along : (v u : ℕ) → Disputed g s t v → IsKept g s v u → IsKept g t v u
      → (u : ℕ) × Disputed g s t u × Falls (both (count_of g s) (count_of g t) v) (both (count_of g s) (count_of g t) u) (priority_count g)
  along v u d a b =
      let x = first.vertices v d.vertex in let y = second.vertices v d.vertex in (
        u,
        record {
          vertex = (is_game g).closed v u d.vertex a.edge;
          even_wins = x.region u a ∙ d.even_wins;
          odd_wins = y.region u b ∙ d.odd_wins;
        },
        falls (count_of g s) (count_of g t) v u (priority_of g v) (priority_count g)
            (subst (λ w. IsProgress (count_of g s v) (count_of g s u) w (priority_of g v) (priority_count g)) d.even_wins (x.progress u a))
            (subst (λ w. IsProgress (count_of g t v) (count_of g t u) w (priority_of g v) (priority_count g)) d.odd_wins (y.progress u b)),
      )

  -- both strategies together keep an edge
  step : (v : ℕ) → Disputed g s t v → (u : ℕ) × Disputed g s t u × Falls (both (count_of g s) (count_of g t) v) (both (count_of g s) (count_of g t) u) (priority_count g)
  step v d = elim (even_or_odd (owner_of g v)) [
    | inl e ↦
        let edge = (first.vertices v d.vertex).choice (e ∙ sym d.even_wins) in
        along v (choice_of s v) d (record { edge = edge; choice = λ _. refl }) (record { edge = edge; choice = λ o. absurd (even_not_odd (sym e ∙ (o ∙ d.odd_wins))) })
    | inr e ↦
        let edge = (second.vertices v d.vertex).choice (e ∙ sym d.odd_wins) in
        along v (choice_of t v) d (record { edge = edge; choice = λ o. absurd (even_not_odd (sym d.even_wins ∙ (sym o ∙ e))) }) (record { edge = edge; choice = λ _. refl })
  ]

  undisputed : (v : ℕ) → Disputed g s t v → ⊥
  undisputed v d = no_descent (both (count_of g s) (count_of g t)) (priority_count g) (Disputed g s t) step v d

pub same_winner : (g : Game) (s t : Solution) → IsCertificate g s → IsCertificate g t → (v : ℕ) → v < vertex_count g → winner_of s v ≡ winner_of t v
same_winner g s t first second v h = elim (even_or_odd (winner_of s v)) [
  | inl a ↦ elim (even_or_odd (winner_of t v)) [ inl b ↦ a ∙ sym b | inr b ↦ absurd (undisputed g s t first second v (record { vertex = h; even_wins = a; odd_wins = b })) ]
  | inr a ↦ elim (even_or_odd (winner_of t v)) [ inl b ↦ absurd (undisputed g t s second first v (record { vertex = h; even_wins = b; odd_wins = a })) | inr b ↦ a ∙ sym b ]
]

-- a vertex with a rank below top for both players
record IsLowForBoth (g : Game) (e o : List ℕ) (v : ℕ) : Type 0 where
  pub vertex : v < vertex_count g
  pub even : slice_index e v < top_of g Even
  pub odd : slice_index o v < top_of g Odd

low_falls : (g : Game) (player : Player) (m : List ℕ) → IsMeasure g player m → (v : ℕ) → v < vertex_count g → slice_index m v < top_of g player → FallsSomewhere g player m v
low_falls g player m is v h low = ⊎_elim
    (λ (top : slice_index m v ≡ top_of g player). absurd (omega arith))
    (λ (t : (slice_index m v < top_of g player) × FallsSomewhere g player m v). t.1)
    (is.ranked v h)

module _ (g : Game) (e o : List ℕ) (of_even : IsMeasure g Even e) (of_odd : IsMeasure g Odd o) where
  abbrev even_counts : ℕ → ℕ → ℕ
  even_counts v = counts_of g Even (slice_index e v)

  abbrev odd_counts : ℕ → ℕ → ℕ
  odd_counts v = counts_of g Odd (slice_index o v)

  low_along : (v u : ℕ) → IsLowForBoth g e o v → HasEdge g v u → FallsTo g Even e v u → FallsTo g Odd o v u
      → (u : ℕ) × IsLowForBoth g e o u × Falls (both even_counts odd_counts v) (both even_counts odd_counts u) (priority_count g)
  low_along v u d edge a b = (
    u,
    record { vertex = (is_game g).closed v u d.vertex edge; even = a.0; odd = b.0 },
    falls even_counts odd_counts v u (priority_of g v) (priority_count g) a.1 b.1,
  )

  low_step : (v : ℕ) → IsLowForBoth g e o v → (u : ℕ) × IsLowForBoth g e o u × Falls (both even_counts odd_counts v) (both even_counts odd_counts u) (priority_count g)
  low_step v d =
      let a = low_falls g Even e of_even v d.vertex d.even in let b = low_falls g Odd o of_odd v d.vertex d.odd in
      elim (even_or_odd (owner_of g v)) [
        | inl mine ↦ let t = a.own mine in low_along v t.0 d t.1 t.2 (b.other (λ same. absurd (even_not_odd (sym mine ∙ same))) t.0 t.1)
        | inr mine ↦ let t = b.own mine in low_along v t.0 d t.1 (a.other (λ same. absurd (even_not_odd (sym same ∙ mine))) t.0 t.1) t.2
      ]

  never_low : (v : ℕ) → IsLowForBoth g e o v → ⊥
  never_low v d = no_descent (both even_counts odd_counts) (priority_count g) (IsLowForBoth g e o) low_step v d

-- where a measure of the opponent isn't top, every measure of the player is
pub opponents_within : (g : Game) (player : Player) (words : List ℕ) → IsMeasure g (opponent_of player) words → (v : ℕ)
    → v < vertex_count g → slice_index words v < top_of g (opponent_of player) → IsWithinAll g player v (top_of g player)
opponents_within g Even words is v h low m measure = ⊎_elim
    (λ (l : slice_index m v < top_of g Even). absurd (never_low g m words measure is v (record { vertex = h; even = l; odd = low })))
    (λ (top : top_of g Even ≤ slice_index m v). top)
    (cases_lt (slice_index m v) (top_of g Even))
opponents_within g Odd words is v h low m measure = ⊎_elim
    (λ (l : slice_index m v < top_of g Odd). absurd (never_low g words m is measure v (record { vertex = h; even = low; odd = l })))
    (λ (top : top_of g Odd ≤ slice_index m v). top)
    (cases_lt (slice_index m v) (top_of g Odd))
