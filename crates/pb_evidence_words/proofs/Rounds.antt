-- Lines that go round for ever.
use Rattle.std.proofs.Common.{◌≡◌, ℕ, zero, suc, ◌<◌, ◌≤◌, ◌==◌, Bool, true, false, true≢false, not, ◌&&◌, List, [], ◌∷◌, length, inl, inr, refl, sym, ap, ◌∙◌, subst, arith}
use Rattle.std.specs.Prelude.{if◌then◌else◌, nat_le, slice_index, slice_index_or}
use Rattle.std.proofs.lemmas.Bool.{and_parts, cases_eq}
use Rattle.std.proofs.Math.Bool.{or-false}
use Rattle.std.proofs.lemmas.Bool.Decides.{Decides-eqb, leb_tells}
use Rattle.std.proofs.lemmas.List.Sums.{passes_at_first}
use Rattle.pb_game.specs.Adjacency.{is_among}
use Rattle.pb_evidence_words.specs.Order.{parent_at, rests_on_one, run_start, sole_parent_at}
use Rattle.pb_evidence_words.specs.Passing.{LinesGoRound}

-- within a run each line but the first comes from the one before
within-run : (parent : ℕ → ℕ) (k m : ℕ) → run_start parent k ≤ m → m < k → parent (suc m) ≡ m
within-run parent zero m over less = absurd (omega arith)
within-run parent (suc k) m over less = by (parent (suc k) == k) refl over (within-run parent k m)
  where
    by : (b : Bool) → (parent (suc k) == k) ≡ b → (if b then run_start parent k else suc k) ≤ m → (run_start parent k ≤ m → m < k → parent (suc m) ≡ m) → parent (suc m) ≡ m
    by true is begun before = elim (cases_eq m k) [
      | inl same ↦ subst (λ n. parent (suc n) ≡ n) (sym same) ((Decides-eqb (parent (suc k)) k).0 is)
      | inr other ↦ before begun (omega (arith, other, less))
    ]
    by false is begun before = absurd (omega (arith, begun, less))

at-most : (a b : ℕ) → nat_le a b ≡ true → a ≤ b
at-most a b is = elim (leb_tells a b) [
  | inl so ↦ so.1
  | inr other ↦ absurd (true≢false (sym is ∙ other.0))
]

only-one : (ds : List ℕ) (n : ℕ) → (length ds == 1) ≡ true → is_among ds n ≡ true → ds ≡ n ∷ []
only-one [] n one among = absurd (true≢false (sym among))
only-one (d ∷ []) n one among = ap (λ x. x ∷ []) ((Decides-eqb d n).0 (sym (or-false (d == n)) ∙ among))
only-one (d ∷ e ∷ ds) n one among = absurd (omega (arith, (Decides-eqb (length (d ∷ e ∷ ds)) 1).0 one))

pub lines-go-round : LinesGoRound
lines-go-round graph cuts j k within back m from below = by (rests_on_one graph cuts p) refl
  where
    p : ℕ
    p = parent_at graph (suc m)

    n : ℕ
    n = slice_index graph.instances (suc m)

    last : (nat_le j k && nat_le (run_start (sole_parent_at graph cuts) k) j) ≡ true
    last = (and_parts (rests_on_one graph cuts k) (nat_le j k && nat_le (run_start (sole_parent_at graph cuts) k) j) back).1

    begun : run_start (sole_parent_at graph cuts) k ≤ j
    begun = at-most _ j (and_parts (nat_le j k) (nat_le (run_start (sole_parent_at graph cuts) k) j) last).1

    comes : sole_parent_at graph cuts (suc m) ≡ m
    comes = within-run (sole_parent_at graph cuts) k m (omega (arith, begun, from)) below

    by : (b : Bool) → rests_on_one graph cuts p ≡ b → graph.dependencies (slice_index graph.instances m) ≡ n ∷ []
    by true is =
        let here : p ≡ m = sym (ap (λ b. if b then p else length graph.instances) is) ∙ comes in
        let among : is_among (graph.dependencies (slice_index graph.instances p)) n ≡ true =
        passes_at_first (λ x. is_among (graph.dependencies x) n) graph.instances 0 (omega (arith, here, below, within)) in
        let one = (and_parts (not (slice_index_or cuts p false)) (length (graph.dependencies (slice_index graph.instances p)) == 1) is).1 in
        subst (λ q. graph.dependencies (slice_index graph.instances q) ≡ n ∷ []) here (only-one (graph.dependencies (slice_index graph.instances p)) n one among)
    by false is =
        let none : length graph.instances ≡ m = sym (ap (λ b. if b then p else length graph.instances) is) ∙ comes in
        absurd (omega (arith, none, below, within))
