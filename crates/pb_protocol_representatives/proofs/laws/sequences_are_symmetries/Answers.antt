use Rattle.std.proofs.Common.{◌≡◌, ℕ, Bool, true, List, [], ◌∷◌}
use Rattle.pb_fixpoint.specs.Solution.{Equation}
use Rattle.pb_fixpoint_symmetry.specs.Symmetry.{IsSymmetry, AreClosed}
use Rattle.pb_fixpoint_symmetry.specs.Laws.{SymmetriesCompose}
use Rattle.pb_protocol_representatives.specs.Exchanges.{sequence}
use Rattle.pb_protocol_representatives.proofs.laws.sequences_are_symmetries.Goals as goal

module _ (compose : SymmetriesCompose ℕ) (known : ℕ → Bool) (E : List (Equation ℕ)) (closed : AreClosed known E) (exchange : ℕ → ℕ → ℕ)
    (stays : (k n : ℕ) → known n ≡ true → known (exchange k n) ≡ true) (symmetries : (k : ℕ) → IsSymmetry known E (exchange k)) where
  stays-known : (ks : List ℕ) (n : ℕ) → known n ≡ true → known (sequence exchange ks n) ≡ true
  stays-known [] n h = h
  stays-known (k ∷ ks) n h = stays k (sequence exchange ks n) (stays-known ks n h)

  symmetric : (ks : List ℕ) → IsSymmetry known E (sequence exchange ks)
  symmetric [] = closed
  symmetric (k ∷ ks) = compose known E (exchange k) (sequence exchange ks) (stays-known ks) (symmetries k) (symmetric ks)

pub returns : goal.returns
returns c = λ known E closed exchange stays symmetries ks. symmetric c.symmetries_compose.ensures known E closed exchange stays symmetries ks
