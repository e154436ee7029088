-- The lines of a certificate, one after the other.
use Rattle.std.proofs.Common.{◌≡◌, ℕ, suc, ◌+◌, ◌-◌, ◌<◌, ◌++◌, Option, Some, None, decimal, sym, ap, ◌∙◌, arith}
use Rattle.std.proofs.lemmas.Bool.{cond-true, cond-false}
use Rattle.pb_fixpoint_trees.proofs.Players.{same_yes, same_no}
use Rattle.pb_fixpoint_trees.specs.Players.{is_same, parity_of}
use Rattle.pb_game.specs.declared.Game.{Game}
use Rattle.pb_game.specs.Games.{owner_of, vertex_count}
use Rattle.pb_game.specs.declared.certificate.Solution.{Solution}
use Rattle.pb_game.specs.Solutions.{winner_of, choice_of}
use Rattle.pb_report.specs.CertificateText.{certificate_head, certificate_text, strategy_at, strategy_part, winner_line, winner_lines}
use Rattle.pb_report.specs.GameText.{field}

module _ (g : Game) (s : Solution) (v : ℕ) where
  pub strategy_is : (choice : ℕ) → owner_of g v ≡ winner_of s v → choice ≡ choice_of s v → Some choice ≡ strategy_at g s v
  strategy_is choice moves is =
      ap Some is ∙ sym (cond-true (is_same (owner_of g v) (winner_of s v)) (Some (choice_of s v)) None (same_yes (owner_of g v) (winner_of s v) moves))

  pub no_strategy : (owner_of g v ≡ winner_of s v → ⊥) → None ≡ strategy_at g s v
  no_strategy rests =
      sym (cond-false (is_same (owner_of g v) (winner_of s v)) (Some (choice_of s v)) None (same_no (owner_of g v) (winner_of s v) rests))

  -- of the lines from v on to the end, the first one and the others
  pub next_winner : (n end : ℕ) → v < end → end ≡ n → winner_lines g s v (n - v) ≡ winner_line g s v ++ winner_lines g s (v + 1) (n - (v + 1))
  next_winner n end l all =
      let more : n - v ≡ suc (n - (v + 1)) = omega (arith, l, all) in
      let next : suc v ≡ v + 1 = omega arith in
      ap (winner_lines g s v) more ∙ ap (λ (u : ℕ). winner_line g s v ++ winner_lines g s u (n - (v + 1))) next

  -- a winner's line, from parts that are read
  pub winner_is : (parity : ℕ) (strategy : Option ℕ) → parity ≡ parity_of (winner_of s v) → strategy ≡ strategy_at g s v
      → field v ++ (decimal parity ++ strategy_part strategy) ≡ winner_line g s v
  winner_is parity strategy p o =
      ap (λ (n : ℕ). field v ++ (decimal n ++ strategy_part strategy)) p ∙ ap (λ (x : Option ℕ). field v ++ (decimal (parity_of (winner_of s v)) ++ strategy_part x)) o

-- the whole text, under a first line whose number is read
pub headed : (g : Game) (s : Solution) (greatest : ℕ) → greatest ≡ vertex_count g - 1 → certificate_head greatest ++ winner_lines g s 0 (vertex_count g) ≡ certificate_text g s
headed g s greatest is = ap (λ (n : ℕ). certificate_head n ++ winner_lines g s 0 (vertex_count g)) is
