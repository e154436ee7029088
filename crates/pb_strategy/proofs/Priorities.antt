-- Priorities of equations: they don't rise from one equation to the next, and have the parity of the sign.
use Rattle.std.proofs.Common.{◌≡◌, ◌≢◌, ℕ, suc, ◌+◌, ◌%◌, ◌<◌, ◌≤◌, Bool, not, List, [], ◌∷◌, refl, sym, ap, ◌∙◌, arith}
use Rattle.std.proofs.lemmas.Bool.{lt-ltb, le-ltb}
use Rattle.pb_fixpoint_trees.specs.Players.{parity_of}
use Rattle.pb_fixpoint.specs.declared.Sign.{Sign}
use Rattle.pb_fixpoint.specs.declared.Sign.TheVariants.{Mu, Nu}
use Rattle.pb_fixpoint_trees.specs.Equations.{Signature}
use Rattle.pb_fixpoint_trees.specs.Game.{last_priority, priority_before, first_priority, priority_from}
use Rattle.pb_strategy.proofs.Players.{player, begins, player-other}

parity_last : (s : Sign) → last_priority s % 2 ≡ parity_of (player (begins s))
parity_last Mu = refl
parity_last Nu = refl

odd_after : (p : ℕ) → p % 2 ≡ 0 → suc p % 2 ≡ 1
odd_after p h = omega arith

even_after : (p : ℕ) → p % 2 ≡ 1 → suc p % 2 ≡ 0
even_after p h = omega arith

parity_before : (s u : Sign) (p : ℕ) → p % 2 ≡ parity_of (player (begins u)) → priority_before s u p % 2 ≡ parity_of (player (begins s))
parity_before Mu Mu p h = h
parity_before Mu Nu p h = odd_after p h
parity_before Nu Mu p h = even_after p h
parity_before Nu Nu p h = h

pub first_parity : (s : Signature) (signatures : List Signature) → first_priority (s ∷ signatures) % 2 ≡ parity_of (player (begins s.sign))
first_parity s [] = parity_last s.sign
first_parity s (u ∷ signatures) = parity_before s.sign u.sign (first_priority (u ∷ signatures)) (first_parity u signatures)

-- the priority of an equation whose sign is not the player's has the other's parity
pub first_is_losers : (b : Bool) (s : Signature) (signatures : List Signature) → begins s.sign ≡ not b → first_priority (s ∷ signatures) % 2 ≢ parity_of (player b)
first_is_losers b s signatures h e = player-other b (sym (ap (λ x. parity_of (player x)) h) ∙ (sym (first_parity s signatures) ∙ e))

before_falls : (s u : Sign) (p : ℕ) → p ≤ priority_before s u p
before_falls Mu Mu p = omega arith
before_falls Mu Nu p = omega arith
before_falls Nu Mu p = omega arith
before_falls Nu Nu p = omega arith

pub first_falls : (s : Signature) (signatures : List Signature) → first_priority signatures ≤ first_priority (s ∷ signatures)
first_falls s [] = omega arith
first_falls s (u ∷ signatures) = before_falls s.sign u.sign (first_priority (u ∷ signatures))

pub priority_here : (first : ℕ) (s : Signature) (signatures : List Signature) (n : ℕ) → n < first + s.size → priority_from first (s ∷ signatures) n ≡ first_priority (s ∷ signatures)
priority_here first s signatures n h = rw (lt-ltb n (first + s.size) h)

pub priority_later : (first : ℕ) (s : Signature) (signatures : List Signature) (n : ℕ) → first + s.size ≤ n → priority_from first (s ∷ signatures) n ≡ priority_from (first + s.size) signatures n
priority_later first s signatures n h = rw (le-ltb n (first + s.size) h)
