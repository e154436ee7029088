-- The two players, each named by the truth value that the player wants instances to have: Even wants true, and has the
-- disjunctions; Odd wants false, and has the conjunctions.
use Rattle.std.proofs.Common.{◌≡◌, ◌≢◌, ℕ, Bool, true, false, not, ◌&&◌, ◌||◌, ◌⊎◌, inl, inr, refl, sym, ap}
use Rattle.std.proofs.lemmas.Bool.{true≢false}
use Rattle.pb_fixpoint_trees.specs.Players.{parity_of}
use Rattle.pb_fixpoint_trees.specs.declared.player.Player.TheVariants.{Even, Odd}
use Rattle.pb_fixpoint_trees.specs.declared.player.Player.{Player}
use Rattle.pb_fixpoint.specs.declared.Sign.{Sign}
use Rattle.pb_fixpoint.specs.declared.Sign.TheVariants.{Mu, Nu}
use Rattle.pb_fixpoint.specs.Solution.{start}
use Rattle.pb_fixpoint_trees.specs.declared.junction.Junction.{Junction}
use Rattle.pb_fixpoint_trees.specs.declared.junction.Junction.TheVariants.{Conjunction, Disjunction}
use Rattle.pb_fixpoint_trees.specs.Junctions.{joined, neutral}
use Rattle.pb_fixpoint_trees.specs.Game.{owner_of}

-- the player who wants b
abbrev pub player : Bool → Player
player true = Even
player false = Odd

-- the connective at which that player chooses
abbrev pub choosing : Bool → Junction
choosing true = Disjunction
choosing false = Conjunction

-- the truth value that steps with this sign begin with
abbrev pub begins : Sign → Bool
begins Mu = false
begins Nu = true

pub start-begins : (s : Sign) (n : ℕ) → start s n ≡ begins s
start-begins Mu n = refl
start-begins Nu n = refl

-- a truth value is b, or the other
pub value_cases : (b x : Bool) → (x ≡ b) ⊎ (x ≡ not b)
value_cases true true = inl refl
value_cases true false = inr refl
value_cases false true = inr refl
value_cases false false = inl refl

pub connective_cases : (b : Bool) (c : Junction) → (c ≡ choosing b) ⊎ (c ≡ choosing (not b))
connective_cases true Conjunction = inr refl
connective_cases true Disjunction = inl refl
connective_cases false Conjunction = inl refl
connective_cases false Disjunction = inr refl

pub not_other : (b : Bool) → not b ≡ b → ⊥
not_other true h = true≢false (sym h)
not_other false h = true≢false h

pub owner-choosing : (b : Bool) → owner_of (choosing b) ≡ player b
owner-choosing true = refl
owner-choosing false = refl

pub owner-other : (b : Bool) → owner_of (choosing (not b)) ≡ player b → ⊥
owner-other true h = cc
owner-other false h = cc

pub player-other : (b : Bool) → parity_of (player (not b)) ≢ parity_of (player b)
player-other true h = cc
player-other false h = cc

-- of no operands, the player's own bracket has the other value, and the other player's has the player's
pub neutral-choosing : (b : Bool) → neutral (choosing b) ≡ not b
neutral-choosing true = refl
neutral-choosing false = refl

-- one operand with the value b decides the player's own bracket
pub joined_left : (b x y : Bool) → x ≡ b → joined (choosing b) x y ≡ b
joined_left true x y h = ap (λ z. z || y) h
joined_left false x y h = ap (λ z. z && y) h

pub joined_right : (b x y : Bool) → y ≡ b → joined (choosing b) x y ≡ b
joined_right true true y h = refl
joined_right true false y h = h
joined_right false true y h = h
joined_right false false y h = refl

-- all operands with the value b decide the other player's bracket
pub joined_both : (b x y : Bool) → x ≡ b → y ≡ b → joined (choosing (not b)) x y ≡ b
joined_both true true y h k = k
joined_both true false y h k = h
joined_both false true y h k = h
joined_both false false y h k = k
