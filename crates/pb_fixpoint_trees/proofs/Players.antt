-- Two players: each is one of them, and told by its parity.
use Rattle.std.proofs.Common.{◌≡◌, ◌≢◌, ◌<◌, ◌⊎◌, inl, inr, arith, refl, sym, ap, Bool, true, false}
use Rattle.std.specs.Prelude.{IsTrue, ◌↔◌}
use Rattle.pb_fixpoint_trees.specs.declared.player.Player.{Player}
use Rattle.pb_fixpoint_trees.specs.declared.player.Player.TheVariants.{Even, Odd}
use Rattle.pb_fixpoint_trees.specs.Players.{parity_of, opponent_of, is_same}

-- a player wins with priorities of one parity alone
pub parity_exact : (p q : Player) → parity_of p ≡ parity_of q → p ≡ q
parity_exact Even Even e = refl
parity_exact Even Odd e = absurd (omega (arith, e))
parity_exact Odd Even e = absurd (omega (arith, e))
parity_exact Odd Odd e = refl

pub parity_below : (p : Player) → parity_of p < 2
parity_below Even = omega arith
parity_below Odd = omega arith

-- whether two players are the same
pub cases_player : (p q : Player) → (p ≡ q) ⊎ (p ≢ q)
cases_player Even Even = inl refl
cases_player Even Odd = inr (λ e. absurd (omega (arith, ap parity_of e)))
cases_player Odd Even = inr (λ e. absurd (omega (arith, ap parity_of e)))
cases_player Odd Odd = inl refl

pub opponent_differs : (p : Player) → opponent_of p ≢ p
opponent_differs Even = λ e. absurd (omega (arith, ap parity_of e))
opponent_differs Odd = λ e. absurd (omega (arith, ap parity_of e))

-- who isn't the one is the other
pub other_player : (p q : Player) → p ≢ q → p ≡ opponent_of q
other_player Even Even ne = absurd (ne refl)
other_player Even Odd ne = refl
other_player Odd Even ne = refl
other_player Odd Odd ne = absurd (ne refl)

pub even_or_odd : (p : Player) → (p ≡ Even) ⊎ (p ≡ Odd)
even_or_odd Even = inl refl
even_or_odd Odd = inr refl

pub even_not_odd : Even ≢ Odd
even_not_odd e = absurd (omega (arith, ap parity_of e))

-- the test of two players
pub same_yes : (p q : Player) → p ≡ q → is_same p q ≡ true
same_yes Even Even e = refl
same_yes Even Odd e = absurd (even_not_odd e)
same_yes Odd Even e = absurd (even_not_odd (sym e))
same_yes Odd Odd e = refl

pub same_no : (p q : Player) → p ≢ q → is_same p q ≡ false
same_no Even Even ne = absurd (ne refl)
same_no Even Odd ne = refl
same_no Odd Even ne = refl
same_no Odd Odd ne = absurd (ne refl)

pub same_is : (p q : Player) → is_same p q ≡ true → p ≡ q
same_is Even Even e = refl
same_is Even Odd e = absurd (cc)
same_is Odd Even e = absurd (cc)
same_is Odd Odd e = refl

pub same_test : (b : Bool) (p q : Player) → (IsTrue b ↔ (p ≡ q)) → b ≡ is_same p q
same_test true p q h = sym (same_yes p q (h.0 refl))
same_test false p q h = sym (same_no p q (λ e. absurd (cc (h.1 e))))
