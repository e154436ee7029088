-- The nested solution of a sequence of fixpoint equations (Groote and Willemse 2005), for any kind
-- of instances.
use Rattle.std.specs.Prelude.{ℕ, zero, suc, Bool, true, false, List, [], ◌∷◌, if◌then◌else◌}
use Rattle.pb_fixpoint.specs.declared.Sign.{Sign}
use Rattle.pb_fixpoint.specs.declared.Sign.TheVariants.{Mu, Nu}

-- a set of instances: those that count as true
abbrev pub Environment : Type 0 → Type 0
Environment I = I → Bool

-- An equation, as far as the solution reads it: its sign, which instances are its variable's, how
-- many these are, and at which of them its right side holds under an environment.
pub record Equation (I : Type 0) : Type 0 where
  pub sign : Sign
  pub owns : I → Bool
  pub size : ℕ
  pub holds : I → Environment I → Bool

-- t[X := F], for the variable X of an equation
abbrev pub assign : {I : Type 0} → Environment I → Equation I → Environment I → Environment I
assign t X F = λ i. if X.owns i then F i else t i

-- the operator g applied n times, from F on
abbrev pub iterate : {I : Type 0} → ℕ → (Environment I → Environment I) → Environment I
    → Environment I
iterate zero g F = F
iterate (suc n) g F = g (iterate n g F)

-- the empty and the full set
abbrev pub empty : {I : Type 0} → Environment I
empty = λ i. false

abbrev pub full : {I : Type 0} → Environment I
full = λ i. true

-- where the steps begin: least from the empty set, greatest from the full one
abbrev pub start : {I : Type 0} → Sign → Environment I
start Mu = empty
start Nu = full

-- The solution of equations under t. Of no equations it is t. Of X and then E it is that of E under
-- t[X := T]. T is X's operator applied as often as X has instances; the operator takes F to the
-- instances at which X holds under the solution of E under t[X := F].
abbrev pub solution : {I : Type 0} → List (Equation I) → Environment I → Environment I
solution [] t = t
solution (X ∷ E) t =
    solution E
    (assign t X (iterate X.size (λ F i. X.holds i (solution E (assign t X F))) (start X.sign)))

-- the operator of X before E under t, and the set that X gets
abbrev pub operator : {I : Type 0} → Equation I → List (Equation I) → Environment I → Environment I
    → Environment I
operator X E t F = λ i. X.holds i (solution E (assign t X F))

abbrev pub value_of : {I : Type 0} → Equation I → List (Equation I) → Environment I → Environment I
value_of X E t = iterate X.size (operator X E t) (start X.sign)
