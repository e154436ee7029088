-- A certificate for one player gives that player's truth value, whatever the graph is: by induction on the equations,
-- and, where an equation's sign is the other player's, by induction on that player's counts.
use Rattle.std.proofs.Common.{◌≡◌, ◌≢◌, ℕ, zero, suc, ◌+◌, ◌%◌, ◌<◌, ◌≤◌, Bool, not, List, [], ◌∷◌, length, inl, inr, refl, sym, ap, ◌∙◌, subst, arith}
use Rattle.std.proofs.lemmas.Bool.{cases_lt}
use Rattle.pb_fixpoint_trees.specs.Players.{parity_of}
use Rattle.pb_fixpoint.specs.Solution.{Environment, Equation, assign, iterate, start, solution, operator, value_of}
use Rattle.pb_fixpoint_trees.specs.Tree.{Tree, tree_truth}
use Rattle.pb_fixpoint_trees.specs.Equations.{Signature, total, equation, numbered}
use Rattle.pb_fixpoint_trees.specs.Game.{first_priority, priority_from}
use Rattle.pb_fixpoint_trees.proofs.Numbers.{equations_are_solved}
use Rattle.pb_strategy.proofs.Players.{player, begins, start-begins, value_cases}
use Rattle.pb_strategy.proofs.Priorities.{first_is_losers, first_falls, priority_here, priority_later}
use Rattle.pb_strategy.proofs.Assigned.{owns, assign_before, assign_within}
use Rattle.pb_strategy.proofs.Lexicographic.{IsLess, IsAtMost, less_of_at_most, lexicographic}

-- What the proof knows of a game and of a certificate at the vertices that one player wins, who wants instances to have
-- the value b. `level` gives each instance its priority.
pub record Arena (b : Bool) (trees : ℕ → Tree) (level : ℕ → ℕ) : Type 1 where
  -- the vertex is the instance's
  pub IsAt : ℕ → ℕ → Type 0
  pub priority : ℕ → ℕ
  pub IsWon : ℕ → Type 0
  pub Kept : ℕ → ℕ → Type 0
  -- the other player's counts at a vertex, from a priority on
  pub rank : ℕ → ℕ → List ℕ
  pub width : ℕ → ℕ
  pub lengths : (v p : ℕ) → length (rank v p) ≡ width p
  pub at_level : (v n : ℕ) → IsAt v n → priority v ≡ level n
  pub along : (v w p : ℕ) → IsWon v → Kept v w → priority v ≤ p → IsAtMost (rank w p) (rank v p)
  pub down : (v w : ℕ) → IsWon v → Kept v w → priority v % 2 ≢ parity_of (player b) → IsLess (rank w (priority v)) (rank v (priority v))
  -- an instance's tree has the value where the instances have it to which its kept edges lead, through vertices of priority 0
  pub local : (S : ℕ → Type 0) (t : Environment ℕ) → ((v : ℕ) → S v → IsWon v) →
      ((v w : ℕ) → S v → priority v ≡ 0 → Kept v w → S w) → ((v n : ℕ) → S v → IsAt v n → t n ≡ b) →
      (v n : ℕ) → IsWon v → IsAt v n → ((w : ℕ) → Kept v w → S w) → tree_truth t (trees n) ≡ b

-- Won vertices: no kept edge leads out from a priority up to p, and their instances are those before `end`
pub record IsClosed {b : Bool} {trees : ℕ → Tree} {level : ℕ → ℕ} (A : Arena b trees level) (p end : ℕ) (S : ℕ → Type 0) : Type 0 where
  pub won : (v : ℕ) → S v → A.IsWon v
  pub closed : (v w : ℕ) → S v → A.priority v ≤ p → A.Kept v w → S w
  pub bounded : (v n : ℕ) → S v → A.IsAt v n → n < end

module _ (b : Bool) (trees : ℕ → Tree) (level : ℕ → ℕ) (A : Arena b trees level) where
  -- t has the value at the instances of S that are in this range
  abbrev pub Has : (ℕ → Type 0) → ℕ → ℕ → Environment ℕ → Type 0
  Has S low high t = (v n : ℕ) → S v → A.IsAt v n → low ≤ n → n < high → t n ≡ b

  -- the priority of each instance from first on is its equation's
  abbrev pub Levels : ℕ → List Signature → Type 0
  Levels first es = (n : ℕ) → first ≤ n → level n ≡ priority_from first es n

  -- of a closed set, the equations' solution has the value at every instance, where t has it at those before them
  abbrev pub Claim : ℕ → List Signature → Type 1
  Claim first es =
      (S : ℕ → Type 0) → IsClosed A (first_priority es) (first + total es) S → (t : Environment ℕ) → Has S 0 first t →
      (v n : ℕ) → S v → A.IsAt v n → solution (numbered first es trees) t n ≡ b

  -- what an environment has after an assignment
  assign-has : (S : ℕ → Type 0) (first : ℕ) (e : Signature) (f t : Environment ℕ) → Has S 0 first t → Has S first (first + e.size) f →
      Has S 0 (first + e.size) (assign t (equation first e trees) f)
  assign-has S first e f t before within v n s at _ below = elim (cases_lt n first) [
    | inl l ↦ assign_before first e trees t f n l ∙ before v n s at (omega arith) l
    | inr m ↦ assign_within first e trees t f n m below ∙ within v n s at m below
  ]

  -- without the first equation
  tail_closed : (e : Signature) (es : List Signature) (first : ℕ) (S : ℕ → Type 0) →
      IsClosed A (first_priority (e ∷ es)) (first + total (e ∷ es)) S → IsClosed A (first_priority es) (first + e.size + total es) S
  tail_closed e es first S cl = record {
    won = cl.won;
    closed = λ v w s low. cl.closed v w s (let falls = first_falls e es in omega arith);
    bounded = λ v n s at. let bound = cl.bounded v n s at in omega arith;
  }

  -- The first equation, with the claim for those after it
  module _ (e : Signature) (es : List Signature) (first : ℕ) (ih : Claim (first + e.size) es) where
    abbrev X : Equation ℕ
    X = equation first e trees

    abbrev E : List (Equation ℕ)
    E = numbered (first + e.size) es trees

    -- one application of the operator
    applied : (S : ℕ → Type 0) → IsClosed A (first_priority es) (first + e.size + total es) S →
        (t f : Environment ℕ) → Has S 0 first t → Has S first (first + e.size) f →
        (v n : ℕ) → A.IsWon v → A.IsAt v n → ((w : ℕ) → A.Kept v w → S w) → operator X E t f n ≡ b
    applied S cl t f before within v n won at kept =
        A.local S (solution E (assign t X f)) cl.won
        (λ x w s zero. cl.closed x w s (omega arith))
        (ih S cl (assign t X f) (assign-has S first e f t before within))
        v n won at kept

    module _ (levels : Levels first (e ∷ es)) (S : ℕ → Type 0) (cl : IsClosed A (first_priority (e ∷ es)) (first + total (e ∷ es)) S)
        (t : Environment ℕ) (before : Has S 0 first t) where
      abbrev p : ℕ
      p = first_priority (e ∷ es)

      here : (v n : ℕ) → A.IsAt v n → first ≤ n → n < first + e.size → A.priority v ≡ p
      here v n at l m = A.at_level v n at ∙ levels n l ∙ priority_here first e es n m

      -- the sign is the player's: each iterate has the value
      own_sign : begins e.sign ≡ b → (k : ℕ) → Has S first (first + e.size) (iterate k (operator X E t) (start e.sign))
      own_sign sign zero v n s at l m = start-begins e.sign n ∙ sign
      own_sign sign (suc k) v n s at l m =
          applied S (tail_closed e es first S cl) t (iterate k (operator X E t) (start e.sign)) before (own_sign sign k) v n (cl.won v s) at
          (λ w kept. cl.closed v w s (let is_here = here v n at l m in omega arith) kept)

      -- the part of S with lesser counts
      abbrev Less : List ℕ → ℕ → Type 0
      Less ys x = S x × IsLess (A.rank x p) ys

      less_closed : (ys : List ℕ) → IsClosed A (first_priority es) (first + e.size + total es) (Less ys)
      less_closed ys =
          let tail = tail_closed e es first S cl in
          record {
            won = λ x s. cl.won x s.0;
            closed = λ x y s low kept. (
              tail.closed x y s.0 low kept,
              less_of_at_most (A.rank y p) (A.rank x p) ys
                  (A.along x y p (cl.won x s.0) kept (let falls = first_falls e es in omega arith)) s.1,
            );
            bounded = λ x k s. tail.bounded x k s.0;
          }

      -- the equation's set is a fixpoint of its operator
      rests : (n : ℕ) → first ≤ n → n < first + e.size → operator X E t (value_of X E t) n ≡ value_of X E t n
      rests n l m = (equations_are_solved first e es trees t).fixpoint.same n (owns first e trees n l m)

      -- from priority p the other player's counts decrease
      falls : begins e.sign ≡ not b → (v w n : ℕ) → S v → A.IsAt v n → first ≤ n → n < first + e.size → A.Kept v w → IsLess (A.rank w p) (A.rank v p)
      falls sign v w n s at l m kept =
          let q = here v n at l m in
          subst (λ k. IsLess (A.rank w k) (A.rank v k)) q
          (A.down v w (cl.won v s) kept (λ even. first_is_losers b e es sign (sym (ap (λ k. k % 2) q) ∙ even)))

      -- the value at the instances with these counts
      abbrev At : List ℕ → Type 0
      At ys = (v n : ℕ) → S v → A.IsAt v n → first ≤ n → n < first + e.size → A.rank v p ≡ ys → value_of X E t n ≡ b

      -- the sign is the other player's: by induction on that player's counts
      other_sign : begins e.sign ≡ not b → (ys : List ℕ) → length ys ≡ A.width p → At ys
      other_sign sign = lexicographic (A.width p) At (λ ys _ below v n s at l m r.
          sym (rests n l m)
          ∙ applied (Less ys) (less_closed ys) t (value_of X E t) (λ x k s'. before x k s'.0)
          (λ x k s' at' l' m'. below (A.rank x p) (A.lengths x p) s'.1 x k s'.0 at' l' m' refl)
          v n (cl.won v s) at
          (λ w kept. (
            cl.closed v w s (let is_here = here v n at l m in omega arith) kept,
            subst (λ zs. IsLess (A.rank w p) zs) r (falls sign v w n s at l m kept),
          )))

      value_of-has : Has S first (first + e.size) (value_of X E t)
      value_of-has v n s at l m = elim (value_cases b (begins e.sign)) [
        | inl own ↦ own_sign own e.size v n s at l m
        | inr other ↦ other_sign other (A.rank v p) (A.lengths v p) v n s at l m refl
      ]

  pub claim : (es : List Signature) (first : ℕ) → Levels first es → Claim first es
  claim [] first levels S cl t before v n s at = before v n s at (omega arith) (let bound = cl.bounded v n s at in omega arith)
  claim (e ∷ es) first levels S cl t before v n s at =
      let ih : Claim (first + e.size) es = claim es (first + e.size) (λ k l. levels k (omega arith) ∙ priority_later first e es k l) in
      ih S (tail_closed e es first S cl) (assign t (equation first e trees) (value_of (equation first e trees) (numbered (first + e.size) es trees) t))
      (assign-has S first e (value_of (equation first e trees) (numbered (first + e.size) es trees) t) t before (value_of-has e es first ih levels S cl t before)) v n s at
