-- Priorities fall from equation to equation and have the parity of their signs, so that the least instance dominates.
use Rattle.std.proofs.Common.{◌≡◌, ℕ, ◌+◌, ◌%◌, ◌<◌, ◌≤◌, ◌⊎◌, Bool, true, false, List, [], ◌∷◌, refl, sym, ap, ◌∙◌, inl, inr, arith}
use Rattle.std.specs.Prelude.{Contains, min}
use Rattle.std.proofs.lemmas.Bool.{cases_lt, lt-ltb, le-ltb}
use Rattle.pb_fixpoint_trees.specs.Players.{parity_of}
use Rattle.pb_fixpoint.specs.declared.Sign.{Sign}
use Rattle.pb_fixpoint.specs.declared.Sign.TheVariants.{Mu, Nu}
use Rattle.pb_fixpoint_trees.specs.Equations.{Signature, total}
use Rattle.pb_fixpoint_trees.specs.Game.{first_priority, priority_from}
use Rattle.pb_strategy.proofs.Players.{player, begins}
use Rattle.pb_strategy.proofs.Priorities.{first_parity, first_falls, priority_here, priority_later}
use Rattle.pb_evidence.specs.ProofGraphs.{Graph, RestsThrough, sign_from, supporting, least_of, dominating_sign}
use Rattle.pb_evidence.specs.Strategies.{player_for}
use Rattle.pb_evidence.specs.Priorities.{dominating_priority, PrioritiesSupport}

below_first : (first : ℕ) (signatures : List Signature) (n : ℕ) → priority_from first signatures n ≤ first_priority signatures
below_first first [] n = omega arith
below_first first (s ∷ signatures) n = elim (cases_lt n (first + s.size)) [
  | inl here ↦ (let same = priority_here first s signatures n here in omega arith)
  | inr later ↦ (
      let same = priority_later first s signatures n later in
      let below = below_first (first + s.size) signatures n in
      let falls = first_falls s signatures in
      omega arith)
]

priority_falls : (first : ℕ) (signatures : List Signature) (n m : ℕ) → n ≤ m → priority_from first signatures m ≤ priority_from first signatures n
priority_falls first [] n m h = omega arith
priority_falls first (s ∷ signatures) n m h = elim (cases_lt n (first + s.size)) [
  | inl here ↦ (let same = priority_here first s signatures n here in let below = below_first first (s ∷ signatures) m in omega arith)
  | inr later ↦ (
      let n_same = priority_later first s signatures n later in
      let m_same = priority_later first s signatures m (omega arith) in
      let falls = priority_falls (first + s.size) signatures n m h in
      omega arith)
]

priority_parity : (first : ℕ) (signatures : List Signature) (n : ℕ) → n < first + total signatures →
    (priority_from first signatures n % 2 ≡ parity_of (player (begins (sign_from first signatures n)))) ⊎ (n < first)
priority_parity first [] n h = inr (omega arith)
priority_parity first (s ∷ signatures) n h = elim (cases_lt n (first + s.size)) [
  | inl here ↦ inl (rw (lt-ltb n (first + s.size) here) (first_parity s signatures))
  | inr later ↦ elim (priority_parity (first + s.size) signatures n (omega arith)) [
    | inl is ↦ inl (rw (le-ltb n (first + s.size) later) is)
    | inr low ↦ absurd (omega arith)
  ]
]

dominating_is : (signatures : List Signature) (n : ℕ) (over : List ℕ) → dominating_priority signatures (n ∷ over) ≡ priority_from 0 signatures (least_of n over)
dominating_is signatures n [] = omega arith
dominating_is signatures n (x ∷ xs) =
    let least = least_of x xs in
    let rest = dominating_is signatures x xs in
    elim (cases_lt n least) [
      | inl less ↦
          let is : min n least ≡ n = omega arith in
          let falls = priority_falls 0 signatures n least (omega arith) in
          let top : dominating_priority signatures (n ∷ (x ∷ xs)) ≡ priority_from 0 signatures n = omega arith in
          top ∙ ap (priority_from 0 signatures) (sym is)
      | inr ge ↦
          let is : min n least ≡ least = omega arith in
          let falls = priority_falls 0 signatures least n ge in
          let top : dominating_priority signatures (n ∷ (x ∷ xs)) ≡ priority_from 0 signatures least = omega arith in
          top ∙ ap (priority_from 0 signatures) (sym is)
    ]

pub least_below : (n : ℕ) (over : List ℕ) → least_of n over ≤ n
least_below n [] = omega arith
least_below n (x ∷ xs) = omega arith

supporting_begins : (b : Bool) → begins (supporting b) ≡ b
supporting_begins true = refl
supporting_begins false = refl

pub player_is : (b : Bool) → player_for b ≡ player b
player_is true = refl
player_is false = refl

pub in_graph : (graph : Graph) (n : ℕ) (over : List ℕ) (m : ℕ) → RestsThrough graph n over m → Contains graph.instances n
in_graph graph n [] m h = h.0
in_graph graph n (x ∷ xs) m h = h.0.0

sign_is : (b : Bool) (s : Sign) → parity_of (player (begins s)) ≡ parity_of (player b) → s ≡ supporting b
sign_is true Mu h = cc
sign_is true Nu h = refl
sign_is false Mu h = refl
sign_is false Nu h = cc

module _ (signatures : List Signature) (b : Bool) (n : ℕ) (below : n < total signatures) (over : List ℕ) where
  least_parity : priority_from 0 signatures (least_of n over) % 2 ≡ parity_of (player (begins (sign_from 0 signatures (least_of n over))))
  least_parity =
      let low = least_below n over in
      elim (priority_parity 0 signatures (least_of n over) (omega arith)) [ inl parity ↦ parity | inr none ↦ absurd (omega arith) ]

  pub priority_of_sign : dominating_sign signatures n over ≡ supporting b → dominating_priority signatures (n ∷ over) % 2 ≡ parity_of (player b)
  priority_of_sign h =
      ap (λ p. p % 2) (dominating_is signatures n over) ∙ (least_parity ∙ (ap (λ s. parity_of (player (begins s))) h ∙ ap (λ x. parity_of (player x)) (supporting_begins b)))

  pub sign_of_priority : dominating_priority signatures (n ∷ over) % 2 ≡ parity_of (player b) → dominating_sign signatures n over ≡ supporting b
  sign_of_priority h = sign_is b (sign_from 0 signatures (least_of n over)) (sym least_parity ∙ (ap (λ p. p % 2) (sym (dominating_is signatures n over)) ∙ h))

-- the dominating equation's sign is that of the greatest priority
pub priorities_support : PrioritiesSupport
priorities_support signatures trees b graph is n over h =
    priority_of_sign signatures b n (is.below n (in_graph graph n over n h)) over (is.cycles n over h) ∙ sym (ap parity_of (player_is b))
