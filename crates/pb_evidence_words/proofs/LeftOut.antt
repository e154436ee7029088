-- Lines that only pass on, and the lines behind them.
use Rattle.std.proofs.Common.{◌≡◌, ◌⊎◌, ℕ, zero, suc, ◌+◌, ◌-◌, ◌==◌, ◌<◌, ◌≤◌, Bool, true, false, true≢false, not, ◌&&◌, ◌||◌, List, [], ◌∷◌, ◌++◌, length, inl, inr, refl, sym, ap, ◌∙◌, subst, arith}
use Rattle.std.specs.Prelude.{codes, decimal, if◌then◌else◌, slice_index}
use Rattle.std.proofs.lemmas.Bool.{and_parts, false_from_ne_true, cases_lt, cases_eq, eq-eqb, ne_eqb}
use Rattle.std.proofs.Math.Bool.{or-false}
use Rattle.std.proofs.lemmas.Bool.Decides.{Decides-eqb}
use Rattle.std.proofs.lemmas.List.Sums.{fails_before_first, passes_at_first}
use Rattle.pb_game.specs.Adjacency.{is_among}
use Rattle.pb_evidence.specs.ProofGraphs.{Graph}
use Rattle.pb_evidence.proofs.Proving.{test_of}
use Rattle.pb_evidence_words.specs.Order.{has_edge, last_below, last_caller_at, leads_on, parent_at, parent_of, place_of}
use Rattle.pb_evidence_words.specs.Passing.{EdgesLeadToWrittenLines, OriginsAreWritten}
use Rattle.pb_evidence_words.specs.WhyText.{Told, below_text, dependencies_at, follows, from_text, is_cut_at}
use Rattle.pb_evidence_words.specs.WhyText.{is_link, line_text, origin_at, is_left_out, stays_at, written_text}

-- ---- the words of a line

pub from-nowhere : (t : Told) (k : ℕ) → follows t k ≡ true → from_text t k ≡ []
from-nowhere t k is = ap (λ b. if b then [] else (codes "from " ++ (decimal (origin_at t k + 1) ++ codes " "))) is

pub from-origin : (t : Told) (k p : ℕ) → p ≡ origin_at t k → follows t k ≡ false → codes "from " ++ (decimal (p + 1) ++ codes " ") ≡ from_text t k
from-origin t k p is other =
    ap (λ (n : ℕ). codes "from " ++ (decimal (n + 1) ++ codes " ")) is
    ∙ sym (ap (λ b. if b then [] else (codes "from " ++ (decimal (origin_at t k + 1) ++ codes " "))) other)

pub written-none : (t : Told) (k : ℕ) → is_left_out t k ≡ true → written_text t k ≡ []
written-none t k is = ap (λ b. if b then [] else (line_text t k ++ below_text t k)) is

pub written-some : (t : Told) (k : ℕ) → is_left_out t k ≡ false → line_text t k ++ below_text t k ≡ written_text t k
written-some t k is = sym (ap (λ b. if b then [] else (line_text t k ++ below_text t k)) is)

-- ---- the line behind one that passes on, and behind another

pub origin-on : (t : Told) (k : ℕ) → 0 < k → is_left_out t (k - 1) ≡ true → (origin_at t k ≡ origin_at t (k - 1)) × (follows t k ≡ follows t (k - 1))
origin-on t zero later is = absurd (omega arith)
origin-on t (suc j) later is =
    let e : suc j - 1 ≡ j = omega arith in
    let here : is_left_out t j ≡ true = subst (λ n. is_left_out t n ≡ true) e is in (
      ap (λ b. if b then origin_at t j else parent_at t.graph (suc j)) here ∙ sym (ap (origin_at t) e),
      ap (λ b. if b then follows t j else (parent_at t.graph (suc j) == j)) here ∙ sym (ap (follows t) e),
    )

pub origin-here : (t : Told) (k : ℕ) → 0 < k → is_left_out t (k - 1) ≡ false → (origin_at t k ≡ parent_at t.graph k) × (follows t k ≡ (parent_at t.graph k == (k - 1)))
origin-here t zero later is = absurd (omega arith)
origin-here t (suc j) later is =
    let e : suc j - 1 ≡ j = omega arith in
    let here : is_left_out t j ≡ false = subst (λ n. is_left_out t n ≡ false) e is in (
      ap (λ b. if b then origin_at t j else parent_at t.graph (suc j)) here,
      ap (λ b. if b then follows t j else (parent_at t.graph (suc j) == j)) here ∙ ap (λ n. parent_at t.graph (suc j) == n) (sym e),
    )

-- ---- what is left out

-- of one instance it is asked whether it is the next line's
pub one-leads : (graph : Graph) (k : ℕ) (xs : List ℕ) → length xs ≡ 1
    → ((place_of graph (slice_index xs 0) == suc k) && not (has_edge graph k (slice_index xs 0))) ≡ leads_on graph k xs
one-leads graph k [] one = absurd (omega arith)
one-leads graph k (n ∷ []) one = refl
one-leads graph k (n ∷ m ∷ xs) one = absurd (omega arith)

-- the last line that rests on an instance is none before one that does
last-above : (graph : Graph) (n m k : ℕ) → k < m → is_among (graph.dependencies (slice_index graph.instances k)) n ≡ true → k ≤ last_below graph n m
last-above graph n zero k less rests = absurd (omega arith)
last-above graph n (suc m) k less rests = by (is_among (graph.dependencies (slice_index graph.instances m)) n) refl (cases_eq k m) (λ below. last-above graph n m k below rests)
  where
    by : (b : Bool) → is_among (graph.dependencies (slice_index graph.instances m)) n ≡ b → (k ≡ m) ⊎ (k ≡ m → ⊥) → (k < m → k ≤ last_below graph n m)
        → k ≤ (if b then m else last_below graph n m)
    by true is at before = omega arith
    by false is (inl same) before = absurd (true≢false (sym rests ∙ (ap (λ j. is_among (graph.dependencies (slice_index graph.instances j)) n) same ∙ is)))
    by false is (inr other) before = before (omega (arith, other))

-- and the first one none behind it
first-below : (graph : Graph) (n k : ℕ) → is_among (graph.dependencies (slice_index graph.instances k)) n ≡ true → parent_of graph n ≤ k
first-below graph n k rests = elim (cases_lt k (parent_of graph n)) [
  | inl less ↦ absurd (true≢false (sym rests ∙ fails_before_first (λ x. is_among (graph.dependencies x) n) graph.instances k 0 less))
  | inr over ↦ over
]

edge-elsewhere : (graph : Graph) (k n j : ℕ) → place_of graph n ≡ suc j → has_edge graph k n ≡ true → parent_of graph n ≡ k → ⊥
edge-elsewhere graph k n j at edge from =
    true≢false (sym edge ∙ (ap (λ b. b || not (parent_of graph n == k)) (ne_eqb (place_of graph n) 0 (λ e. omega (arith, at, e)))
    ∙ ap not (eq-eqb (parent_of graph n) k from)))

pub edges-written : EdgesLeadToWrittenLines
edges-written t k n within rests there edge = false_from_ne_true (is_left_out t (place_of t.graph n)) (λ passes. by (place_of t.graph n) refl passes)
  where
    among : is_among (t.graph.dependencies (slice_index t.graph.instances k)) n ≡ true
    among = test_of (dependencies_at t k) n rests

    by : (j : ℕ) → place_of t.graph n ≡ j → is_left_out t j ≡ true → ⊥
    by zero at passes = true≢false (sym passes)
    by (suc j) at passes =
        let link = (and_parts (is_link t (suc j)) (stays_at t (suc j)) passes).0 in
        let single = last_caller_at t.graph (suc j) == parent_at t.graph (suc j) in
        let on = leads_on t.graph (suc j) (dependencies_at t (suc j)) in
        let one = (and_parts single on (and_parts (not (is_cut_at t (suc j))) (single && on) link).1).0 in
        let here : slice_index t.graph.instances (suc j) ≡ n = ap (slice_index t.graph.instances) (sym at) ∙ there in
        let same : last_below t.graph n (length t.graph.instances) ≡ parent_of t.graph n =
        ap (λ m. last_below t.graph m (length t.graph.instances)) (sym here) ∙ ((Decides-eqb (last_caller_at t.graph (suc j)) (parent_at t.graph (suc j))).0 one ∙ ap (parent_of t.graph) here) in
        edge-elsewhere t.graph k n j at edge
        (omega (arith, last-above t.graph n (length t.graph.instances) k within among, first-below t.graph n k among, same))

-- ---- where written lines come from

-- what a line leads on to is the next line's instance
leads-to : (graph : Graph) (j m : ℕ) (ds : List ℕ) → leads_on graph j ds ≡ true → is_among ds m ≡ true → place_of graph m ≡ suc j
leads-to graph j m [] is among = absurd (true≢false (sym is))
leads-to graph j m (n ∷ []) is among =
    let same : n ≡ m = (Decides-eqb n m).0 (sym (or-false (n == m)) ∙ among) in
    ap (place_of graph) (sym same) ∙ (Decides-eqb (place_of graph n) (suc j)).0 (and_parts (place_of graph n == suc j) (not (has_edge graph j n)) is).0
leads-to graph j m (n ∷ o ∷ ds) is among = absurd (true≢false (sym is))

-- a line that is left out has the next one behind it
left-behind : (t : Told) (p m : ℕ) → is_left_out t p ≡ true → is_among (dependencies_at t p) m ≡ true → place_of t.graph m ≡ suc p
left-behind t zero m out among = absurd (true≢false (sym out))
left-behind t (suc q) m out among =
    let link = (and_parts (is_link t (suc q)) (stays_at t (suc q)) out).0 in
    let on = (and_parts _ (leads_on t.graph (suc q) (dependencies_at t (suc q))) (and_parts _ _ link).1).1 in
    leads-to t.graph (suc q) m (dependencies_at t (suc q)) on among

pub origins-written : OriginsAreWritten
origins-written t zero listing within = refl
origins-written t (suc k) listing within = by (is_left_out t k) refl (origins-written t k listing (omega arith))
  where
    p : ℕ
    p = parent_at t.graph (suc k)

    m : ℕ
    m = slice_index t.graph.instances (suc k)

    among : is_among (dependencies_at t p) m ≡ true
    among = passes_at_first (λ x. is_among (t.graph.dependencies x) m) t.graph.instances 0 (listing.reached (suc k) (omega arith) within)

    by : (b : Bool) → is_left_out t k ≡ b → is_left_out t (origin_at t k) ≡ false → is_left_out t (if b then origin_at t k else p) ≡ false
    by true is before = before
    by false is before = false_from_ne_true (is_left_out t p) (λ out. not-here is (omega (arith, left-behind t p m out among, listing.once (suc k) within)) out)
      where
        not-here : is_left_out t k ≡ false → p ≡ k → is_left_out t p ≡ true → ⊥
        not-here other same out = true≢false (sym out ∙ (ap (is_left_out t) same ∙ other))
