-- Static counts by one forward pass, each of which stops at a bound.
use Rattle.std.proofs.Common.{◌≡◌, ℕ, zero, suc, ◌+◌, ◌-◌, ◌*◌, ◌<◌, ◌≤◌, min, List, [], ◌∷◌, ◌++◌, length, drop, take, Some, refl, sym, ap, ◌∙◌, arith, get_or, length-append, leb, true, false, ⊎_elim}
use Rattle.std.specs.Prelude.{slice_get}
use Rattle.std.proofs.Math.Nat.{mul-suc}
use Rattle.std.proofs.lemmas.Bool.Decides.{leb_tells}
use Rattle.std.proofs.Math.Seq.{take-append_seam, get_or-append_seam}
use Rattle.std.proofs.lemmas.List.{drop_all}
use Rattle.pb_sorts.proofs.Places.{drop-slice_get}
use Rattle.pb_bytecode_program.specs.Machine.{Program, carrier_of}
use Rattle.pb_bytecode_program.specs.Counts.{LoopEffect, Enters, Leaves, Straight, loop_effect, loops_after, loops_around, carrier_size, multiplier, cost_by, cost_of, one_step, tokens_of, static_steps, static_tokens}
use Rattle.pb_bytecode_program.specs.declared.instruction.Op.{Op}
use Rattle.pb_bytecode_program.proofs.Places.{around_next}
use Rattle.pb_verifier_structure.specs.Structure.{IsStructured}
use Rattle.pb_verifier_structure.specs.declared.counts.TheConstants.{SATURATED}
use Rattle.pb_verifier_structure.proofs.Around.{start_around}

-- a count that stops
abbrev pub stopped : ℕ → ℕ
stopped n = min n SATURATED

-- the counts, the innermost loop's last
abbrev pub stacked : List ℕ → List ℕ
stacked [] = []
stacked (w ∷ ws) = stacked ws ++ stopped w ∷ []

pub stacked_long : (ws : List ℕ) → length (stacked ws) ≡ length ws
stacked_long [] = refl
stacked_long (w ∷ ws) = omega (arith, length-append (stacked ws) (stopped w ∷ []), stacked_long ws)

pub last_weight : (ws items : List ℕ) → items ≡ stacked ws → get_or items (length items - 1) 1 ≡ stopped (multiplier ws)
last_weight [] items e = rw e refl
last_weight (w ∷ ws) items e =
    let long : length items - 1 ≡ length (stacked ws) = omega (arith, ap length e, length-append (stacked ws) (stopped w ∷ [])) in
    rw (long, e) (get_or-append_seam (stacked ws) (stopped w) [] 1)

-- ---- arithmetic on counts that stop

stopped_sum : (a b m n : ℕ) → a ≡ stopped m → b ≡ stopped n → min (a + b) SATURATED ≡ stopped (m + n)
stopped_sum a b m n e f = omega arith

stopped_product : (a m n : ℕ) → a ≡ stopped m → min (a * n) SATURATED ≡ stopped (m * n)
stopped_product a m zero e = omega arith
stopped_product a m (suc n) e = ⊎_elim
    (λ (small : (leb m SATURATED ≡ true) × (m ≤ SATURATED)). let l = small.1 in let same : a ≡ m = omega arith in ap (λ x. min (x * suc n) SATURATED) same)
    (λ (large : (leb m SATURATED ≡ false) × (SATURATED < m)). let l = large.1 in omega (arith, mul-suc m n, mul-suc a n))
    (leb_tells m SATURATED)

-- ---- one instruction

-- the counts of the loops around, after an instruction
abbrev pub weights_after : Program → LoopEffect → List ℕ → List ℕ
weights_after p (Enters i) ws = multiplier ws * carrier_size (carrier_of p i) ∷ ws
weights_after p Leaves [] = []
weights_after p Leaves (w ∷ ws) = ws
weights_after p Straight ws = ws

cost_split : (p : Program) (t : LoopEffect) (c : ℕ) (ws : List ℕ) (rest : List ℕ → ℕ) → (t ≡ Leaves → 0 < length ws) → cost_by p t c ws rest ≡ multiplier ws * c + rest (weights_after p t ws)
cost_split p (Enters i) c ws rest h = refl
cost_split p Leaves c [] rest h = absurd (let x = h refl in omega arith)
cost_split p Leaves c (w ∷ ws) rest h = refl
cost_split p Straight c ws rest h = refl

depth_after : (p : Program) (t : LoopEffect) (q : ℕ) (ws st : List ℕ) → length ws ≡ length st → length (weights_after p t ws) ≡ length (loops_after t q st)
depth_after p (Enters i) q ws st e = ap suc e
depth_after p Leaves q [] [] e = refl
depth_after p Leaves q [] (x ∷ st) e = absurd (omega arith)
depth_after p Leaves q (w ∷ ws) [] e = absurd (omega arith)
depth_after p Leaves q (w ∷ ws) (x ∷ st) e = omega arith
depth_after p Straight q ws st e = e

-- the counts before the place q, of which the code's list has those of the loops around
pub record IsCounted (p : Program) (q : ℕ) (items : List ℕ) (steps tokens : ℕ) : Type 0 where
  pub weights : List ℕ
  pub same : items ≡ stacked weights
  pub deep : length weights ≡ length (loops_around p.code q)
  pub step_sum : ℕ
  pub token_sum : ℕ
  pub steps_before : steps ≡ stopped step_sum
  pub tokens_before : tokens ≡ stopped token_sum
  pub all_steps : static_steps p ≡ step_sum + cost_of p one_step (drop q p.code) weights
  pub all_tokens : static_tokens p ≡ token_sum + cost_of p tokens_of (drop q p.code) weights

pub begun : (p : Program) → IsCounted p 0 [] 0 0
begun p = record {
  weights = [];
  same = refl;
  deep = ap (λ (st : List ℕ). length st) (sym (start_around p.code));
  step_sum = 0;
  token_sum = 0;
  steps_before = refl;
  tokens_before = refl;
  all_steps = omega arith;
  all_tokens = omega arith;
}

module _ (p : Program) (w : IsStructured p) (q : ℕ) (items : List ℕ) (steps tokens : ℕ) (h : IsCounted p q items steps tokens) (i : Op) (here : slice_get p.code q ≡ Some i) where
  some_around : loop_effect i ≡ Leaves → 0 < length h.weights
  some_around e = let x = w.closes q i here e in let d = h.deep in omega arith

  cost_next : (cost : Op → ℕ) → cost_of p cost (drop q p.code) h.weights ≡ multiplier h.weights * cost i + cost_of p cost (drop (q + 1) p.code) (weights_after p (loop_effect i) h.weights)
  cost_next cost = ap (λ is. cost_of p cost is h.weights) (drop-slice_get p.code q i here) ∙ cost_split p (loop_effect i) (cost i) h.weights (cost_of p cost (drop (q + 1) p.code)) some_around

  more : (x y : ℕ) → x ≡ stopped (multiplier h.weights) → y ≡ stopped (multiplier h.weights * tokens_of i)
      → (after : List ℕ) → after ≡ stacked (weights_after p (loop_effect i) h.weights)
      → IsCounted p (q + 1) after (min (steps + x) SATURATED) (min (tokens + y) SATURATED)
  more x y e f after same = record {
    weights = weights_after p (loop_effect i) h.weights;
    same = same;
    deep = depth_after p (loop_effect i) q h.weights (loops_around p.code q) h.deep ∙ ap (λ (st : List ℕ). length st) (sym (around_next p.code q i here));
    step_sum = h.step_sum + multiplier h.weights;
    token_sum = h.token_sum + multiplier h.weights * tokens_of i;
    steps_before = stopped_sum steps x h.step_sum (multiplier h.weights) h.steps_before e;
    tokens_before = stopped_sum tokens y h.token_sum (multiplier h.weights * tokens_of i) h.tokens_before f;
    all_steps = let a = h.all_steps in let b = cost_next one_step in omega arith;
    all_tokens = let a = h.all_tokens in let b = cost_next tokens_of in omega arith;
  }

  module _ (x y : ℕ) (e : x ≡ get_or items (length items - 1) 1) (f : y ≡ min (x * tokens_of i) SATURATED) where
    here_weight : x ≡ stopped (multiplier h.weights)
    here_weight = e ∙ last_weight h.weights items h.same

    here_tokens : y ≡ stopped (multiplier h.weights * tokens_of i)
    here_tokens = f ∙ stopped_product x (multiplier h.weights) (tokens_of i) here_weight

    pub counted_in : (slot n : ℕ) → loop_effect i ≡ Enters slot
        → n ≡ min (x * carrier_size (carrier_of p slot)) SATURATED
        → IsCounted p (q + 1) (items ++ n ∷ []) (min (steps + x) SATURATED) (min (tokens + y) SATURATED)
    counted_in slot n t g =
        more x y here_weight here_tokens (items ++ n ∷ [])
        (ap (λ (ws : List ℕ). ws ++ n ∷ []) h.same
        ∙ ap (λ m. stacked h.weights ++ m ∷ [])
        (g ∙ stopped_product x (multiplier h.weights) (carrier_size (carrier_of p slot)) here_weight)
        ∙ ap (λ u. stacked (weights_after p u h.weights)) (sym t))

    pub counted_out : loop_effect i ≡ Leaves → IsCounted p (q + 1) (take (length items - 1) items) (min (steps + x) SATURATED) (min (tokens + y) SATURATED)
    counted_out t =
        more x y here_weight here_tokens (take (length items - 1) items)
        (rest h.weights items h.same (some_around t) ∙ ap (λ u. stacked (weights_after p u h.weights)) (sym t))
      where
        rest : (ws items : List ℕ) → items ≡ stacked ws → 0 < length ws → take (length items - 1) items ≡ stacked (weights_after p Leaves ws)
        rest [] items e l = absurd (omega arith)
        rest (v ∷ ws) items e l =
            let long : length items - 1 ≡ length (stacked ws) = omega (arith, ap length e, length-append (stacked ws) (stopped v ∷ [])) in
            rw (long, e) (take-append_seam (stacked ws) (stopped v ∷ []))

    pub counted_on : loop_effect i ≡ Straight → IsCounted p (q + 1) items (min (steps + x) SATURATED) (min (tokens + y) SATURATED)
    counted_on t = more x y here_weight here_tokens items (h.same ∙ ap (λ u. stacked (weights_after p u h.weights)) (sym t))

pub counted_all : (p : Program) (q : ℕ) (items : List ℕ) (steps tokens : ℕ) → IsCounted p q items steps tokens
    → length p.code ≤ q → (steps ≡ min (static_steps p) SATURATED) × (tokens ≡ min (static_tokens p) SATURATED)
counted_all p q items steps tokens h l =
    let none = drop_all q p.code l in
    let a = h.all_steps in
    let b = h.all_tokens in
    let s : cost_of p one_step (drop q p.code) h.weights ≡ 0 = ap (λ is. cost_of p one_step is h.weights) none in
    let t : cost_of p tokens_of (drop q p.code) h.weights ≡ 0 = ap (λ is. cost_of p tokens_of is h.weights) none in
    let c = h.steps_before in
    let d = h.tokens_before in
    (omega arith, omega arith)
