-- Loops by position, and what is left to run.
use Rattle.std.proofs.Common.{◌≡◌, ℕ, zero, suc, ◌+◌, ◌*◌, ◌<◌, ◌≤◌, cond, List, [], ◌∷◌, ◌++◌, length, drop, Some, refl, sym, ap, ◌∙◌, subst, arith, add-one, length-append}
use Rattle.std.specs.Prelude.{slice_get, nat_lt}
use Rattle.std.proofs.Math.Nat.{mul-add, mul_assoc, suc-mul}
use Rattle.std.proofs.lemmas.Bool.{lt-ltb, le-ltb}
use Rattle.std.proofs.lemmas.List.{drop-drop}
use Rattle.pb_sorts.proofs.Places.{drop-slice_get}
use Rattle.pb_bytecode_program.specs.Machine.{Program, Frame, carrier_of}
use Rattle.pb_bytecode_program.specs.Counts.{LoopEffect, Enters, Leaves, Straight, loop_effect, loops_after, loops_open_after, loops_around, carrier_size, multiplier, cost_by, cost_of}
use Rattle.pb_bytecode_program.specs.declared.instruction.Op.{Op}

-- the instructions up to n pair among themselves, d of them being open at the start
abbrev pub PairedBy : LoopEffect → ℕ → ℕ → (ℕ → Type 0) → Type 0
PairedBy (Enters i) n d rest = rest (suc d)
PairedBy Leaves n zero rest = ⊥
PairedBy Leaves n (suc d) rest = rest d
PairedBy Straight n d rest = rest d

abbrev pub Paired : List Op → ℕ → ℕ → Type 0
Paired [] n d = d ≡ 0
Paired (i ∷ is) zero d = d ≡ 0
Paired (i ∷ is) (suc n) d = PairedBy (loop_effect i) n d (Paired is n)

-- what follows the end of the body
abbrev pub after_by : LoopEffect → ℕ → List Op → (ℕ → List Op) → List Op
after_by (Enters i) d is rest = rest (suc d)
after_by Leaves zero is rest = is
after_by Leaves (suc d) is rest = rest d
after_by Straight d is rest = rest d

abbrev pub after_body : List Op → ℕ → List Op
after_body [] d = []
after_body (i ∷ is) d = after_by (loop_effect i) d is (after_body is)

-- ---- what is around a place

pub open_zero : (is : List Op) (q : ℕ) (st : List ℕ) → loops_open_after is q st 0 ≡ st
open_zero [] q st = refl
open_zero (i ∷ is) q st = refl

open_next : (is : List Op) (q : ℕ) (st : List ℕ) (n : ℕ) (i : Op) → slice_get is n ≡ Some i → loops_open_after is q st (suc n) ≡ loops_after (loop_effect i) (q + n) (loops_open_after is q st n)
open_next [] q st n i h = cc
open_next (j ∷ is) q st zero i h =
    let e : j ≡ i = cc in
    let z : q + 0 ≡ q = omega arith in
    open_zero is (q + 1) (loops_after (loop_effect j) q st) ∙ ap (λ (x : Op). loops_after (loop_effect x) q st) e ∙ ap (λ m. loops_after (loop_effect i) m st) (sym z)
open_next (j ∷ is) q st (suc n) i h =
    let e : q + 1 + n ≡ q + suc n = omega arith in
    open_next is (q + 1) (loops_after (loop_effect j) q st) n i h
    ∙ ap (λ m. loops_after (loop_effect i) m (loops_open_after is (q + 1) (loops_after (loop_effect j) q st) n)) e

pub around_next : (code : List Op) (q : ℕ) (i : Op) → slice_get code q ≡ Some i → loops_around code (q + 1) ≡ loops_after (loop_effect i) q (loops_around code q)
around_next code q i h = rw add-one (open_next code 0 [] q i h ∙ ap (λ m. loops_after (loop_effect i) m (loops_around code q)) (let z : 0 + q ≡ q = omega arith in z))

open_split : (is : List Op) (q : ℕ) (st : List ℕ) (m n : ℕ) → loops_open_after is q st (m + n) ≡ loops_open_after (drop m is) (q + m) (loops_open_after is q st m) n
open_split is q st zero n =
    let z : 0 + n ≡ n = omega arith in
    let y : q ≡ q + 0 = omega arith in
    ap (loops_open_after is q st) z ∙ ap (λ (s : List ℕ). loops_open_after is q s n) (sym (open_zero is q st)) ∙ ap (λ r. loops_open_after is r (loops_open_after is q st 0) n) y
open_split [] q st (suc m) n = refl
open_split (i ∷ is) q st (suc m) n =
    let z : suc m + n ≡ suc (m + n) = omega arith in
    let y : q + 1 + m ≡ q + suc m = omega arith in
    ap (loops_open_after (i ∷ is) q st) z ∙ open_split is (q + 1) (loops_after (loop_effect i) q st) m n
    ∙ ap (λ r. loops_open_after (drop m is) r (loops_open_after is (q + 1) (loops_after (loop_effect i) q st) m) n) y

-- how many are below k
abbrev below : ℕ → List ℕ → ℕ
below k [] = 0
below k (x ∷ xs) = cond (nat_lt x k) 1 0 + below k xs

below_turn : (t : LoopEffect) (k q : ℕ) (st : List ℕ) → k ≤ q → below k (loops_after t q st) ≤ below k st
below_turn (Enters i) k q st h = rw (le-ltb q k h) (omega arith)
below_turn Leaves k q [] h = omega arith
below_turn Leaves k q (x ∷ st) h = omega arith
below_turn Straight k q st h = omega arith

-- what is opened later is not below
below_open : (is : List Op) (k q : ℕ) (st : List ℕ) (n : ℕ) → k ≤ q → below k (loops_open_after is q st n) ≤ below k st
below_open [] k q st n h = omega arith
below_open (i ∷ is) k q st zero h = omega arith
below_open (i ∷ is) k q st (suc n) h =
    omega (arith, below_open is k (q + 1) (loops_after (loop_effect i) q st) n (omega arith), below_turn (loop_effect i) k q st h)

abbrev pub AllBelow : ℕ → List ℕ → Type 0
AllBelow k [] = Unit {0}
AllBelow k (x ∷ xs) = (x < k) × AllBelow k xs

all_more : (k : ℕ) (xs : List ℕ) → AllBelow k xs → AllBelow (k + 1) xs
all_more k [] h = tt
all_more k (x ∷ xs) h = (let y = h.0 in omega arith, all_more k xs h.1)

all_turn : (t : LoopEffect) (q : ℕ) (st : List ℕ) → AllBelow q st → AllBelow (q + 1) (loops_after t q st)
all_turn (Enters i) q st h = (omega arith, all_more q st h)
all_turn Leaves q [] h = tt
all_turn Leaves q (x ∷ st) h = all_more q st h.1
all_turn Straight q st h = all_more q st h

all_open : (is : List Op) (q : ℕ) (st : List ℕ) (n : ℕ) → AllBelow q st → AllBelow (q + n) (loops_open_after is q st n)
all_open [] q st zero h = let z : q ≡ q + 0 = omega arith in subst (λ m. AllBelow m st) z h
all_open [] q st (suc n) h = let z : q + n + 1 ≡ q + suc n = omega arith in subst (λ m. AllBelow m st) z (all_more (q + n) st (all_open [] q st n h))
all_open (i ∷ is) q st zero h = let z : q ≡ q + 0 = omega arith in subst (λ m. AllBelow m st) z h
all_open (i ∷ is) q st (suc n) h =
    let z : q + 1 + n ≡ q + suc n = omega arith in
    subst (λ m. AllBelow m (loops_open_after is (q + 1) (loops_after (loop_effect i) q st) n)) z (all_open is (q + 1) (loops_after (loop_effect i) q st) n (all_turn (loop_effect i) q st h))

pub around_below : (code : List Op) (q : ℕ) → AllBelow q (loops_around code q)
around_below code q = let z : 0 + q ≡ q = omega arith in subst (λ m. AllBelow m (loops_around code q)) z (all_open code 0 [] q tt)

below_all : (k : ℕ) (xs : List ℕ) → AllBelow k xs → below k xs ≡ length xs
below_all k [] h = refl
below_all k (x ∷ xs) h = rw (lt-ltb x k h.0) (omega (arith, below_all k xs h.1))

get_drop : (code : List Op) (q m : ℕ) → slice_get (drop q code) m ≡ slice_get code (q + m)
get_drop code zero m = let z : m ≡ 0 + m = omega arith in ap (slice_get code) z
get_drop [] (suc q) m = refl
get_drop (i ∷ is) (suc q) m = let z : suc (q + m) ≡ suc q + m = omega arith in get_drop is q m ∙ ap (slice_get (i ∷ is)) z

-- each NEXT of these instructions ends a loop
abbrev Closes : List Op → ℕ → List ℕ → Type 0
Closes is q st = (m : ℕ) (i : Op) → slice_get is m ≡ Some i → loop_effect i ≡ Leaves → 0 < length (loops_open_after is q st m)

-- where the loops around are the same again, what is between pairs
module _ (base : List ℕ) (k : ℕ) (all : AllBelow k base) where
  paired_turn : (t : LoopEffect) (is : List Op) (q : ℕ) (ex : List ℕ) (n : ℕ) → k ≤ q
      → (t ≡ Leaves → 0 < length (ex ++ base)) → loops_open_after is (q + 1) (loops_after t q (ex ++ base)) n ≡ base
      → ((ex' : List ℕ) → ex' ++ base ≡ loops_after t q (ex ++ base)
      → loops_open_after is (q + 1) (ex' ++ base) n ≡ base → Paired is n (length ex')) → PairedBy t n (length ex) (Paired is n)
  paired_turn (Enters i) is q ex n h c e f = f (q ∷ ex) refl e
  paired_turn Leaves is q (x ∷ ex) n h c e f = f ex refl e
  paired_turn Leaves is q [] n h c e f = lost base all (c refl) refl e
    where
      lost : (st : List ℕ) → AllBelow k st → 0 < length st → st ≡ base → loops_open_after is (q + 1) (loops_after Leaves q st) n ≡ base → ⊥
      lost [] a l s e = omega arith
      lost (x ∷ st) a l s e =
          let fewer : below k base ≤ below k st = subst (λ ys. below k ys ≤ below k st) e (below_open is k (q + 1) st n (omega arith)) in
          omega (arith, below_all k base all, below_all k st a.1, ap length s)
  paired_turn Straight is q ex n h c e f = f ex refl e

  paired_from : (is : List Op) (q : ℕ) (ex : List ℕ) (n : ℕ) → k ≤ q → Closes is q (ex ++ base) → loops_open_after is q (ex ++ base) n ≡ base → Paired is n (length ex)
  paired_from [] q ex n h c e = omega (arith, ap length e, length-append ex base)
  paired_from (i ∷ is) q ex zero h c e = omega (arith, ap length e, length-append ex base)
  paired_from (i ∷ is) q ex (suc n) h c e =
      paired_turn (loop_effect i) is q ex n h (λ w. c 0 i refl w) e
      (λ ex' s e'. paired_from is (q + 1) ex' n (omega arith)
      (λ m j at w. subst (λ st. 0 < length (loops_open_after is (q + 1) st m)) (sym s) (c (suc m) j at w)) e')

-- a later place with the same loops around it
pub paired : (code : List Op) (q n : ℕ)
    → ((m : ℕ) (i : Op) → slice_get code m ≡ Some i → loop_effect i ≡ Leaves → 0 < length (loops_around code m))
    → loops_around code (q + n) ≡ loops_around code q → Paired (drop q code) n 0
paired code q n c e =
    let z : 0 + q ≡ q = omega arith in
    let range_edges : (m : ℕ) → loops_around code (q + m) ≡ loops_open_after (drop q code) q (loops_around code q) m =
    λ m. open_split code 0 [] q m ∙ ap (λ r. loops_open_after (drop q code) r (loops_around code q) m) z in
    paired_from (loops_around code q) q (around_below code q) (drop q code) q [] n (omega arith)
    (λ m i at w. subst (λ st. 0 < length st) (range_edges m) (c (q + m) i (sym (get_drop code q m) ∙ at) w))
    (sym (range_edges n) ∙ e)

-- ---- counts

module _ (p : Program) (cost : Op → ℕ) where
  dropped_turn : (t : LoopEffect) (c n : ℕ) (is : List Op) (ws : List ℕ) → PairedBy t n (length ws) (Paired is n)
      → ((us : List ℕ) → Paired is n (length us) → cost_of p cost (drop n is) [] ≤ cost_of p cost is us)
      → cost_of p cost (drop n is) [] ≤ cost_by p t c ws (cost_of p cost is)
  dropped_turn (Enters i) c n is ws h f = omega (arith, f (multiplier ws * carrier_size (carrier_of p i) ∷ ws) h)
  dropped_turn Leaves c n is [] h f = absurd h
  dropped_turn Leaves c n is (w ∷ ws) h f = omega (arith, f ws h)
  dropped_turn Straight c n is ws h f = omega (arith, f ws h)

  -- a jump leaves no more to do
  pub dropped : (is : List Op) (n : ℕ) (ws : List ℕ) → Paired is n (length ws) → cost_of p cost (drop n is) [] ≤ cost_of p cost is ws
  dropped [] zero ws h = omega arith
  dropped [] (suc n) ws h = omega arith
  dropped (i ∷ is) zero [] h = omega arith
  dropped (i ∷ is) zero (w ∷ ws) h = absurd (omega arith)
  dropped (i ∷ is) (suc n) ws h = dropped_turn (loop_effect i) (cost i) n is ws h (dropped is n)

  abbrev scaled : ℕ → List ℕ → List ℕ
  scaled n [] = n ∷ []
  scaled n (w ∷ ws) = n * w ∷ scaled n ws

  times_scaled : (n : ℕ) (ws : List ℕ) → multiplier (scaled n ws) ≡ n * multiplier ws
  times_scaled n [] = omega arith
  times_scaled n (w ∷ ws) = refl

  ring : (n t c x y : ℕ) → n * t * c + (n * x + y) ≡ n * (t * c + x) + y
  ring n t c x y = rw (mul-add n (t * c) x, mul_assoc n t c) (omega arith)

  -- a body that runs n times, and what follows it
  scale_turn : (t : LoopEffect) (c n : ℕ) (is : List Op) (ws : List ℕ)
      → ((us : List ℕ)
      → cost_of p cost is (scaled n us) ≡ n * cost_of p cost is us + cost_of p cost (after_body is (length us)) [])
      → cost_by p t c (scaled n ws) (cost_of p cost is)
      ≡ n * cost_by p t c ws (cost_of p cost is) + cost_of p cost (after_by t (length ws) is (after_body is)) []
  scale_turn (Enters i) c n is ws f =
      let e : n * multiplier ws * carrier_size (carrier_of p i) ≡ n * (multiplier ws * carrier_size (carrier_of p i)) = mul_assoc n (multiplier ws) (carrier_size (carrier_of p i)) in
      rw (times_scaled n ws, e, f (multiplier ws * carrier_size (carrier_of p i) ∷ ws)) (ring n (multiplier ws) c _ _)
  scale_turn Leaves c n is [] f = refl
  scale_turn Leaves c n is (w ∷ ws) f = rw (f ws) (ring n w c _ _)
  scale_turn Straight c n is ws f = rw (times_scaled n ws, f ws) (ring n (multiplier ws) c _ _)

  scale : (is : List Op) (n : ℕ) (ws : List ℕ) → cost_of p cost is (scaled n ws) ≡ n * cost_of p cost is ws + cost_of p cost (after_body is (length ws)) []
  scale [] n ws = omega arith
  scale (i ∷ is) n ws = scale_turn (loop_effect i) (cost i) n is ws (scale is n)

-- ---- the end of the body

dropped_by : (t : LoopEffect) (is js : List Op) (n d : ℕ) → PairedBy t n d (Paired is n) → ((e : ℕ) → Paired is n e → js ≡ after_body is e) → js ≡ after_by t d is (after_body is)
dropped_by (Enters s) is js n d h f = f (suc d) h
dropped_by Leaves is js n zero h f = absurd h
dropped_by Leaves is js n (suc d) h f = f d h
dropped_by Straight is js n d h f = f d h

after_dropped : (is : List Op) (n d : ℕ) → Paired is n d → after_body (drop n is) 0 ≡ after_body is d
after_dropped [] zero d h = refl
after_dropped [] (suc n) d h = refl
after_dropped (i ∷ is) zero d h = ap (after_body (i ∷ is)) (sym h)
after_dropped (i ∷ is) (suc n) d h = dropped_by (loop_effect i) is _ n d h (after_dropped is n)

twice_by : (t : LoopEffect) (is : List Op) (d : ℕ) → ((e : ℕ) → after_body (after_body is e) 0 ≡ after_body is (suc e))
    → after_body (after_by t d is (after_body is)) 0 ≡ after_by t (suc d) is (after_body is)
twice_by (Enters s) is d f = f (suc d)
twice_by Leaves is zero f = refl
twice_by Leaves is (suc d) f = f d
twice_by Straight is d f = f d

after_twice : (is : List Op) (d : ℕ) → after_body (after_body is d) 0 ≡ after_body is (suc d)
after_twice [] d = refl
after_twice (i ∷ is) d = twice_by (loop_effect i) is d (after_twice is)

-- ---- what is left to run

module _ (p : Program) (cost : Op → ℕ) where
  -- the rest of this body, the body for each value that remains, and what is left after it
  abbrev pub left_from : List Op → List Frame → ℕ
  left_from is [] = cost_of p cost is []
  left_from is (f ∷ fs) = cost_of p cost is [] + length f.remaining * cost_of p cost (drop (f.loop_place + 1) p.code) [] + left_from (after_body is 0) fs

  abbrev pub left_at : ℕ → List Frame → ℕ
  left_at q fs = left_from (drop q p.code) fs

  -- where less is left in the body, less is left
  less_from : (is js : List Op) (fs : List Frame) (c : ℕ) → cost_of p cost js [] + c ≤ cost_of p cost is [] → after_body js 0 ≡ after_body is 0 → left_from js fs + c ≤ left_from is fs
  less_from is js [] c h e = h
  less_from is js (f ∷ fs) c h e = rw e (omega arith)

  pub spent_on : (q : ℕ) (i : Op) (fs : List Frame) → slice_get p.code q ≡ Some i → loop_effect i ≡ Straight → left_at (q + 1) fs + cost i ≤ left_at q fs
  spent_on q i fs h s =
      rw (drop-slice_get p.code q i h) (less_from (i ∷ drop (q + 1) p.code) (drop (q + 1) p.code) fs (cost i)
      (let e : cost_of p cost (i ∷ drop (q + 1) p.code) [] ≡ 1 * cost i + cost_of p cost (drop (q + 1) p.code) [] =
      ap (λ t. cost_by p t (cost i) [] (cost_of p cost (drop (q + 1) p.code))) s in omega arith)
      (sym (ap (λ t. after_by t 0 (drop (q + 1) p.code) (after_body (drop (q + 1) p.code))) s)))

  pub spent_to : (q n : ℕ) (i : Op) (fs : List Frame) → slice_get p.code q ≡ Some i → loop_effect i ≡ Straight → Paired (drop q p.code) (suc n) 0 → left_at (q + suc n) fs + cost i ≤ left_at q fs
  spent_to q n i fs h s pr =
      let is = drop (q + 1) p.code in
      let pr' : Paired is n 0 = subst (λ t. PairedBy t n 0 (Paired is n)) s (subst (λ js. Paired js (suc n) 0) (drop-slice_get p.code q i h) pr) in
      let z : q + 1 + n ≡ q + suc n = omega arith in
      let d : drop n is ≡ drop (q + suc n) p.code = drop-drop n (q + 1) p.code ∙ ap (λ m. drop m p.code) z in
      let less : left_from (drop n is) fs + 0 ≤ left_from is fs = less_from is (drop n is) fs 0 (let x = dropped p cost is n [] pr' in omega arith) (after_dropped is n 0 pr') in
      let on = spent_on q i fs h s in
      let less' = subst (λ js. left_from js fs + 0 ≤ left_from is fs) d less in
      omega arith

  entered_from : (is js : List Op) (c n : ℕ) (fs : List Frame)
      → cost_of p cost js []
      ≡ c + (n * cost_of p cost is [] + cost_of p cost is [] + cost_of p cost (after_body is 0) [])
      → after_body js 0 ≡ after_body (after_body is 0) 0
      → cost_of p cost is [] + n * cost_of p cost is [] + left_from (after_body is 0) fs + c ≤ left_from js fs
  entered_from is js c n [] e a = omega arith
  entered_from is js c n (f ∷ fs) e a = rw (a, e) (omega arith)

  -- LOOP
  pub spent_in : (q i : ℕ) (o : Op) (f : Frame) (fs : List Frame) → slice_get p.code q ≡ Some o
      → loop_effect o ≡ Enters i → f.loop_place ≡ q → carrier_size (carrier_of p i) ≡ suc (length f.remaining)
      → left_at (q + 1) (f ∷ fs) + cost o ≤ left_at q fs
  spent_in q i o f fs h s a e =
      let is = drop (q + 1) p.code in
      let one : cost_of p cost (o ∷ is) [] ≡ 1 * cost o + cost_of p cost is (1 * carrier_size (carrier_of p i) ∷ []) = ap (λ t. cost_by p t (cost o) [] (cost_of p cost is)) s in
      let w : 1 * carrier_size (carrier_of p i) ≡ suc (length f.remaining) = omega arith in
      let two : cost_of p cost is (1 * carrier_size (carrier_of p i) ∷ [])
      ≡ suc (length f.remaining) * cost_of p cost is [] + cost_of p cost (after_body is 0) [] =
      ap (λ m. cost_of p cost is (m ∷ [])) w ∙ scale p cost is (suc (length f.remaining)) [] in
      let three : suc (length f.remaining) * cost_of p cost is [] ≡ length f.remaining * cost_of p cost is [] + cost_of p cost is [] = suc-mul (length f.remaining) (cost_of p cost is []) in
      let all : cost_of p cost (o ∷ is) [] ≡ cost o + (length f.remaining * cost_of p cost is [] + cost_of p cost is [] + cost_of p cost (after_body is 0) []) = omega arith in
      let end : after_body (o ∷ is) 0 ≡ after_body (after_body is 0) 0 = ap (λ t. after_by t 0 is (after_body is)) s ∙ sym (after_twice is 0) in
      rw (drop-slice_get p.code q o h, a) (entered_from is (o ∷ is) (cost o) (length f.remaining) fs all end)

  -- NEXT, when no value remains
  pub spent_out : (q : ℕ) (o : Op) (f : Frame) (fs : List Frame) → slice_get p.code q ≡ Some o → loop_effect o ≡ Leaves → left_at (q + 1) fs + cost o ≤ left_at q (f ∷ fs)
  spent_out q o f fs h s =
      let is = drop (q + 1) p.code in
      let one : cost_of p cost (o ∷ is) [] ≡ cost o = ap (λ t. cost_by p t (cost o) [] (cost_of p cost is)) s in
      let two : after_body (o ∷ is) 0 ≡ is = ap (λ t. after_by t 0 is (after_body is)) s in
      rw (drop-slice_get p.code q o h, one, two) (omega arith)

  -- NEXT, when a value remains
  pub spent_again : (q n : ℕ) (o : Op) (f g : Frame) (fs : List Frame) → slice_get p.code q ≡ Some o
      → loop_effect o ≡ Leaves → g.loop_place ≡ f.loop_place → length f.remaining ≡ suc (length g.remaining)
      → q ≡ f.loop_place + 1 + n → Paired (drop (f.loop_place + 1) p.code) n 0
      → left_at (f.loop_place + 1) (g ∷ fs) + cost o ≤ left_at q (f ∷ fs)
  spent_again q n o f g fs h s a l e pr =
      let is = drop (q + 1) p.code in
      let body = drop (f.loop_place + 1) p.code in
      let one : cost_of p cost (o ∷ is) [] ≡ cost o = ap (λ t. cost_by p t (cost o) [] (cost_of p cost is)) s in
      let here : drop n body ≡ drop q p.code = drop-drop n (f.loop_place + 1) p.code ∙ ap (λ m. drop m p.code) (sym e) in
      let end : after_body body 0 ≡ after_body (drop q p.code) 0 = sym (after_dropped body n 0 pr) ∙ ap (λ js. after_body js 0) here in
      let now : cost_of p cost (drop q p.code) [] ≡ cost o = ap (λ js. cost_of p cost js []) (drop-slice_get p.code q o h) ∙ one in
      let more : length f.remaining * cost_of p cost body []
      ≡ length g.remaining * cost_of p cost body [] + cost_of p cost body [] =
      ap (λ m. m * cost_of p cost body []) l ∙ suc-mul (length g.remaining) (cost_of p cost body []) in
      rw (a, end, now, more) (omega arith)
