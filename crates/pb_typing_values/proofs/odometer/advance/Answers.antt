use Rattle.std.proofs.Common.{◌≡◌, ◌∙◌, ◌++◌, ◌-◌, ◌<◌, ◌^◌, ℕ, zero, suc, List, [], ◌∷◌, length, map, take, drop, get_or, slice_set, ap, sym, subst, refl, arith, inl, inr, pos, ℤ, ◌+ℤ◌, ◌<ℤ◌, ◌≤ℤ◌, SFits, w64, to_z, of_z, to_z-of_z, rules}
use Rattle.std.proofs.lemmas.Int.{ints}
use lib.Signed.{mag}
use Rattle.pb_base_values.specs.Carrier.{Value, Tuple}
use Rattle.pb_base_values.proofs.Ends.{passed_word}
use Rattle.pb_sorts.specs.declared.carrier.Carrier.{Carrier}
use Rattle.pb_typing_values.proofs.Runs.{least, behind, bounds-least, bounds-behind, AreLast, AreNext, next-tuple, last-tuple}
use Rattle.pb_typing_values.proofs.odometer.advance.Goals as goal
use Rattle.pb_typing_values.proofs.odometer.advance.Goals.{After-bounds-least}

-- those below the place are as they were, and those from it on are at their first values
abbrev restarted_from : ℕ → List Carrier → Tuple → Tuple
restarted_from j cs old = take j old ++ map least (drop j cs)

still_there : (cs : List Carrier) (old : Tuple) (j : ℕ) (d : Value) → j < length old → get_or (restarted_from (suc j) cs old) j d ≡ get_or old j d
still_there cs [] j d lt = absurd (omega arith)
still_there cs (y ∷ ys) zero d lt = refl
still_there [] (y ∷ ys) (suc j) d lt = still_there [] ys j d (omega arith)
still_there (c ∷ cs) (y ∷ ys) (suc j) d lt = still_there cs ys j d (omega arith)

restarted_at : (cs : List Carrier) (old : Tuple) (j : ℕ) (d : Carrier) (x : Value) → j < length old
    → length old ≡ length cs → x ≡ least (get_or cs j d) → slice_set (restarted_from (suc j) cs old) j x ≡ restarted_from j cs old
restarted_at cs [] j d x lt same e = absurd (omega arith)
restarted_at [] (y ∷ ys) j d x lt same e = absurd (omega arith)
restarted_at (c ∷ cs) (y ∷ ys) zero d x lt same e = ap (λ (z : Value). z ∷ map least cs) e
restarted_at (c ∷ cs) (y ∷ ys) (suc j) d x lt same e = ap (λ (zs : Tuple). y ∷ zs) (restarted_at cs ys j d x (omega arith) (omega arith) e)

next_at : (cs : List Carrier) (old : Tuple) (j : ℕ) (d : Carrier) (e : Value) (x : Value) → j < length old → length old ≡ length cs → AreLast (drop (suc j) cs) (drop (suc j) old)
    → (get_or old j e +ℤ pos 1) <ℤ behind (get_or cs j d) → x ≡ get_or old j e +ℤ pos 1 → AreNext cs old (slice_set (restarted_from (suc j) cs old) j x)
next_at cs [] j d e x lt same last more is = absurd (omega arith)
next_at [] (y ∷ ys) j d e x lt same last more is = absurd (omega arith)
next_at (c ∷ cs) (y ∷ ys) zero d e x lt same last more is = inr (more, is, last, refl)
next_at (c ∷ cs) (y ∷ ys) (suc j) d e x lt same last more is = inl (refl, next_at cs ys j d e x (omega arith) (omega arith) last more is)

last_at : (cs : List Carrier) (old : Tuple) (j : ℕ) (d : Carrier) (e : Value) → j < length old → length old ≡ length cs → AreLast (drop (suc j) cs) (drop (suc j) old)
    → behind (get_or cs j d) ≤ℤ (get_or old j e +ℤ pos 1) → AreLast (drop j cs) (drop j old)
last_at cs [] j d e lt same last none = absurd (omega arith)
last_at [] (y ∷ ys) j d e lt same last none = absurd (omega arith)
last_at (c ∷ cs) (y ∷ ys) zero d e lt same last none = (none, last)
last_at (c ∷ cs) (y ∷ ys) (suc j) d e lt same last none = last_at cs ys j d e (omega arith) (omega arith) last none

-- a place whose value is still the old one, and behind which the values were the last ones
record IsReached (cs : List Carrier) (old cur : Tuple) (j : ℕ) (d : Carrier) (high : Value) : Type 0 where
  there : j < length old
  many : length old ≡ length cs
  same : cur ≡ restarted_from (suc j) cs old
  end : high +ℤ pos 1 ≡ behind (get_or cs j d)
  last : AreLast (drop (suc j) cs) (drop (suc j) old)

reached : (c : After-bounds-least) → IsReached c.args.carriers.now c.args.values.now c.loop-index.values (c.loop-index.index - 1) c.index-carriers-index.result c.bounds-least.result.1
reached c =
    let cs = c.args.carriers.now in
    let old = c.args.values.now in
    let d = c.index-carriers-index in
    let b = c.bounds-least in
    let is : c.loop-index.index ≡ suc (c.loop-index.index - 1) = omega (arith, c.loop-index-test.true) in
    record {
      there = omega (arith, c.loop-index.auto.index, c.loop-index-test.true);
      many = c.requires;
      same = c.loop-index.invariant.same ∙ ap (λ (n : ℕ). restarted_from n cs old) is;
      end = bounds-behind d.result b.result.0 b.result.1 b.ensures.interval b.ensures.order ∙ ap behind d.is;
      last = subst (λ (n : ℕ). AreLast (drop n cs) (drop n old)) is c.loop-index.invariant.last;
    }

module _ {cs : List Carrier} {old cur : Tuple} {j : ℕ} {d : Carrier} {high : Value} (place : IsReached cs old cur j d high) where
  held : mag (get_or cur j (pos 0)) < 2 ^ 63 → to_z w64 (of_z w64 (get_or cur j (pos 0))) ≡ get_or old j (pos 0)
  held fits =
      passed_word (get_or cur j (pos 0)) (get_or old j (pos 0)) fits
      (ap (λ (zs : Tuple). get_or zs j (pos 0)) place.same ∙ still_there cs old j (pos 0) place.there)

  -- the value goes on
  went_on : (get_or old j (pos 0) +ℤ pos 1) <ℤ behind (get_or cs j d) → (x : Value) → x ≡ get_or old j (pos 0) +ℤ pos 1 → AreNext cs old (slice_set cur j x)
  went_on more x is =
      subst (λ (zs : Tuple). AreNext cs old (slice_set zs j x)) (sym place.same) (next_at cs old j d (pos 0) x place.there place.many place.last more is)

  -- it was the last one, and the first one is written
  restarted : (x : Value) → x ≡ least (get_or cs j d) → slice_set cur j x ≡ restarted_from j cs old
  restarted x is = ap (λ (zs : Tuple). slice_set zs j x) place.same ∙ restarted_at cs old j d x place.there place.many is

  were_last : behind (get_or cs j d) ≤ℤ (get_or old j (pos 0) +ℤ pos 1) → AreLast (drop j cs) (drop j old)
  were_last none = last_at cs old j d (pos 0) place.there place.many place.last none

pub returns-then-value-greatest-clause-next : goal.returns-then-value-greatest-clause-next
returns-then-value-greatest-clause-next c = λ k at yes.
    let place = reached (goal.at.returns-then-value-greatest-clause-next c).After-bounds-least in
    let now = held place (omega (arith, place.there)) in
    let cur = c.loop-index.values in
    let j = c.loop-index.index - 1 in
    let step = to_z w64 (of_z w64 (get_or cur j (pos 0))) +ℤ pos 1 in
    let fits_step : SFits w64 step = search rules in
    let moved : to_z w64 (of_z w64 step) ≡ get_or c.args.values.now j (pos 0) +ℤ pos 1 = to_z-of_z fits_step ∙ ap (λ (v : ℤ). v +ℤ pos 1) now in
    next-tuple c.args.carriers.now c.args.values.now (slice_set cur j (to_z w64 (of_z w64 step))) k
    (went_on place (omega (arith, ints, c.if-value-greatest.true, now, place.end)) (to_z w64 (of_z w64 step)) moved) at

pub loop-index-preserved : goal.loop-index-preserved
loop-index-preserved c =
    let place = reached (goal.at.loop-index-preserved c).After-bounds-least in
    let now = held place (omega (arith, place.there)) in
    let d = c.index-carriers-index in
    let b = c.bounds-least in
    let first =
    passed_word b.result.0 (least d.result) (omega (arith, ints, b.ensures.low, b.ensures.order, b.ensures.high))
    (bounds-least d.result b.result.0 b.result.1 b.ensures.interval b.ensures.order) in
    record {
      same = restarted place (to_z w64 (of_z w64 b.result.0)) (first ∙ ap least d.is);
      last = were_last place (omega (arith, ints, c.if-value-greatest.false, now, place.end));
    }

pub returns-clause-last : goal.returns-clause-last
returns-clause-last c = λ k at no.
    let none : c.loop-index.index ≡ 0 = omega (arith, c.loop-index-test.false) in
    last-tuple c.args.carriers.now c.args.values.now k (subst (λ (n : ℕ). AreLast (drop n c.args.carriers.now) (drop n c.args.values.now)) none c.loop-index.invariant.last) at
