-- A quantifier on its way through the tuples of its carriers.
use Rattle.std.proofs.Common.{◌≡◌, ℕ, suc, ◌+◌, ◌-◌, ◌<◌, ◌≤◌, Bool, true, false, not, List, [], ◌∷◌, map, length, take, drop, Some, refl, sym, ◌∙◌, ap, subst, arith, pos, true≢false}
use Rattle.std.specs.List.{slice_get}
use Rattle.std.specs.Bool.{beq}
use Rattle.std.proofs.lemmas.Option.{same_Some, slice_get_within}
use Rattle.std.proofs.lemmas.List.{length-map}
use Rattle.std.proofs.lemmas.Bool.{and_parts, ltb-true, ltb-false}
use Rattle.std.specs.Prelude.{nat_lt}
use borrow.Rule.Slice.PartMut.{put_mid, mid_of}
use Rattle.pb_base_values.specs.Carrier.{Value, Tuple, contains, is_within}
use Rattle.pb_sorts.specs.declared.carrier.Carrier.{Carrier}
use Rattle.pb_sorts.specs.Carrier.{values_of}
use Rattle.pb_sorts.specs.Instance as numbered
use Rattle.pb_sorts.specs.Instance.{instances, mixed_radix}
use Rattle.pb_sorts.proofs.TuplePlaces.{is_within-slice_get}
use Rattle.pb_sorts.proofs.Places.{slice_get-mapped, slice_get-append_left}
use Rattle.pb_sorts.proofs.Numbers.{number_of-slice_get}
use Rattle.pb_text_tree.specs.declared.operator.Quantifier.{Quantifier}
use Rattle.pb_text_meaning.specs.Syntax.{Spec}
use Rattle.pb_typing_tree.specs.Tree.{Formula}
use Rattle.pb_typing_tree.specs.Meaning.{Slots, truth}
use Rattle.pb_typing_tree.specs.View.{nested}
use Rattle.pb_typing_tree.specs.Fits.{FormulaFits}
use Rattle.pb_typing_values.specs.Environment.{IsLaidOut, environment_of}
use Rattle.pb_typing_values.specs.Quantifier.{deciding_truth}
use Rattle.pb_typing_values.specs.Slots.{slots_of}
use Rattle.pb_typing_values.proofs.Runs.{all_tuples}
use Rattle.pb_typing_values.proofs.Slots.{placed, put, put-slots, read-put, length-put, put-put, put-clear}
use Rattle.pb_typing_values.proofs.Nested.{truth-nested, decided, undecided, fits-placed, HasRoom, room}

-- a tuple has one place among the tuples
place-unique : (cs : List Carrier) (k : ℕ) (vs : Tuple) → slice_get (all_tuples cs) k ≡ Some vs → k ≡ mixed_radix (map values_of cs) vs
place-unique cs k vs at =
    let f : Tuple → numbered.Instance = λ ws. record { equation = 0; values = ws } in
    let at_number : k ≡ 0 + mixed_radix (map values_of cs) vs =
    number_of-slice_get (cs ∷ []) k (f vs)
    (slice_get-append_left (map f (all_tuples cs)) [] k (f vs) (slice_get-mapped f (all_tuples cs) k vs at)) in
    omega (arith, at_number)

-- how many tuples are left, from the one in the slots on
abbrev pub left_of : List Carrier → ℕ → Tuple → ℕ
left_of cs slot cur = length (all_tuples cs) - mixed_radix (map values_of cs) (take (length cs) (drop slot cur))

module _ (layout : List (List Carrier)) (truths : List Bool) (q : Quantifier) (f : Formula) (cs : List Carrier) (slot : ℕ) where
  -- whether the body is true where the slots have the values of a tuple
  abbrev pub holds_at : Spec → Tuple → Tuple → Bool
  holds_at S xs vs = truth S (slots_of (put xs slot vs)) (environment_of S truths) f

  -- the quantifier's slots are there and held 0, now they hold a tuple, and no tuple before it decides
  pub record IsUnderWay (xs cur : Tuple) : Type 0 where
    pub within : slot + length cs ≤ length xs
    pub clear : (i : ℕ) → i < length cs → slots_of xs (slot + i) ≡ pos 0
    pub values : Tuple
    pub place : ℕ
    pub at : slice_get (all_tuples cs) place ≡ Some values
    pub now : cur ≡ put xs slot values
    pub before : (S : Spec) → IsLaidOut S layout → (j : ℕ) (ws : Tuple) → j < place → slice_get (all_tuples cs) j ≡ Some ws → holds_at S xs ws ≡ not (deciding_truth q)

-- ---- lists of slots

-- a write to a part of a slice
put-mid : (a k : ℕ) (xs ys : Tuple) → k ≡ length ys → put_mid a k xs ys ≡ put xs a ys
put-mid a k xs ys long = ap (λ (n : ℕ). put_mid a n xs ys) long

mid-put : (a k : ℕ) (xs vs : Tuple) → k ≡ length vs → a ≤ length xs → mid_of a k (put xs a vs) ≡ vs
mid-put a k xs vs long le = ap (λ (n : ℕ). mid_of a n (put xs a vs)) long ∙ read-put xs a vs le

pub within-count : (cs : List Carrier) (vs : Tuple) → is_within (map values_of cs) vs ≡ true → length vs ≡ length cs
within-count [] [] e = refl
within-count [] (v ∷ vs) e = absurd (true≢false (sym e))
within-count (c ∷ cs) [] e = absurd (true≢false (sym e))
within-count (c ∷ cs) (v ∷ vs) e = ap suc (within-count cs vs (and_parts (contains (values_of c) v) (is_within (map values_of cs) vs) e).1)

tuple-count : (cs : List Carrier) (k : ℕ) (vs : Tuple) → slice_get (all_tuples cs) k ≡ Some vs → length vs ≡ length cs
tuple-count cs k vs at = within-count cs vs (is_within-slice_get (map values_of cs) k vs at)

-- ---- truths that are tested

pub same-test : (a b c : Bool) → beq a b ≡ true → b ≡ c → a ≡ c
same-test true true c e f = f
same-test true false c e f = absurd (true≢false (sym e))
same-test false true c e f = absurd (true≢false (sym e))
same-test false false c e f = f

pub other-test : (a b c : Bool) → beq a b ≡ false → b ≡ c → a ≡ not c
other-test true true c e f = absurd (true≢false e)
other-test true false c e f = ap not f
other-test false true c e f = ap not f
other-test false false c e f = absurd (true≢false e)

-- ---- the slots hold a tuple

-- how many slots the quantifier has, as they are cut from the list
abbrev part : ℕ → List Carrier → ℕ
part slot cs = slot + length cs - slot

pub way-start : (layout : List (List Carrier)) (truths : List Bool) (q : Quantifier) (f : Formula) (cs : List Carrier) (slot : ℕ) (xs vs : Tuple)
    → FormulaFits (length layout) (length xs) (slots_of xs) (nested q slot cs f) → 0 < length cs → slice_get (all_tuples cs) 0 ≡ Some vs
    → IsUnderWay layout truths q f cs slot xs (put_mid slot (part slot cs) xs vs)
way-start layout truths q f cs slot xs vs fits some at =
    let there : HasRoom (length xs) slot (length cs) (slots_of xs) = room (length layout) (length xs) q f cs slot (slots_of xs) fits in
    record {
      within = there.within some;
      clear = there.clear;
      values = vs;
      place = 0;
      at = at;
      now = put-mid slot (part slot cs) xs vs (omega (arith, tuple-count cs 0 vs at));
      before = λ S laid j ws lt here. absurd (omega (arith, lt));
    }

module _ {layout : List (List Carrier)} {truths : List Bool} {q : Quantifier} {f : Formula} {cs : List Carrier} {slot : ℕ} {xs cur : Tuple}
    (way : IsUnderWay layout truths q f cs slot xs cur) where
  -- whether the body is true at a tuple, over the slots as they were
  abbrev at_tuple : Spec → Tuple → Bool
  at_tuple S vs = truth S (placed (slots_of xs) slot vs) (environment_of S truths) f

  same-tuple : (S : Spec) (k : ℕ) (vs : Tuple) → slice_get (all_tuples cs) k ≡ Some vs → at_tuple S vs ≡ holds_at layout truths q f cs slot S xs vs
  same-tuple S k vs at = ap (λ (a : Slots). truth S a (environment_of S truths) f) (sym (put-slots xs slot vs (omega (arith, way.within, tuple-count cs k vs at))))

  held-count : length way.values ≡ length cs
  held-count = tuple-count cs way.place way.values way.at

  pub way-fits : FormulaFits (length layout) (length xs) (slots_of xs) (nested q slot cs f) → FormulaFits (length layout) (length cur) (slots_of cur) f
  way-fits h =
      let k = length layout in
      let long : length cur ≡ length xs = ap length way.now ∙ length-put xs slot way.values (omega (arith, way.within, held-count)) in
      subst (λ (n : ℕ). FormulaFits k n (slots_of cur) f) (sym long)
      (subst (λ (a : Slots). FormulaFits k (length xs) a f) (sym (ap slots_of way.now ∙ put-slots xs slot way.values (omega (arith, way.within, held-count))))
      (fits-placed k (length xs) q f cs slot (slots_of xs) way.values h (is_within-slice_get (map values_of cs) way.place way.values way.at)))

  -- the place of a tuple, from the slots
  read-place : (ys vs : Tuple) (k : ℕ) → slice_get (all_tuples cs) k ≡ Some vs → ys ≡ put xs slot vs → mixed_radix (map values_of cs) (take (length cs) (drop slot ys)) ≡ k
  read-place ys vs k at now =
      ap (λ (zs : Tuple). mixed_radix (map values_of cs) (take (length cs) (drop slot zs))) now
      ∙ (ap (mixed_radix (map values_of cs)) (ap (λ (n : ℕ). take n (drop slot (put xs slot vs))) (sym (tuple-count cs k vs at)) ∙ read-put xs slot vs (omega (arith, way.within)))
      ∙ sym (place-unique cs k vs at))

  fewer : (more vs : Tuple) → slice_get (all_tuples cs) (way.place + 1) ≡ Some vs → more ≡ put xs slot vs → left_of cs slot more < left_of cs slot cur
  fewer more vs at now =
      omega (arith, read-place cur way.values way.place way.at way.now, read-place more vs (way.place + 1) at now, slice_get_within (all_tuples cs) (way.place + 1) vs at)

  -- zeros in the place of a tuple: the slots as they were
  cleared : (ys vs zeros : Tuple) → length vs ≡ length cs → ys ≡ put xs slot vs → zeros ≡ map (λ v. pos 0) (mid_of slot (part slot cs) ys)
      → put_mid slot (part slot cs) ys zeros ≡ xs
  cleared ys vs zeros long now is =
      let mid : mid_of slot (part slot cs) ys ≡ vs = ap (mid_of slot (part slot cs)) now ∙ mid-put slot (part slot cs) xs vs (omega (arith, long)) (omega (arith, way.within)) in
      let none : zeros ≡ map (λ v. pos 0) vs = is ∙ ap (λ (zs : Tuple). map (λ v. pos 0) zs) mid in
      let many : length zeros ≡ length vs = ap (λ (zs : Tuple). length zs) none ∙ length-map vs (λ (v : Value). pos 0) in
      put-mid slot (part slot cs) ys zeros (omega (arith, long, many))
      ∙ (ap (λ (zs : Tuple). put zs slot zeros) now
      ∙ (put-put xs slot vs zeros (omega (arith, way.within)) (sym many)
      ∙ (ap (λ (zs : Tuple). put xs slot zs) none
      ∙ put-clear xs slot vs (omega (arith, way.within, long)) (λ i lt. way.clear i (omega (arith, lt, long))))))

-- ---- the body was evaluated there

-- the slots hold the tuple still, and this is the truth of the body
pub record IsTried (layout : List (List Carrier)) (truths : List Bool) (q : Quantifier) (f : Formula) (cs : List Carrier) (slot : ℕ) (xs cur zs : Tuple) (holds : Bool) : Type 0 where
  pub way : IsUnderWay layout truths q f cs slot xs cur
  pub kept : zs ≡ cur
  pub is : (S : Spec) → IsLaidOut S layout → holds ≡ truth S (slots_of cur) (environment_of S truths) f

module _ {layout : List (List Carrier)} {truths : List Bool} {q : Quantifier} {f : Formula} {cs : List Carrier} {slot : ℕ} {xs cur zs : Tuple} {holds : Bool}
    (tried : IsTried layout truths q f cs slot xs cur zs holds) where
  here : (S : Spec) → IsLaidOut S layout → at_tuple tried.way S tried.way.values ≡ holds
  here S laid =
      same-tuple tried.way S tried.way.place tried.way.values tried.way.at
      ∙ (ap (λ (ys : Tuple). truth S (slots_of ys) (environment_of S truths) f) (sym tried.way.now) ∙ sym (tried.is S laid))

  -- so far, the present tuple with them
  none-so-far : holds ≡ not (deciding_truth q) → (S : Spec) → IsLaidOut S layout → (j : ℕ) (ws : Tuple) → j < tried.way.place + 1 → slice_get (all_tuples cs) j ≡ Some ws
      → at_tuple tried.way S ws ≡ not (deciding_truth q)
  none-so-far none S laid j ws lt at = by-place (nat_lt j tried.way.place) refl
    where
      by-place : (b : Bool) → nat_lt j tried.way.place ≡ b → at_tuple tried.way S ws ≡ not (deciding_truth q)
      by-place true e = same-tuple tried.way S j ws at ∙ tried.way.before S laid j ws (ltb-true j tried.way.place e) at
      by-place false e =
          let same : j ≡ tried.way.place = omega (arith, lt, ltb-false j tried.way.place e) in
          let is_now : ws ≡ tried.way.values = same_Some ws tried.way.values (sym at ∙ (ap (slice_get (all_tuples cs)) same ∙ tried.way.at)) in
          ap (at_tuple tried.way S) is_now ∙ (here S laid ∙ none)

  -- the tuple, as the part of the slots
  mid : mid_of slot (part slot cs) zs ≡ tried.way.values
  mid = ap (mid_of slot (part slot cs)) (tried.kept ∙ tried.way.now) ∙ mid-put slot (part slot cs) xs tried.way.values (omega (arith, held-count tried.way)) (omega (arith, tried.way.within))

  pub part-at : slice_get (all_tuples cs) tried.way.place ≡ Some (mid_of slot (part slot cs) zs)
  part-at = tried.way.at ∙ ap (λ (ys : Tuple). Some ys) (sym mid)

  -- other values in the tuple's place
  put-there : (vs : Tuple) → length vs ≡ length cs → put_mid slot (part slot cs) zs vs ≡ put xs slot vs
  put-there vs long =
      put-mid slot (part slot cs) zs vs (omega (arith, long))
      ∙ (ap (λ (ys : Tuple). put ys slot vs) (tried.kept ∙ tried.way.now)
      ∙ put-put xs slot tried.way.values vs (omega (arith, tried.way.within)) (omega (arith, long, held-count tried.way)))

  -- the tuple decides
  pub decided-truth : holds ≡ deciding_truth q → (S : Spec) → IsLaidOut S layout → holds ≡ truth S (slots_of xs) (environment_of S truths) (nested q slot cs f)
  decided-truth decides S laid =
      decides
      ∙ (sym (decided q (at_tuple tried.way S) (all_tuples cs) tried.way.place tried.way.values tried.way.at (here S laid ∙ decides))
      ∙ sym (truth-nested S (environment_of S truths) q f cs slot (slots_of xs)))

  pub decided-cleared : {zeros : Tuple} → zeros ≡ map (λ v. pos 0) (mid_of slot (part slot cs) zs) → put_mid slot (part slot cs) zs zeros ≡ xs
  decided-cleared {zeros} is = cleared tried.way zs tried.way.values zeros (held-count tried.way) (tried.kept ∙ tried.way.now) is

  -- it was the last one, and none decides
  pub ended-truth : holds ≡ not (deciding_truth q) → length (all_tuples cs) ≡ tried.way.place + 1
      → (S : Spec) → IsLaidOut S layout → holds ≡ truth S (slots_of xs) (environment_of S truths) (nested q slot cs f)
  ended-truth none last S laid =
      none
      ∙ (sym (undecided q (at_tuple tried.way S) (all_tuples cs) (λ j ws at. none-so-far none S laid j ws (omega (arith, last, slice_get_within (all_tuples cs) j ws at)) at))
      ∙ sym (truth-nested S (environment_of S truths) q f cs slot (slots_of xs)))

  pub ended-cleared : (vs : Tuple) {zeros : Tuple} → length vs ≡ length (mid_of slot (part slot cs) zs)
      → zeros ≡ map (λ v. pos 0) (mid_of slot (part slot cs) (put_mid slot (part slot cs) zs vs))
      → put_mid slot (part slot cs) (put_mid slot (part slot cs) zs vs) zeros ≡ xs
  ended-cleared vs {zeros} same is =
      let long : length vs ≡ length cs = same ∙ (ap (λ (ys : Tuple). length ys) mid ∙ held-count tried.way) in
      cleared tried.way (put_mid slot (part slot cs) zs vs) vs zeros long (put-there vs long) is

  -- on to the next one
  pub next-under-way : holds ≡ not (deciding_truth q) → {vs : Tuple} → slice_get (all_tuples cs) (tried.way.place + 1) ≡ Some vs
      → IsUnderWay layout truths q f cs slot xs (put_mid slot (part slot cs) zs vs)
  next-under-way none {vs} at = record {
    within = tried.way.within;
    clear = tried.way.clear;
    values = vs;
    place = tried.way.place + 1;
    at = at;
    now = put-there vs (tuple-count cs (tried.way.place + 1) vs at);
    before = λ S laid j ws lt found. sym (same-tuple tried.way S j ws found) ∙ none-so-far none S laid j ws lt found;
  }

  pub fewer-behind : {vs : Tuple} → slice_get (all_tuples cs) (tried.way.place + 1) ≡ Some vs → left_of cs slot (put_mid slot (part slot cs) zs vs) < left_of cs slot cur
  fewer-behind {vs} at = fewer tried.way (put_mid slot (part slot cs) zs vs) vs at (put-there vs (tuple-count cs (tried.way.place + 1) vs at))
