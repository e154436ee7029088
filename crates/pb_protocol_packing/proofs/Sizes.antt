-- How many variables each group has: in all as many as there are, at most eight numbers; and a model
-- with at most 2^62 states has no group that is too large.
use Rattle.std.proofs.Common.{◌≡◌, ℕ, zero, suc, ◌+◌, ◌-◌, ◌*◌, ◌/◌, ◌%◌, ◌^◌, ◌<◌, ◌≤◌, Bool, true, false, ◌&&◌, if◌then◌else◌, List, [], ◌∷◌, ◌++◌, map, length, take, drop, refl, sym, ap, subst, ◌∙◌, arith, length-append, length-drop}
use Rattle.std.specs.Prelude.{replicate, nat_le, codes}
use Rattle.std.specs.List.{list_all, sum_by}
use Rattle.std.proofs.lemmas.Bool.{and_from, lt-ltb, le-leb, leb-true, leb-false}
use Rattle.std.proofs.lemmas.List.{length-replicate}
use Rattle.std.proofs.lemmas.List.Sums.{sum_by-append, sum_by-cons}
use Rattle.std.proofs.lemmas.List.Folds.{sum_by-replicate}
use Rattle.std.proofs.Math.Nat.{mod-lt, mul-le-mul, mul-le-mul_left, mul_assoc}
use Rattle.std.proofs.lemmas.Nat.{div-add-mod'}
use Rattle.pb_base_values.specs.Carrier.{tuple_count}
use Rattle.pb_text_meaning.specs.Syntax.{Name, Variable}
use Rattle.pb_text_meaning.specs.Sorts.{carrier_of}
use Rattle.pb_text_meaning.specs.Formula.{carriers_of}
use Rattle.pb_model_meaning.specs.Syntax.{Model}
use Rattle.pb_model_meaning.specs.Steps.{data_of}
use Rattle.pb_protocol_packing.specs.declared.limits.TheConstants.{MAX_GROUP_VALUES}
use Rattle.pb_protocol_packing.specs.Packing.{Member, capacity}
use Rattle.pb_protocol_packing.specs.Sizes.{are_few, has_few, makes_few, cut_into_groups, even_sizes, fitting, fitting_sizes, group_sizes}
use Rattle.pb_protocol_packing.specs.Groups.{member_for, all_members_for, names_in, named_groups, unused_name}
use Rattle.pb_protocol_packing.specs.Laws.{FewStatesMakeSmallGroups}

-- ---- sums and counts of sizes

sizes-are : (r d q : ℕ) → r + d ≡ 8 → r * suc q + d * q ≡ q * 8 + r
sizes-are r d q e = let h : (r + d) * q ≡ 8 * q = ap (λ n. n * q) e in omega (arith, h)

total-even : (n : ℕ) → sum_by (λ k. k) (even_sizes n) ≡ n
total-even n =
    let r = n % 8 in
    let q = n / 8 in
    let less : n % 8 < 8 = mod-lt n (omega arith) in
    sum_by-append (λ k. k) (replicate r (suc q)) (replicate (8 - r) q)
    ∙ (ap (λ k. k + sum_by (λ k. k) (replicate (8 - r) q)) (sum_by-replicate (λ k. k) r (suc q))
    ∙ (ap (λ k. r * suc q + k) (sum_by-replicate (λ k. k) (8 - r) q)
    ∙ (sizes-are r (8 - r) q (omega arith) ∙ div-add-mod' n 8)))

eight-even : (n : ℕ) → length (even_sizes n) ≡ 8
eight-even n =
    let less : n % 8 < 8 = mod-lt n (omega arith) in
    length-append (replicate (n % 8) (suc (n / 8))) (replicate (8 - n % 8) (n / 8))
    ∙ omega (arith, length-replicate (n % 8) (suc (n / 8)), length-replicate (8 - n % 8) (n / 8))

fits-within : (n : ℕ) (ps : List Member) → fitting n ps ≤ length ps
fits-within n [] = omega arith
fits-within n (p ∷ ps) = by (nat_le (n * p.size) MAX_GROUP_VALUES) (fits-within (n * p.size) ps)
  where
    by : (b : Bool) → fitting (n * p.size) ps ≤ length ps → (if b then suc (fitting (n * p.size) ps) else 0) ≤ suc (length ps)
    by true h = omega (arith, h)
    by false h = omega arith

total-fitting : (k : ℕ) (ps : List Member) → sum_by (λ k. k) (fitting_sizes k ps) ≡ length ps
total-fitting zero [] = refl
total-fitting (suc k) [] = refl
total-fitting zero (p ∷ ps) = omega (arith, sum_by-cons (λ (k : ℕ). k) (suc (length ps)) [])
total-fitting (suc k) (p ∷ ps) =
    let n = fitting p.size ps in
    omega (arith, sum_by-cons (λ (k : ℕ). k) (suc n) (fitting_sizes k (drop n ps)), total-fitting k (drop n ps), length-drop n ps, fits-within p.size ps)

few-fitting : (k : ℕ) (ps : List Member) → length (fitting_sizes k ps) ≤ suc k
few-fitting zero [] = omega arith
few-fitting (suc k) [] = omega arith
few-fitting zero (p ∷ ps) = omega arith
few-fitting (suc k) (p ∷ ps) = omega (arith, few-fitting k (drop (fitting p.size ps) ps))

pub total-sizes : (ps : List Member) → sum_by (λ k. k) (group_sizes ps) ≡ length ps
total-sizes ps = by (list_all makes_few (cut_into_groups (even_sizes (length ps)) ps))
  where
    by : (b : Bool) → sum_by (λ k. k) (if b then even_sizes (length ps) else fitting_sizes 7 ps) ≡ length ps
    by true = total-even (length ps)
    by false = total-fitting 7 ps

pub few-sizes : (ps : List Member) → length (group_sizes ps) ≤ 8
few-sizes ps = by (list_all makes_few (cut_into_groups (even_sizes (length ps)) ps))
  where
    by : (b : Bool) → length (if b then even_sizes (length ps) else fitting_sizes 7 ps) ≤ 8
    by true = omega (arith, eight-even (length ps))
    by false = few-fitting 7 ps

-- ---- products

positive-left : (a b : ℕ) → 0 < a * b → 0 < a
positive-left zero b h = let e : 0 * b ≡ 0 = omega arith in absurd (omega (arith, h, e))
positive-left (suc a) b h = omega arith

positive-right : (a b : ℕ) → 0 < a * b → 0 < b
positive-right a zero h = let e : a * 0 ≡ 0 = omega arith in absurd (omega (arith, h, e))
positive-right a (suc b) h = omega arith

-- the second factor is below B where the first is at least A, and the product below A * B
below-part : (A B a b : ℕ) → A ≤ a → a * b < A * B → b < B
below-part A B a b least small = by (nat_le B b) refl
  where
    by : (c : Bool) → nat_le B b ≡ c → b < B
    by true e = let more : A * B ≤ a * b = mul-le-mul least (leb-true B b e) in absurd (omega (arith, more, small))
    by false e = leb-false B b e

capacity-cut : (k : ℕ) (ps : List Member) → capacity (take k ps) * capacity (drop k ps) ≡ capacity ps
capacity-cut zero ps = omega arith
capacity-cut (suc k) [] = refl
capacity-cut (suc k) (p ∷ ps) =
    mul_assoc p.size (capacity (take k ps)) (capacity (drop k ps)) ∙ ap (λ (c : ℕ). p.size * c) (capacity-cut k ps)

some-in-front : (k : ℕ) (ps : List Member) → 0 < capacity ps → 0 < capacity (take k ps)
some-in-front k ps some = positive-left (capacity (take k ps)) (capacity (drop k ps)) (subst (λ (n : ℕ). 0 < n) (sym (capacity-cut k ps)) some)

some-behind : (k : ℕ) (ps : List Member) → 0 < capacity ps → 0 < capacity (drop k ps)
some-behind k ps some = positive-right (capacity (take k ps)) (capacity (drop k ps)) (subst (λ (n : ℕ). 0 < n) (sym (capacity-cut k ps)) some)

-- ---- variables that fit

fits : (n : ℕ) (ps : List Member) → n ≤ MAX_GROUP_VALUES → n * capacity (take (fitting n ps) ps) ≤ MAX_GROUP_VALUES
fits n [] h = let once : n * 1 ≡ n = omega arith in subst (λ (k : ℕ). k ≤ MAX_GROUP_VALUES) (sym once) h
fits n (p ∷ ps) h = by (nat_le (n * p.size) MAX_GROUP_VALUES) refl (fits (n * p.size) ps)
  where
    by : (b : Bool) → nat_le (n * p.size) MAX_GROUP_VALUES ≡ b
        → (n * p.size ≤ MAX_GROUP_VALUES → n * p.size * capacity (take (fitting (n * p.size) ps) ps) ≤ MAX_GROUP_VALUES)
        → n * capacity (take (if b then suc (fitting (n * p.size) ps) else 0) (p ∷ ps)) ≤ MAX_GROUP_VALUES
    by true e more =
        subst (λ (k : ℕ). k ≤ MAX_GROUP_VALUES) (mul_assoc n p.size (capacity (take (fitting (n * p.size) ps) ps))) (more (leb-true (n * p.size) MAX_GROUP_VALUES e))
    by false e more = let once : n * 1 ≡ n = omega arith in subst (λ (k : ℕ). k ≤ MAX_GROUP_VALUES) (sym once) h

-- the variable behind them doesn't
stops : (n : ℕ) (ps : List Member) (q : Member) (qs : List Member) → drop (fitting n ps) ps ≡ q ∷ qs
    → MAX_GROUP_VALUES < n * capacity (take (fitting n ps) ps) * q.size
stops n [] q qs is = absurd (cc is)
stops n (p ∷ ps) q qs is = by (nat_le (n * p.size) MAX_GROUP_VALUES) refl (stops (n * p.size) ps q qs) is
  where
    by : (b : Bool) → nat_le (n * p.size) MAX_GROUP_VALUES ≡ b
        → (drop (fitting (n * p.size) ps) ps ≡ q ∷ qs → MAX_GROUP_VALUES < n * p.size * capacity (take (fitting (n * p.size) ps) ps) * q.size)
        → drop (if b then suc (fitting (n * p.size) ps) else 0) (p ∷ ps) ≡ q ∷ qs
        → MAX_GROUP_VALUES < n * capacity (take (if b then suc (fitting (n * p.size) ps) else 0) (p ∷ ps)) * q.size
    by true e more is =
        subst (λ (k : ℕ). MAX_GROUP_VALUES < k * q.size) (mul_assoc n p.size (capacity (take (fitting (n * p.size) ps) ps))) (more is)
    by false e more is =
        let same : p ≡ q = cc is in
        let once : n * 1 ≡ n = omega arith in
        subst (λ (k : ℕ). MAX_GROUP_VALUES < k * q.size) (sym once)
        (subst (λ (r : Member). MAX_GROUP_VALUES < n * r.size) same (leb-false (n * p.size) MAX_GROUP_VALUES e))

-- a group of as many as fit isn't too large
group-few : (p : Member) (ps : List Member) → 0 < capacity (p ∷ ps) → makes_few (take (suc (fitting p.size ps)) (p ∷ ps)) ≡ true
group-few p [] some = refl
group-few p (q ∷ qs) some = by (nat_le (p.size * q.size) MAX_GROUP_VALUES) refl
  where
    by : (b : Bool) → nat_le (p.size * q.size) MAX_GROUP_VALUES ≡ b
        → makes_few (p ∷ take (if b then suc (fitting (p.size * q.size) qs) else 0) (q ∷ qs)) ≡ true
    by true e =
        let f = fitting (p.size * q.size) qs in
        let c = capacity (take f qs) in
        let within : p.size * q.size * c ≤ MAX_GROUP_VALUES = fits (p.size * q.size) qs (leb-true (p.size * q.size) MAX_GROUP_VALUES e) in
        let front : 0 < p.size * (q.size * c) = some-in-front (suc (suc f)) (p ∷ q ∷ qs) some in
        and_from _ _ (lt-ltb 0 (p.size * (q.size * c)) front)
        (le-leb (p.size * (q.size * c)) MAX_GROUP_VALUES (subst (λ (k : ℕ). k ≤ MAX_GROUP_VALUES) (mul_assoc p.size q.size c) within))
    by false e = refl

-- ---- two groups have more values together than one may

abbrev bound : ℕ → ℕ
bound zero = 1
bound (suc j) = 2147483648 * bound j

two-many : (p : Member) (ps : List Member) (q : Member) (qs : List Member) → 0 < capacity (q ∷ qs) → drop (fitting p.size ps) ps ≡ q ∷ qs
    → 2147483648 ≤ capacity (take (suc (fitting p.size ps)) (p ∷ ps)) * capacity (take (suc (fitting q.size qs)) (q ∷ qs))
two-many p ps q qs some is =
    let c = capacity (take (suc (fitting p.size ps)) (p ∷ ps)) in
    let d = capacity (take (fitting q.size qs) qs) in
    let most : 2147483647 < c * q.size = stops p.size ps q qs is in
    let one : 1 ≤ d = let rest = positive-right q.size d (some-in-front (suc (fitting q.size qs)) (q ∷ qs) some) in omega (arith, rest) in
    let once : q.size * 1 ≤ q.size * d = mul-le-mul_left q.size one in
    let own : q.size ≤ q.size * d = omega (arith, once) in
    let both : c * q.size ≤ c * (q.size * d) = mul-le-mul_left c own in
    let answer : 2147483648 ≤ c * (q.size * d) = omega (arith, most, both) in answer

-- what is left behind two groups
behind-two : (j : ℕ) (p : Member) (ps : List Member) (q : Member) (qs : List Member) → 0 < capacity (p ∷ ps) → capacity (p ∷ ps) < bound (suc j)
    → drop (fitting p.size ps) ps ≡ q ∷ qs → (0 < capacity (q ∷ qs)) × (capacity (drop (fitting q.size qs) qs) < bound j)
behind-two j p ps q qs some small is =
    let n = suc (fitting p.size ps) in
    let k = suc (fitting q.size qs) in
    let c = capacity (take n (p ∷ ps)) in
    let d = capacity (take k (q ∷ qs)) in
    let e = capacity (drop k (q ∷ qs)) in
    let parts : c * capacity (q ∷ qs) ≡ capacity (p ∷ ps) = ap (λ (xs : List Member). c * capacity xs) (sym is) ∙ capacity-cut n (p ∷ ps) in
    let all : c * d * e ≡ capacity (p ∷ ps) = mul_assoc c d e ∙ ap (λ (x : ℕ). c * x) (capacity-cut k (q ∷ qs)) ∙ parts in
    let later : 0 < capacity (q ∷ qs) = subst (λ (xs : List Member). 0 < capacity xs) is (some-behind n (p ∷ ps) some) in
    (later, below-part 2147483648 (bound j) (c * d) e (two-many p ps q qs later is) (subst (λ (x : ℕ). x < 2147483648 * bound j) (sym all) small))

all-few : (j k : ℕ) (ps : List Member) → j + j ≤ k → 0 < capacity ps → capacity ps < bound j → list_all makes_few (cut_into_groups (fitting_sizes k ps) ps) ≡ true
all-few zero k ps within some small = let none : capacity ps < 1 = small in absurd (omega (arith, some, none))
all-few (suc j) zero ps within some small = absurd (omega (arith, within))
all-few (suc j) (suc zero) ps within some small = absurd (omega (arith, within))
all-few (suc j) (suc (suc k)) [] within some small = refl
all-few (suc j) (suc (suc k)) (p ∷ ps) within some small =
    and_from _ _ (group-few p ps some) (second (drop (fitting p.size ps) ps) refl (λ xs. all-few j k xs (omega (arith, within))))
  where
    second : (rest : List Member) → drop (fitting p.size ps) ps ≡ rest
        → ((xs : List Member) → 0 < capacity xs → capacity xs < bound j → list_all makes_few (cut_into_groups (fitting_sizes k xs) xs) ≡ true)
        → list_all makes_few (cut_into_groups (fitting_sizes (suc k) rest) rest) ≡ true
    second [] is more = refl
    second (q ∷ qs) is more =
        let left = behind-two j p ps q qs some small is in
        and_from _ _ (group-few q qs left.0) (more (drop (fitting q.size qs) qs) (some-behind (suc (fitting q.size qs)) (q ∷ qs) left.0) left.1)

few-in-groups : (ps : List Member) → 0 < capacity ps → capacity ps ≤ 2 ^ 62 → list_all makes_few (cut_into_groups (group_sizes ps) ps) ≡ true
few-in-groups ps some few = by (list_all makes_few (cut_into_groups (even_sizes (length ps)) ps)) refl
  where
    by : (b : Bool) → list_all makes_few (cut_into_groups (even_sizes (length ps)) ps) ≡ b
        → list_all makes_few (cut_into_groups (if b then even_sizes (length ps) else fitting_sizes 7 ps) ps) ≡ true
    by true e = e
    by false e = all-few 3 7 ps (omega arith) some (let below : capacity ps < 9903520314283042199192993792 = omega (arith, few) in below)

-- ---- models

pub few-named : (cs : List (List Member)) (taken : List Name) → list_all has_few (named_groups taken cs) ≡ list_all makes_few cs
few-named [] taken = refl
few-named ([] ∷ cs) taken = few-named cs taken
few-named ((p ∷ []) ∷ cs) taken = few-named cs taken
few-named ((p ∷ r ∷ ps) ∷ cs) taken = ap (λ (b : Bool). are_few (p ∷ r ∷ ps) && b) (few-named cs (unused_name taken (p.variable.name ++ codes "'") ∷ taken))

states-counted : (m : Model) (xs : List Variable) → tuple_count (carriers_of (data_of m) xs) ≡ capacity (map (member_for m) xs)
states-counted m [] = refl
states-counted m (x ∷ xs) = ap (λ (n : ℕ). length (carrier_of (data_of m) x.sort) * n) (states-counted m xs)

pub few_states_make_small_groups : FewStatesMakeSmallGroups
few_states_make_small_groups m some few =
    let ps = all_members_for m in
    let count = states-counted m m.variables in
    few-named (cut_into_groups (group_sizes ps) ps) (names_in m)
    ∙ few-in-groups ps (subst (λ (n : ℕ). 0 < n) count some) (subst (λ (n : ℕ). n ≤ 2 ^ 62) count few)
