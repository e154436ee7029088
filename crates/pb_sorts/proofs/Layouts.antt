-- What the first numbers that a layout keeps say: of an equation's numbers, of the equation of a number, of an instance.
use Rattle.std.proofs.Common.{◌≡◌, ℕ, suc, ◌+◌, ◌-◌, ◌<◌, ◌≤◌, true, false, IsTrue, nat_le, nat_lt, leb, ◌&&◌, List, map, length, get_or, Some, Option, Vec, refl, sym, ◌∙◌, ap, subst, arith, ⊎_elim}
use Rattle.std.specs.List.{slice_get}
use Rattle.std.specs.List.Sorted.{IsPartitionedBy, IsPartitionPoint}
use Rattle.std.proofs.lemmas.Option.{slice_get_within, slice_get-get_or, same_Some, get_or_from_slice_get}
use Rattle.std.proofs.lemmas.Bool.{cases_lt}
use Rattle.pb_base_values.specs.Carrier as carriers
use Rattle.pb_base_values.specs.Carrier.{Tuple, tuples, tuple_count, is_within}
use Rattle.pb_base.specs.declared.limits.TheConstants.{MAX_PARAMETERS}
use Rattle.pb_sorts.specs.declared.counting.TheConstants.{MAX_NUMBERS}
use Rattle.pb_sorts.specs.declared.carrier.Carrier.{Carrier}
use Rattle.pb_sorts.specs.Carrier.{values_of}
use Rattle.pb_sorts.specs.Instance.{instances, is_instance, is_tuple_of, first_of, size_of, owns_number}
use Rattle.pb_sorts.specs.Layout.{carriers_of, count_of, lists_of, IsNumbered, IsWithinLimits}
use Rattle.pb_sorts.proofs.Numbers.{first_of-next, first_of-last, first_of-before}
use Rattle.pb_sorts.proofs.InstancePlaces.{with_values, slice_get-instances_from}
use Rattle.pb_sorts.proofs.Equations.{slice_get-carriers_of, length-carriers_of, ends_within, slice_get-lists_of, length-lists_of}

get_or_any : {X : Type 0} (xs : List X) (k : ℕ) (d e : X) → k < length xs → get_or xs k d ≡ get_or xs k e
get_or_any xs k d e below = same_Some (get_or xs k d) (get_or xs k e) (sym (slice_get-get_or xs k d below) ∙ slice_get-get_or xs k e below)

-- a first number that is read
pub start_read : (equations : List (List Carrier)) (firsts : List ℕ) (k x : ℕ) → IsNumbered equations firsts → k ≤ length equations → x ≡ get_or firsts k x → x ≡ first_of (carriers_of equations) k
start_read equations firsts k x numbered within is =
    is ∙ (get_or_any firsts k x 0 (omega (arith, within, numbered.long)) ∙ numbered.starts k within)

pub first_of-count : (equations : List (List Carrier)) → first_of (carriers_of equations) (length equations) ≡ count_of equations
first_of-count equations = ap (first_of (carriers_of equations)) (sym (length-carriers_of equations)) ∙ first_of-last (carriers_of equations)

-- the next equation begins where this one ends
pub first_of-after : (equations : List (List Carrier)) (k : ℕ) → k < length equations
    → first_of (carriers_of equations) (k + 1) ≡ first_of (carriers_of equations) k + size_of (carriers_of equations) k
first_of-after equations k below =
    let next : k + 1 ≡ suc k = omega arith in
    ap (first_of (carriers_of equations)) next ∙ first_of-next (carriers_of equations) k (omega (arith, below, length-carriers_of equations))

first_of-rises : (equations : List (List Carrier)) (j k : ℕ) → j ≤ k → k ≤ length equations → first_of (carriers_of equations) j ≤ first_of (carriers_of equations) k
first_of-rises equations j k before within =
    ⊎_elim (λ (h : j < k). omega (arith, first_of-before (carriers_of equations) j k h (omega (arith, within, length-carriers_of equations))))
    (λ (h : k ≤ j). let same : j ≡ k = omega (arith, h, before) in omega (arith, ap (first_of (carriers_of equations)) same))
    (cases_lt j k)

-- ---- the equation of a number

pub firsts_rise : (equations : List (List Carrier)) (firsts : List ℕ) (n : ℕ) → IsNumbered equations firsts → IsPartitionedBy (λ first. leb first n) firsts
firsts_rise equations firsts n numbered i j d before below passes =
    let at_i : get_or firsts i d ≡ first_of (carriers_of equations) i = get_or_any firsts i d 0 (omega (arith, before, below)) ∙ numbered.starts i (omega (arith, before, below, numbered.long)) in
    let at_j : get_or firsts j d ≡ first_of (carriers_of equations) j = get_or_any firsts j d 0 below ∙ numbered.starts j (omega (arith, below, numbered.long)) in
    let rise : first_of (carriers_of equations) i ≤ first_of (carriers_of equations) j = first_of-rises equations i j before (omega (arith, below, numbered.long)) in
    still (get_or firsts i d) (get_or firsts j d) n (omega (arith, at_i, at_j, rise)) passes
  where
    still : (x y n : ℕ) → x ≤ y → leb y n ≡ true → leb x n ≡ true
    still x y n h e = grind (arith, h, e)

-- of the place behind the last first number that is at most n
pub record IsOwner (equations : List (List Carrier)) (n p : ℕ) : Type 0 where
  pub some : 1 ≤ p
  pub known : p - 1 < length equations
  pub owner : IsTrue (owns_number (carriers_of equations) (p - 1) n)

pub owner_found : (equations : List (List Carrier)) (firsts : List ℕ) (n p : ℕ) → IsNumbered equations firsts → n < count_of equations → p ≤ length firsts
    → IsPartitionPoint (λ y. leb y n ≡ true) (λ y. leb y n ≡ false) firsts p → IsOwner equations n p
owner_found equations firsts n p numbered below bound point = record { some = some; known = known; owner = owner }
  where
    css : List (List carriers.Carrier)
    css = carriers_of equations

    some : 1 ≤ p
    some = ⊎_elim (λ (h : 0 < p). omega (arith, h))
        (λ (h : p ≤ 0). absurd (not_above (get_or firsts 0 0) n (numbered.starts 0 (omega arith)) (point.1 0 0 h (omega (arith, numbered.long)))))
        (cases_lt 0 p)
      where
        not_above : (x n : ℕ) → x ≡ 0 → leb x n ≡ false → ⊥
        not_above x n e f = grind (arith, e, f)

    within : p ≤ length equations
    within = ⊎_elim
        (λ (h : length equations < p). absurd
        (too_large (get_or firsts (length equations) 0) n refl (numbered.starts (length equations) (omega arith))
        (point.0 (length equations) 0 (omega arith) h)))
        (λ (h : p ≤ length equations). h) (cases_lt (length equations) p)
      where
        too_large : (x m : ℕ) → m ≡ n → x ≡ first_of css (length equations) → leb x m ≡ true → ⊥
        too_large x m same e f = let all : first_of css (length equations) ≡ count_of equations = first_of-count equations in grind (arith, same, e, f, all, below)

    known : p - 1 < length equations
    known = omega (arith, some, within)

    owner : IsTrue (owns_number css (p - 1) n)
    owner = inside (get_or firsts (p - 1) 0) (get_or firsts p 0) (first_of css (p - 1)) (size_of css (p - 1)) n
        (numbered.starts (p - 1) (omega (arith, known)))
        (numbered.starts p within ∙ (ap (first_of css) next ∙ first_of-after equations (p - 1) known))
        (point.0 (p - 1) 0 (omega arith) (omega (arith, some)))
        (point.1 p 0 (omega arith) (omega (arith, within, numbered.long)))
      where
        next : p ≡ (p - 1) + 1
        next = omega (arith, some)

        inside : (x y first size n : ℕ) → x ≡ first → y ≡ first + size → leb x n ≡ true → leb y n ≡ false → IsTrue (nat_le first n && nat_lt n (first + size))
        inside x y first size n e f g h = grind (arith, e, f, g, h)

pub owner_bounds : (first size n : ℕ) → IsTrue (nat_le first n && nat_lt n (first + size)) → (first ≤ n) × (n < first + size)
owner_bounds first size n h = grind (arith, h)

-- ---- an instance of an equation

-- its number, from its tuple's place
pub number_at : (equations : List (List Carrier)) (k r : ℕ) (ps : List Carrier) (vs : Tuple) → slice_get equations k ≡ Some ps → slice_get (tuples (map values_of ps)) r ≡ Some vs
    → slice_get (instances (carriers_of equations)) (first_of (carriers_of equations) k + r) ≡ Some (with_values k vs)
number_at equations k r ps vs at_k at_r =
    let here : 0 + k ≡ k = omega arith in
    slice_get-instances_from 0 (carriers_of equations) k r (first_of (carriers_of equations) k + r) (map values_of ps) vs (slice_get-carriers_of equations k ps at_k) at_r refl
    ∙ ap (λ (q : ℕ). Some (with_values q vs)) here

-- whether it is one
pub is_instance-at : (equations : List (List Carrier)) (k : ℕ) (ps : List Carrier) (vs : Tuple)
    → slice_get equations k ≡ Some ps → is_instance (carriers_of equations) (with_values k vs) ≡ is_within (map values_of ps) vs
is_instance-at equations k ps vs at = ap (λ (o : Option (List carriers.Carrier)). is_tuple_of o vs) (slice_get-carriers_of equations k ps at)

-- an equation's tuples are few
pub tuples_are_few : (equations : List (List Carrier)) (k : ℕ) (ps : List Carrier) → IsWithinLimits equations → slice_get equations k ≡ Some ps → tuple_count (map values_of ps) ≤ MAX_NUMBERS
tuples_are_few equations k ps limits at = omega (arith, ends_within equations k ps at, limits.few_instances)

-- and so are its parameters
pub parameters_are_few : (equations : List (List Carrier)) (k : ℕ) (ps : List Carrier) → IsWithinLimits equations → slice_get equations k ≡ Some ps → length ps ≤ MAX_PARAMETERS
parameters_are_few equations k ps limits at =
    let few : length (get_or equations k ps) ≤ MAX_PARAMETERS = limits.few_parameters k ps (slice_get_within equations k ps at) in
    omega (arith, few, ap length (get_or_from_slice_get equations k ps ps at))

-- ---- the fields of a layout, as the methods read them: vs are its carriers, and contracts see the list `equations`

pub numbered_view : {A : Type 0} (vs : List (Vec Carrier A)) (firsts : List ℕ) (equations : List (List Carrier))
    → lists_of vs ≡ equations → IsNumbered (lists_of vs) firsts × IsWithinLimits (lists_of vs) → IsNumbered equations firsts
numbered_view vs firsts equations is h = subst (λ (es : List (List Carrier)). IsNumbered es firsts) is h.0

pub limits_view : {A : Type 0} (vs : List (Vec Carrier A)) (firsts : List ℕ) (equations : List (List Carrier))
    → lists_of vs ≡ equations → IsNumbered (lists_of vs) firsts × IsWithinLimits (lists_of vs) → IsWithinLimits equations
limits_view vs firsts equations is h = subst IsWithinLimits is h.1

-- an equation's carriers that are read
pub carriers_read : {A : Type 0} (vs : List (Vec Carrier A)) (equations : List (List Carrier)) (k : ℕ)
    (v : Vec Carrier A) (xs : List Carrier) → lists_of vs ≡ equations → k < length equations → v ≡ get_or vs k v
    → xs ≡ v.items → slice_get equations k ≡ Some xs
carriers_read vs equations k v xs is below read items =
    ap (λ (es : List (List Carrier)). slice_get es k) (sym is)
    ∙ (slice_get-lists_of vs k v (omega (arith, below, ap length is, length-lists_of vs)) read ∙ ap Some (sym items))

-- an equation's carriers that are got from a slice of them
pub carriers_got : {A : Type 0} (vs ws : List (Vec Carrier A)) (equations : List (List Carrier)) (k : ℕ)
    (v : Vec Carrier A) (xs : List Carrier) → ws ≡ vs → lists_of vs ≡ equations → k < length ws → v ≡ get_or ws k v
    → xs ≡ v.items → slice_get equations k ≡ Some xs
carriers_got vs ws equations k v xs same is below read items =
    let shown : lists_of ws ≡ equations = ap lists_of same ∙ is in
    carriers_read ws equations k v xs shown (omega (arith, below, ap length shown, length-lists_of ws)) read items

-- the number of an instance fits
pub number_fits : (equations : List (List Carrier)) (k r : ℕ) (ps : List Carrier) (vs : Tuple)
    → IsWithinLimits equations → slice_get equations k ≡ Some ps → slice_get (tuples (map values_of ps)) r ≡ Some vs
    → first_of (carriers_of equations) k + r < MAX_NUMBERS + 1
number_fits equations k r ps vs limits at_k at_r =
    let below : first_of (carriers_of equations) k + r < count_of equations =
    slice_get_within (instances (carriers_of equations)) (first_of (carriers_of equations) k + r) (with_values k vs)
    (number_at equations k r ps vs at_k at_r) in
    omega (arith, below, limits.few_instances)
