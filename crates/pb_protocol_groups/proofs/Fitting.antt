-- How many variables each group has.
use Rattle.std.proofs.Common.{◌≡◌, ℕ, zero, suc, ◌+◌, ◌-◌, ◌*◌, ◌<◌, ◌≤◌, Bool, true, false, List, [], ◌∷◌, ◌++◌, take, drop, get_or, length, if◌then◌else◌, refl, sym, ap, ◌∙◌, append_assoc, arith}
use Rattle.std.specs.Prelude.{min, ◌&&◌, nat_le}
use Rattle.std.specs.List.{list_all}
use Rattle.std.proofs.lemmas.Bool.{le-leb, lt-leb}
use Rattle.std.proofs.lemmas.List.{at_drop_more, drop-drop, length-map}
use Rattle.pb_model_meaning.specs.Syntax.{Model}
use Rattle.pb_protocol_packing.specs.declared.limits.TheConstants.{MAX_GROUP_VALUES}
use Rattle.pb_protocol_packing.specs.Packing.{Member}
use Rattle.pb_protocol_packing.specs.Sizes.{makes_few, cut_into_groups, fitting, fitting_sizes}
use Rattle.pb_protocol_groups.specs.declared.state_variables.StateVariable.{StateVariable}
use Rattle.pb_protocol_groups.specs.Variables.{as_member, members_for}
use Rattle.pb_protocol_groups.proofs.Cuts.{cut-step, drop-map}

-- ---- groups one after another

-- the next group, and those behind it
pub cut-few : (m : Model) (xs : List StateVariable) (k first end : ℕ) (ks : List ℕ) → first ≤ length xs → end ≡ first + min (length xs - first) k
    → list_all makes_few (cut_into_groups (k ∷ ks) (members_for m (drop first xs)))
    ≡ (makes_few (members_for m (take (end - first) (drop first xs))) && list_all makes_few (cut_into_groups ks (members_for m (drop end xs))))
cut-few m xs k first end ks within is = ap (list_all makes_few) (cut-step m xs k first end ks within is)

-- where the next group has few values, it is those behind it that have to
pub step-few : (m : Model) (xs : List StateVariable) (k first end : ℕ) (ks : List ℕ) (b : Bool) → first ≤ length xs → end ≡ first + min (length xs - first) k
    → b ≡ makes_few (members_for m (take (end - first) (drop first xs))) → b ≡ true
    → list_all makes_few (cut_into_groups (k ∷ ks) (members_for m (drop first xs))) ≡ list_all makes_few (cut_into_groups ks (members_for m (drop end xs)))
step-few m xs k first end ks b within is test e =
    cut-few m xs k first end ks within is ∙ ap (λ (c : Bool). c && list_all makes_few (cut_into_groups ks (members_for m (drop end xs)))) (sym test ∙ e)

pub step-many : (m : Model) (xs : List StateVariable) (k first end : ℕ) (ks : List ℕ) (b : Bool) → first ≤ length xs → end ≡ first + min (length xs - first) k
    → b ≡ makes_few (members_for m (take (end - first) (drop first xs))) → b ≡ false
    → list_all makes_few (cut_into_groups (k ∷ ks) (members_for m (drop first xs))) ≡ false
step-many m xs k first end ks b within is test e =
    cut-few m xs k first end ks within is ∙ ap (λ (c : Bool). c && list_all makes_few (cut_into_groups ks (members_for m (drop end xs)))) (sym test ∙ e)

-- ---- variables that fit

pub fits-too : (v n : ℕ) (p : Member) (ps : List Member) → n ≡ v * p.size → n ≤ MAX_GROUP_VALUES → fitting v (p ∷ ps) ≡ suc (fitting n ps)
fits-too v n p ps is few =
    ap (λ (k : ℕ). if nat_le k MAX_GROUP_VALUES then suc (fitting k ps) else 0) (sym is)
    ∙ ap (λ (b : Bool). if b then suc (fitting n ps) else 0) (le-leb n MAX_GROUP_VALUES few)

pub fits-not : (v n : ℕ) (p : Member) (ps : List Member) → n ≡ v * p.size → MAX_GROUP_VALUES < n → fitting v (p ∷ ps) ≡ 0
fits-not v n p ps is many =
    ap (λ (k : ℕ). if nat_le k MAX_GROUP_VALUES then suc (fitting k ps) else 0) (sym is)
    ∙ ap (λ (b : Bool). if b then suc (fitting n ps) else 0) (lt-leb n MAX_GROUP_VALUES many)

-- the variable at a place, and those behind it
pub fitting-at : (m : Model) (xs : List StateVariable) (v k : ℕ) (x : StateVariable) → k < length xs → x ≡ get_or xs k x
    → fitting v (members_for m (drop k xs)) ≡ fitting v (as_member m x ∷ members_for m (drop (k + 1) xs))
fitting-at m xs v k x less is =
    at_drop_more (λ (ys : List StateVariable). fitting v (members_for m ys)) xs k x less
    ∙ ap (λ (y : StateVariable). fitting v (members_for m (y ∷ drop (k + 1) xs))) (sym is)

pub none-left : (m : Model) (xs : List StateVariable) (v k : ℕ) → length xs ≤ k → fitting v (members_for m (drop k xs)) ≡ 0
none-left m [] v zero h = refl
none-left m [] v (suc k) h = refl
none-left m (x ∷ xs) v zero h = absurd (omega (arith, h))
none-left m (x ∷ xs) v (suc k) h = none-left m xs v k (omega (arith, h))

-- ---- as many as fit in each group

-- the next size, and those behind it
sizes-at : (m : Model) (xs : List StateVariable) (k first n own : ℕ) (x : StateVariable) → first < length xs → x ≡ get_or xs first x → own ≡ (as_member m x).size
    → n ≡ fitting own (members_for m (drop (first + 1) xs))
    → fitting_sizes (suc k) (members_for m (drop first xs)) ≡ (n + 1) ∷ fitting_sizes k (members_for m (drop (first + (n + 1)) xs))
sizes-at m xs k first n own x less is size count =
    let p = as_member m x in
    let ys = drop (first + 1) xs in
    let ps = members_for m ys in
    let far : first + 1 + n ≡ first + (n + 1) = omega arith in
    at_drop_more (λ (zs : List StateVariable). fitting_sizes (suc k) (members_for m zs)) xs first x less
    ∙ ap (λ (y : StateVariable). fitting_sizes (suc k) (as_member m y ∷ ps)) (sym is)
    ∙ ap (λ (i : ℕ). suc i ∷ fitting_sizes k (drop i ps)) (ap (λ (v : ℕ). fitting v ps) (sym size) ∙ sym count)
    ∙ ap (λ (i : ℕ). i ∷ fitting_sizes k (drop n ps)) (let e : suc n ≡ n + 1 = omega arith in e)
    ∙ ap (λ (qs : List Member). (n + 1) ∷ fitting_sizes k qs) (drop-map (as_member m) n ys ∙ ap (members_for m) (drop-drop n (first + 1) xs ∙ ap (λ (i : ℕ). drop i xs) far))

pub size-more : (m : Model) (xs : List StateVariable) (j k first n own : ℕ) (x : StateVariable) (done made all : List ℕ) → first < length xs → x ≡ get_or xs first x → own ≡ (as_member m x).size
    → n ≡ fitting own (members_for m (drop (first + 1) xs)) → j ≡ suc k → made ≡ done ++ (n + 1) ∷ []
    → done ++ fitting_sizes j (members_for m (drop first xs)) ≡ all → made ++ fitting_sizes k (members_for m (drop (first + (n + 1)) xs)) ≡ all
size-more m xs j k first n own x done made all less is size count next push h =
    let rest = fitting_sizes k (members_for m (drop (first + (n + 1)) xs)) in
    ap (λ (ks : List ℕ). ks ++ rest) push ∙ append_assoc done ((n + 1) ∷ []) rest
    ∙ ap (λ (ks : List ℕ). done ++ ks) (sym (sizes-at m xs k first n own x less is size count))
    ∙ ap (λ (i : ℕ). done ++ fitting_sizes i (members_for m (drop first xs))) (sym next) ∙ h

-- what is left is the last group, if there is any
pub last-size : (m : Model) (xs : List StateVariable) (j first : ℕ) → j ≡ 0 → first < length xs → fitting_sizes j (members_for m (drop first xs)) ≡ (length xs - first) ∷ []
last-size m xs j first none less = ap (λ (i : ℕ). fitting_sizes i (members_for m (drop first xs))) none ∙ by xs first less
  where
    by : (xs : List StateVariable) (first : ℕ) → first < length xs → fitting_sizes 0 (members_for m (drop first xs)) ≡ (length xs - first) ∷ []
    by [] first less = absurd (omega (arith, less))
    by (x ∷ xs) zero less = ap (λ (n : ℕ). n ∷ []) (let e : suc (length (members_for m xs)) ≡ suc (length xs) - 0 = omega (arith, length-map xs (as_member m)) in e)
    by (x ∷ xs) (suc k) less =
        by xs k (omega (arith, less)) ∙ ap (λ (n : ℕ). n ∷ []) (let e : length xs - k ≡ suc (length xs) - suc k = omega arith in e)

pub no-size : (m : Model) (xs : List StateVariable) (j first : ℕ) → length xs ≤ first → fitting_sizes j (members_for m (drop first xs)) ≡ []
no-size m xs zero first h = by xs first h
  where
    by : (xs : List StateVariable) (first : ℕ) → length xs ≤ first → fitting_sizes 0 (members_for m (drop first xs)) ≡ []
    by [] zero h = refl
    by [] (suc k) h = refl
    by (x ∷ xs) zero h = absurd (omega (arith, h))
    by (x ∷ xs) (suc k) h = by xs k (omega (arith, h))
no-size m xs (suc j) first h = by xs first h
  where
    by : (xs : List StateVariable) (first : ℕ) → length xs ≤ first → fitting_sizes (suc j) (members_for m (drop first xs)) ≡ []
    by [] zero h = refl
    by [] (suc k) h = refl
    by (x ∷ xs) zero h = absurd (omega (arith, h))
    by (x ∷ xs) (suc k) h = by xs k (omega (arith, h))
