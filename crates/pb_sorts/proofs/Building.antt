-- The lists of a layout while they are built: one equation more, and the whole.
use Rattle.std.proofs.Common.{◌≡◌, ℕ, zero, suc, ◌+◌, ◌<◌, ◌≤◌, List, [], ◌∷◌, ◌++◌, length, drop, get_or, Some, All, Vec, vec_len, refl, sym, ◌∙◌, ap, subst, arith, append_assoc, length-append, ⊎_elim}
use Rattle.std.proofs.lemmas.List.{map-append, get_or_push, get_or_append_left, append-nil, drop_all}
use Rattle.std.specs.List.{slice_get}
use Rattle.std.proofs.lemmas.Option.{get_or_from_slice_get}
use Rattle.std.proofs.lemmas.Bool.{cases_lt}
use Rattle.pb_base.specs.declared.limits.TheConstants.{MAX_EQUATIONS, MAX_PARAMETERS}
use Rattle.pb_sorts.specs.declared.counting.TheConstants.{MAX_NUMBERS}
use Rattle.pb_sorts.specs.declared.carrier.Carrier.{Carrier}
use Rattle.pb_sorts.specs.Instance.{first_of}
use Rattle.pb_sorts.specs.Layout.{carriers_of, count_of, lists_of, IsNumbered, IsWithinLimits}
use Rattle.pb_sorts.proofs.Places.{slice_get-mapped, drop-at}
use Rattle.pb_sorts.proofs.Equations.{length-lists_of}

lists_of-push : {A : Type 0} (vs : List (Vec Carrier A)) (v : Vec Carrier A) → lists_of (vs ++ v ∷ []) ≡ lists_of vs ++ v.items ∷ []
lists_of-push {A} vs v = map-append (λ (u : Vec Carrier A). u.items) vs (v ∷ [])

-- one equation more is copied
pub copied_more : {A : Type 0} (vs done more : List (Vec Carrier A)) (k : ℕ) (v w : Vec Carrier A) → k < length vs → v ≡ get_or vs k v → w.items ≡ v.items → more ≡ done ++ w ∷ []
    → lists_of done ++ lists_of (drop k vs) ≡ lists_of vs → lists_of more ++ lists_of (drop (k + 1) vs) ≡ lists_of vs
copied_more {A} vs done more k v w below read same more_is so_far =
    ap (λ (us : List (Vec Carrier A)). lists_of us ++ lists_of (drop (k + 1) vs)) more_is
    ∙ (ap (λ (ls : List (List Carrier)). ls ++ lists_of (drop (k + 1) vs)) (lists_of-push done w)
    ∙ (append_assoc (lists_of done) (w.items ∷ []) (lists_of (drop (k + 1) vs))
    ∙ (ap (λ (l : List Carrier). lists_of done ++ (l ∷ lists_of (drop (k + 1) vs))) same
    ∙ (ap (λ (us : List (Vec Carrier A)). lists_of done ++ lists_of us) (sym (drop-at vs k v below read))
    ∙ so_far))))

-- all are copied
pub copied_all : {A : Type 0} (vs done : List (Vec Carrier A)) (k : ℕ) → length vs ≤ k → lists_of done ++ lists_of (drop k vs) ≡ lists_of vs → lists_of done ≡ lists_of vs
copied_all {A} vs done k past so_far =
    sym (append-nil (lists_of done)) ∙ (ap (λ (us : List (Vec Carrier A)). lists_of done ++ lists_of us) (sym (drop_all k vs past)) ∙ so_far)

-- one first number more
pub starts_more : (xs ys : List ℕ) (x k : ℕ) (start : ℕ → ℕ) → ys ≡ xs ++ x ∷ [] → length xs ≡ k → x ≡ start k
    → ((j : ℕ) → j < k → get_or xs j 0 ≡ start j) → (j : ℕ) → j < k + 1 → get_or ys j 0 ≡ start j
starts_more xs ys x k start ys_is long x_is so_far j below =
    ap (λ (zs : List ℕ). get_or zs j 0) ys_is
    ∙ ⊎_elim (λ (h : j < k). get_or_append_left xs (x ∷ []) 0 j (omega (arith, h, long)) ∙ so_far j h)
    (λ (h : k ≤ j). let same : j ≡ k = omega (arith, h, below) in get_or_push xs x 0 j (omega (arith, long, same)) ∙ (x_is ∙ ap start (sym same)))
    (cases_lt j k)

pub length-pushed : {X : Type 0} (xs ys : List X) (x : X) (k : ℕ) → ys ≡ xs ++ x ∷ [] → length xs ≡ k → length ys ≡ k + 1
length-pushed xs ys x k ys_is long = ap length ys_is ∙ (length-append xs (x ∷ []) ∙ omega (arith, long))

-- a place below the length has an element
record HasElement {X : Type 0} (xs : List X) (k : ℕ) : Type 0 where
  element : X
  at : slice_get xs k ≡ Some element

element_at : {X : Type 0} (xs : List X) (k : ℕ) → k < length xs → HasElement xs k
element_at [] k below = absurd (omega (arith, below))
element_at (x ∷ xs) zero below = record { element = x; at = refl }
element_at (x ∷ xs) (suc k) below = let rest : HasElement xs k = element_at xs k (omega (arith, below)) in record { element = rest.element; at = rest.at }

-- each list is as short as its vector
parameters_few : {A : Type 0} (vs : List (Vec Carrier A)) (k : ℕ) (d : List Carrier) → k < length vs
    → All (λ (v : Vec Carrier A). vec_len v ≤ MAX_PARAMETERS) vs → length (get_or (lists_of vs) k d) ≤ MAX_PARAMETERS
parameters_few {A} vs k d below few =
    let e : HasElement vs k = element_at vs k below in
    let list : get_or (lists_of vs) k d ≡ e.element.items = get_or_from_slice_get (lists_of vs) k e.element.items d (slice_get-mapped (λ (u : Vec Carrier A). u.items) vs k e.element e.at) in
    let vector : get_or vs k e.element ≡ e.element = get_or_from_slice_get vs k e.element e.element e.at in
    let short : vec_len (get_or vs k e.element) ≤ MAX_PARAMETERS = few k e.element below in
    omega (arith, short, ap length list, ap (λ (v : Vec Carrier A). vec_len v) vector, e.element.ok.0)

-- the lists are those of a layout
pub built : {A : Type 0} (vs done : List (Vec Carrier A)) (xs ys : List ℕ) (x k : ℕ) → length vs ≤ k → k ≤ length vs → lists_of done ++ lists_of (drop k vs) ≡ lists_of vs
    → ys ≡ xs ++ x ∷ [] → length xs ≡ k → x ≡ first_of (carriers_of (lists_of vs)) k → ((j : ℕ) → j < k → get_or xs j 0 ≡ first_of (carriers_of (lists_of vs)) j)
    → length vs ≤ MAX_EQUATIONS → All (λ (v : Vec Carrier A). vec_len v ≤ MAX_PARAMETERS) vs → count_of (lists_of vs) ≤ MAX_NUMBERS
    → IsNumbered (lists_of done) ys × IsWithinLimits (lists_of done)
built {A} vs done xs ys x k past within so_far ys_is long x_is starts few_equations few_parameters few_instances =
    subst (λ (es : List (List Carrier)). IsNumbered es ys × IsWithinLimits es) (sym (copied_all vs done k past so_far)) (
      record {
        long = omega (arith, length-pushed xs ys x k ys_is long, length-lists_of vs, past, within);
        starts = λ j h. starts_more xs ys x k (first_of (carriers_of (lists_of vs))) ys_is long x_is starts j (omega (arith, h, length-lists_of vs, past, within));
      },
      record {
        few_equations = omega (arith, few_equations, length-lists_of vs);
        few_parameters = λ j d h. parameters_few vs j d (omega (arith, h, length-lists_of vs)) few_parameters;
        few_instances = few_instances;
      },
    )
