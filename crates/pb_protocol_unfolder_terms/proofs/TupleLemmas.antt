-- How many tuples of values there are.
use Rattle.std.proofs.Common.{◌≡◌, ◌∙◌, refl, sym, ap, subst, ℕ, zero, suc, ◌+◌, ◌*◌, ◌<◌, ◌≤◌, arith, List, [], ◌∷◌, map, flat_map, drop, drop-cons, get_or, length, false, true, Result, Ok, Err}
use Rattle.std.proofs.lemmas.List.{length-append, length-map}
use Rattle.std.proofs.Math.Nat.{le-mul_of_pos_right, mul-pos}
use Rattle.std.proofs.lemmas.Bool.{false≢true}
use Rattle.std.specs.Prelude.{◌↔◌, IsErrAnd, MatchResult}
use Rattle.pb_base.specs.declared.or_memory.OrMemory.{OrMemory}
use Rattle.pb_base.specs.declared.or_memory.OrMemory.TheVariants.{Refused, Memory}
use Rattle.pb_text_tree.specs.declared.place.Place.{Place}
use Rattle.pb_text_meaning.specs.Syntax.{Term, Spec}
use Rattle.pb_protocol_unfolding.specs.Written.{written_tuples, written_values}
use Rattle.pb_protocol_unfolder_terms.specs.declared.sorts.Variable as declared_variable
use Rattle.pb_protocol_unfolder_terms.specs.declared.fault.UnfoldFault.{UnfoldFault}
use Rattle.pb_protocol_unfolder_terms.specs.Values.{IsTooLong}
use Rattle.pb_protocol_unfolder_terms.specs.View.{variable_of}

-- how many tuples of values of these variables there are
abbrev pub tuple_count : Spec → List declared_variable.Variable → ℕ
tuple_count spec vs = length (written_tuples spec (map variable_of vs))

abbrev pub value_count : Spec → declared_variable.Variable → ℕ
value_count spec v = length (written_values spec (variable_of v).sort)

each-counted : (T : List (List Term)) (ks : List Term) → length (flat_map (λ k. map (λ (ts : List Term). k ∷ ts) T) ks) ≡ length ks * length T
each-counted T [] = let e : 0 ≡ 0 * length T = omega arith in e
each-counted T (k ∷ ks) =
    let e : length T + length ks * length T ≡ suc (length ks) * length T = omega arith in
    length-append (map (λ (ts : List Term). k ∷ ts) T) (flat_map (λ k. map (λ (ts : List Term). k ∷ ts) T) ks)
    ∙ ap (λ (n : ℕ). n + length (flat_map (λ k. map (λ (ts : List Term). k ∷ ts) T) ks)) (length-map T (λ (ts : List Term). k ∷ ts))
    ∙ ap (λ (n : ℕ). length T + n) (each-counted T ks)
    ∙ e

-- each value of the first variable stands in front of each tuple of the others
pub count-first : (spec : Spec) (v : declared_variable.Variable) (vs : List declared_variable.Variable) → tuple_count spec (v ∷ vs) ≡ value_count spec v * tuple_count spec vs
count-first spec v vs = each-counted (written_tuples spec (map variable_of vs)) (written_values spec (variable_of v).sort)

factors : (n m : ℕ) → 0 < n * m → (0 < n) × (0 < m)
factors zero m h = absurd (omega (arith, h))
factors (suc n) zero h = absurd (omega (arith, h))
factors (suc n) (suc m) h = (omega arith, omega arith)

-- as the code counts them from the k-th variable on
pub count-next : (spec : Spec) (vs : List declared_variable.Variable) (k : ℕ) (v : declared_variable.Variable)
    → k < length vs → v ≡ get_or vs k v → tuple_count spec (drop k vs) ≡ value_count spec v * tuple_count spec (drop (k + 1) vs)
count-next spec vs k v h is =
    let next : suc k ≡ k + 1 = omega arith in
    ap (tuple_count spec) (drop-cons vs k v h ∙ ap (λ w. w ∷ drop (suc k) vs) (sym is))
    ∙ count-first spec v (drop (suc k) vs)
    ∙ ap (λ (j : ℕ). value_count spec v * tuple_count spec (drop j vs)) next

-- where there are tuples there are some from each variable on, and no more than of all
pub rest-counted : (spec : Spec) (vs : List declared_variable.Variable) (k : ℕ) → 0 < tuple_count spec vs → (0 < tuple_count spec (drop k vs)) × (tuple_count spec (drop k vs) ≤ tuple_count spec vs)
rest-counted spec vs zero h = (h, omega arith)
rest-counted spec [] (suc k) h = (h, omega arith)
rest-counted spec (v ∷ vs) (suc k) h =
    let e = count-first spec v vs in
    let product : 0 < value_count spec v * tuple_count spec vs = subst (λ (n : ℕ). 0 < n) e h in
    let both = factors (value_count spec v) (tuple_count spec vs) product in
    let rest = rest-counted spec vs k both.1 in
    let more : tuple_count spec vs ≤ tuple_count spec vs * value_count spec v = le-mul_of_pos_right (tuple_count spec vs) both.0 in
    (rest.0, omega (arith, rest.1, more, e))

in-range : {A : Type 0} (xs : List A) (k : ℕ) (d e : A) → k < length xs → get_or xs k d ≡ get_or xs k e
in-range [] k d e h = absurd (omega (arith, h))
in-range (x ∷ xs) zero d e h = refl
in-range (x ∷ xs) (suc k) d e h = in-range xs k d e (omega (arith, h))

pub count-at : (spec : Spec) (vs : List declared_variable.Variable) (k j : ℕ) (d : declared_variable.Variable)
    → j ≡ k + 1 → k < length vs → tuple_count spec (drop k vs) ≡ value_count spec (get_or vs k d) * tuple_count spec (drop j vs)
count-at spec vs k j d next h =
    count-next spec vs k (get_or vs k d) h (in-range vs k d (get_or vs k d) h)
    ∙ ap (λ (i : ℕ). value_count spec (get_or vs k d) * tuple_count spec (drop i vs)) (sym next)

-- whether there are tuples from the next variable on
pub next-has : (n m c : ℕ) (P : Type 0) → c ≡ n * m → 0 < n → (0 < c) ↔ P → (0 < m) ↔ P
next-has n m c P e some both =
    (λ h. both.0 (subst (λ (v : ℕ). 0 < v) (sym e) (mul-pos some h)), λ p. (factors n m (subst (λ (v : ℕ). 0 < v) e (both.1 p))).1)

-- more tuples from a variable on than a limit are more of all
pub more-of-all : (spec : Spec) (vs : List declared_variable.Variable) (k j : ℕ) (d : declared_variable.Variable) → j ≡ k + 1 → k < length vs → 0 < tuple_count spec vs
    → 8192 < value_count spec (get_or vs k d) * tuple_count spec (drop j vs) → 8192 < tuple_count spec vs
more-of-all spec vs k j d next h some more =
    let rest = rest-counted spec vs k some in
    omega (arith, rest.1, count-at spec vs k j d next h, more)

-- and so are more values of a variable
pub values-of-all : (spec : Spec) (vs : List declared_variable.Variable) (k j : ℕ) (d : declared_variable.Variable) → j ≡ k + 1 → k < length vs → 0 < tuple_count spec vs
    → 8192 < value_count spec (get_or vs k d) → 8192 < tuple_count spec vs
values-of-all spec vs k j d next h some more =
    let rest = rest-counted spec vs j some in
    let each : value_count spec (get_or vs k d) ≤ value_count spec (get_or vs k d) * tuple_count spec (drop j vs) = le-mul_of_pos_right (value_count spec (get_or vs k d)) rest.0 in
    more-of-all spec vs k j d next h some (omega (arith, each, more))

-- a list that is too long makes another one too long
pub longer : {A B : Type 0} (xs : List A) (ys : List B) (place : Place) (e : OrMemory UnfoldFault) → (8192 < length xs → 8192 < length ys) → IsTooLong xs place e → IsTooLong ys place e
longer xs ys place (Refused f) to p = (p.0, to p.1)
longer xs ys place Memory to p = tt

pub too-long : {A B : Type 0} (r : Result A (OrMemory UnfoldFault)) (e : OrMemory UnfoldFault) (P : A → Type 0)
    (xs : List B) (place : Place) → IsErrAnd r (λ d. d ≡ e) → IsTooLong xs place e → MatchResult r P (IsTooLong xs place)
too-long (Ok a) e P xs place h t = absurd h
too-long (Err d) e P xs place h t = subst (IsTooLong xs place) (sym h) t

pub not-within : (n : ℕ) → (n ≤ 8192 → false ≡ true) → 8192 < n
not-within n h = let no : n ≤ 8192 → ⊥ = λ l. false≢true (h l) in omega (arith, no)
