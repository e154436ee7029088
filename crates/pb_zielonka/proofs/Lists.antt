-- Regions as lists: what a loop over a list has done, parts of a list, and a list in another order.
use Rattle.std.proofs.Common.{◌≡◌, ◌≢◌, ℕ, zero, suc, ◌+◌, ◌<◌, ◌≤◌, ◌⊎◌, inl, inr, arith, refl, sym, ◌∙◌, subst, Bool, false, List, [], ◌∷◌, ◌++◌, length, get_or, take, set, replicate}
use Rattle.std.specs.Prelude.{◌==◌, Contains}
use Rattle.std.specs.List.{AllByRecursion, IsDistinct, SwappedAt}
use Rattle.std.specs.List.Sorted.{IsPermutation}
use Rattle.std.proofs.lemmas.Bool.{cases_eq}
use Rattle.std.proofs.lemmas.Bool.Decides.{nat_tests}
use Rattle.std.proofs.lemmas.List.{get_or-set_same, get_or-set_other, take_all, take_more}
use Rattle.std.proofs.lemmas.List.Sorted.{IsPermutation-sym, Contains-permutation}
use Rattle.std.proofs.lemmas.List.Elements.{Contains-append_left, Contains-append_right, Contains-append_cases}
use Rattle.std.proofs.lemmas.Map.Keys.{IsDistinct-IsPermutation}
use Rattle.pb_game.proofs.Membership.{IsAt, contains_at, contains_place}
use Rattle.pb_zielonka.specs.Regions.{ListsRegion, IsSelection}

pub last_item : (xs : List ℕ) (x : ℕ) → get_or (xs ++ x ∷ []) (length xs) 0 ≡ x
last_item [] x = refl
last_item (y ∷ ys) x = last_item ys x

-- one element more, which is none of the others
all_push : (P : ℕ → Type 0) (xs : List ℕ) (v : ℕ) → AllByRecursion P xs → P v → AllByRecursion P (xs ++ v ∷ [])
all_push P [] v all p = (p, tt)
all_push P (x ∷ xs) v all p = (all.0, all_push P xs v all.1 p)

pub distinct_push : (xs : List ℕ) (v : ℕ) → IsDistinct (λ x y. x == y) xs → ((k : ℕ) → k < length xs → get_or xs k 0 ≢ v) →
    IsDistinct (λ x y. x == y) (xs ++ v ∷ [])
unfolding IsDistinct
distinct_push [] v apart new = (tt, tt)
distinct_push (x ∷ xs) v apart new =
    let other : (x == v) ≡ false = let ne = new 0 (omega arith) in grind (arith, nat_tests, ne) in (
      all_push (λ y. (x == y) ≡ false) xs v apart.0 other,
      distinct_push xs v apart.1 (λ k h. new (suc k) (omega arith)),
    )

pub same_flips : (x y : ℕ) → (x == y) ≡ (y == x)
same_flips x y = elim (cases_eq x y) [
  | inl e ↦ rw e refl
  | inr ne ↦ let a : (x == y) ≡ false = grind (arith, nat_tests) in let b : (y == x) ≡ false = grind (arith, nat_tests) in a ∙ sym b
]

all_at : (P : ℕ → Type 0) (xs : List ℕ) → AllByRecursion P xs → (k : ℕ) → k < length xs → P (get_or xs k 0)
all_at P [] all k h = absurd (omega arith)
all_at P (x ∷ xs) all zero h = all.0
all_at P (x ∷ xs) all (suc k) h = all_at P xs all.1 k (omega arith)

-- two places of a list without repetition
pub distinct_at : (xs : List ℕ) → IsDistinct (λ x y. x == y) xs → (i j : ℕ) → i < j → j < length xs → get_or xs i 0 ≢ get_or xs j 0
unfolding IsDistinct
distinct_at [] apart i j less h = absurd (omega arith)
distinct_at (x ∷ xs) apart zero zero less h = absurd (omega arith)
distinct_at (x ∷ xs) apart zero (suc j) less h = λ e. (let n : (x == get_or xs j 0) ≡ false = all_at (λ y. (x == y) ≡ false) xs apart.0 j (omega arith) in grind (arith, nat_tests, n, e))
distinct_at (x ∷ xs) apart (suc i) zero less h = absurd (omega arith)
distinct_at (x ∷ xs) apart (suc i) (suc j) less h = distinct_at xs apart.1 i j (omega arith) (omega arith)

pub copies : (n v x : ℕ) → get_or (replicate n x) v x ≡ x
copies zero v x = refl
copies (suc n) zero x = refl
copies (suc n) (suc v) x = copies n v x

not_behind : (x : ℕ) (xs : List ℕ) (v k : ℕ) → x ≢ v → (Contains xs v → ⊥) → IsAt (x ∷ xs) v k → ⊥
not_behind x xs v zero ne none h = ne h.there
not_behind x xs v (suc k) ne none h = none (contains_at xs v k (record { within = omega (arith, h.within); there = h.there }))

-- a vertex stands in the list or not
pub listed_or_not : (list : List ℕ) (v : ℕ) → Contains list v ⊎ (Contains list v → ⊥)
listed_or_not [] v = inr (λ h. absurd (omega (arith, h.1)))
listed_or_not (x ∷ xs) v = elim (cases_eq x v) [
  | inl e ↦ inl (contains_at (x ∷ xs) v 0 (record { within = omega arith; there = e }))
  | inr ne ↦ elim (listed_or_not xs v) [
    | inl h ↦
        let k = contains_place xs v h in
        inl (contains_at (x ∷ xs) v (suc k.0) (record { within = omega (arith, k.1.within); there = k.1.there }))
    | inr none ↦ inr (λ h. let k = contains_place (x ∷ xs) v h in not_behind x xs v k.0 ne none k.1)
  ]
]

-- what the loop has done: the first k vertices of the list are done, and the others are as before
pub record AreDone (Done Same : ℕ → Type 0) (list : List ℕ) (k : ℕ) : Type 0 where
  pub within : k ≤ length list
  pub done : (j : ℕ) → j < k → Done (get_or list j 0)
  pub same : (w : ℕ) → ((j : ℕ) → j < k → get_or list j 0 ≢ w) → Same w

-- one vertex more is done
pub done_more : (Done Same Done' Same' : ℕ → Type 0) (list : List ℕ) (k : ℕ) → k < length list → IsDistinct (λ v u. v == u) list →
    (Same (get_or list k 0) → Done' (get_or list k 0)) → ((w : ℕ) → w ≢ get_or list k 0 → Done w → Done' w) →
    ((w : ℕ) → w ≢ get_or list k 0 → Same w → Same' w) → AreDone Done Same list k → AreDone Done' Same' list (k + 1)
done_more Done Same Done' Same' list k less apart here later still i = record {
  within = omega arith;
  done = λ j h. elim (cases_eq j k) [
    | inl e ↦ subst (λ (x : ℕ). Done' (get_or list x 0)) (sym e) (here (i.same (get_or list k 0) (λ x l. distinct_at list apart x k l less)))
    | inr ne ↦ later (get_or list j 0) (distinct_at list apart j k (omega arith) less) (i.done j (omega arith))
  ];
  same = λ w away. still w (λ e. away k (omega arith) (sym e)) (i.same w (λ j h. away j (omega arith)));
}

-- at the loop's end all of the list is done, and nothing else
done_in : (Done Same : ℕ → Type 0) (list : List ℕ) (k : ℕ) → length list ≤ k → AreDone Done Same list k → (v : ℕ) → Contains list v → Done v
done_in Done Same list k all i v h =
    let p = contains_place list v h in
    subst Done p.1.there (i.done p.0 (omega (arith, p.1.within)))

done_out : (Done Same : ℕ → Type 0) (list : List ℕ) (k : ℕ) → AreDone Done Same list k → (v : ℕ) → (Contains list v → ⊥) → Same v
done_out Done Same list k i v none =
    i.same v (λ j h e. none (contains_at list v j (record { within = omega (arith, h, i.within); there = e })))

pub all_done : {Done Same : ℕ → Type 0} {list : List ℕ} {k : ℕ} → length list ≤ k → AreDone Done Same list k →
    ((v : ℕ) → (Contains list v → ⊥) → Same v → Done v) → (v : ℕ) → Done v
all_done {Done} {Same} {list} {k} all i unlisted v = elim (listed_or_not list v) [
  | inl listed ↦ done_in Done Same list k all i v listed
  | inr none ↦ unlisted v none (done_out Done Same list k i v none)
]

pub single : (v w : ℕ) → Contains (v ∷ []) w → w ≡ v
single v w h = let k = contains_place (v ∷ []) w h in elim (cases_eq k.0 0) [
  | inl e ↦ sym k.1.there ∙ subst (λ (x : ℕ). get_or (v ∷ []) x 0 ≡ v) (sym e) refl
  | inr ne ↦ absurd (omega (arith, k.1.within))
]

pub itself : (v : ℕ) → Contains (v ∷ []) v
itself v = contains_at (v ∷ []) v 0 (record { within = omega arith; there = refl })

pub part_none : (P : ℕ → Type 0) → IsSelection P [] []
part_none P = record {
  within = λ v h. h;
  meets = λ v h. absurd (omega (arith, h.1));
  all = λ v h p. h;
}

-- one vertex more of the list, which meets P
part_taken : (P : ℕ → Type 0) (part list : List ℕ) (v : ℕ) → P v → IsSelection P part list → IsSelection P (part ++ v ∷ []) (list ++ v ∷ [])
part_taken P part list v p i = record {
  within = λ w h. elim (Contains-append_cases part (v ∷ []) w h) [
    | inl h' ↦ Contains-append_left list (v ∷ []) w (i.within w h')
    | inr h' ↦ Contains-append_right list (v ∷ []) w h'
  ];
  meets = λ w h. elim (Contains-append_cases part (v ∷ []) w h) [
    | inl h' ↦ i.meets w h'
    | inr h' ↦ subst P (sym (single v w h')) p
  ];
  all = λ w h q. elim (Contains-append_cases list (v ∷ []) w h) [
    | inl h' ↦ Contains-append_left part (v ∷ []) w (i.all w h' q)
    | inr h' ↦ Contains-append_right part (v ∷ []) w h'
  ];
}

-- and one that doesn't
part_passed : (P : ℕ → Type 0) (part list : List ℕ) (v : ℕ) → (P v → ⊥) → IsSelection P part list → IsSelection P part (list ++ v ∷ [])
part_passed P part list v none i = record {
  within = λ w h. Contains-append_left list (v ∷ []) w (i.within w h);
  meets = i.meets;
  all = λ w h q. elim (Contains-append_cases list (v ∷ []) w h) [
    | inl h' ↦ i.all w h' q
    | inr h' ↦ absurd (none (subst P (single v w h') q))
  ];
}

-- a loop has gone through one place more of the list, and has taken it
pub taken_more : (P : ℕ → Type 0) (part part' list : List ℕ) (k : ℕ) → k < length list → P (get_or list k 0) → part' ≡ part ++ get_or list k 0 ∷ [] →
    IsSelection P part (take k list) → IsSelection P part' (take (k + 1) list)
taken_more P part part' list k less meets e i =
    subst (λ (ps : List ℕ). IsSelection P ps (take (k + 1) list)) (sym e)
    (subst (λ (xs : List ℕ). IsSelection P (part ++ get_or list k 0 ∷ []) xs) (sym (take_more list k 0 less)) (part_taken P part (take k list) (get_or list k 0) meets i))

-- or passed it
pub passed_more : (P : ℕ → Type 0) (part part' list : List ℕ) (k : ℕ) → k < length list → (P (get_or list k 0) → ⊥) → part' ≡ part →
    IsSelection P part (take k list) → IsSelection P part' (take (k + 1) list)
passed_more P part part' list k less none e i =
    subst (λ (ps : List ℕ). IsSelection P ps (take (k + 1) list)) (sym e)
    (subst (λ (xs : List ℕ). IsSelection P part xs) (sym (take_more list k 0 less)) (part_passed P part (take k list) (get_or list k 0) none i))

-- and at its end all of the list
pub taken_all : (P : ℕ → Type 0) (part list : List ℕ) (k : ℕ) → length list ≤ k → IsSelection P part (take k list) → IsSelection P part list
taken_all P part list k all i = subst (λ (xs : List ℕ). IsSelection P part xs) (take_all k list all) i

-- a region's list in another order
pub lists_permuted : {region : List Bool} {xs ys : List ℕ} → IsPermutation xs ys → ListsRegion region xs → ListsRegion region ys
lists_permuted {region} {xs} {ys} p i = record {
  inside = λ v h. i.inside v (Contains-permutation ys xs v (IsPermutation-sym xs ys p) h);
  all = λ v h. Contains-permutation xs ys v p (i.all v h);
  once = IsDistinct-IsPermutation (λ v u. v == u) same_flips xs ys p i.once;
}

-- the first k places that the list names have the value x, and the others what they had
pub record IsOverwritten {X : Type 0} (d : X) (old new : List X) (list : List ℕ) (k : ℕ) (x : X) : Type 0 where
  pub within : k ≤ length list
  pub listed : (j : ℕ) → j < k → get_or new (get_or list j 0) d ≡ x
  pub others : (v : ℕ) → ((j : ℕ) → j < k → get_or list j 0 ≢ v) → get_or new v d ≡ get_or old v d

pub overwritten_none : {X : Type 0} (d : X) (xs : List X) (list : List ℕ) (x : X) → IsOverwritten d xs xs list 0 x
overwritten_none d xs list x = record { within = omega arith; listed = λ j h. absurd (omega arith); others = λ v away. refl }

pub overwritten_more : {X : Type 0} (d : X) (old new : List X) (list : List ℕ) (k : ℕ) (x : X) → k < length list → get_or list k 0 < length new →
    IsOverwritten d old new list k x → IsOverwritten d old (set new (get_or list k 0) x) list (k + 1) x
overwritten_more d old new list k x less here i =
    let v = get_or list k 0 in
    let there : get_or (set new v x) v d ≡ x = get_or-set_same new v x d here in
    record {
      within = omega arith;
      listed = λ j h. elim (cases_eq (get_or list j 0) v) [
        | inl e ↦ subst (λ (y : ℕ). get_or (set new v x) y d ≡ x) (sym e) there
        | inr ne ↦ get_or-set_other new v (get_or list j 0) x d ne ∙
            i.listed j (elim (cases_eq j k) [
              | inl e ↦ absurd (ne (subst (λ (y : ℕ). get_or list y 0 ≡ v) (sym e) refl))
              | inr ne' ↦ omega arith
            ])
      ];
      others = λ w away. get_or-set_other new v w x d (λ e. away k (omega arith) (sym e)) ∙ i.others w (λ j h. away j (omega arith));
    }

pub overwritten_in : {X : Type 0} (d : X) (old new : List X) (list : List ℕ) (k : ℕ) (x : X) → length list ≤ k → IsOverwritten d old new list k x →
    (v : ℕ) → Contains list v → get_or new v d ≡ x
overwritten_in d old new list k x all i v h =
    let p = contains_place list v h in
    subst (λ (y : ℕ). get_or new y d ≡ x) p.1.there (i.listed p.0 (omega (arith, p.1.within)))

pub overwritten_out : {X : Type 0} (d : X) (old new : List X) (list : List ℕ) (k : ℕ) (x : X) → IsOverwritten d old new list k x →
    (v : ℕ) → (Contains list v → ⊥) → get_or new v d ≡ get_or old v d
overwritten_out d old new list k x i v none =
    i.others v (λ j h e. none (contains_at list v j (record { within = omega (arith, h, i.within); there = e })))

-- the first vertices of the first k have rank 0, and the others of these have not
pub record IsCutSoFar (rank list : List ℕ) (first k : ℕ) : Type 0 where
  pub kept : first ≤ k
  pub vertices : (j : ℕ) → j < length list → get_or list j 0 < length rank
  pub front : (j : ℕ) → j < first → get_or rank (get_or list j 0) 0 ≡ 0
  pub behind : (j : ℕ) → first ≤ j → j < k → 0 < get_or rank (get_or list j 0) 0

pub cut_swapped : (rank xs ys : List ℕ) (first k : ℕ) → SwappedAt xs ys first k → length ys ≡ length xs → k < length xs →
    get_or rank (get_or xs k 0) 0 ≡ 0 → IsCutSoFar rank xs first k → IsCutSoFar rank ys (first + 1) (k + 1)
cut_swapped rank xs ys first k s size less free i =
    let to : get_or ys first 0 ≡ get_or xs k 0 = s.0 0 in
    let from : get_or ys k 0 ≡ get_or xs first 0 = s.1 0 in
    let other : (j : ℕ) → j ≢ first → j ≢ k → get_or ys j 0 ≡ get_or xs j 0 = λ j. s.2 j 0 in
    record {
      kept = omega (arith, i.kept);
      vertices = λ j h. elim (cases_eq j first) [
        | inl e ↦ subst (λ (x : ℕ). get_or ys x 0 < length rank) (sym e) (omega (arith, to, i.vertices k less))
        | inr ne ↦ elim (cases_eq j k) [
          | inl e ↦ subst (λ (x : ℕ). get_or ys x 0 < length rank) (sym e) (omega (arith, from, i.vertices first (omega (arith, i.kept, less))))
          | inr ne' ↦ omega (arith, other j ne ne', i.vertices j (omega arith))
        ]
      ];
      front = λ j h. elim (cases_eq j first) [
        | inl e ↦ subst (λ (x : ℕ). get_or rank (get_or ys x 0) 0 ≡ 0) (sym e) (subst (λ (x : ℕ). get_or rank x 0 ≡ 0) (sym to) free)
        | inr ne ↦ subst (λ (x : ℕ). get_or rank x 0 ≡ 0) (sym (other j ne (λ e. absurd (omega (arith, i.kept))))) (i.front j (omega arith))
      ];
      behind = λ j h l. elim (cases_eq j k) [
        | inl e ↦ subst (λ (x : ℕ). 0 < get_or rank (get_or ys x 0) 0) (sym e) (subst (λ (x : ℕ). 0 < get_or rank x 0) (sym from) (i.behind first (omega arith) (omega arith)))
        | inr ne ↦ subst (λ (x : ℕ). 0 < get_or rank x 0) (sym (other j (λ e. absurd (omega arith)) ne)) (i.behind j (omega arith) (omega arith))
      ];
    }

pub cut_kept : (rank xs : List ℕ) (first k : ℕ) → 0 < get_or rank (get_or xs k 0) 0 → IsCutSoFar rank xs first k → IsCutSoFar rank xs first (k + 1)
cut_kept rank xs first k ranked i = record {
  kept = omega (arith, i.kept);
  vertices = i.vertices;
  front = i.front;
  behind = λ j h l. elim (cases_eq j k) [
    | inl e ↦ subst (λ (x : ℕ). 0 < get_or rank (get_or xs x 0) 0) (sym e) ranked
    | inr ne ↦ i.behind j h (omega arith)
  ];
}
