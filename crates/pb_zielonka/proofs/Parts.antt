-- A subgame stands first in its level's list: what a cut of the list leaves, and what a call does to the first part.
use Rattle.std.proofs.Common.{◌≡◌, ℕ, ◌+◌, ◌-◌, ◌<◌, ◌≤◌, ◌⊎◌, inl, inr, arith, refl, sym, ap, ◌∙◌, subst, Bool, true, false, List, ◌++◌, length, get_or, take, drop}
use Rattle.std.specs.Prelude.{◌==◌, Contains}
use Rattle.std.specs.List.{IsDistinct}
use Rattle.std.specs.List.Sorted.{IsPermutation}
use Rattle.std.proofs.lemmas.Bool.{cases_eq, cases_lt, false_from_ne_true}
use Rattle.std.proofs.lemmas.List.{ext_get_or, length-take, length-take-le, length-drop, length-append, get_or-take, get_or-drop, take-append-drop, take-append-le, take_all}
use Rattle.std.proofs.lemmas.List.Elements.{Contains-append_left, Contains-append_right}
use Rattle.std.proofs.lemmas.List.Sorted.{IsPermutation-trans, IsPermutation-append_left, length_permutation}
use Rattle.std.proofs.lemmas.Map.Keys.{IsDistinct-from_apart, apart_from_distinct}
use Rattle.pb_game.specs.declared.Game.{Game}
use Rattle.pb_game.specs.Games.{vertex_count}
use Rattle.pb_game.specs.declared.certificate.Solution.{Solution}
use Rattle.pb_game.proofs.Membership.{contains_at, contains_place}
use Rattle.pb_zielonka.specs.declared.attractor.Attractor.{Attractor}
use Rattle.pb_zielonka.specs.declared.scopes.Workspace.{Workspace}
use Rattle.pb_game.specs.Solutions.{HasLengths}
use Rattle.pb_zielonka.specs.Regions.{IsIn, IsSubgame, ListsRegion, AreVertices}
use Rattle.pb_zielonka.specs.Attractors.{IsBlank, IsWithout, IsCut, IsCutBy, ListsAttracted}
use Rattle.pb_zielonka.specs.Workspaces.{IsReadyToAttract, LeavesFirst, IsReadyAgain}
use Rattle.pb_zielonka.proofs.LevelLemmas.{in_below, in_or_out, unranked_if}
use Rattle.pb_zielonka.proofs.Lists.{listed_or_not, lists_permuted}

-- what stands in a region's list is less than the region is long
pub list_below : {region : List Bool} {list : List ℕ} {n : ℕ} → length region ≡ n → ListsRegion region list → (k : ℕ) → k < length list → get_or list k 0 < n
list_below {region} {list} {n} size l k h =
    in_below region (get_or list k 0) n size (l.inside (get_or list k 0) (contains_at list (get_or list k 0) k (record { within = h; there = refl })))

-- so it is a vertex
pub list_vertices : (g : Game) {region : List Bool} {list : List ℕ} → length region ≡ vertex_count g → ListsRegion region list → AreVertices g list
list_vertices g size l = list_below size l

-- what isn't listed was not attracted
pub unlisted_unranked : {g : Game} {a : Attractor} {list : List ℕ} (v : ℕ) → ListsAttracted g a list → (Contains list v → ⊥) → get_or a.rank.items v 0 ≡ 0
unlisted_unranked {g} {a} v l none = unranked_if a.rank.items v (λ ranked. none (l.all v ranked))

pub front_listed : (list : List ℕ) (first v : ℕ) → Contains (take first list) v → Contains list v
front_listed list first v h =
    subst (λ (xs : List ℕ). Contains xs v) (take-append-drop first list) (Contains-append_left (take first list) (drop first list) v h)

pub behind_listed : (list : List ℕ) (first v : ℕ) → Contains (drop first list) v → Contains list v
behind_listed list first v h =
    subst (λ (xs : List ℕ). Contains xs v) (take-append-drop first list) (Contains-append_right (take first list) (drop first list) v h)

pub distinct_front : (list : List ℕ) (n : ℕ) → IsDistinct (λ v u. v == u) list → IsDistinct (λ v u. v == u) (take n list)
distinct_front list n apart = IsDistinct-from_apart (λ v u. v == u) (take n list) (λ i j d less h.
    let end : j < n = omega (arith, h, length-take n list) in
    let end' : j < length list = omega (arith, h, length-take n list) in
    let a : get_or (take n list) i d ≡ get_or list i d = get_or-take n list i d (omega arith) in
    let b : get_or (take n list) j d ≡ get_or list j d = get_or-take n list j d end in
    rw (a, b) (apart_from_distinct (λ v u. v == u) list i j d apart less end'))

pub distinct_behind : (list : List ℕ) (n : ℕ) → IsDistinct (λ v u. v == u) list → IsDistinct (λ v u. v == u) (drop n list)
distinct_behind list n apart = IsDistinct-from_apart (λ v u. v == u) (drop n list) (λ i j d less h.
    let a : get_or (drop n list) i d ≡ get_or list (n + i) d = get_or-drop n list i d in
    let b : get_or (drop n list) j d ≡ get_or list (n + j) d = get_or-drop n list j d in
    rw (a, b) (apart_from_distinct (λ v u. v == u) list (n + i) (n + j) d apart (omega arith) (omega (arith, h, length-drop n list))))

-- a list has its first part and what stands behind
pub front_or_behind : (list : List ℕ) (n v : ℕ) → Contains list v → Contains (take n list) v ⊎ Contains (drop n list) v
front_or_behind list n v h =
    let k = contains_place list v h in
    elim (cases_lt k.0 n) [
      | inl less ↦ inl (contains_at (take n list) v k.0 (record {
        within = omega (arith, length-take n list, k.1.within);
        there = get_or-take n list k.0 0 less ∙ k.1.there;
      }))
      | inr more ↦
          let sum : k.0 ≡ n + (k.0 - n) = omega arith in
          inr (contains_at (drop n list) v (k.0 - n) (record {
            within = omega (arith, length-drop n list, k.1.within);
            there = get_or-drop n list (k.0 - n) 0 ∙ subst (λ (x : ℕ). get_or list x 0 ≡ v) sum k.1.there;
          }))
    ]

-- the slice from `first` on has all that stands behind
pub slice_behind : (list : List ℕ) (first : ℕ) → first ≤ length list → take (length list - first) (drop first list) ≡ drop first list
slice_behind list first h = take_all (length list - first) (drop first list) (omega (arith, length-drop first list))

-- and what it has is less than the region is long
pub behind_below : (region : List Bool) (list : List ℕ) (first n : ℕ) → first ≤ length list → length region ≡ n → ListsRegion region list →
    (k : ℕ) → k < length (take (length list - first) (drop first list)) → get_or (take (length list - first) (drop first list)) k 0 < n
behind_below region list first n within size l =
    subst (λ (xs : List ℕ). (k : ℕ) → k < length xs → get_or xs k 0 < n) (sym (slice_behind list first within))
    (λ k h. subst (λ (x : ℕ). x < n) (sym (get_or-drop first list k 0)) (list_below size l (first + k) (omega (arith, h, length-drop first list))))

-- what stands first isn't ranked
front_unranked : (rank list : List ℕ) (first v : ℕ) → IsCut rank list first → Contains (take first list) v → get_or rank v 0 ≡ 0
front_unranked rank list first v c h =
    let k = contains_place (take first list) v h in
    let less : k.0 < first = omega (arith, length-take first list, k.1.within) in
    let there : get_or list k.0 0 ≡ v = sym (get_or-take first list k.0 0 less) ∙ k.1.there in
    subst (λ (x : ℕ). get_or rank x 0 ≡ 0) there (c.front k.0 less)

-- what is ranked stands behind
ranked_behind : (region : List Bool) (rank list : List ℕ) (first v : ℕ) → ListsRegion region list → IsCut rank list first → IsIn region v →
    0 < get_or rank v 0 → Contains (drop first list) v
ranked_behind region rank list first v l c inside ranked = elim (front_or_behind list first v (l.all v inside)) [
  | inl front ↦ absurd (omega (arith, front_unranked rank list first v c front))
  | inr behind ↦ behind
]

-- and the other way round
behind_ranked : (rank list : List ℕ) (first v : ℕ) → IsCut rank list first → Contains (drop first list) v → 0 < get_or rank v 0
behind_ranked rank list first v c h =
    let k = contains_place (drop first list) v h in
    let there : get_or list (first + k.0) 0 ≡ v = sym (get_or-drop first list k.0 0) ∙ k.1.there in
    subst (λ (x : ℕ). 0 < get_or rank x 0) there (c.behind (first + k.0) (omega arith) (omega (arith, length-drop first list, k.1.within)))

-- what stands behind is what is attracted
pub attracted_behind : {g : Game} {region : List Bool} {a : Attractor} {list : List ℕ} {first : ℕ} → length region ≡ vertex_count g → IsCutBy region a list first →
    ListsAttracted g a (take (length list - first) (drop first list))
attracted_behind {g} {region} {a} {list} {first} size c =
    let slice = sym (slice_behind list first c.cut.within) in
    record {
      vertices = behind_below region list first (vertex_count g) c.cut.within size c.listed;
      once = subst (λ (xs : List ℕ). IsDistinct (λ v u. v == u) xs) slice (distinct_behind list first c.listed.once);
      all = λ v h. subst (λ (xs : List ℕ). Contains xs v) slice (ranked_behind region a.rank.items list first v c.listed c.cut (c.known.ranked v h) h);
      ranks = c.known.rank_size ∙ size;
      choices = c.known.choice_size ∙ size;
    }

-- the marks once what stands behind is marked as outside
pub record IsUnmarked (left rest : List Bool) (behind : List ℕ) : Type 0 where
  pub size : length rest ≡ length left
  pub listed : (v : ℕ) → Contains behind v → get_or rest v false ≡ false
  pub others : (v : ℕ) → (Contains behind v → ⊥) → get_or rest v false ≡ get_or left v false

-- are those of what isn't attracted
pub without_cut : (left rest : List Bool) (a : Attractor) (list : List ℕ) (first : ℕ) → IsCutBy left a list first → IsUnmarked left rest (take (length list - first) (drop first list)) →
    IsWithout rest left a
without_cut left rest a list first c unmarked =
    let u : IsUnmarked left rest (drop first list) = subst (λ (xs : List ℕ). IsUnmarked left rest xs) (slice_behind list first c.cut.within) unmarked in
    let within : (v : ℕ) → IsIn rest v → IsIn left v = λ v h. elim (listed_or_not (drop first list) v) [
      | inl b ↦ absurd (let no : get_or rest v false ≡ false = u.listed v b in cc (h, no))
      | inr none ↦ sym (u.others v none) ∙ h
    ] in
    record {
      size = u.size;
      within = within;
      outside = λ v h. elim (cases_eq (get_or a.rank.items v 0) 0) [
        | inl z ↦ z
        | inr ne ↦ absurd (let no : get_or rest v false ≡ false = u.listed v (ranked_behind left a.rank.items list first v c.listed c.cut (within v h) (omega arith)) in cc (h, no))
      ];
      all = λ v h z. elim (listed_or_not (drop first list) v) [
        | inl b ↦ absurd (omega (arith, behind_ranked a.rank.items list first v c.cut b, z))
        | inr none ↦ u.others v none ∙ h
      ];
    }

-- and the first part lists it
pub lists_cut : (left rest : List Bool) (a : Attractor) (list : List ℕ) (first : ℕ) → IsCutBy left a list first → IsWithout rest left a → ListsRegion rest (take first list)
lists_cut left rest a list first c w = record {
  inside = λ v h. w.all v (c.listed.inside v (front_listed list first v h)) (front_unranked a.rank.items list first v c.cut h);
  all = λ v h. elim (front_or_behind list first v (c.listed.all v (w.within v h))) [
    | inl front ↦ front
    | inr behind ↦ absurd (omega (arith, behind_ranked a.rank.items list first v c.cut behind, w.outside v h))
  ];
  once = distinct_front list first c.listed.once;
}

-- marks of a part that are set again at the whole region
pub marked_again : {region rest old new : List Bool} {list : List ℕ} → old ≡ rest → length rest ≡ length region → length new ≡ length old → ListsRegion region list →
    ((v : ℕ) → IsIn rest v → IsIn region v) → ((v : ℕ) → Contains list v → get_or new v false ≡ true) →
    ((v : ℕ) → (Contains list v → ⊥) → get_or new v false ≡ get_or old v false) → new ≡ region
marked_again {region} {rest} {old} {new} {list} now e e' l within listed others = ext_get_or false new region (e' ∙ (ap length now ∙ e)) (λ v h. elim (in_or_out region v) [
  | inl inside ↦ listed v (l.all v inside) ∙ sym inside
  | inr out ↦
      let away : get_or region v false ≡ false = false_from_ne_true (get_or region v false) out in
      let away' : get_or rest v false ≡ false = false_from_ne_true (get_or rest v false) (λ i. out (within v i)) in
      let before : get_or old v false ≡ false = subst (λ (xs : List Bool). get_or xs v false ≡ false) (sym now) away' in
      others v (λ c. out (l.inside v c)) ∙ before ∙ sym away
])

-- a change of the first part's order changes the order of the list
pub front_permuted : (xs ys : List ℕ) (m : ℕ) → IsPermutation (take m xs) ys → IsPermutation xs (ys ++ drop m xs)
front_permuted xs ys m p =
    subst (λ (zs : List ℕ). IsPermutation zs (ys ++ drop m xs)) (take-append-drop m xs) (IsPermutation-append_left (drop m xs) (take m xs) ys p)

-- a level's list: the initial one in another order, whose first n vertices are what is left
pub record IsLevelList (left : List Bool) (initial list : List ℕ) (n : ℕ) : Type 0 where
  pub whole : IsPermutation initial list
  pub within : n ≤ length list
  pub listed : ListsRegion left (take n list)

-- as an attractor leaves it
pub level_list : {g : Game} {space : Workspace} {before list : List ℕ} {left : ℕ} {s : Solution} → LeavesFirst g before space list left s →
    IsLevelList space.region.items before list left
level_list l = record { whole = l.permuted; within = l.within; listed = l.ready.listed }

-- what is ready is so with another list of the region and another solution
pub ready_with : {g : Game} {space : Workspace} {list list' : List ℕ} {s s' : Solution} → IsReadyToAttract g space list s → ListsRegion space.region.items list' →
    HasLengths g s' → IsReadyToAttract g space list' s'
ready_with r listed lengths = record { subgame = r.subgame; listed = listed; blank = r.blank; sized = r.sized; lengths = lengths }

-- and again once the region is as before, and listed in another order
pub ready_again : {g : Game} {old new : Workspace} {before list : List ℕ} {s s' : Solution} → IsReadyToAttract g old before s → new.region.items ≡ old.region.items →
    IsPermutation before list → IsBlank (vertex_count g) new.attractor → length new.kept.items ≡ vertex_count g → HasLengths g s' → IsReadyAgain g old before new list s'
ready_again {g} {old} {new} {before} {list} r back permuted blank sized lengths = record {
  region = back;
  permuted = permuted;
  ready = record {
    subgame = subst (λ (x : List Bool). IsSubgame g x) (sym back) r.subgame;
    listed = subst (λ (x : List Bool). ListsRegion x list) (sym back) (lists_permuted permuted r.listed);
    blank = blank;
    sized = sized;
    lengths = lengths;
  };
}

-- it stays one when the first part is put into another order and cut
pub list_cut : {left rest : List Bool} {initial xs ys : List ℕ} {n m : ℕ} → IsLevelList left initial xs n → IsPermutation (take n xs) ys →
    m ≤ length ys → ListsRegion rest (take m ys) → IsLevelList rest initial (ys ++ drop n xs) m
list_cut {left} {rest} {initial} {xs} {ys} {n} {m} l p h listed =
    let front : take m (ys ++ drop n xs) ≡ take m ys = take-append-le m ys (drop n xs) h in
    record {
      whole = IsPermutation-trans initial xs (ys ++ drop n xs) l.whole (front_permuted xs ys n p);
      within = omega (arith, h, length-append ys (drop n xs));
      listed = rw front listed;
    }

-- or not cut
pub list_turned : {left : List Bool} {initial xs ys : List ℕ} {n : ℕ} → IsLevelList left initial xs n → IsPermutation (take n xs) ys → IsLevelList left initial (ys ++ drop n xs) n
list_turned {left} {initial} {xs} {ys} {n} l p =
    let size : length ys ≡ n = length_permutation (take n xs) ys p ∙ length-take-le n xs l.within in
    let all : take n ys ≡ ys = take_all n ys (omega arith) in
    list_cut l p (omega arith) (rw all (lists_permuted p l.listed))

-- marks of what is left, once they are set behind it too
pub marked_behind : {region left old new : List Bool} {initial list : List ℕ} {n : ℕ} → old ≡ left → length left ≡ length region → length new ≡ length old →
    ListsRegion region initial → IsLevelList left initial list n → ((v : ℕ) → Contains (take (length list - n) (drop n list)) v → get_or new v false ≡ true) →
    ((v : ℕ) → (Contains (take (length list - n) (drop n list)) v → ⊥) → get_or new v false ≡ get_or old v false) → new ≡ region
marked_behind {region} {left} {old} {new} {initial} {list} {n} now e e' first p listed others =
    let l : ListsRegion region list = lists_permuted p.whole first in
    let slice : take (length list - n) (drop n list) ≡ drop n list = slice_behind list n p.within in
    ext_get_or false new region (e' ∙ (ap length now ∙ e)) (λ v h. elim (listed_or_not (take (length list - n) (drop n list)) v) [
      | inl behind ↦ listed v behind ∙ sym (l.inside v (behind_listed list n v (subst (λ (xs : List ℕ). Contains xs v) slice behind)))
      | inr none ↦ others v none ∙ subst (λ (xs : List Bool). get_or xs v false ≡ get_or region v false) (sym now) (elim (in_or_out region v) [
        | inl inside ↦ elim (front_or_behind list n v (l.all v inside)) [
          | inl front ↦ p.listed.inside v front ∙ sym inside
          | inr behind ↦ absurd (none (subst (λ (xs : List ℕ). Contains xs v) (sym slice) behind))
        ]
        | inr out ↦ false_from_ne_true (get_or left v false) (λ i. out (l.inside v (front_listed list n v (p.listed.all v i))))
            ∙ sym (false_from_ne_true (get_or region v false) out)
      ])
    ])
