-- What stays kept: marks that are taken, and what that leaves.
use Rattle.std.proofs.Common.{◌≡◌, ◌≢◌, ℕ, ◌+◌, ◌<◌, ◌≤◌, ◌∙◌, inl, inr, arith, refl, sym, subst, Bool, true, false, List, [], ◌∷◌, ◌++◌, length, get_or, set, length-set, length-append}
use Rattle.std.specs.Prelude.{Contains}
use Rattle.std.proofs.lemmas.Bool.{cases_eq}
use Rattle.std.proofs.lemmas.List.{get_or-set_same, get_or-set_other, get_or_append_left}
use Rattle.std.proofs.lemmas.List.Elements.{Contains-append_left, Contains-append_right, Contains-append_cases}
use Rattle.pb_game.specs.Games.{vertex_count, owner_of, priority_of}
use Rattle.pb_game.specs.Solutions.{choice_of}
use Rattle.pb_zielonka.specs.declared.scopes.Standing.{Standing}
use Rattle.pb_zielonka.specs.declared.scopes.TheConstants.{MAX_HEIGHT}
use Rattle.pb_zielonka.specs.Regions.{IsIn, region_count}
use Rattle.pb_zielonka.specs.Kept.{IsFewer, IsSiftedOn, IsClearedOn, IsHeightOn, StandsOn}
use Rattle.pb_zielonka.proofs.Counts.{count_by-fewer}
use Rattle.pb_zielonka.proofs.Lists.{single, itself}

-- a mark that is taken
pub unmarked : (kept : List Bool) (v w : ℕ) → v < length kept → IsIn (set kept v false) w → w ≢ v
unmarked kept v w h i e =
    let off : get_or (set kept v false) v false ≡ false = get_or-set_same kept v false false h in
    let on : get_or (set kept v false) v false ≡ true = subst (λ (x : ℕ). get_or (set kept v false) x false ≡ true) e i in
    absurd (cc)

pub fewer_unmark : (kept : List Bool) (v : ℕ) → v < length kept → IsFewer kept (set kept v false)
fewer_unmark kept v h w i = sym (get_or-set_other kept v w false false (unmarked kept v w h i)) ∙ i

pub unmark_others : (kept : List Bool) (v w : ℕ) → w ≢ v → (IsIn (set kept v false) w → ⊥) → IsIn kept w → ⊥
unmark_others kept v w ne out i = out (get_or-set_other kept v w false false ne ∙ i)

pub unmark_count : (kept : List Bool) (v : ℕ) → v < length kept → IsIn kept v → region_count (set kept v false) < region_count kept
unmark_count kept v h i =
    count_by-fewer (λ b. b) false kept (set kept v false) v (length-set kept v false)
    (λ w l j. fewer_unmark kept v h w j) h i (get_or-set_same kept v false false h)

-- what marks and a list of dropped vertices become
pub record Drops (kept kept' : List Bool) (dropped dropped' : List ℕ) : Type 0 where
  pub fewer : IsFewer kept kept'
  pub longer : length dropped ≤ length dropped'
  pub before : (k : ℕ) → k < length dropped → get_or dropped' k 0 ≡ get_or dropped k 0
  pub spent : region_count kept' + length dropped' ≤ region_count kept + length dropped

pub drops_none : (kept : List Bool) (dropped : List ℕ) → Drops kept kept dropped dropped
drops_none kept dropped = record { fewer = λ v h. h; longer = omega arith; before = λ k h. refl; spent = omega arith }

pub drops_one : (kept : List Bool) (dropped : List ℕ) (v : ℕ) → v < length kept → IsIn kept v → Drops kept (set kept v false) dropped (dropped ++ v ∷ [])
drops_one kept dropped v h i =
    let more : length (dropped ++ v ∷ []) ≡ length dropped + 1 = length-append dropped (v ∷ []) in
    record {
      fewer = fewer_unmark kept v h;
      longer = omega (arith, more);
      before = λ k l. get_or_append_left dropped (v ∷ []) 0 k l;
      spent = omega (arith, more, unmark_count kept v h i);
    }

pub drops_trans : (a b c : List Bool) (x y z : List ℕ) → Drops a b x y → Drops b c y z → Drops a c x z
drops_trans a b c x y z d e = record {
  fewer = λ v h. d.fewer v (e.fewer v h);
  longer = omega (arith, d.longer, e.longer);
  before = λ k h. e.before k (omega (arith, d.longer)) ∙ d.before k h;
  spent = omega (arith, d.spent, e.spent);
}

pub cleared_fewer : (st : Standing) (kept kept' : List Bool) (u : ℕ) → IsFewer kept kept' → IsClearedOn st kept u → IsClearedOn st kept' u
cleared_fewer st kept kept' u f c v i k = c v i (f v k)

-- one vertex more is dropped
pub sifted_drop : (st : Standing) (kept : List Bool) (dropped : List ℕ) (v : ℕ) → v < vertex_count st.game.now → IsSiftedOn st kept dropped → IsSiftedOn st (set kept v false) (dropped ++ v ∷ [])
sifted_drop st kept dropped v h s =
    let here : v < length kept = omega (arith, s.size) in
    let f : IsFewer kept (set kept v false) = fewer_unmark kept v here in
    record {
      size = length-set kept v false ∙ s.size;
      below = λ w i k. s.below w i (f w k);
      choice = λ w i k. s.choice w i (f w k);
      height = λ w i k. s.height w i (f w k);
      listed = λ w i out p. elim (cases_eq w v) [
        | inl e ↦ Contains-append_right dropped (v ∷ []) w (subst (λ (x : ℕ). Contains (v ∷ []) x) (sym e) (itself v))
        | inr ne ↦ Contains-append_left dropped (v ∷ []) w (s.listed w i (unmark_others kept v w ne out) p)
      ];
      vertices = λ w c. elim (Contains-append_cases dropped (v ∷ []) w c) [
        | inl c' ↦ s.vertices w c'
        | inr c' ↦ subst (λ (x : ℕ). x < vertex_count st.game.now) (sym (single v w c')) h
      ];
    }

-- the sifting at one vertex
pub record IsSiftedAt (st : Standing) (kept : List Bool) (dropped : List ℕ) (v : ℕ) : Type 0 where
  pub below : IsIn kept v → priority_of st.game.now v ≢ st.top
  pub choice : IsIn kept v → owner_of st.game.now v ≡ st.player → IsIn st.region.now (choice_of st.solution.now v)
  pub height : IsIn kept v → IsHeightOn st v MAX_HEIGHT
  pub listed : (IsIn kept v → ⊥) → priority_of st.game.now v ≢ st.top → Contains dropped v

-- and what a step at another vertex leaves of it
pub record Sifts (kept kept' : List Bool) (dropped dropped' : List ℕ) (v : ℕ) : Type 0 where
  pub fewer : IsFewer kept kept'
  pub others : (w : ℕ) → w ≢ v → (IsIn kept' w → ⊥) → IsIn kept w → ⊥
  pub longer : (w : ℕ) → Contains dropped w → Contains dropped' w

pub sifted_later : (st : Standing) (kept kept' : List Bool) (dropped dropped' : List ℕ) (v w : ℕ) → Sifts kept kept' dropped dropped' v →
    IsSiftedAt st kept' dropped' v → IsSiftedAt st kept dropped w → IsSiftedAt st kept' dropped' w
sifted_later st kept kept' dropped dropped' v w d here s = elim (cases_eq w v) [
  | inl e ↦ subst (λ (x : ℕ). IsSiftedAt st kept' dropped' x) (sym e) here
  | inr ne ↦ record {
    below = λ k. s.below (d.fewer w k);
    choice = λ k. s.choice (d.fewer w k);
    height = λ k. s.height (d.fewer w k);
    listed = λ out p. d.longer w (s.listed (d.others w ne out) p);
  }
]

-- the vertex is of the greatest priority, is dropped, or stays
pub sifts_head : (kept : List Bool) (dropped : List ℕ) (v : ℕ) → v < length kept → Sifts kept (set kept v false) dropped dropped v
sifts_head kept dropped v h = record { fewer = fewer_unmark kept v h; others = λ w. unmark_others kept v w; longer = λ w c. c }

pub sifted_head : (st : Standing) (kept : List Bool) (dropped : List ℕ) (v : ℕ) → v < length kept → priority_of st.game.now v ≡ st.top → IsSiftedAt st (set kept v false) dropped v
sifted_head st kept dropped v h e = record {
  below = λ k. absurd (unmarked kept v v h k refl);
  choice = λ k. absurd (unmarked kept v v h k refl);
  height = λ k. absurd (unmarked kept v v h k refl);
  listed = λ out p. absurd (p e);
}

pub sifts_drop : (kept : List Bool) (dropped : List ℕ) (v : ℕ) → v < length kept → Sifts kept (set kept v false) dropped (dropped ++ v ∷ []) v
sifts_drop kept dropped v h = record {
  fewer = fewer_unmark kept v h;
  others = λ w. unmark_others kept v w;
  longer = λ w c. Contains-append_left dropped (v ∷ []) w c;
}

pub sifted_dropped : (st : Standing) (kept : List Bool) (dropped : List ℕ) (v : ℕ) → v < length kept → IsSiftedAt st (set kept v false) (dropped ++ v ∷ []) v
sifted_dropped st kept dropped v h = record {
  below = λ k. absurd (unmarked kept v v h k refl);
  choice = λ k. absurd (unmarked kept v v h k refl);
  height = λ k. absurd (unmarked kept v v h k refl);
  listed = λ out p. Contains-append_right dropped (v ∷ []) v (itself v);
}

pub sifts_none : (kept : List Bool) (dropped : List ℕ) (v : ℕ) → Sifts kept kept dropped dropped v
sifts_none kept dropped v = record { fewer = λ w h. h; others = λ w ne out i. out i; longer = λ w c. c }

pub record IsSiftedUpTo (st : Standing) (old kept : List Bool) (dropped list : List ℕ) (k : ℕ) : Type 0 where
  pub size : length kept ≡ vertex_count st.game.now
  pub fewer : IsFewer old kept
  pub vertices : (v : ℕ) → Contains dropped v → v < vertex_count st.game.now
  pub done : (j : ℕ) → j < k → IsSiftedAt st kept dropped (get_or list j 0)

sifted_step : (st : Standing) (old kept kept' : List Bool) (dropped dropped' list : List ℕ) (k : ℕ) → length kept' ≡ length kept →
    Sifts kept kept' dropped dropped' (get_or list k 0) → IsSiftedAt st kept' dropped' (get_or list k 0) →
    ((v : ℕ) → Contains dropped' v → v < vertex_count st.game.now) → IsSiftedUpTo st old kept dropped list k → IsSiftedUpTo st old kept' dropped' list (k + 1)
sifted_step st old kept kept' dropped dropped' list k size d here vertices s = record {
  size = size ∙ s.size;
  fewer = λ v h. s.fewer v (d.fewer v h);
  vertices = vertices;
  done = λ j h. elim (cases_eq j k) [
    | inl e ↦ subst (λ (x : ℕ). IsSiftedAt st kept' dropped' (get_or list x 0)) (sym e) here
    | inr ne ↦ sifted_later st kept kept' dropped dropped' (get_or list k 0) (get_or list j 0) d here (s.done j (omega arith))
  ];
}

pub sifted_up_head : (st : Standing) (old kept : List Bool) (dropped list : List ℕ) (k : ℕ) → get_or list k 0 < vertex_count st.game.now →
    priority_of st.game.now (get_or list k 0) ≡ st.top → IsSiftedUpTo st old kept dropped list k → IsSiftedUpTo st old (set kept (get_or list k 0) false) dropped list (k + 1)
sifted_up_head st old kept dropped list k h e s =
    let v = get_or list k 0 in
    let here : v < length kept = omega (arith, s.size) in
    sifted_step st old kept (set kept v false) dropped dropped list k (length-set kept v false) (sifts_head kept dropped v here) (sifted_head st kept dropped v here e) s.vertices s

pub sifted_up_drop : (st : Standing) (old kept : List Bool) (dropped list : List ℕ) (k : ℕ) → get_or list k 0 < vertex_count st.game.now →
    IsSiftedUpTo st old kept dropped list k → IsSiftedUpTo st old (set kept (get_or list k 0) false) (dropped ++ get_or list k 0 ∷ []) list (k + 1)
sifted_up_drop st old kept dropped list k h s =
    let v = get_or list k 0 in
    let here : v < length kept = omega (arith, s.size) in
    sifted_step st old kept (set kept v false) dropped (dropped ++ v ∷ []) list k (length-set kept v false) (sifts_drop kept dropped v here) (sifted_dropped st kept dropped v here)
    (λ w c. elim (Contains-append_cases dropped (v ∷ []) w c) [
      | inl c' ↦ s.vertices w c'
      | inr c' ↦ subst (λ (x : ℕ). x < vertex_count st.game.now) (sym (single v w c')) h
    ]) s

pub sifted_up_stay : (st : Standing) (old kept : List Bool) (dropped list : List ℕ) (k : ℕ) → IsSiftedAt st kept dropped (get_or list k 0) →
    IsSiftedUpTo st old kept dropped list k → IsSiftedUpTo st old kept dropped list (k + 1)
sifted_up_stay st old kept dropped list k here s =
    sifted_step st old kept kept dropped dropped list k refl (sifts_none kept dropped (get_or list k 0)) here s.vertices s

-- what the next turn of the loop has is what was made
pub sifted_up_same : {st : Standing} {old kept kept' : List Bool} {dropped dropped' list : List ℕ} {k : ℕ} → IsSiftedUpTo st old kept dropped list k →
    kept' ≡ kept → dropped' ≡ dropped → IsSiftedUpTo st old kept' dropped' list k
sifted_up_same {st} {old} {kept} {kept'} {dropped} {dropped'} {list} {k} i e e' =
    subst (λ (x : List Bool). IsSiftedUpTo st old x dropped' list k) (sym e) (subst (λ (x : List ℕ). IsSiftedUpTo st old kept x list k) (sym e') i)

-- the first k of the list, the predecessors of u, are dropped where they stand on u
pub record IsClearedUpTo (st : Standing) (old kept : List Bool) (before dropped list : List ℕ) (u k : ℕ) : Type 0 where
  pub sifted : IsSiftedOn st kept dropped
  pub drops : Drops old kept before dropped
  pub cleared : (j : ℕ) → j < k → IsIn st.region.now (get_or list j 0) → IsIn kept (get_or list j 0) →
      StandsOn st.game.now st.solution.now st.player (get_or list j 0) u → ⊥

pub cleared_up_same : {st : Standing} {old kept kept' : List Bool} {before dropped dropped' list : List ℕ} {u k : ℕ} → IsClearedUpTo st old kept before dropped list u k →
    kept' ≡ kept → dropped' ≡ dropped → IsClearedUpTo st old kept' before dropped' list u k
cleared_up_same {st} {old} {kept} {kept'} {before} {dropped} {dropped'} {list} {u} {k} i e e' =
    subst (λ (x : List Bool). IsClearedUpTo st old x before dropped' list u k) (sym e) (subst (λ (x : List ℕ). IsClearedUpTo st old kept before x list u k) (sym e') i)

pub cleared_up_drop : (st : Standing) (old kept : List Bool) (before dropped list : List ℕ) (u k : ℕ) → get_or list k 0 < vertex_count st.game.now →
    IsIn kept (get_or list k 0) → IsClearedUpTo st old kept before dropped list u k →
    IsClearedUpTo st old (set kept (get_or list k 0) false) before (dropped ++ get_or list k 0 ∷ []) list u (k + 1)
cleared_up_drop st old kept before dropped list u k h i s =
    let v = get_or list k 0 in
    let here : v < length kept = omega (arith, s.sifted.size) in
    let f : IsFewer kept (set kept v false) = fewer_unmark kept v here in
    record {
      sifted = sifted_drop st kept dropped v h s.sifted;
      drops = drops_trans old kept (set kept v false) before dropped (dropped ++ v ∷ []) s.drops (drops_one kept dropped v here i);
      cleared = λ j l inside on stands. elim (cases_eq j k) [
        | inl e ↦ unmarked kept v v here (subst (λ (x : ℕ). IsIn (set kept v false) (get_or list x 0)) e on) refl
        | inr ne ↦ s.cleared j (omega arith) inside (f (get_or list j 0) on) stands
      ];
    }

pub cleared_up_stay : (st : Standing) (old kept : List Bool) (before dropped list : List ℕ) (u k : ℕ) →
    (IsIn st.region.now (get_or list k 0) → IsIn kept (get_or list k 0) → StandsOn st.game.now st.solution.now st.player (get_or list k 0) u → ⊥) →
    IsClearedUpTo st old kept before dropped list u k → IsClearedUpTo st old kept before dropped list u (k + 1)
cleared_up_stay st old kept before dropped list u k none s = record {
  sifted = s.sifted;
  drops = s.drops;
  cleared = λ j l inside on stands. elim (cases_eq j k) [
    | inl e ↦ none (subst (λ (x : ℕ). IsIn st.region.now (get_or list x 0)) e inside) (subst (λ (x : ℕ). IsIn kept (get_or list x 0)) e on)
        (subst (λ (x : ℕ). StandsOn st.game.now st.solution.now st.player (get_or list x 0) u) e stands)
    | inr ne ↦ s.cleared j (omega arith) inside on stands
  ];
}
