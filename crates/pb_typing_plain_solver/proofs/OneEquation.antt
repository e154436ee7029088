-- The solver's turn at one equation of a text.
use Rattle.std.proofs.Common.{◌≡◌, ℕ, zero, suc, ◌+◌, ◌<◌, Bool, true, false, not, List, [], ◌∷◌, map, length, drop, Some, refl, sym, ◌∙◌, ap, subst, arith, add-one, slice_get, true≢false, Option, None, get_or, replicate, take, ◌++◌, append-nil}
use Rattle.std.specs.Cmp.Lexicographic.{same_text}
use Rattle.std.proofs.lemmas.List.{drop_all, drop-map, get_or-replicate, take_all}
use Rattle.std.proofs.lemmas.Option.{slice_get_within, get_or_from_slice_get}
use Rattle.pb_fixpoint.specs.Solution as fixpoint
use Rattle.pb_fixpoint.specs.Solution.{Environment, solution, empty}
use Rattle.pb_fixpoint.specs.Fixpoint.{AreMonotone, IsSolved}
use Rattle.pb_base_values.specs.Carrier as values
use Rattle.pb_sorts.specs.declared.carrier.Carrier.{Carrier}
use Rattle.std.proofs.Math.Path.{fun_ext}
use Rattle.std.proofs.lemmas.Bool.{and_right, and_parts}
use Rattle.pb_sorts.specs.Instance.{instances, number_of, size_of, tuple_count_at}
use Rattle.pb_sorts.proofs.Equations.{length-carriers_of}
use Rattle.pb_sorts.specs.Layout.{carriers_of, count_of}
use Rattle.pb_sorts.proofs.Places.{slice_get-mapped, drop-slice_get, map_length}
use Rattle.pb_text_meaning.specs.Syntax.{Equation, Spec, same_name}
use Rattle.pb_text_meaning.specs.Formula as formula
use Rattle.pb_text_meaning.specs.Formula.{Instance}
use Rattle.pb_text_meaning.specs.Meaning.{equation_of, equations_of}
use Rattle.pb_text_meaning.specs.Names.{AreNamedApart}
use Rattle.pb_text_meaning.specs.Positive.{ArePositive}
use Rattle.pb_text_meaning.proofs.Instances.{are_monotone, text_is_solved}
use Rattle.pb_typing_values.specs.Environment.{all_carriers, environment_of, place_named, truth_of}
use Rattle.pb_typing_plain_solver.specs.Side.{side_of}
use Rattle.pb_typing_plain_solver.specs.Bounds.{AreBounds}
use Rattle.pb_typing_plain_solver.specs.Step.{ChangesOnly, TakesSet, JoinsRight}
use Rattle.pb_typing_plain_solver.proofs.Approach.{OwnApart, IsApproach, begins, steps, moves, stops, ends, near_moves, far_holds, settled, kept_bounds, assign-twice, no_bounds}
use Rattle.pb_typing_plain_solver.proofs.Ready.{IsSolvable}
use Rattle.pb_typing_plain_solver.proofs.Sets.{HasPlace, has_place, changes_only, takes_set, joins_right}

-- ---- lists

positive-drop : (k : ℕ) (E : List Equation) → ArePositive E → ArePositive (drop k E)
positive-drop zero E p = p
positive-drop (suc k) [] p = tt
positive-drop (suc k) (X ∷ E) p = positive-drop k E p.1

slice_get-drop : {A : Type 0} (k a : ℕ) (xs : List A) → slice_get (drop k xs) a ≡ slice_get xs (k + a)
slice_get-drop zero a xs = let e : a ≡ 0 + a = omega arith in ap (slice_get xs) e
slice_get-drop (suc k) a [] = refl
slice_get-drop (suc k) a (x ∷ xs) = let e : suc (k + a) ≡ suc k + a = omega arith in slice_get-drop k a xs ∙ ap (slice_get (x ∷ xs)) e

map_at : {A B : Type 0} (f : A → B) (xs : List A) (k : ℕ) (y : B) → slice_get (map f xs) k ≡ Some y → (x : A) × (slice_get xs k ≡ Some x) × (f x ≡ y)
map_at f [] k y at = cc
map_at f (x ∷ xs) zero y at = (x, refl, (cc))
map_at f (x ∷ xs) (suc k) y at = map_at f xs k y at

-- equations of different names own different instances
own_apart : (S : Spec) (E : List Equation) → AreNamedApart E → OwnApart (map (equation_of S) E)
own_apart S E apart a b X Y i lt atX atY ownX ownY =
    let p = map_at (equation_of S) E a X atX in
    let q = map_at (equation_of S) E b Y atY in
    apart a b p.0 lt (slice_get_within E b q.0 q.1)
    (ap (λ (Z : Equation). Z.name) (get_or_from_slice_get E a p.0 p.0 p.1)
    ∙ (named p.0 X p.2 ownX
    ∙ (sym (named q.0 Y q.2 ownY) ∙ ap (λ (Z : Equation). Z.name) (sym (get_or_from_slice_get E b q.0 p.0 q.1)))))
  where
    named : (Z : Equation) (X : fixpoint.Equation Instance) → equation_of S Z ≡ X → X.owns i ≡ true → Z.name ≡ i.name
    named Z X e own = same_text Z.name i.name (sym ((and_parts (same_name Z.name i.name) _ (ap (λ (W : fixpoint.Equation Instance). W.owns i) e ∙ own)).0))

apart-drop : {I : Type 0} (E : List (fixpoint.Equation I)) (k : ℕ) → OwnApart E → OwnApart (drop k E)
apart-drop E k h a b X Y i lt atX atY =
    h (k + a) (k + b) X Y i (omega (arith, lt)) (sym (slice_get-drop k a E) ∙ atX) (sym (slice_get-drop k b E) ∙ atY)

-- ---- the turn

module _ (S : Spec) (layout : List (List Carrier)) (laid : carriers_of layout ≡ all_carriers S) (able : IsSolvable S) (k : ℕ) (X : Equation) (at : slice_get S.equations k ≡ Some X) where
  abbrev pub read : fixpoint.Equation Instance
  read = equation_of S X

  -- the equations behind it
  abbrev pub after : List (fixpoint.Equation Instance)
  after = drop (k + 1) (equations_of S)

  pub here : drop k (equations_of S) ≡ read ∷ after
  here = drop-slice_get (equations_of S) k read (slice_get-mapped (equation_of S) S.equations k X at)

  after-map : after ≡ map (equation_of S) (drop (suc k) S.equations)
  after-map = rw add-one (drop-map (equation_of S) (suc k) S.equations)

  positive_here : ArePositive (X ∷ drop (suc k) S.equations)
  positive_here = subst ArePositive (drop-slice_get S.equations k X at ∙ ap (λ n. X ∷ drop n S.equations) (add-one k)) (positive-drop k S.equations able.positive)

  monotone : AreMonotone (read ∷ after)
  monotone = subst (λ (E : List (fixpoint.Equation Instance)). AreMonotone (read ∷ E)) (sym after-map) (are_monotone S (X ∷ drop (suc k) S.equations) positive_here)

  solved_here : (t : Environment Instance) → IsSolved read after t
  solved_here t = subst (λ (E : List (fixpoint.Equation Instance)). IsSolved read E t) (sym after-map) (text_is_solved S X (drop (suc k) S.equations) t positive_here)

  apart_after : OwnApart after
  apart_after = apart-drop (equations_of S) (k + 1) (own_apart S S.equations able.apart)

  abbrev side : Bool
  side = side_of X.sign

  bounds_here : (b : Bool) (t u : Environment Instance) → AreBounds b (drop k (equations_of S)) t u → AreBounds b (read ∷ after) t u
  bounds_here b t u h = subst (λ (E : List (fixpoint.Equation Instance)). AreBounds b E t u) here h

  -- it begins at the bound on the near side
  pub begun : (truths near new : List Bool) → ChangesOnly layout k truths new → TakesSet layout k near new → AreBounds side (drop k (equations_of S)) (environment_of S truths) (environment_of S near)
      → IsApproach read after (environment_of S truths) 0 (environment_of S new) × AreBounds side after (environment_of S new) (environment_of S near)
  begun truths near new others takes h =
      let t : Environment Instance = environment_of S truths in
      let out = changes_only S layout laid able.apart k X at truths new others in
      let same = takes_set S layout laid able.apart k X at near new takes in (
        begins read after t monotone.0 monotone.1 (solved_here t) (environment_of S new) (environment_of S near) out same (bounds_here side t (environment_of S near) h).0,
        kept_bounds side read after t (environment_of S new) (environment_of S near) out same (bounds_here side t (environment_of S near) h),
      )

  -- a step on
  pub stepped : (t : Environment Instance) (j : ℕ) (cur below next : List Bool) → IsApproach read after t j (environment_of S cur) → environment_of S below ≡ solution after (environment_of S cur)
      → ChangesOnly layout k cur next → JoinsRight S layout k X below cur next
      → IsApproach read after t (j + 1) (environment_of S next) × AreBounds side after (environment_of S next) (environment_of S below)
  stepped t j cur below next a solved others joins =
      let out' = changes_only S layout laid able.apart k X at cur next others in
      let out = assign-twice read t (environment_of S cur) (environment_of S next) a.outside out' in
      let joined_all = joins_right S layout laid able.apart k X at below cur next joins in
      let one_more : suc j ≡ j + 1 = omega arith in (
        subst (λ (n : ℕ). IsApproach read after t n (environment_of S next)) one_more
            (steps read after t monotone.0 monotone.1 (solved_here t) j (environment_of S cur) (environment_of S next)
            (environment_of S below) a solved out joined_all),
        near_moves read after t monotone.0 monotone.1 (solved_here t) (environment_of S cur) (environment_of S next) (environment_of S below) apart_after
            (moves read after t monotone.0 monotone.1 (solved_here t) (environment_of S cur) (environment_of S next) (environment_of S below) a.outside out joined_all) solved,
      )

  -- the step changes nothing
  pub stopped : (t : Environment Instance) (j : ℕ) (cur below next : List Bool) → IsApproach read after t j (environment_of S cur) → environment_of S below ≡ solution after (environment_of S cur)
      → JoinsRight S layout k X below cur next → TakesSet layout k cur next → environment_of S below ≡ solution (drop k (equations_of S)) t
  stopped t j cur below next a solved joins same =
      stops read after t monotone.0 monotone.1 (solved_here t) j (environment_of S cur) (environment_of S below) a solved
      (λ i own. sym (takes_set S layout laid able.apart k X at cur next same i own) ∙ joins_right S layout laid able.apart k X at below cur next joins i own)
      ∙ ap (λ (E : List (fixpoint.Equation Instance)). solution E t) (sym here)

  -- as many steps as there are instances
  pub ended : (t : Environment Instance) (j : ℕ) (cur done : List Bool) → j ≡ size_of (carriers_of layout) k
      → IsApproach read after t j (environment_of S cur) → environment_of S done ≡ solution after (environment_of S cur)
      → environment_of S done ≡ solution (drop k (equations_of S)) t
  ended t j cur done all a solved =
      let size : j ≡ read.size =
      all ∙ (ap (λ (css : List (List values.Carrier)). size_of css k) laid ∙ ap tuple_count_at (slice_get-mapped (λ (Y : Equation). formula.carriers_of S Y.parameters) S.equations k X at)) in
      solved
      ∙ (ends read after t monotone.0 monotone.1 (solved_here t) (environment_of S cur) (subst (λ (n : ℕ). IsApproach read after t n (environment_of S cur)) size a)
      ∙ ap (λ (E : List (fixpoint.Equation Instance)). solution E t) (sym here))

  -- the bounds on the far side
  pub far : (t : Environment Instance) (j : ℕ) (cur : List Bool) (u : Environment Instance)
      → IsApproach read after t j (environment_of S cur) → AreBounds (not side) (drop k (equations_of S)) t u
      → AreBounds (not side) after (environment_of S cur) u
  far t j cur u a h = far_holds read after t monotone.0 monotone.1 (solved_here t) (environment_of S cur) u a.outside a.within (bounds_here (not side) t u h)

  -- ---- both bounds are the same

  pub fixed_bounds : (truths new : List Bool) (b : Bool) (u : List Bool) → ChangesOnly layout k truths new
      → TakesSet layout k u new → AreBounds b (drop k (equations_of S)) (environment_of S truths) (environment_of S u)
      → AreBounds b after (environment_of S new) (environment_of S u)
  fixed_bounds truths new b u others takes h =
      kept_bounds b read after (environment_of S truths) (environment_of S new) (environment_of S u)
      (changes_only S layout laid able.apart k X at truths new others) (takes_set S layout laid able.apart k X at u new takes)
      (bounds_here b (environment_of S truths) (environment_of S u) h)

  pub fixed : (truths least greatest new done : List Bool) → ChangesOnly layout k truths new → TakesSet layout k least new → TakesSet layout k greatest new
      → AreBounds true (drop k (equations_of S)) (environment_of S truths) (environment_of S least) → AreBounds false (drop k (equations_of S)) (environment_of S truths) (environment_of S greatest)
      → environment_of S done ≡ solution after (environment_of S new) → environment_of S done ≡ solution (drop k (equations_of S)) (environment_of S truths)
  fixed truths least greatest new done others low high h h' solved =
      let t : Environment Instance = environment_of S truths in
      solved
      ∙ (settled read after t (environment_of S new) (environment_of S least) (environment_of S greatest) (changes_only S layout laid able.apart k X at truths new others)
      (takes_set S layout laid able.apart k X at least new low) (takes_set S layout laid able.apart k X at greatest new high)
      (bounds_here true t (environment_of S least) h).0 (bounds_here false t (environment_of S greatest) h').0
      ∙ ap (λ (E : List (fixpoint.Equation Instance)). solution E t) (sym here))

-- ---- where the solver begins

pub get_or-replicate_same : {A : Type 0} (n k : ℕ) (a : A) → get_or (replicate n a) k a ≡ a
get_or-replicate_same zero k a = refl
get_or-replicate_same (suc n) zero a = refl
get_or-replicate_same (suc n) (suc k) a = get_or-replicate_same n k a

truth_of-none : (css : List (List values.Carrier)) (n : ℕ) (o : Option ℕ) (vs : values.Tuple) → truth_of css (replicate n false) o vs ≡ false
truth_of-none css n None vs = refl
truth_of-none css n (Some k) vs = and_right _ _ (get_or-replicate_same n (number_of css (record { equation = k; values = vs })) false)

-- truths that are all false are the empty environment
pub none_true : (S : Spec) (n : ℕ) → environment_of S (replicate n false) ≡ empty
none_true S n = fun_ext (λ i. truth_of-none (all_carriers S) n (place_named S.equations i.name) i.values)

pub lower_bounds : (S : Spec) (n : ℕ) (t : Environment Instance) → AreBounds true (equations_of S) t (environment_of S (replicate n false))
lower_bounds S n t =
    no_bounds true (equations_of S) t (environment_of S (replicate n false))
    (λ a X at i own b e. absurd (true≢false (sym e ∙ ap (λ (u : Environment Instance). u i) (none_true S n))))

pub upper_bounds : (S : Spec) (layout : List (List Carrier)) (n : ℕ) (t : Environment Instance)
    → carriers_of layout ≡ all_carriers S → AreNamedApart S.equations → n ≡ count_of layout
    → AreBounds false (equations_of S) t (environment_of S (replicate n true))
upper_bounds S layout n t laid apart all =
    no_bounds false (equations_of S) t (environment_of S (replicate n true))
    (λ a X at i own b e.
    let p = map_at (equation_of S) S.equations a X at in
    let place : HasPlace S layout laid apart a p.0 p.1 i = has_place S layout laid apart a p.0 p.1 i (ap (λ (Y : fixpoint.Equation Instance). Y.owns i) p.2 ∙ own) in
    place.reads (replicate n true) ∙ get_or-replicate n place.number true false (omega (arith, all, slice_get_within (instances (carriers_of layout)) place.number _ place.there)))

-- ---- lists in a vector

-- a vector's list after a write through its slice
pub written : {A : Type 0} (items new : List A) (len : ℕ) → length new ≡ length items → length items ≡ len → take len (new ++ drop (length new) items) ≡ new
written {A} items new len same long =
    ap (λ (ys : List A). take len (new ++ ys)) (drop_all (length new) items (omega (arith, same)))
    ∙ (ap (take len) (append-nil new) ∙ take_all len new (omega (arith, same, long)))

-- ---- the equation at a place

exists_at : (E : List Equation) (k : ℕ) → k < length E → (X : Equation) × (slice_get E k ≡ Some X)
exists_at [] k lt = absurd (omega arith)
exists_at (X ∷ E) zero lt = (X, refl)
exists_at (X ∷ E) (suc k) lt = exists_at E k (omega arith)

pub equation_exists : (S : Spec) (layout : List (List Carrier)) (k : ℕ) → carriers_of layout ≡ all_carriers S → k < length layout → (X : Equation) × (slice_get S.equations k ≡ Some X)
equation_exists S layout k laid lt =
    exists_at S.equations k
    (omega (
      arith,
      lt,
      length-carriers_of layout,
      ap (λ (cs : List (List values.Carrier)). length cs) laid,
      map_length (λ (Y : Equation). formula.carriers_of S Y.parameters) S.equations,
    ))
