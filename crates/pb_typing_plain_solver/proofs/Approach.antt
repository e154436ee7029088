-- One equation before others, approached from a bound of its set.
use Rattle.std.proofs.Common.{◌≡◌, ℕ, suc, ◌<◌, Bool, true, false, not, if◌then◌else◌, List, [], ◌∷◌, refl, sym, ◌∙◌, ap, subst, arith, slice_get, Some}
use Rattle.std.proofs.Math.Path.{fun_ext}
use Rattle.std.proofs.lemmas.Bool.{cond-true}
use Rattle.pb_fixpoint.specs.declared.Sign.{Sign}
use Rattle.pb_fixpoint.specs.declared.Sign.TheVariants.{Mu, Nu}
use Rattle.pb_fixpoint.specs.Solution.{Environment, Equation, assign, iterate, start, solution, operator, value_of}
use Rattle.pb_fixpoint.specs.Fixpoint.{IsMonotone, AreMonotone, IsExtreme, IsSolved}
use Rattle.pb_typing_plain_solver.specs.Side.{side_of, Before, BeforeAt, later_truth}
use Rattle.pb_typing_plain_solver.specs.Bounds.{AreBounds}
use Rattle.pb_typing_plain_solver.proofs.Order.{All-before, before_self, before_same, before_trans, before_both, before_not, joined_left, joined_right, joined_least, assign-before, assign-same, operator-before, value-before, start-before}

-- ---- bounds

-- bounds hold where the environment moves on
pub bounds_move : {I : Type 0} (side : Bool) (E : List (Equation I)) → AreMonotone E → (s t u : Environment I) → All-before side s t → AreBounds side E s u → AreBounds side E t u
bounds_move side [] me s t u st h = tt
bounds_move side (X ∷ E) me s t u st h = (
  (λ i own. before_trans side (u i) (value_of X E s i) (value_of X E t i) (h.0 i own) (value-before side X E me.0 me.1 s t st i)),
  bounds_move side E me.1 (assign s X u) (assign t X u) u (assign-before side X s t u u st (λ i own. before_self side (u i))) h.1,
)

-- no instance is owned by two
abbrev pub OwnApart : {I : Type 0} → List (Equation I) → Type 0
OwnApart {I} E = (a b : ℕ) (X Y : Equation I) (i : I) → a < b → slice_get E a ≡ Some X → slice_get E b ≡ Some Y → X.owns i ≡ true → Y.owns i ≡ true → ⊥

pub apart_rest : {I : Type 0} (X : Equation I) (E : List (Equation I)) → OwnApart (X ∷ E) → OwnApart E
apart_rest X E h a b Y Z i lt atY atZ = h (suc a) (suc b) Y Z i (omega arith) atY atZ

other_if : (b x y : Bool) → (b ≡ true → ⊥) → (if b then x else y) ≡ y
other_if true x y h = absurd (h refl)
other_if false x y h = refl

-- the solution leaves what no equation owns
solution-other : {I : Type 0} (E : List (Equation I)) (t : Environment I) (i : I) → ((b : ℕ) (Y : Equation I) → slice_get E b ≡ Some Y → Y.owns i ≡ true → ⊥) → solution E t i ≡ t i
solution-other [] t i h = refl
solution-other (X ∷ E) t i h =
    solution-other E (assign t X (value_of X E t)) i (λ b Y at own. h (suc b) Y at own)
    ∙ other_if (X.owns i) (value_of X E t i) (t i) (h 0 X refl)

-- a solution has bounds of the sets that make it
pub told_bounds : {I : Type 0} (side : Bool) (E : List (Equation I)) (t : Environment I) → OwnApart E → AreBounds side E t (solution E t)
told_bounds side [] t apart = tt
told_bounds {I} side (X ∷ E) t apart =
    let V : Environment I = value_of X E t in
    let s : Environment I = solution E (assign t X V) in
    let here : (i : I) → X.owns i ≡ true → s i ≡ V i =
    λ i own. solution-other E (assign t X V) i (λ b Y at mine. apart 0 (suc b) X Y i (omega arith) refl at own mine) ∙ cond-true (X.owns i) (V i) (t i) own in (
      (λ i own. before_same side (s i) (V i) (here i own)),
      subst (λ (r : Environment I). AreBounds side E r s) (sym (assign-same X t s V here)) (told_bounds side E (assign t X V) (apart_rest X E apart)),
    )

-- ---- the steps at one equation

-- e is t but for X's set, which has been approached in k steps
pub record IsApproach {I : Type 0} (X : Equation I) (E : List (Equation I)) (t : Environment I) (k : ℕ) (e : Environment I) : Type 0 where
  pub outside : e ≡ assign t X e
  pub reached : BeforeAt (side_of X.sign) X (iterate k (operator X E t) (start X.sign)) e
  pub within : BeforeAt (side_of X.sign) X e (value_of X E t)

module _ {I : Type 0} (X : Equation I) (E : List (Equation I)) (t : Environment I) (m : IsMonotone X) (me : AreMonotone E) (solved : IsSolved X E t) where
  abbrev side : Bool
  side = side_of X.sign

  abbrev V : Environment I
  V = value_of X E t

  abbrev op : Environment I → Environment I
  op = operator X E t

  -- it begins at a bound
  pub begins : (e near : Environment I) → e ≡ assign t X e → ((i : I) → X.owns i ≡ true → e i ≡ near i) → BeforeAt side X near V → IsApproach X E t 0 e
  begins e near out same h = record {
    outside = out;
    reached = λ i own. start-before X.sign e i;
    within = λ i own. before_trans side (e i) (near i) (V i) (before_same side (e i) (near i) (same i own)) (h i own);
  }

  -- what a right side gives under the solution below is what the operator gives
  op_here : (e b : Environment I) → e ≡ assign t X e → b ≡ solution E e → (i : I) → X.holds i b ≡ op e i
  op_here e b out below i = ap (λ (r : Environment I). X.holds i r) (below ∙ ap (solution E) out)

  -- the operator of a set before V comes before V
  op_within : (e : Environment I) → BeforeAt side X e V → BeforeAt side X (op e) V
  op_within e h i own =
      before_trans side (op e i) (op V i) (V i) (operator-before side X E m me t e V h i) (before_same side (op V i) (V i) (solved.fixpoint.same i own))

  -- one step further
  pub steps : (k : ℕ) (e e' b : Environment I) → IsApproach X E t k e → b ≡ solution E e → e' ≡ assign t X e'
      → ((i : I) → X.owns i ≡ true → e' i ≡ later_truth side (e i) (X.holds i b)) → IsApproach X E t (suc k) e'
  steps k e e' b a below out joins = record {
    outside = out;
    reached = λ i own.
        before_trans side _ (op e i) (e' i) (operator-before side X E m me t _ e a.reached i)
        (before_trans side (op e i) (later_truth side (e i) (op e i)) (e' i) (joined_right side (e i) (op e i))
        (before_same side _ (e' i) (sym (joins i own ∙ ap (later_truth side (e i)) (op_here e b a.outside below i)))));
    within = λ i own.
        before_trans side (e' i) (later_truth side (e i) (op e i)) (V i) (before_same side (e' i) _ (joins i own ∙ ap (later_truth side (e i)) (op_here e b a.outside below i)))
        (joined_least side (e i) (op e i) (V i) (a.within i own) (op_within e a.within i own));
  }

  -- a step moves on
  pub moves : (e e' b : Environment I) → e ≡ assign t X e → e' ≡ assign t X e' → ((i : I) → X.owns i ≡ true → e' i ≡ later_truth side (e i) (X.holds i b)) → All-before side e e'
  moves e e' b out out' joins =
      subst (λ (r : Environment I). All-before side r e') (sym out)
      (subst (λ (r : Environment I). All-before side (assign t X e) r) (sym out')
      (assign-before side X t t e e' (λ i. before_self side (t i))
      (λ i own. before_trans side (e i) (later_truth side (e i) (X.holds i b)) (e' i) (joined_left side (e i) (X.holds i b)) (before_same side _ (e' i) (sym (joins i own))))))

  -- the set is reached where the operator gives nothing new
  extreme_within : (sign : Sign) (F T : Environment I) → IsExtreme sign X op T → BeforeAt (side_of sign) X (op F) F → BeforeAt (side_of sign) X T F
  extreme_within Mu F T h pre = h.below F pre
  extreme_within Nu F T h post = h.above F post

  at_value : (e : Environment I) → e ≡ assign t X e → BeforeAt side X e V → BeforeAt side X V e → solution E e ≡ solution (X ∷ E) t
  at_value e out p q =
      ap (solution E) (out ∙ assign-same X t e V (λ i own. before_both side (e i) (V i) (p i own) (q i own)))

  pub stops : (k : ℕ) (e b : Environment I) → IsApproach X E t k e → b ≡ solution E e → ((i : I) → X.owns i ≡ true → e i ≡ later_truth side (e i) (X.holds i b)) → b ≡ solution (X ∷ E) t
  stops k e b a below same =
      let pre : BeforeAt side X (op e) e =
      λ i own. before_trans side (op e i) (later_truth side (e i) (op e i)) (e i) (joined_right side (e i) (op e i))
      (before_same side _ (e i) (sym (same i own ∙ ap (later_truth side (e i)) (op_here e b a.outside below i)))) in
      below ∙ at_value e a.outside a.within (extreme_within X.sign e V solved.extreme pre)

  -- it is reached after as many steps as there are instances
  pub ends : (e : Environment I) → IsApproach X E t X.size e → solution E e ≡ solution (X ∷ E) t
  ends e a = at_value e a.outside a.within a.reached

  -- ---- bounds of the later equations

  -- from the side where the steps begin
  pub near_moves : (e e' b : Environment I) → OwnApart E → All-before side e e' → b ≡ solution E e → AreBounds side E e' b
  near_moves e e' b apart mv below =
      bounds_move side E me e e' b mv (subst (λ (r : Environment I). AreBounds side E e r) (sym below) (told_bounds side E e apart))

  -- from the other side
  pub far_holds : (e far : Environment I) → e ≡ assign t X e → BeforeAt side X e V → AreBounds (not side) (X ∷ E) t far → AreBounds (not side) E e far
  far_holds e far out within h =
      subst (λ (r : Environment I). AreBounds (not side) E r far) (sym out)
      (bounds_move (not side) E me (assign t X far) (assign t X e) far
      (assign-before (not side) X t t far e (λ i. before_self (not side) (t i))
      (λ i own. before_trans (not side) (far i) (V i) (e i) (h.0 i own) (before_not side (e i) (V i) (within i own)))) h.1)

twice : (b x y z : Bool) → (if b then y else (if b then x else z)) ≡ (if b then y else z)
twice true x y z = refl
twice false x y z = refl

-- of two assignments the last one counts
pub assign-twice : {I : Type 0} (X : Equation I) (t e e' : Environment I) → e ≡ assign t X e → e' ≡ assign e X e' → e' ≡ assign t X e'
assign-twice {I} X t e e' out out' =
    out' ∙ (ap (λ (r : Environment I). assign r X e') out ∙ fun_ext (λ i. twice (X.owns i) (e i) (e' i) (t i)))

-- ---- a set whose bounds are the same

-- the set is its bound
pub settled : {I : Type 0} (X : Equation I) (E : List (Equation I)) (t e low high : Environment I) → e ≡ assign t X e
    → ((i : I) → X.owns i ≡ true → e i ≡ low i) → ((i : I) → X.owns i ≡ true → e i ≡ high i)
    → BeforeAt true X low (value_of X E t) → BeforeAt false X high (value_of X E t) → solution E e ≡ solution (X ∷ E) t
settled {I} X E t e low high out is is' p q =
    ap (solution E) (out ∙ assign-same X t e (value_of X E t)
    (λ i own. before_both true (e i) (value_of X E t i) (λ h. p i own (sym (is i own) ∙ h)) (λ h. is' i own ∙ q i own h)))

-- bounds of the later equations where the set is its bound
pub kept_bounds : {I : Type 0} (side : Bool) (X : Equation I) (E : List (Equation I)) (t e u : Environment I)
    → e ≡ assign t X e → ((i : I) → X.owns i ≡ true → e i ≡ u i) → AreBounds side (X ∷ E) t u → AreBounds side E e u
kept_bounds {I} side X E t e u out is h = subst (λ (r : Environment I). AreBounds side E r u) (sym (out ∙ assign-same X t e u is)) h.1

-- bounds that say nothing
pub no_bounds : {I : Type 0} (side : Bool) (E : List (Equation I)) (t u : Environment I)
    → ((a : ℕ) (X : Equation I) → slice_get E a ≡ Some X → (i : I) → X.owns i ≡ true → (b : Bool) → Before side (u i) b)
    → AreBounds side E t u
no_bounds near [] t u h = tt
no_bounds near (X ∷ E) t u h = (
  (λ i own. h 0 X refl i own (value_of X E t i)),
  no_bounds near E (assign t X u) u (λ a Y at. h (suc a) Y at),
)
