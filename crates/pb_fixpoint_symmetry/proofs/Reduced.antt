-- The nested solution is invariant under symmetries, and a reduced system has it too.
use Rattle.std.proofs.Common.{◌≡◌, ℕ, zero, suc, Bool, true, if◌then◌else◌, List, [], ◌∷◌, refl, sym, ◌∙◌, ap, subst}
use Rattle.pb_fixpoint.specs.declared.Sign.{Sign}
use Rattle.pb_fixpoint.specs.declared.Sign.TheVariants.{Mu, Nu}
use Rattle.pb_fixpoint.specs.Solution.{Environment, Equation, assign, iterate, start, solution, operator, value_of}
use Rattle.pb_fixpoint.specs.Transfer as transfer
use Rattle.pb_fixpoint_symmetry.specs.Symmetry.{IsSymmetry, IsInvariant, IsInvariantUnder, Agree, AreClosed, AreReduced, Represents, all_reduced}

cond_same : (b c x y x' y' : Bool) → b ≡ c → x ≡ x' → y ≡ y' → (if b then x else y) ≡ (if c then x' else y')
cond_same b c x y x' y' p q r = ap (λ d. if d then x else y) p ∙ (ap (λ z. if c then z else y) q ∙ ap (λ z. if c then x' else z) r)

-- ---- symmetries keep the solution

module _ (I : Type 0) (known : I → Bool) where
  assign-invariant : (X : Equation I) (f : I → I) → transfer.IsSame known f X X → (t F : Environment I) → IsInvariant known f t → IsInvariant known f F → IsInvariant known f (assign t X F)
  assign-invariant X f s t F ti Fi i k = cond_same (X.owns i) (X.owns (f i)) (F i) (t i) (F (f i)) (t (f i)) (s.owns i k) (Fi i k) (ti i k)

  start-invariant : (f : I → I) (s : Sign) → IsInvariant known f (start s)
  start-invariant f Mu i k = refl
  start-invariant f Nu i k = refl

  iterate-invariant : (f : I → I) (g : Environment I → Environment I) → ((F : Environment I) → IsInvariant known f F → IsInvariant known f (g F))
      → (n : ℕ) (F : Environment I) → IsInvariant known f F → IsInvariant known f (iterate n g F)
  iterate-invariant f g step zero F Fi = Fi
  iterate-invariant f g step (suc n) F Fi = step _ (iterate-invariant f g step n F Fi)

  pub keeps : (E : List (Equation I)) (f : I → I) → IsSymmetry known E f → (t : Environment I) → IsInvariant known f t → IsInvariant known f (solution E t)
  keeps [] f s t ti = ti
  keeps (X ∷ E) f s t ti =
      keeps E f s.1 (assign t X (value_of X E t))
      (assign-invariant X f s.0 t (value_of X E t) ti
      (iterate-invariant f (operator X E t)
      (λ F Fi i k. s.0.holds _ _ (keeps E f s.1 (assign t X F) (assign-invariant X f s.0 t F ti Fi)) i k)
      X.size (start X.sign) (start-invariant f X.sign)))

-- ---- one symmetry after another

module _ (I : Type 0) (known : I → Bool) (f g : I → I) (stays : (i : I) → known i ≡ true → known (g i) ≡ true) where
  pub composed : (E : List (Equation I)) → IsSymmetry known E f → IsSymmetry known E g → IsSymmetry known E (λ i. f (g i))
  composed [] sf sg = tt
  composed (X ∷ E) sf sg = (
    record {
      sign = refl;
      size = refl;
      owns = λ i k. sg.0.owns i k ∙ sf.0.owns (g i) (stays i k);
      holds = λ t u tu i k.
          sg.0.holds (λ j. t (f j)) u tu i k ∙ sf.0.holds t (λ j. t (f j)) (λ j h. refl) (g i) (stays i k);
    },
    composed E sf.1 sg.1,
  )

-- ---- reduced systems suffice

module _ (I G : Type 0) (known : I → Bool) (family : G → I → I) where
  abbrev Stays : Environment I → Type 0
  Stays t = IsInvariantUnder known family t

  abbrev Same : Environment I → Environment I → Type 0
  Same u t = Agree known u t

  assign-agrees : (X Y : Equation I) → ((i : I) → known i ≡ true → Y.owns i ≡ X.owns i) → (u t H F : Environment I) → Same u t → Same H F → Same (assign u Y H) (assign t X F)
  assign-agrees X Y owns u t H F ut HF i k = cond_same (Y.owns i) (X.owns i) (H i) (u i) (F i) (t i) (owns i k) (HF i k) (ut i k)

  iterates : (g h : Environment I → Environment I)
      → ((F H : Environment I) → Stays F → Same H F → Stays (g F) × Same (h H) (g F))
      → (n : ℕ) (F H : Environment I) → Stays F → Same H F → Stays (iterate n g F) × Same (iterate n h H) (iterate n g F)
  iterates g h step zero F H st HF = (st, HF)
  iterates g h step (suc n) F H st HF =
      let both = iterates g h step n F H st HF in
      step _ _ both.0 both.1

  pub suffice : (E D : List (Equation I)) → ((g : G) → IsSymmetry known E (family g)) → AreReduced known family E D
      → (t u : Environment I) → Stays t → Same u t → Same (solution D u) (solution E t)
  suffice [] [] syms r t u st ut = ut
  suffice [] (Y ∷ D) syms r t u st ut = absurd r
  suffice (X ∷ E) [] syms r t u st ut = absurd r
  suffice (X ∷ E) (Y ∷ D) syms r t u st ut =
      let below = λ (s v : Environment I) (ss : Stays s) (vs : Same v s). suffice E D (λ g. (syms g).1) r.1 s v ss vs in
      let assigned = λ (F : Environment I) (sF : Stays F) (g : G). assign-invariant I known X (family g) (syms g).0 t F (st g) (sF g) in
      let h = operator Y D u in
      let values : Stays (value_of X E t) × Same (iterate X.size h (start X.sign)) (value_of X E t) =
      iterates (operator X E t) h
      (λ F H sF HF.
      let S = solution E (assign t X F) in
      let stays : Stays S = λ g. keeps I known E (family g) (syms g).1 (assign t X F) (assigned F sF g) in (
        λ g i k. (syms g).0.holds S S (stays g) i k,
        λ i k. r.0.holds S _ stays (below _ _ (assigned F sF) (assign-agrees X Y r.0.owns u t H F ut HF)) i k,
      ))
      X.size (start X.sign) (start X.sign) (λ g. start-invariant I known (family g) X.sign) (λ i k. refl) in
      let there : Same (value_of Y D u) (value_of X E t) =
      subst (λ (n : ℕ). Same (iterate n h (start Y.sign)) (value_of X E t)) (sym r.0.size)
      (subst (λ (s : Sign). Same (iterate X.size h (start s)) (value_of X E t)) (sym r.0.sign) values.1) in
      below _ _ (assigned (value_of X E t) values.0) (assign-agrees X Y r.0.owns u t _ (value_of X E t) ut there)

-- ---- calls may go to representatives

module _ (I G : Type 0) (known : I → Bool) (family : G → I → I) (representative : I → I) (r : Represents known family representative) where
  -- an invariant environment has one truth value at a representative and at its instance
  at_representatives : (t u : Environment I) → IsInvariantUnder known family t → Agree known u t → Agree known (λ j. u (representative j)) t
  at_representatives t u st ut i k =
      let c = r.carried i k in
      ut (representative i) (r.known_too i k) ∙ (ap t c.1 ∙ sym (st c.0 i k))

  pub by-representatives : (E : List (Equation I)) → AreClosed known E → AreReduced known family E (all_reduced representative E)
  by-representatives [] closed = tt
  by-representatives (X ∷ E) closed = (
    record {
      sign = refl;
      size = refl;
      owns = λ i k. refl;
      holds = λ t u st ut i k. closed.0.holds t (λ j. u (representative j)) (at_representatives t u st ut) i k;
    },
    by-representatives E closed.1,
  )
