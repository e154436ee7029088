-- The solution is monotone where truth is, and its sets are fixpoints, the least or the greatest.
use Rattle.std.proofs.Common.{◌≡◌, ℕ, zero, suc, Bool, true, false, not, if◌then◌else◌, List, [], ◌∷◌, length, refl, sym, ap, subst, true≢false}
use Rattle.std.proofs.Math.Path.{fun_ext}
use Rattle.pb_fixpoint.specs.declared.Sign.{Sign}
use Rattle.pb_fixpoint.specs.declared.Sign.TheVariants.{Mu, Nu}
use Rattle.pb_fixpoint.specs.Solution.{Environment, Equation, assign, iterate, start, solution, operator, value_of}
use Rattle.pb_fixpoint.specs.Fixpoint.{Within, WithinAt, IsMonotone, AreMonotone, AreInstances, IsFixpoint, IsExtreme, IsSolved}
use Rattle.pb_fixpoint.proofs.Chain.{Agree, agree_contained, stands}

-- ---- monotone

cond_within : (b x y x' y' : Bool) → (x ≡ true → x' ≡ true) → (y ≡ true → y' ≡ true) → (if b then x else y) ≡ true → (if b then x' else y') ≡ true
cond_within true x y x' y' p q h = p h
cond_within false x y x' y' p q h = q h

pub assign-within : {I : Type 0} (X : Equation I) (s t F G : Environment I) → Within s t → Within F G → Within (assign s X F) (assign t X G)
assign-within X s t F G st FG i = cond_within (X.owns i) (F i) (s i) (G i) (t i) (FG i) (st i)

pub iterate-within : {I : Type 0} (g g' : Environment I → Environment I)
    → ((F G : Environment I) → Within F G → Within (g F) (g' G)) → (n : ℕ) (F : Environment I) → Within (iterate n g F) (iterate n g' F)
iterate-within g g' h zero F = λ i e. e
iterate-within g g' h (suc n) F = h (iterate n g F) (iterate n g' F) (iterate-within g g' h n F)

-- the solution is monotone in t
pub solution-within : {I : Type 0} (E : List (Equation I)) → AreMonotone E → (s t : Environment I) → Within s t → Within (solution E s) (solution E t)
solution-within [] me s t st = st
solution-within (X ∷ E) me s t st =
    solution-within E me.1 _ _
    (assign-within X s t (value_of X E s) (value_of X E t) st
    (iterate-within (operator X E s) (operator X E t)
    (λ F G FG i. me.0.keeps _ _ (solution-within E me.1 _ _ (assign-within X s t F G st FG)) i)
    X.size (start X.sign)))

-- an operator is monotone
pub operator-within : {I : Type 0} (X : Equation I) (E : List (Equation I)) → IsMonotone X → AreMonotone E → (t F G : Environment I) → Within F G → Within (operator X E t F) (operator X E t G)
operator-within X E m me t F G FG i =
    m.keeps _ _ (solution-within E me _ _ (assign-within X t t F G (λ j e. e) FG)) i

-- ---- an operator reads its own instances alone

pub cond_same : (b x y z : Bool) → (b ≡ true → x ≡ y) → (if b then x else z) ≡ (if b then y else z)
cond_same true x y z h = h refl
cond_same false x y z h = refl

pub operator-same : {I : Type 0} (X : Equation I) (E : List (Equation I)) (t F G : Environment I) → ((i : I) → X.owns i ≡ true → F i ≡ G i) → operator X E t F ≡ operator X E t G
operator-same {I} X E t F G h =
    let e : assign t X F ≡ assign t X G = fun_ext (λ i. cond_same (X.owns i) (F i) (G i) (t i) (h i)) in
    ap (λ (s : Environment I). λ (i : I). X.holds i (solution E s)) e

-- ---- the chain stands still

at_agree : {I : Type 0} (F G : Environment I) → F ≡ G → (xs : List I) → Agree F G xs
at_agree F G e [] = tt
at_agree F G e (x ∷ xs) = (ap (λ H. H x) e, at_agree F G e xs)

-- the complement
abbrev outside : {I : Type 0} → Environment I → Environment I
outside F = λ i. not (F i)

not_same : (a b : Bool) → not a ≡ not b → a ≡ b
not_same true true e = refl
not_same true false e = absurd (true≢false (sym e))
not_same false true e = absurd (true≢false e)
not_same false false e = refl

not_back : (a b : Bool) → (b ≡ true → a ≡ true) → not a ≡ true → not b ≡ true
not_back true true h e = e
not_back true false h e = refl
not_back false true h e = absurd (true≢false (sym (h refl)))
not_back false false h e = refl

agree_outside : {I : Type 0} (F G : Environment I) (xs : List I) → Agree (outside F) (outside G) xs → Agree F G xs
agree_outside F G [] a = tt
agree_outside F G (x ∷ xs) a = (not_same (F x) (G x) a.0, agree_outside F G xs a.1)

false_true : {P : Type 0} → false ≡ true → P
false_true e = absurd (true≢false (sym e))

rising : {I : Type 0} (g : Environment I → Environment I) → ((F G : Environment I) → Within F G → Within (g F) (g G)) → (n : ℕ) → Within (iterate n g (start Mu)) (iterate (suc n) g (start Mu))
rising g m zero = λ i e. false_true e
rising g m (suc n) = m _ _ (rising g m n)

falling : {I : Type 0} (g : Environment I → Environment I) → ((F G : Environment I) → Within F G → Within (g F) (g G)) → (n : ℕ) → Within (iterate (suc n) g (start Nu)) (iterate n g (start Nu))
falling g m zero = λ i e. refl
falling g m (suc n) = m _ _ (falling g m n)

-- the operator's steps, from the first set of a sign, stand still on a list that has all instances
stands_still : {I : Type 0} (g : Environment I → Environment I) → ((F G : Environment I) → Within F G → Within (g F) (g G)) → (xs : List I)
    → ((F G : Environment I) → Agree F G xs → g F ≡ g G) → (sign : Sign) → Agree (iterate (length xs) g (start sign)) (g (iterate (length xs) g (start sign))) xs
stands_still g m xs reads Mu =
    stands (λ n. iterate n g (start Mu)) xs (record {
      up = rising g m;
      rests = λ n a. at_agree _ _ (reads _ _ a) xs;
    })
stands_still g m xs reads Nu =
    agree_outside _ _ xs (stands (λ n. outside (iterate n g (start Nu))) xs (record {
      up = λ n i. not_back _ _ (falling g m n i);
      rests = λ n a. at_agree _ _ (ap outside (reads _ _ (agree_outside _ _ xs a))) xs;
    }))

fixpoint_of : {I : Type 0} (X : Equation I) (E : List (Equation I)) → IsMonotone X → AreMonotone E
    → (t : Environment I) (xs : List I) → AreInstances X xs → IsFixpoint X (operator X E t) (value_of X E t)
fixpoint_of X E m me t xs a =
    let g = operator X E t in
    let still : Agree (iterate (length xs) g (start X.sign)) (g (iterate (length xs) g (start X.sign))) xs =
    stands_still g (operator-within X E m me t) xs (λ F G agree. operator-same X E t F G (λ i own. agree_contained F G xs agree i (a.all i own))) X.sign in
    let there : Agree (value_of X E t) (g (value_of X E t)) xs =
    subst (λ n. Agree (iterate n g (start X.sign)) (g (iterate n g (start X.sign))) xs) a.count still in
    record { same = λ i own. sym (agree_contained _ _ xs there i (a.all i own)) }

-- ---- least and greatest

-- what holds at X's instances suffices below an assignment
assign-within_at : {I : Type 0} (X : Equation I) (t F G : Environment I) → WithinAt X F G → Within (assign t X F) (assign t X G)
assign-within_at X t F G h i = cond_within_at (X.owns i) (F i) (t i) (G i) (h i)
  where
    cond_within_at : (b x y x' : Bool) → (b ≡ true → x ≡ true → x' ≡ true) → (if b then x else y) ≡ true → (if b then x' else y) ≡ true
    cond_within_at true x y x' p h = p refl h
    cond_within_at false x y x' p h = h

operator-within_at : {I : Type 0} (X : Equation I) (E : List (Equation I)) → IsMonotone X → AreMonotone E → (t F G : Environment I) → WithinAt X F G → Within (operator X E t F) (operator X E t G)
operator-within_at X E m me t F G FG i =
    m.keeps _ _ (solution-within E me _ _ (assign-within_at X t F G FG)) i

least_step : {I : Type 0} (X : Equation I) (E : List (Equation I)) → IsMonotone X → AreMonotone E
    → (t F : Environment I) → WithinAt X (operator X E t F) F → (n : ℕ) → WithinAt X (iterate n (operator X E t) (start Mu)) F
least_step X E m me t F pre zero = λ i own e. false_true e
least_step X E m me t F pre (suc n) =
    λ i own e. pre i own (operator-within_at X E m me t _ F (least_step X E m me t F pre n) i e)

greatest_step : {I : Type 0} (X : Equation I) (E : List (Equation I)) → IsMonotone X → AreMonotone E
    → (t F : Environment I) → WithinAt X F (operator X E t F) → (n : ℕ) → WithinAt X F (iterate n (operator X E t) (start Nu))
greatest_step X E m me t F post zero = λ i own e. refl
greatest_step X E m me t F post (suc n) =
    λ i own e. operator-within_at X E m me t F _ (greatest_step X E m me t F post n) i (post i own e)

extreme_of : {I : Type 0} (X : Equation I) (E : List (Equation I)) → IsMonotone X → AreMonotone E
    → (t : Environment I) (sign : Sign) → IsExtreme sign X (operator X E t) (iterate X.size (operator X E t) (start sign))
extreme_of X E m me t Mu = record { below = λ F pre. least_step X E m me t F pre X.size }
extreme_of X E m me t Nu = record { above = λ F post. greatest_step X E m me t F post X.size }

-- the law: the set that X gets is a fixpoint of its operator, the least for mu and the greatest for nu
pub value_of-solved : {I : Type 0} (X : Equation I) (E : List (Equation I)) → IsMonotone X → AreMonotone E → (t : Environment I) (instances : List I) → AreInstances X instances → IsSolved X E t
value_of-solved X E m me t instances a = record {
  fixpoint = fixpoint_of X E m me t instances a;
  extreme = extreme_of X E m me t X.sign;
}
