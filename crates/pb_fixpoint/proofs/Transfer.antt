-- Two sequences of equations over two kinds of instances, as tuples and numbers, have one solution where their right sides agree.
use Rattle.std.proofs.Common.{◌≡◌, ℕ, zero, suc, Bool, true, if◌then◌else◌, List, [], ◌∷◌, refl, sym, ◌∙◌, ap, subst}
use Rattle.pb_fixpoint.specs.declared.Sign.{Sign}
use Rattle.pb_fixpoint.specs.declared.Sign.TheVariants.{Mu, Nu}
use Rattle.pb_fixpoint.specs.Solution.{Environment, Equation, assign, iterate, start, solution, operator, value_of}
use Rattle.pb_fixpoint.specs.Transfer as transfer

module _ (I J : Type 0) (known : J → Bool) (named : J → I) where
  abbrev Matches : Environment I → Environment J → Type 0
  Matches t u = transfer.Matches known named t u

  cond_matches : (b c x y x' y' : Bool) → b ≡ c → x ≡ x' → y ≡ y' → (if b then x else y) ≡ (if c then x' else y')
  cond_matches b c x y x' y' p q r = ap (λ d. if d then x else y) p ∙ (ap (λ z. if c then z else y) q ∙ ap (λ z. if c then x' else z) r)

  assign-matches : (X : Equation I) (Y : Equation J) → transfer.IsSame known named X Y → (t F : Environment I) (u G : Environment J) → Matches t u → Matches F G → Matches (assign t X F) (assign u Y G)
  assign-matches X Y s t F u G tu FG j k = cond_matches (Y.owns j) (X.owns (named j)) (G j) (u j) (F (named j)) (t (named j)) (s.owns j k) (FG j k) (tu j k)

  start-matches : (s : Sign) → Matches (start s) (start s)
  start-matches Mu j k = refl
  start-matches Nu j k = refl

  iterate-matches : (g : Environment I → Environment I) (h : Environment J → Environment J) → ((F : Environment I) (G : Environment J) → Matches F G → Matches (g F) (h G))
      → (n : ℕ) (F : Environment I) (G : Environment J) → Matches F G → Matches (iterate n g F) (iterate n h G)
  iterate-matches g h step zero F G FG = FG
  iterate-matches g h step (suc n) F G FG = step _ _ (iterate-matches g h step n F G FG)

  value-matches : (X : Equation I) (E : List (Equation I)) (Y : Equation J) (D : List (Equation J)) → transfer.IsSame known named X Y → (t : Environment I) (u : Environment J) → Matches t u
      → ((s : Environment I) (v : Environment J) → Matches s v → Matches (solution E s) (solution D v)) → Matches (value_of X E t) (value_of Y D u)
  value-matches X E Y D same t u tu below =
      let h = operator Y D u in
      subst (λ (n : ℕ). Matches (value_of X E t) (iterate n h (start Y.sign))) (sym same.size)
      (subst (λ (s : Sign). Matches (value_of X E t) (iterate X.size h (start s))) (sym same.sign)
      (iterate-matches (operator X E t) h
      (λ F G FG j k. same.holds _ _ (below _ _ (assign-matches X Y same t F u G tu FG)) j k)
      X.size (start X.sign) (start X.sign) (start-matches X.sign)))

  pub solution-matches : (E : List (Equation I)) (D : List (Equation J)) → transfer.AreSame known named E D
      → (t : Environment I) (u : Environment J) → Matches t u → Matches (solution E t) (solution D u)
  solution-matches [] [] same t u tu = tu
  solution-matches [] (Y ∷ D) same t u tu = absurd same
  solution-matches (X ∷ E) [] same t u tu = absurd same
  solution-matches (X ∷ E) (Y ∷ D) same t u tu =
      solution-matches E D same.1 (assign t X (value_of X E t)) (assign u Y (value_of Y D u))
      (assign-matches X Y same.0 t (value_of X E t) u (value_of Y D u) tu
      (value-matches X E Y D same.0 t u tu (λ s v sv. solution-matches E D same.1 s v sv)))
