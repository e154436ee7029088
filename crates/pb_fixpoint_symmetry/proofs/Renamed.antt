-- Symmetries go along with the names of instances.
use Rattle.std.proofs.Common.{◌≡◌, Bool, true, List, [], ◌∷◌, refl, sym, ◌∙◌, ap}
use Rattle.pb_fixpoint.specs.Solution.{Environment, Equation}
use Rattle.pb_fixpoint.specs.Transfer.{AreSame}
use Rattle.pb_fixpoint_symmetry.specs.Symmetry.{IsSymmetry, AreClosed}
use Rattle.pb_fixpoint_symmetry.specs.Renaming.{AreRenamed}

module _ (I J : Type 0) (known : J → Bool) (named : J → I) (numbered : I → Bool) (back : I → J) (names : AreRenamed known named numbered back) where
  pub closed : (E : List (Equation I)) (D : List (Equation J)) → AreSame known named E D → AreClosed numbered E
  closed [] [] same = tt
  closed [] (Y ∷ D) same = absurd same
  closed (X ∷ E) [] same = absurd same
  closed (X ∷ E) (Y ∷ D) same = (
    record {
      sign = refl;
      size = refl;
      owns = λ i k. refl;
      holds = λ t u tu i k.
          let j = back i in
          let kj = names.here i k in
          let named_u = λ (l : J). u (named l) in
          ap (λ (x : I). X.holds x u) (sym (names.undone i k))
          ∙ (sym (same.0.holds u named_u (λ l h. refl) j kj)
          ∙ (same.0.holds t named_u (λ l h. tu (named l) (names.there l h)) j kj
          ∙ ap (λ (x : I). X.holds x t) (names.undone i k)));
    },
    closed E D same.1,
  )

module _ (I J : Type 0) (known : J → Bool) (named : J → I) (numbered : I → Bool) (back : I → J)
    (names : AreRenamed known named numbered back) (f : J → J) (stays : (j : J) → known j ≡ true → known (f j) ≡ true) where
  pub renamed : (E : List (Equation I)) (D : List (Equation J)) → AreSame known named E D → IsSymmetry known D f → IsSymmetry numbered E (λ i. named (f (back i)))
  renamed [] [] same s = tt
  renamed [] (Y ∷ D) same s = absurd same
  renamed (X ∷ E) [] same s = absurd same
  renamed (X ∷ E) (Y ∷ D) same s = (
    record {
      sign = refl;
      size = refl;
      owns = λ i k.
          let j = back i in
          let kj = names.here i k in
          ap X.owns (sym (names.undone i k)) ∙ (sym (same.0.owns j kj) ∙ (s.0.owns j kj ∙ same.0.owns (f j) (stays j kj)));
      holds = λ t u tu i k.
          let j = back i in
          let kj = names.here i k in
          let at_names = λ (e : Environment I) (l : J). e (named l) in
          ap (λ (x : I). X.holds x u) (sym (names.undone i k))
          ∙ (sym (same.0.holds u (at_names u) (λ l h. refl) j kj)
          ∙ (s.0.holds (at_names t) (at_names u) (λ l h. tu (named l) (names.there l h) ∙ ap (λ (x : J). t (named (f x))) (names.again l h)) j kj
          ∙ same.0.holds t (at_names t) (λ l h. refl) (f j) (stays j kj)));
    },
    renamed E D same.1 s.1,
  )

-- ---- where fewer instances are known

module _ (I : Type 0) (known fewer : I → Bool) (within : (i : I) → fewer i ≡ true → known i ≡ true) (f : I → I) where
  -- a symmetry is one of the instances that right sides read
  pub of-fewer : (E : List (Equation I)) → AreClosed fewer E → IsSymmetry known E f → IsSymmetry fewer E f
  of-fewer [] reads s = tt
  of-fewer (X ∷ E) reads s = (
    record {
      sign = refl;
      size = refl;
      owns = λ i k. s.0.owns i (within i k);
      holds = λ t u tu i k.
          let after = λ (j : I). t (f j) in
          reads.0.holds after u tu i k ∙ s.0.holds t after (λ j h. refl) i (within i k);
    },
    of-fewer E reads.1 s.1,
  )
