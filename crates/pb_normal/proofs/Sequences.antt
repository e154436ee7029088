-- Equations that hold otherwise outside their own instances alone have the solution that they had.
use Rattle.std.proofs.Common.{◌≡◌, ℕ, zero, suc, Bool, true, List, [], ◌∷◌, map, refl, sym, ◌∙◌, ap, arith}
use Rattle.std.proofs.Math.Path.{fun_ext}
use Rattle.std.specs.List.{All}
use Rattle.pb_fixpoint.proofs.Solved.{cond_same}
use Rattle.pb_fixpoint.specs.Solution.{Environment, Equation, assign, iterate, start, solution, operator, value_of}

-- whatever the equations are made of: `made` makes one, and `holds` says where it holds instead
module _ (I S : Type 0) (made : S → Equation I) (holds : S → I → Environment I → Bool) where
  abbrev pub changed : S → Equation I
  changed X = record (made X) { holds = holds X }

  -- at its own instances, an equation holds where it held
  abbrev pub HoldsAlike : S → Type 0
  HoldsAlike X = (t : Environment I) (i : I) → (made X).owns i ≡ true → holds X i t ≡ (made X).holds i t

  -- two environments say the same of an equation's own instances
  abbrev SameAt : S → Environment I → Environment I → Type 0
  SameAt X F G = (i : I) → (made X).owns i ≡ true → F i ≡ G i

  same-assigned : (X : S) (t F G : Environment I) → SameAt X F G → assign t (made X) F ≡ assign t (changed X) G
  same-assigned X t F G same = fun_ext (λ i. cond_same ((made X).owns i) (F i) (G i) (t i) (same i))

  -- one application of the operators, and many, where what follows is solved alike
  module _ (X : S) (E D : List (Equation I)) (t : Environment I) (alike : HoldsAlike X) (below : (u : Environment I) → solution E u ≡ solution D u) where
    same-step : (F G : Environment I) → SameAt X F G → SameAt X (operator (made X) E t F) (operator (changed X) D t G)
    same-step F G same i own =
        sym (alike (solution E (assign t (made X) F)) i own)
        ∙ ap (holds X i) (below (assign t (made X) F) ∙ ap (solution D) (same-assigned X t F G same))

    same-steps : (n : ℕ) (F : Environment I) → SameAt X (iterate n (operator (made X) E t) F) (iterate n (operator (changed X) D t) F)
    same-steps zero F i own = refl
    same-steps (suc n) F i own = same-step _ _ (same-steps n F) i own

  pub same-solution : (E : List S) → All HoldsAlike E → (t : Environment I) → solution (map made E) t ≡ solution (map changed E) t
  same-solution [] alike t = refl
  same-solution (X ∷ E) alike t =
      let rest : All HoldsAlike E = λ k d lt. alike (suc k) d (omega arith) in
      let value = value_of (made X) (map made E) t in
      let steps = same-steps X (map made E) (map changed E) t (alike zero X (omega arith)) (same-solution E rest) (made X).size (start (made X).sign) in
      same-solution E rest (assign t (made X) value) ∙ ap (solution (map changed E)) (same-assigned X t value _ steps)
