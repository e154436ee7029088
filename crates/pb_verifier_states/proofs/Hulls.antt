-- The join of two states covers both, and each state that covers both covers it: it is their least upper bound.
use Rattle.std.proofs.Common.{◌≡◌, ℕ, suc, Bool, true, false, cond, List, [], ◌∷◌, ◌++◌, length, max, Option, Some, None, refl, sym, ap, ◌∙◌, subst, arith, ◌⊎◌, inl, inr, ⊎_elim}
use Rattle.std.specs.Prelude.{◌==◌, ◌&&◌}
use Rattle.std.specs.Int.{int_min, int_max}
use Rattle.std.proofs.lemmas.Int.{ints, clamps}
use Rattle.std.proofs.lemmas.Bool.{eqb-true, eq-eqb, cond-true, and_parts, and_from}
use Rattle.std.proofs.lemmas.Option.{same_Some}
use Rattle.pb_bytecode_program.specs.Abstract.{Covers}
use Rattle.pb_bytecode_program.specs.Transfer.{AbstractState}
use Rattle.pb_bytecode_program.specs.Accepted.{CoversEach, CoversLoops, IsCovered}
use Rattle.pb_bytecode_program.specs.declared.domain.AbstractValue.{AbstractValue}
use Rattle.pb_bytecode_program.specs.declared.domain.AbstractValue.TheVariants as abstract
use Rattle.pb_verifier_states.specs.Join.{hull_of, with_first, hulls, with_loop, loop_hulls, joined_state, agree, join_states}

-- the items so far, and those to come
abbrev pub prefixed : List AbstractValue → Option (List AbstractValue) → Option (List AbstractValue)
prefixed out None = None
prefixed out (Some ss) = Some (out ++ ss)

-- the same of the slots of loops
abbrev pub prefixed_loops : List (ℕ × AbstractValue) → Option (List (ℕ × AbstractValue)) → Option (List (ℕ × AbstractValue))
prefixed_loops out None = None
prefixed_loops out (Some ss) = Some (out ++ ss)

no_loop_rest : (b : Bool) (i : ℕ) (x : Option AbstractValue) → with_loop b i x None ≡ None
no_loop_rest true i None = refl
no_loop_rest true i (Some s) = refl
no_loop_rest false i x = refl

pub loop_hulls_length : (a b : List (ℕ × AbstractValue)) → (length a ≡ length b → ⊥) → loop_hulls a b ≡ None
loop_hulls_length [] [] h = absurd (h refl)
loop_hulls_length [] (t ∷ ts) h = refl
loop_hulls_length (s ∷ ss) [] h = refl
loop_hulls_length (s ∷ ss) (t ∷ ts) h = ap (with_loop (s.0 == t.0) s.0 (hull_of s.1 t.1)) (loop_hulls_length ss ts (λ e. h (ap suc e))) ∙ no_loop_rest (s.0 == t.0) s.0 (hull_of s.1 t.1)

no_rest : (x : Option AbstractValue) → with_first x None ≡ None
no_rest None = refl
no_rest (Some s) = refl

pub hulls_length : (a b : List AbstractValue) → (length a ≡ length b → ⊥) → hulls a b ≡ None
hulls_length [] [] h = absurd (h refl)
hulls_length [] (t ∷ ts) h = refl
hulls_length (s ∷ ss) [] h = refl
hulls_length (s ∷ ss) (t ∷ ts) h = ap (with_first (hull_of s t)) (hulls_length ss ts (λ e. h (ap suc e))) ∙ no_rest (hull_of s t)

-- ---- hulls

hull_covers : (s t u : AbstractValue) → hull_of s t ≡ Some u → Covers s s → Covers t t → Covers s u × Covers t u
hull_covers abstract.Bool abstract.Bool u e a b = subst (λ x. Covers abstract.Bool x × Covers abstract.Bool x) (let w : abstract.Bool ≡ u = cc in w) (tt, tt)
hull_covers abstract.Bool (abstract.Int m k) u e a b = cc
hull_covers abstract.Bool (abstract.Enum m k) u e a b = cc
hull_covers (abstract.Int l h) abstract.Bool u e a b = cc
hull_covers (abstract.Int l h) (abstract.Enum m k) u e a b = cc
hull_covers (abstract.Enum l h) abstract.Bool u e a b = cc
hull_covers (abstract.Enum l h) (abstract.Int m k) u e a b = cc
hull_covers (abstract.Int l h) (abstract.Int m k) u e a b =
    let w : abstract.Int (int_min l m) (int_max h k) ≡ u = cc in
    let p = a.1 in let q = b.1 in
    subst (λ x. Covers (abstract.Int l h) x × Covers (abstract.Int m k) x) w (
      (omega (arith, ints, clamps), omega (arith, ints), omega (arith, ints, clamps)),
      (omega (arith, ints, clamps), omega (arith, ints), omega (arith, ints, clamps)),
    )
hull_covers (abstract.Enum s n) (abstract.Enum t m) u e a b = by (s == t) refl e
  where
    by : (c : Bool) → (s == t) ≡ c → cond c (Some (abstract.Enum s (max n m))) None ≡ Some u → Covers (abstract.Enum s n) u × Covers (abstract.Enum t m) u
    by true f g = let w : abstract.Enum s (max n m) ≡ u = cc in subst (λ x. Covers (abstract.Enum s n) x × Covers (abstract.Enum t m) x) w ((refl, omega arith), (sym (eqb-true s t f), omega arith))
    by false f g = cc

hull_least : (s t u m : AbstractValue) → hull_of s t ≡ Some u → Covers s m → Covers t m → Covers u m
hull_least abstract.Bool abstract.Bool u m e a b = subst (λ x. Covers x m) (let w : abstract.Bool ≡ u = cc in w) a
hull_least abstract.Bool (abstract.Int l h) u m e a b = cc
hull_least abstract.Bool (abstract.Enum l h) u m e a b = cc
hull_least (abstract.Int l h) abstract.Bool u m e a b = cc
hull_least (abstract.Int l h) (abstract.Enum n k) u m e a b = cc
hull_least (abstract.Enum l h) abstract.Bool u m e a b = cc
hull_least (abstract.Enum l h) (abstract.Int n k) u m e a b = cc
hull_least (abstract.Int l h) (abstract.Int n k) u abstract.Bool e a b = absurd a
hull_least (abstract.Int l h) (abstract.Int n k) u (abstract.Enum x y) e a b = absurd a
hull_least (abstract.Int l h) (abstract.Int n k) u (abstract.Int x y) e a b =
    let w : abstract.Int (int_min l n) (int_max h k) ≡ u = cc in
    let a0 = a.0 in let a1 = a.1 in let a2 = a.2 in let b0 = b.0 in let b1 = b.1 in let b2 = b.2 in
    subst (λ z. Covers z (abstract.Int x y)) w (omega (arith, ints, clamps), omega (arith, ints, clamps), omega (arith, ints, clamps))
hull_least (abstract.Enum s n) (abstract.Enum t k) u abstract.Bool e a b = absurd a
hull_least (abstract.Enum s n) (abstract.Enum t k) u (abstract.Int x y) e a b = absurd a
hull_least (abstract.Enum s n) (abstract.Enum t k) u (abstract.Enum x y) e a b =
    let a1 = a.1 in let b1 = b.1 in
    let w : abstract.Enum s (max n k) ≡ u = let f = same_Some _ _ (sym (cond-true _ _ _ (eq-eqb s t (a.0 ∙ sym b.0))) ∙ e) in f in
    subst (λ z. Covers z (abstract.Enum x y)) w (a.0, omega arith)

hull_none : (s t m : AbstractValue) → hull_of s t ≡ None → Covers s m → Covers t m → ⊥
hull_none abstract.Bool abstract.Bool m e a b = cc
hull_none abstract.Bool (abstract.Int l h) abstract.Bool e a b = b
hull_none abstract.Bool (abstract.Int l h) (abstract.Int x y) e a b = a
hull_none abstract.Bool (abstract.Int l h) (abstract.Enum x y) e a b = a
hull_none abstract.Bool (abstract.Enum l h) abstract.Bool e a b = b
hull_none abstract.Bool (abstract.Enum l h) (abstract.Int x y) e a b = a
hull_none abstract.Bool (abstract.Enum l h) (abstract.Enum x y) e a b = a
hull_none (abstract.Int l h) abstract.Bool abstract.Bool e a b = a
hull_none (abstract.Int l h) abstract.Bool (abstract.Int x y) e a b = b
hull_none (abstract.Int l h) abstract.Bool (abstract.Enum x y) e a b = a
hull_none (abstract.Int l h) (abstract.Enum n k) abstract.Bool e a b = a
hull_none (abstract.Int l h) (abstract.Enum n k) (abstract.Int x y) e a b = b
hull_none (abstract.Int l h) (abstract.Enum n k) (abstract.Enum x y) e a b = a
hull_none (abstract.Enum l h) abstract.Bool abstract.Bool e a b = a
hull_none (abstract.Enum l h) abstract.Bool (abstract.Int x y) e a b = a
hull_none (abstract.Enum l h) abstract.Bool (abstract.Enum x y) e a b = b
hull_none (abstract.Enum l h) (abstract.Int n k) abstract.Bool e a b = a
hull_none (abstract.Enum l h) (abstract.Int n k) (abstract.Int x y) e a b = a
hull_none (abstract.Enum l h) (abstract.Int n k) (abstract.Enum x y) e a b = b
hull_none (abstract.Int l h) (abstract.Int n k) m e a b = cc
hull_none (abstract.Enum s n) (abstract.Enum t k) abstract.Bool e a b = a
hull_none (abstract.Enum s n) (abstract.Enum t k) (abstract.Int x y) e a b = a
hull_none (abstract.Enum s n) (abstract.Enum t k) (abstract.Enum x y) e a b =
    let w : Some (abstract.Enum s (max n k)) ≡ None = sym (cond-true _ _ _ (eq-eqb s t (a.0 ∙ sym b.0))) ∙ e in cc

-- ---- lists of them

-- the parts of a list that was made
pub made : (x : Option AbstractValue) (r : Option (List AbstractValue)) (us : List AbstractValue)
    → with_first x r ≡ Some us → (u : AbstractValue) × (vs : List AbstractValue) × (x ≡ Some u) × (r ≡ Some vs) × (us ≡ u ∷ vs)
made None r us e = cc
made (Some u) None us e = cc
made (Some u) (Some vs) us e = (u, vs, refl, refl, sym (same_Some _ _ e))

pub hulls_cover : (ss ts us : List AbstractValue) → hulls ss ts ≡ Some us → CoversEach ss ss → CoversEach ts ts → CoversEach ss us × CoversEach ts us
hulls_cover [] [] us e a b = subst (λ x. CoversEach [] x × CoversEach [] x) (same_Some _ _ e) (tt, tt)
hulls_cover [] (t ∷ ts) us e a b = cc
hulls_cover (s ∷ ss) [] us e a b = cc
hulls_cover (s ∷ ss) (t ∷ ts) us e a b =
    let m = made (hull_of s t) (hulls ss ts) us e in
    let one = hull_covers s t m.0 m.2 a.0 b.0 in
    let all = hulls_cover ss ts m.1 m.3 a.1 b.1 in
    subst (λ x. CoversEach (s ∷ ss) x × CoversEach (t ∷ ts) x) (sym m.4) ((one.0, all.0), (one.1, all.1))

pub hulls_least : (ss ts us ms : List AbstractValue) → hulls ss ts ≡ Some us → CoversEach ss ms → CoversEach ts ms → CoversEach us ms
hulls_least [] [] us ms e a b = subst (λ x. CoversEach x ms) (same_Some _ _ e) a
hulls_least [] (t ∷ ts) us ms e a b = cc
hulls_least (s ∷ ss) [] us ms e a b = cc
hulls_least (s ∷ ss) (t ∷ ts) us [] e a b = absurd a
hulls_least (s ∷ ss) (t ∷ ts) us (m ∷ ms) e a b =
    let d = made (hull_of s t) (hulls ss ts) us e in
    subst (λ x. CoversEach x (m ∷ ms)) (sym d.4) (hull_least s t d.0 m d.2 a.0 b.0, hulls_least ss ts d.1 ms d.3 a.1 b.1)

not_made : (x : Option AbstractValue) (r : Option (List AbstractValue)) → with_first x r ≡ None → (x ≡ None) ⊎ (r ≡ None)
not_made None r e = inl refl
not_made (Some u) None e = inr refl
not_made (Some u) (Some vs) e = cc

pub hulls_none : (ss ts ms : List AbstractValue) → hulls ss ts ≡ None → CoversEach ss ms → CoversEach ts ms → ⊥
hulls_none [] [] ms e a b = cc
hulls_none [] (t ∷ ts) [] e a b = b
hulls_none [] (t ∷ ts) (m ∷ ms) e a b = a
hulls_none (s ∷ ss) [] [] e a b = a
hulls_none (s ∷ ss) [] (m ∷ ms) e a b = b
hulls_none (s ∷ ss) (t ∷ ts) [] e a b = a
hulls_none (s ∷ ss) (t ∷ ts) (m ∷ ms) e a b =
    ⊎_elim (λ x. hull_none s t m x a.0 b.0) (λ x. hulls_none ss ts ms x a.1 b.1) (not_made (hull_of s t) (hulls ss ts) e)

-- ---- loops

made_loop : (c : Bool) (i : ℕ) (x : Option AbstractValue) (r : Option (List (ℕ × AbstractValue)))
    (us : List (ℕ × AbstractValue)) → with_loop c i x r ≡ Some us
    → (u : AbstractValue) × (vs : List (ℕ × AbstractValue)) × (c ≡ true) × (x ≡ Some u) × (r ≡ Some vs) × (us ≡ (i, u) ∷ vs)
made_loop false i x r us e = cc
made_loop true i None r us e = cc
made_loop true i (Some u) None us e = cc
made_loop true i (Some u) (Some vs) us e = (u, vs, refl, refl, refl, sym (same_Some _ _ e))

loops_cover : (ss ts us : List (ℕ × AbstractValue)) → loop_hulls ss ts ≡ Some us → CoversLoops ss ss → CoversLoops ts ts → CoversLoops ss us × CoversLoops ts us
loops_cover [] [] us e a b = subst (λ x. CoversLoops [] x × CoversLoops [] x) (same_Some _ _ e) (tt, tt)
loops_cover [] (t ∷ ts) us e a b = cc
loops_cover (s ∷ ss) [] us e a b = cc
loops_cover (s ∷ ss) (t ∷ ts) us e a b =
    let m = made_loop (s.0 == t.0) s.0 (hull_of s.1 t.1) (loop_hulls ss ts) us e in
    let one = hull_covers s.1 t.1 m.0 m.3 a.1 b.1 in
    let all = loops_cover ss ts m.1 m.4 a.2 b.2 in
    subst (λ x. CoversLoops (s ∷ ss) x × CoversLoops (t ∷ ts) x) (sym m.5) ((refl, one.0, all.0), (sym (eqb-true s.0 t.0 m.2), one.1, all.1))

loops_least : (ss ts us ms : List (ℕ × AbstractValue)) → loop_hulls ss ts ≡ Some us → CoversLoops ss ms → CoversLoops ts ms → CoversLoops us ms
loops_least [] [] us ms e a b = subst (λ x. CoversLoops x ms) (same_Some _ _ e) a
loops_least [] (t ∷ ts) us ms e a b = cc
loops_least (s ∷ ss) [] us ms e a b = cc
loops_least (s ∷ ss) (t ∷ ts) us [] e a b = absurd a
loops_least (s ∷ ss) (t ∷ ts) us (m ∷ ms) e a b =
    let d = made_loop (s.0 == t.0) s.0 (hull_of s.1 t.1) (loop_hulls ss ts) us e in
    subst (λ x. CoversLoops x (m ∷ ms)) (sym d.5) (a.0, hull_least s.1 t.1 d.0 m.1 d.3 a.1 b.1, loops_least ss ts d.1 ms d.4 a.2 b.2)

not_made_loop : (c : Bool) (i : ℕ) (x : Option AbstractValue) (r : Option (List (ℕ × AbstractValue))) → c ≡ true → with_loop c i x r ≡ None → (x ≡ None) ⊎ (r ≡ None)
not_made_loop false i x r t e = cc
not_made_loop true i None r t e = inl refl
not_made_loop true i (Some u) None t e = inr refl
not_made_loop true i (Some u) (Some vs) t e = cc

loops_none : (ss ts ms : List (ℕ × AbstractValue)) → loop_hulls ss ts ≡ None → CoversLoops ss ms → CoversLoops ts ms → ⊥
loops_none [] [] ms e a b = cc
loops_none [] (t ∷ ts) [] e a b = b
loops_none [] (t ∷ ts) (m ∷ ms) e a b = a
loops_none (s ∷ ss) [] [] e a b = a
loops_none (s ∷ ss) [] (m ∷ ms) e a b = b
loops_none (s ∷ ss) (t ∷ ts) [] e a b = a
loops_none (s ∷ ss) (t ∷ ts) (m ∷ ms) e a b =
    ⊎_elim (λ x. hull_none s.1 t.1 m.1 x a.1 b.1) (λ x. loops_none ss ts ms x a.2 b.2) (not_made_loop (s.0 == t.0) s.0 (hull_of s.1 t.1) (loop_hulls ss ts) (eq-eqb s.0 t.0 (a.0 ∙ sym b.0)) e)

-- ---- states

pub join_covers : (k m n : AbstractState) → join_states k m ≡ Some n → IsCovered k k → IsCovered m m → IsCovered k n × IsCovered m n
join_covers k m n e a b = by (agree k m) (hulls k.operands m.operands) (hulls k.parameters m.parameters) (loop_hulls k.loops m.loops) refl refl refl refl e
  where
    by : (c : Bool) (o r : Option (List AbstractValue)) (l : Option (List (ℕ × AbstractValue))) → agree k m ≡ c
        → hulls k.operands m.operands ≡ o → hulls k.parameters m.parameters ≡ r → loop_hulls k.loops m.loops ≡ l
        → joined_state c k o r l ≡ Some n → IsCovered k n × IsCovered m n
    by false o r l f g h j e = cc
    by true None r l f g h j e = cc
    by true (Some ss) None l f g h j e = cc
    by true (Some ss) (Some ps) None f g h j e = cc
    by true (Some ss) (Some ps) (Some ls) f g h j e =
        let t3 = and_parts ((k.operands_below == m.operands_below) && (k.brackets == m.brackets) && (k.brackets_below == m.brackets_below)) (k.roots == m.roots) f in
        let t2 = and_parts ((k.operands_below == m.operands_below) && (k.brackets == m.brackets)) (k.brackets_below == m.brackets_below) t3.0 in
        let t1 = and_parts (k.operands_below == m.operands_below) (k.brackets == m.brackets) t2.0 in
        let os = hulls_cover k.operands m.operands ss g a.operands b.operands in
        let qs = hulls_cover k.parameters m.parameters ps h a.parameters b.parameters in
        let us = loops_cover k.loops m.loops ls j a.loops b.loops in
        subst (λ (u : AbstractState). IsCovered k u × IsCovered m u) (same_Some _ _ e) (
          record { operands = os.0; operands_below = refl; parameters = qs.0; loops = us.0; brackets = refl; brackets_below = refl; roots = refl },
          record {
            operands = os.1;
            operands_below = sym (eqb-true k.operands_below m.operands_below t1.0);
            parameters =
                qs.1;
            loops = us.1;
            brackets = sym (eqb-true k.brackets m.brackets t1.1);
            brackets_below =
                sym (eqb-true k.brackets_below m.brackets_below t2.1);
            roots = sym (eqb-true k.roots m.roots t3.1);
          },
        )

pub join_least : (k m n u : AbstractState) → join_states k m ≡ Some n → IsCovered k u → IsCovered m u → IsCovered n u
join_least k m n u e a b = by (agree k m) (hulls k.operands m.operands) (hulls k.parameters m.parameters) (loop_hulls k.loops m.loops) refl refl refl e
  where
    by : (c : Bool) (o r : Option (List AbstractValue)) (l : Option (List (ℕ × AbstractValue)))
        → hulls k.operands m.operands ≡ o → hulls k.parameters m.parameters ≡ r → loop_hulls k.loops m.loops ≡ l
        → joined_state c k o r l ≡ Some n → IsCovered n u
    by false o r l g h j e = cc
    by true None r l g h j e = cc
    by true (Some ss) None l g h j e = cc
    by true (Some ss) (Some ps) None g h j e = cc
    by true (Some ss) (Some ps) (Some ls) g h j e =
        subst (λ (v : AbstractState). IsCovered v u) (same_Some _ _ e)
        (record {
          operands =
              hulls_least k.operands m.operands ss u.operands g a.operands b.operands;
          operands_below =
              a.operands_below;
          parameters =
              hulls_least k.parameters m.parameters ps u.parameters h a.parameters b.parameters;
          loops =
              loops_least k.loops m.loops ls u.loops j a.loops b.loops;
          brackets = a.brackets;
          brackets_below =
              a.brackets_below;
          roots = a.roots;
        })

pub join_none : (k m u : AbstractState) → join_states k m ≡ None → IsCovered k u → IsCovered m u → ⊥
join_none k m u e a b =
    by (hulls k.operands m.operands) (hulls k.parameters m.parameters) (loop_hulls k.loops m.loops) refl refl refl
    (subst (λ c. joined_state c k (hulls k.operands m.operands) (hulls k.parameters m.parameters)
    (loop_hulls k.loops m.loops) ≡ None) test e)
  where
    test : agree k m ≡ true
    test = and_from
        ((k.operands_below == m.operands_below) && (k.brackets == m.brackets) && (k.brackets_below == m.brackets_below))
        (k.roots == m.roots)
        (and_from ((k.operands_below == m.operands_below) && (k.brackets == m.brackets))
        (k.brackets_below == m.brackets_below)
        (and_from (k.operands_below == m.operands_below) (k.brackets == m.brackets)
        (eq-eqb k.operands_below m.operands_below (a.operands_below ∙ sym b.operands_below))
        (eq-eqb k.brackets m.brackets (a.brackets ∙ sym b.brackets)))
        (eq-eqb k.brackets_below m.brackets_below (a.brackets_below ∙ sym b.brackets_below)))
        (eq-eqb k.roots m.roots (a.roots ∙ sym b.roots))

    by : (o r : Option (List AbstractValue)) (l : Option (List (ℕ × AbstractValue))) → hulls k.operands m.operands ≡ o
        → hulls k.parameters m.parameters ≡ r → loop_hulls k.loops m.loops ≡ l → joined_state true k o r l ≡ None → ⊥
    by None r l g h j e = hulls_none k.operands m.operands u.operands g a.operands b.operands
    by (Some ss) None l g h j e = hulls_none k.parameters m.parameters u.parameters h a.parameters b.parameters
    by (Some ss) (Some ps) None g h j e = loops_none k.loops m.loops u.loops j a.loops b.loops
    by (Some ss) (Some ps) (Some ls) g h j e = cc
