-- The loops around a place are told by the innermost of them: the body of a LOOP stands in the body around it.
use Rattle.std.proofs.Common.{◌≡◌, ℕ, zero, suc, ◌+◌, ◌<◌, ◌≤◌, List, [], ◌∷◌, ◌++◌, length, Option, Some, None, refl, sym, ap, ◌∙◌, subst, arith, length-append, ◌⊎◌, inl, inr, ⊎_elim}
use Rattle.std.specs.Prelude.{slice_get}
use Rattle.pb_sorts.proofs.Places.{slice_get-append_right}
use Rattle.pb_bytecode_program.specs.Counts.{LoopEffect, Enters, Leaves, Straight, loop_effect, loops_after, loops_around}
use Rattle.pb_bytecode_program.specs.declared.instruction.Op.{Op}
use Rattle.pb_bytecode_program.proofs.Places.{AllBelow, around_below, around_next}
use Rattle.pb_bytecode_program.proofs.Rules.{instruction_at}
use Rattle.pb_verifier_structure.specs.Nesting.{innermost_of, NestsAt}

-- each of these places is a LOOP that the others are around
abbrev pub Chained : List Op → List ℕ → Type 0
Chained code [] = Unit {0}
Chained code (x ∷ xs) = (xs ≡ loops_around code x) × Chained code xs

chained_turn : (code : List Op) (t : LoopEffect) (q : ℕ) → Chained code (loops_around code q) → (st : List ℕ) → st ≡ loops_around code q → Chained code st → Chained code (loops_after t q st)
chained_turn code (Enters i) q h st e g = (e, g)
chained_turn code Leaves q h [] e g = tt
chained_turn code Leaves q h (x ∷ st) e g = g.1
chained_turn code Straight q h st e g = g

pub start_around : (code : List Op) → loops_around code 0 ≡ []
start_around [] = refl
start_around (i ∷ is) = refl

pub chained_around : (code : List Op) (q : ℕ) → q ≤ length code → Chained code (loops_around code q)
chained_around code zero h = subst (Chained code) (sym (start_around code)) tt
chained_around code (suc q) h =
    let g = instruction_at code q (omega arith) in
    let before = chained_around code q (omega arith) in
    let next : loops_around code (suc q) ≡ loops_after (loop_effect g.0) q (loops_around code q) = (let z : suc q ≡ q + 1 = omega arith in ap (loops_around code) z) ∙ around_next code q g.0 g.1 in
    subst (Chained code) (sym next) (chained_turn code (loop_effect g.0) q before (loops_around code q) refl before)

-- what the innermost LOOP tells
pub record IsOuter (code : List Op) (q x : ℕ) : Type 0 where
  pub around : loops_around code q ≡ x ∷ loops_around code x
  pub earlier : x < q

outer_by : (code : List Op) (q x : ℕ) (st : List ℕ) → loops_around code q ≡ st → Chained code st → AllBelow q st → Some x ≡ innermost_of st → IsOuter code q x
outer_by code q x [] e c b h = cc
outer_by code q x (y ∷ st) e c b h =
    let same : x ≡ y = cc in
    let less = b.0 in
    record {
      around = e ∙ ap (λ (zs : List ℕ). y ∷ zs) c.0 ∙ ap (λ z. z ∷ loops_around code z) (sym same);
      earlier = rw same less;
    }

pub outer : (code : List Op) (q x : ℕ) → q ≤ length code → Some x ≡ innermost_of (loops_around code q) → IsOuter code q x
outer code q x l h = outer_by code q x (loops_around code q) refl (chained_around code q l) (around_below code q) h

-- two places with the same innermost LOOP have the same loops around them
same_by : (code : List Op) (xs ys : List ℕ) → Chained code xs → Chained code ys → innermost_of xs ≡ innermost_of ys → xs ≡ ys
same_by code [] [] c d e = refl
same_by code [] (y ∷ ys) c d e = cc
same_by code (x ∷ xs) [] c d e = cc
same_by code (x ∷ xs) (y ∷ ys) c d e =
    let same : x ≡ y = cc in
    ap (λ z. z ∷ xs) same ∙ ap (λ (zs : List ℕ). y ∷ zs) (c.0 ∙ ap (loops_around code) same ∙ sym d.0)

pub same_around : (code : List Op) (q r : ℕ) → q ≤ length code → r ≤ length code → innermost_of (loops_around code q) ≡ innermost_of (loops_around code r) → loops_around code q ≡ loops_around code r
same_around code q r l m e = same_by code (loops_around code q) (loops_around code r) (chained_around code q l) (chained_around code r m) e

pub none_around : (st : List ℕ) → None ≡ innermost_of st → st ≡ []
none_around [] e = refl
none_around (x ∷ st) e = cc

pub some_around : (st : List ℕ) (x : ℕ) → Some x ≡ innermost_of st → 0 < length st
some_around [] x e = cc
some_around (y ∷ st) x e = omega arith

-- ---- the table so far

pub get_before : {X : Type 0} (xs : List X) (x : X) (k : ℕ) → k < length xs → slice_get (xs ++ x ∷ []) k ≡ slice_get xs k
get_before [] x k h = absurd (omega arith)
get_before (y ∷ xs) x zero h = refl
get_before (y ∷ xs) x (suc k) h = get_before xs x k (omega arith)

pub split : (k q : ℕ) → k < q + 1 → (k < q) ⊎ (k ≡ q)
split zero zero h = inr refl
split zero (suc q) h = inl (omega arith)
split (suc k) zero h = absurd (omega arith)
split (suc k) (suc q) h = ⊎_elim (λ (l : k < q). inl (omega arith)) (λ (e : k ≡ q). inr (ap suc e)) (split k q (omega arith))

-- the table has the innermost LOOP around each place before q
pub record IsInnermostBefore (code : List Op) (q : ℕ) (table : List (Option ℕ)) : Type 0 where
  pub long : length table ≡ q
  pub each : (k : ℕ) → k < q → slice_get table k ≡ Some (innermost_of (loops_around code k))

pub one_more : (code : List Op) (q : ℕ) (table : List (Option ℕ)) (o : Option ℕ) → IsInnermostBefore code q table
    → o ≡ innermost_of (loops_around code q) → IsInnermostBefore code (q + 1) (table ++ o ∷ [])
one_more code q table o t e = record {
  long = length-append table (o ∷ []) ∙ (let l = t.long in omega arith);
  each = λ k h. ⊎_elim
      (λ (less : k < q). let l = t.long in get_before table o k (omega arith) ∙ t.each k less)
      (λ (same : k ≡ q). ap (slice_get (table ++ o ∷ [])) (same ∙ sym t.long)
      ∙ slice_get-append_right table (o ∷ []) (length table) 0 (omega arith)
      ∙ ap Some (e ∙ ap (λ z. innermost_of (loops_around code z)) (sym same)))
      (split k q h);
}

-- ---- the instructions so far

-- loops nest before q
abbrev pub NestBefore : List Op → ℕ → Type 0
NestBefore code q = (k : ℕ) (i : Op) → k < q → slice_get code k ≡ Some i → NestsAt code k i
