-- The priorities of a game are at most the number of equations, or that of the false sink.
use Rattle.std.proofs.Common.{◌≡◌, ℕ, zero, suc, ◌+◌, ◌<◌, ◌≤◌, List, [], ◌∷◌, ◌++◌, length, Some, inl, inr, subst, arith}
use Rattle.std.specs.Prelude.{slice_get, nat_lt}
use Rattle.std.proofs.lemmas.Bool.{cases_Bool, cond-true, cond-false}
use Rattle.pb_fixpoint_trees.specs.Tree.{Operands, End, LeafThen, BracketThen, Tree, Single, Root}
use Rattle.pb_fixpoint_trees.specs.Equations.{Signature}
use Rattle.pb_fixpoint_trees.specs.Rows.{Row}
use Rattle.pb_fixpoint_trees.specs.Game.{Vertex, first_priority, priority_from, brackets, inner, inner_vertices, tree_vertices, row_vertices, game_vertices, vertex_of}
use Rattle.pb_game_of_trees.proofs.EquationLevels.{priority_before-le, last_priority-le}

-- a fact of each vertex of a list
abbrev Each : (Vertex → Type 0) → List Vertex → Type 0
Each P [] = Unit {0}
Each P (x ∷ xs) = P x × Each P xs

each-append : (P : Vertex → Type 0) (xs ys : List Vertex) → Each P xs → Each P ys → Each P (xs ++ ys)
each-append P [] ys h k = k
each-append P (x ∷ xs) ys h k = (h.0, each-append P xs ys h.1 k)

each-at : (P : Vertex → Type 0) (xs : List Vertex) → Each P xs → (v : ℕ) (x : Vertex) → slice_get xs v ≡ Some x → P x
each-at P [] h v x e = absurd (cc e)
each-at P (y ∷ ys) h zero x e = let same : y ≡ x = cc in subst P same h.0
each-at P (y ∷ ys) h (suc v) x e = each-at P ys h.1 v x e

first_low : (xs : List Signature) → first_priority xs ≤ length xs
first_low [] = omega arith
first_low (s ∷ []) = last_priority-le s.sign
first_low (s ∷ u ∷ xs) = omega (arith, priority_before-le s.sign u.sign (first_priority (u ∷ xs)), first_low (u ∷ xs))

from_low : (first : ℕ) (xs : List Signature) (n : ℕ) → priority_from first xs n ≤ length xs
from_low first [] n = omega arith
from_low first (s ∷ xs) n =
    let here = first_low (s ∷ xs) in
    let later = from_low (first + s.size) xs n in
    elim (cases_Bool (nat_lt n (first + s.size))) [
      | inl e ↦ omega (arith, cond-true (nat_lt n (first + s.size)) (first_priority (s ∷ xs)) (priority_from (first + s.size) xs n) e)
      | inr e ↦ omega (arith, cond-false (nat_lt n (first + s.size)) (first_priority (s ∷ xs)) (priority_from (first + s.size) xs n) e)
    ]

-- the priority is at most this
abbrev IsLow : ℕ → Vertex → Type 0
IsLow limit x = x.priority ≤ limit

module _ (limit : ℕ) (at : ℕ → ℕ) where
  inner_low : (f : Operands) (next : ℕ) → Each (IsLow limit) (inner_vertices at f next)
  inner_low End next = tt
  inner_low (LeafThen l after) next = inner_low after next
  inner_low (BracketThen c inside after) next = (
    omega arith,
    each-append (IsLow limit) (inner_vertices at inside (suc next)) (inner_vertices at after (suc (next + brackets inside)))
        (inner_low inside (suc next)) (inner_low after (suc (next + brackets inside))),
  )

  tree_low : (p : ℕ) → p ≤ limit → (tree : Tree) (next : ℕ) → Each (IsLow limit) (tree_vertices at p tree next)
  tree_low p h (Single l) next = (h, tt)
  tree_low p h (Root c f) next = (h, inner_low f (suc next))

  rows_low : (priority : ℕ → ℕ) → ((n : ℕ) → priority n ≤ limit) → (rows : List Row) (next : ℕ) → Each (IsLow limit) (row_vertices at priority rows next)
  rows_low priority h [] next = tt
  rows_low priority h (row ∷ rows) next =
      each-append (IsLow limit) (tree_vertices at (priority row.number) row.tree next) (row_vertices at priority rows (suc (next + inner row.tree)))
      (tree_low (priority row.number) (h row.number) row.tree next)
      (rows_low priority h rows (suc (next + inner row.tree)))

-- each vertex of the game
pub low_vertices : (signatures : List Signature) (rows : List Row) (limit : ℕ) → 0 < limit → length signatures ≤ limit →
    (v : ℕ) (x : Vertex) → slice_get (game_vertices signatures rows) v ≡ Some x → x.priority ≤ limit
low_vertices signatures rows limit some few v x e =
    each-at (IsLow limit) (game_vertices signatures rows)
    (omega arith, (omega arith, rows_low limit (vertex_of rows) (priority_from 0 signatures) (λ n. omega (arith, few, from_low 0 signatures n)) rows 2)) v x e
