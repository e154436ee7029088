-- The lines of a solution, one after the other.
use Rattle.std.proofs.Common.{◌≡◌, ℕ, zero, suc, ◌+◌, ◌<◌, ◌≤◌, Bool, List, [], ◌∷◌, ◌++◌, length, drop, get_or, map, Some, sym, ap, ◌∙◌, arith}
use Rattle.std.specs.Prelude.{slice_get}
use Rattle.std.proofs.lemmas.List.{drop_all, length-map}
use Rattle.pb_fixpoint_trees.specs.Tree.{Tree}
use Rattle.pb_fixpoint_trees.specs.Equations.{solved, total}
use Rattle.pb_fixpoint_trees.specs.Rows.{Row}
use Rattle.pb_fixpoint_trees.specs.Row as in_memory
use Rattle.pb_fixpoint_trees.specs.Reached.{rows_of}
use Rattle.pb_game_of_trees.specs.Held.{held, Hold}
use Rattle.pb_game_of_trees.specs.Explored.{AreModuleRows}
use Rattle.pb_game_of_trees.proofs.Reached.{AreReached, reached_of}
use Rattle.pb_game_of_trees.proofs.Rows.{IsNext, next_row, contained}
use Rattle.pb_bytecode.specs.Contents.{Contents}
use Rattle.pb_bytecode.specs.Meaning.{AreTrees, parameters, signature_of}
use Rattle.pb_sorts.specs.Layout.{count_of}
use Rattle.pb_bytecode.proofs.InstanceCounts.{count_is_total}
use Rattle.pb_report.specs.InstanceName.{instance_name}
use Rattle.pb_report.specs.SolutionText.{solution_line, solution_text}

at_place : (xs : List Row) (k : ℕ) (x : Row) (rest : List Row) → drop k xs ≡ x ∷ rest → slice_get xs k ≡ Some x
at_place [] zero x rest e = cc
at_place [] (suc k) x rest e = cc
at_place (y ∷ xs) zero x rest e = let same : y ≡ x = cc in ap Some same
at_place (y ∷ xs) (suc k) x rest e = at_place xs k x rest e

pub count_held : (rows : List in_memory.TokenRow) (reached : List Row) → Hold rows reached → length rows ≡ length reached
count_held rows reached hold = ap length hold ∙ length-map reached held

module _ (m : Contents) (rows : List in_memory.TokenRow) (from : AreModuleRows m rows) (trees : ℕ → Tree) (have : AreTrees m trees) where
  abbrev reached : List Row
  reached = rows_of trees rows

  -- the lines of rows of the module
  abbrev lines : List Row → List ℕ
  lines = solution_text (instance_name m) (solved (map signature_of m.equations) trees)

  are : AreReached (map signature_of m.equations) trees rows reached
  are = reached_of trees (map signature_of m.equations) rows (from trees have).are

  pub as_many : length rows ≡ length reached
  as_many = count_held rows reached are.held

  next : (k : ℕ) → k < length rows → IsNext reached k (get_or rows k in_memory.nothing)
  next k l = next_row rows reached k are.held l

  stands : (k : ℕ) (l : k < length rows) → slice_get reached k ≡ Some (next k l).next
  stands k l = at_place reached k (next k l).next (drop (k + 1) reached) (next k l).rest

  pub number_below : (k : ℕ) → k < length rows → (get_or rows k in_memory.nothing).number < count_of (parameters m)
  number_below k l =
      let n = next k l in
      let all : count_of (parameters m) ≡ total (map signature_of m.equations) = count_is_total m in
      omega (arith, all, are.are.below n.next (contained reached k _ n), ap (λ (r : in_memory.TokenRow). r.number) n.is)

  -- of the lines from k on, the first one and the others
  pub next_line : (k : ℕ) (l : k < length rows) (number : ℕ) (truth : Bool) → number ≡ (get_or rows k in_memory.nothing).number
      → ((row : Row) → slice_get reached k ≡ Some row → truth ≡ solved (map signature_of m.equations) trees row.number)
      → lines (drop k reached) ≡ solution_line (instance_name m number) truth ++ lines (drop (k + 1) reached)
  next_line k l number truth of_row is =
      let n = next k l in
      let more = lines (drop (k + 1) reached) in
      ap lines n.rest
      ∙ (ap (λ (i : ℕ). solution_line (instance_name m i) (solved (map signature_of m.equations) trees n.next.number) ++ more)
      (ap (λ (r : in_memory.TokenRow). r.number) n.is ∙ sym of_row)
      ∙ ap (λ (b : Bool). solution_line (instance_name m number) b ++ more) (sym (is n.next (stands k l))))

  pub no_line : (k : ℕ) → length rows ≤ k → lines (drop k reached) ≡ []
  no_line k l = ap lines (drop_all k reached (omega (arith, l, as_many)))
