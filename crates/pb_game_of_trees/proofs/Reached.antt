-- Reached rows as the program holds them, beside the rows that they stand for.
use Rattle.std.proofs.Common.{◌≡◌, ℕ, suc, ◌<◌, List, [], ◌∷◌, All, Contains, length, get_or, refl, sym, ap, ◌∙◌, subst, arith}
use Rattle.std.specs.List.Sorted.{IsStrictlyIncreasing}
use Rattle.std.proofs.lemmas.List.{get_or-map, length-map}
use Rattle.pb_fixpoint_trees.specs.declared.Token.{Token}
use Rattle.pb_fixpoint_trees.specs.Tree.{Tree}
use Rattle.pb_fixpoint_trees.specs.Tokens.{tree_tokens}
use Rattle.pb_fixpoint_trees.specs.Equations.{Signature}
use Rattle.pb_fixpoint_trees.specs.Rows as plain
use Rattle.pb_fixpoint_trees.specs.Row.{TokenRow, nothing}
use Rattle.pb_fixpoint_trees.specs.Reached.{numbers_of, row_of, rows_of, AreRowsOf}
use Rattle.pb_game_of_trees.specs.Held.{held, Hold}
use Rattle.pb_game_of_trees.specs.Places.{numbers}

-- the rows in memory are the reached instances of a system with their trees, by rising number
pub record AreReached (signatures : List Signature) (trees : ℕ → Tree) (rows : List TokenRow) (reached : List plain.Row) : Type 0 where
  pub held : Hold rows reached
  pub are : plain.AreRows signatures trees reached
  pub rising : IsStrictlyIncreasing (numbers reached)

module _ (trees : ℕ → Tree) where
  held_row : (r : TokenRow) → r.tree ≡ tree_tokens (trees r.number) → r ≡ held (row_of trees r)
  held_row r e = ap (λ (ts : List Token). let x : TokenRow = record { number = r.number; tree = ts } in x) e

  hold_rows : (rows : List TokenRow) → All (λ (r : TokenRow). r.tree ≡ tree_tokens (trees r.number)) rows → Hold rows (rows_of trees rows)
  hold_rows [] h = refl
  hold_rows (r ∷ rows) h =
      ap (λ (x : TokenRow). x ∷ rows) (held_row r (h 0 r (omega arith)))
      ∙ ap (λ (xs : List TokenRow). held (row_of trees r) ∷ xs) (hold_rows rows (λ k d l. h (suc k) d (omega arith)))

  same_numbers : (rows : List TokenRow) → numbers_of rows ≡ numbers (rows_of trees rows)
  same_numbers [] = refl
  same_numbers (r ∷ rows) = ap (λ (ns : List ℕ). r.number ∷ ns) (same_numbers rows)

  pub found_row : (rows : List TokenRow) (n : ℕ) → Contains (numbers_of rows) n → plain.IsReached (rows_of trees rows) n
  found_row rows n c =
      let k = c.0 in
      let l : k < length rows = omega (arith, c.1, length-map rows (λ (r : TokenRow). r.number)) in
      let row = row_of trees (get_or rows k nothing) in (
        row,
        (k, omega (arith, l, length-map rows (row_of trees)), get_or-map (row_of trees) rows k nothing row l),
        sym (get_or-map (λ (r : TokenRow). r.number) rows k nothing n l) ∙ c.2,
      )

  pub reached_of : (signatures : List Signature) (rows : List TokenRow) → AreRowsOf signatures trees rows → AreReached signatures trees rows (rows_of trees rows)
  reached_of signatures rows are = record {
    held = hold_rows rows are.of_trees;
    are = are.system;
    rising = subst IsStrictlyIncreasing (same_numbers rows) are.rising;
  }
