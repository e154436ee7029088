-- The text of the solution is the same whichever trees the module's instances have: the winners of the game tell it.
use Rattle.std.proofs.Common.{◌≡◌, ℕ, suc, Bool, List, [], ◌∷◌, ◌++◌, map, refl, sym, ap, ◌∙◌, arith}
use Rattle.std.specs.Prelude.{Contains}
use Rattle.pb_fixpoint_trees.specs.Tree.{Tree}
use Rattle.pb_fixpoint_trees.specs.Equations.{solved}
use Rattle.pb_fixpoint_trees.specs.Game.{vertex_of}
use Rattle.pb_fixpoint_trees.specs.Players.{is_even}
use Rattle.pb_fixpoint_trees.specs.Rows.{Row}
use Rattle.pb_fixpoint_trees.specs.Row.{TokenRow}
use Rattle.pb_fixpoint_trees.specs.Reached.{rows_of}
use Rattle.pb_game.specs.Solutions.{winner_of}
use Rattle.pb_bytecode.specs.Contents.{Contents}
use Rattle.pb_bytecode.specs.Meaning.{AreTrees, signature_of}
use Rattle.pb_strategy.proofs.Winners.{merely_solved}
use Rattle.pb_game_of_trees.specs.declared.solved.Solved.{Solved}
use Rattle.pb_game_of_trees.specs.Explored.{ModuleHasTrees, IsModuleGame}
use Rattle.pb_report.specs.InstanceName.{instance_name}
use Rattle.pb_report.specs.SolutionText.{solution_line, solution_text}
use Rattle.pb_report.specs.ModuleTexts.{module_solution_text, IsTextOfTrees}

same_numbers : (s t : ℕ → Tree) (rows : List TokenRow) → map (λ (r : Row). r.number) (rows_of s rows) ≡ map (λ (r : Row). r.number) (rows_of t rows)
same_numbers s t [] = refl
same_numbers s t (r ∷ rows) = ap (λ (ns : List ℕ). r.number ∷ ns) (same_numbers s t rows)

same_values : (f : Row → Bool) (W : ℕ → Bool) (v : Row → ℕ) (rows : List Row) → ((row : Row) → Contains rows row → W (v row) ≡ f row) → map f rows ≡ map W (map v rows)
same_values f W v [] all = refl
same_values f W v (row ∷ rows) all =
    ap (λ (b : Bool). b ∷ map f rows) (sym (all row (0, omega arith, refl)))
    ∙ ap (λ (bs : List Bool). W (v row) ∷ bs) (same_values f W v rows (λ r c. all r (suc c.0, omega (arith, c.1), c.2)))

same_text : (name : ℕ → List ℕ) (f h : ℕ → Bool) (xs ys : List Row) → map (λ (r : Row). r.number) xs ≡ map (λ (r : Row). r.number) ys
    → map (λ (r : Row). f r.number) xs ≡ map (λ (r : Row). h r.number) ys → solution_text name f xs ≡ solution_text name h ys
same_text name f h [] [] numbers truths = refl
same_text name f h [] (y ∷ ys) numbers truths = absurd (cc numbers)
same_text name f h (x ∷ xs) [] numbers truths = absurd (cc numbers)
same_text name f h (x ∷ xs) (y ∷ ys) numbers truths =
    let number : x.number ≡ y.number = cc numbers in
    let more_numbers : map (λ (r : Row). r.number) xs ≡ map (λ (r : Row). r.number) ys = cc numbers in
    let truth : f x.number ≡ h y.number = cc truths in
    let more_truths : map (λ (r : Row). f r.number) xs ≡ map (λ (r : Row). h r.number) ys = cc truths in
    ap (λ (n : ℕ). solution_line (name n) (f x.number) ++ solution_text name f xs) number
    ∙ (ap (λ (b : Bool). solution_line (name y.number) b ++ solution_text name f xs) truth
    ∙ ap (λ (text : List ℕ). solution_line (name y.number) (h y.number) ++ text) (same_text name f h xs ys more_numbers more_truths))

module _ (m : Contents) (rows : List TokenRow) (won : Solved) (game : IsModuleGame m rows won.built) where
  truths : (trees : ℕ → Tree) → AreTrees m trees
      → map (λ (r : Row). solved (map signature_of m.equations) trees r.number) (rows_of trees rows) ≡ map (λ (v : ℕ). is_even (winner_of won.certified v)) won.built.vertices.items
  truths trees have =
      let is = game trees have in
      let reached = rows_of trees rows in
      let signatures = map signature_of m.equations in
      let W : ℕ → Bool = λ v. is_even (winner_of won.certified v) in
      let v : Row → ℕ = λ r. vertex_of reached r.number in
      same_values (λ (r : Row). solved signatures trees r.number) W v reached
      (λ row c. merely_solved won.built.game won.certified won.certificate (v row) signatures trees reached is.game row c refl)
      ∙ ap (map W) (sym is.vertices)

  -- the text for any trees of the module is the text for all
  pub one_solution : (some : ModuleHasTrees m) → IsTextOfTrees m (λ trees. module_solution_text m trees rows) (module_solution_text m some.0 rows)
  one_solution some t have =
      let signatures = map signature_of m.equations in
      let s = some.0 in
      same_text (instance_name m) (solved signatures s) (solved signatures t) (rows_of s rows) (rows_of t rows) (same_numbers s t rows) (truths s some.1 ∙ sym (truths t have))
