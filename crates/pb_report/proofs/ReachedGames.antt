-- The game of reached rows as it lies in memory: its lines are those of the definition, and its rows' vertices rise.
use Rattle.std.proofs.Common.{◌≡◌, ℕ, zero, suc, ◌+◌, ◌-◌, ◌<◌, ◌≤◌, List, [], ◌∷◌, ◌++◌, length, map, slice_index, decimal, Option, Some, Contains, refl, sym, ap, ◌∙◌, subst, inl, inr, append_assoc, arith}
use Rattle.std.specs.Prelude.{◌==◌, codes, IfSome, slice_get, if◌then◌else◌}
use Rattle.std.proofs.lemmas.Bool.{cases_Bool, cond-true, cond-false}
use Rattle.std.proofs.lemmas.List.{length-map}
use Rattle.pb_fixpoint_trees.specs.declared.player.Player.{Player}
use Rattle.pb_fixpoint_trees.specs.Tree.{Tree}
use Rattle.pb_fixpoint_trees.specs.Equations.{total}
use Rattle.pb_fixpoint_trees.specs.Rows.{Row}
use Rattle.pb_fixpoint_trees.specs.Game.{Vertex, inner, game_vertices}
use Rattle.pb_fixpoint_trees.specs.Row as in_memory
use Rattle.pb_game_of_trees.specs.Held.{held}
use Rattle.pb_game.specs.declared.Game.{Game}
use Rattle.pb_game.specs.Games.{vertex_count, priority_of, successors_of}
use Rattle.pb_game.proofs.Laws.{is_game}
use Rattle.pb_strategy.specs.Vertices.{IsVertex}
use Rattle.pb_game_of_trees.specs.Places.{vertices_from}
use Rattle.pb_game_of_trees.proofs.Reached.{AreReached}
use Rattle.pb_game_of_trees.specs.TreeGame.{IsTreeGame}
use Rattle.pb_game_of_trees.specs.declared.tree_game.TreeGame.{TreeGame}
use Rattle.pb_game_of_trees.proofs.Vertices.{vertices_are, length-vertices_from}
use Rattle.pb_bytecode.specs.Contents.{Contents}
use Rattle.pb_bytecode.specs.Meaning.{parameters, signature_of}
use Rattle.pb_sorts.specs.Layout.{count_of}
use Rattle.pb_bytecode.proofs.InstanceCounts.{count_is_total}
use Rattle.pb_report.specs.GameText.{vertex_at, vertex_line, lines_from, game_text}
use Rattle.pb_report.specs.VertexNames.{instance_at, number_in, name_by, name_in, vertex_name, AreRising, lines_of, first_line, memory_text}

above : (rows : List Row) (next k : ℕ) → k < length (vertices_from rows next) → next ≤ slice_index (vertices_from rows next) k
above [] next k l = absurd (omega arith)
above (row ∷ rows) next zero l = omega arith
above (row ∷ rows) next (suc k) l = let more = above rows (suc (next + inner row.tree)) k (omega (arith, l)) in omega (arith, more)

pub vertices_rise : (rows : List Row) (next : ℕ) → AreRising (vertices_from rows next)
vertices_rise [] next i j l m = absurd (omega arith)
vertices_rise (row ∷ rows) next zero zero l m = absurd (omega arith)
vertices_rise (row ∷ rows) next zero (suc j) l m = let more = above rows (suc (next + inner row.tree)) j (omega (arith, m)) in omega (arith, more)
vertices_rise (row ∷ rows) next (suc i) zero l m = absurd (omega arith)
vertices_rise (row ∷ rows) next (suc i) (suc j) l m = vertices_rise rows (suc (next + inner row.tree)) i j (omega (arith, l)) (omega (arith, m))

pub number_is : (rows : List Row) (next v : ℕ) → number_in (vertices_from rows next) (map held rows) v ≡ instance_at rows next v
number_is [] next v = refl
number_is (row ∷ rows) next v =
    ap (λ (o : Option ℕ). if v == next then Some row.number else o) (number_is rows (suc (next + inner row.tree)) v)

pub numbers_within : (rows : List Row) (next v count : ℕ) → ((row : Row) → Contains rows row → row.number < count) → IfSome (instance_at rows next v) (λ n. n < count)
numbers_within [] next v count all = tt
numbers_within (row ∷ rows) next v count all = elim (cases_Bool (v == next)) [
  | inl e ↦ subst (λ (o : Option ℕ). IfSome o (λ n. n < count)) (sym (cond-true (v == next) (Some row.number) (instance_at rows (suc (next + inner row.tree)) v) e)) (all row (0, omega arith, refl))
  | inr e ↦ subst (λ (o : Option ℕ). IfSome o (λ n. n < count)) (sym (cond-false (v == next) (Some row.number) (instance_at rows (suc (next + inner row.tree)) v) e))
      (numbers_within rows (suc (next + inner row.tree)) v count (λ r c. all r (suc c.0, omega (arith, c.1), c.2)))
]

vertex_is : (g : Game) (v : ℕ) (x : Vertex) → IsVertex g v x → vertex_at g v ≡ x
vertex_is g v x is =
    ap (λ (p : Player). let y : Vertex = record { owner = p; priority = priority_of g v; successors = successors_of g v } in y) is.owner
    ∙ (ap (λ (n : ℕ). let y : Vertex = record { owner = x.owner; priority = n; successors = successors_of g v } in y) is.priority
    ∙ ap (λ (ns : List ℕ). let y : Vertex = record { owner = x.owner; priority = x.priority; successors = ns } in y) is.successors)

lines_are : (f h : ℕ → Option (List ℕ)) → ((v : ℕ) → f v ≡ h v) → (g : Game) (xs : List Vertex) (v : ℕ) →
    ((k : ℕ) (x : Vertex) → slice_get xs k ≡ Some x → IsVertex g (v + k) x) → lines_of f g v (length xs) ≡ lines_from h v xs
lines_are f h same g [] v all = refl
lines_are f h same g (x ∷ xs) v all =
    let here : v + 0 ≡ v = omega arith in
    let is : vertex_at g v ≡ x = vertex_is g v x (subst (λ (n : ℕ). IsVertex g n x) here (all 0 x refl)) in
    let rest = lines_are f h same g xs (suc v) (λ k y e. let next : v + suc k ≡ suc v + k = omega arith in subst (λ (n : ℕ). IsVertex g n y) next (all (suc k) y e)) in
    ap (λ (y : Vertex). vertex_line v y (f v) ++ lines_of f g (suc v) (length xs)) is
    ∙ (ap (λ (o : Option (List ℕ)). vertex_line v x o ++ lines_of f g (suc v) (length xs)) (same v)
    ∙ ap (λ (text : List ℕ). vertex_line v x (h v) ++ text) rest)

module _ (m : Contents) (rows : List in_memory.TokenRow) (built : TreeGame) (trees : ℕ → Tree) (reached : List Row) (initial : ℕ)
    (are : AreReached (map signature_of m.equations) trees rows reached) (is : IsTreeGame (map signature_of m.equations) trees reached initial built) where
  vertices_in : built.vertices.items ≡ vertices_from reached 2
  vertices_in = is.vertices ∙ sym (vertices_are reached are.rising)

  pub number_at : (v : ℕ) → number_in built.vertices.items rows v ≡ instance_at reached 2 v
  number_at v =
      ap (λ (vs : List ℕ). number_in vs rows v) vertices_in
      ∙ (ap (λ (rs : List in_memory.TokenRow). number_in (vertices_from reached 2) rs v) are.held ∙ number_is reached 2 v)

  pub text_is : memory_text m built.game built.vertices.items rows ≡ game_text (vertex_name m reached) (game_vertices (map signature_of m.equations) reached)
  text_is =
      let xs = game_vertices (map signature_of m.equations) reached in
      let names = name_in m built.vertices.items rows in
      let count : vertex_count built.game ≡ length xs = is.game.vertices.count in
      let lines = lines_are names (vertex_name m reached) (λ v. ap (name_by m v) (number_at v)) built.game xs 0
      (λ k x e. let here : k ≡ 0 + k = omega arith in subst (λ (n : ℕ). IsVertex built.game n x) here (is.game.vertices.each k x e)) in
      ap (λ (n : ℕ). first_line (n - 1) ++ lines_of names built.game 0 n) count
      ∙ (ap (λ (text : List ℕ). first_line (length xs - 1) ++ text) lines
      ∙ (append_assoc (codes "parity ") (decimal (length xs - 1) ++ codes ";\n") (lines_from (vertex_name m reached) 0 xs)
      ∙ ap (λ (text : List ℕ). codes "parity " ++ text) (append_assoc (decimal (length xs - 1)) (codes ";\n") (lines_from (vertex_name m reached) 0 xs))))

  pub some_vertex : 0 < vertex_count built.game
  some_vertex = omega (arith, is.game.vertices.count)

  pub same_length : length built.vertices.items ≡ length rows
  same_length = ap length vertices_in ∙ (length-vertices_from reached 2 ∙ (sym (length-map reached held) ∙ sym (ap length are.held)))

  pub are_numbers : (v : ℕ) → IfSome (number_in built.vertices.items rows v) (λ n. n < count_of (parameters m))
  are_numbers v =
      let all : count_of (parameters m) ≡ total (map signature_of m.equations) = count_is_total m in
      subst (λ (o : Option ℕ). IfSome o (λ n. n < count_of (parameters m))) (sym (number_at v))
      (numbers_within reached 2 v (count_of (parameters m)) (λ row c. omega (arith, all, are.are.below row c)))

-- each vertex of a game has a successor
pub are_edges : (g : Game) (v : ℕ) → v < vertex_count g → 0 < length (successors_of g v)
are_edges g v l = let edge = (is_game g).successor v l in omega (arith, edge.1.1)
