-- The marks at the vertices of a module's rows are those of its instances.
use Rattle.std.proofs.Common.{◌≡◌, ℕ, ◌<◌, Bool, List, length, get_or, refl, sym, ap, ◌∙◌, subst, arith}
use Rattle.std.proofs.lemmas.List.{get_or-map, get_or_default, length-map}
use Rattle.pb_fixpoint_trees.specs.Tree.{Tree, No, Single}
use Rattle.pb_fixpoint_trees.specs.Equations.{Signature}
use Rattle.pb_fixpoint_trees.specs.Rows as plain
use Rattle.pb_fixpoint_trees.specs.Game.{vertex_of}
use Rattle.pb_fixpoint_trees.specs.Row.{TokenRow, nothing}
use Rattle.pb_fixpoint_trees.specs.Reached.{rows_of}
use Rattle.pb_game.specs.declared.Game.{Game}
use Rattle.pb_strategy.specs.Meaning.{IsGameOfRows}
use Rattle.pb_game_of_trees.specs.Held.{held}
use Rattle.pb_game_of_trees.specs.declared.tree_game.TreeGame.{TreeGame}
use Rattle.pb_game_of_trees.specs.TreeGame.{AreRowsFrom, IsTreeGame}
use Rattle.pb_game_of_trees.proofs.Reached.{AreReached, found_row, reached_of}
use Rattle.pb_game_of_trees.proofs.Placed.{count_rows}
use Rattle.pb_game_of_trees.proofs.Vertices.{vertices_are}
use Rattle.pb_evidence.specs.Marks.{IsMarked}
use Rattle.pb_evidence.specs.Evidence.{AreNumbers, IsEvidenceAt, Shows}
use Rattle.pb_evidence.specs.declared.Evidence.{Evidence}
use Rattle.pb_report.specs.InstanceMarks.{AreMarked}
use Rattle.pb_report.specs.VertexNames.{AreRising}
use Rattle.pb_report.proofs.ReachedGames.{vertices_rise}

-- the same marks, otherwise written
pub moved : (vs ws : List ℕ) (rows : List TokenRow) (done : ℕ) (marks ms : List Bool) (numbers ns : List ℕ) → vs ≡ ws → marks ≡ ms → numbers ≡ ns →
    AreMarked vs rows done marks numbers → AreMarked ws rows done ms ns
moved vs ws rows done marks ms numbers ns v m n are =
    subst (λ (xs : List ℕ). AreMarked xs rows done ms ns) v
    (subst (λ (xs : List Bool). AreMarked vs rows done xs ns) m (subst (λ (xs : List ℕ). AreMarked vs rows done marks xs) n are))

abbrev none : plain.Row
none = record { number = 0; tree = Single No }

module _ {signatures : List Signature} {trees : ℕ → Tree} {rows : List TokenRow} {initial : ℕ} {built : TreeGame}
    (from : AreRowsFrom signatures trees rows initial) (is : IsTreeGame signatures trees (rows_of trees rows) initial built) where
  abbrev reached : List plain.Row
  reached = rows_of trees rows

  are : AreReached signatures trees rows reached
  are = reached_of trees signatures rows from.are

  count : length rows ≡ length reached
  count = ap length are.held ∙ length-map reached held

  pub as_many : length built.vertices.items ≡ length rows
  as_many = count_rows signatures trees reached initial built is ∙ sym count

  pub vertices_rising : AreRising built.vertices.items
  vertices_rising = subst AreRising (vertices_are reached are.rising ∙ sym is.vertices) (vertices_rise reached 2)

  vertex_at : (k : ℕ) (row : plain.Row) → k < length reached → get_or reached k row ≡ row → get_or built.vertices.items k 0 ≡ vertex_of reached row.number
  vertex_at k row l e =
      ap (λ (xs : List ℕ). get_or xs k 0) is.vertices
      ∙ (get_or-map (λ (x : plain.Row). vertex_of reached x.number) reached k row 0 l ∙ ap (λ (x : plain.Row). vertex_of reached x.number) e)

  number_at : (k : ℕ) (row : plain.Row) → k < length reached → get_or reached k row ≡ row → (get_or rows k nothing).number ≡ row.number
  number_at k row l e =
      ap (λ (xs : List TokenRow). (get_or xs k nothing).number) are.held
      ∙ (ap (λ (x : TokenRow). x.number) (get_or-map held reached k row nothing l) ∙ ap (λ (x : plain.Row). x.number) e)

  -- a row by its place
  there : (k : ℕ) → k < length reached → get_or reached k (get_or reached k none) ≡ get_or reached k none
  there k l = get_or_default reached k (get_or reached k none) none l

  module _ (marks : List Bool) (numbers : List ℕ) (marked : AreMarked built.vertices.items rows (length rows) marks numbers) where
    numbered : AreNumbers reached marks numbers
    numbered = record {
      marked = λ n found.
          let k = found.1.0 in
          let l = found.1.1 in
          let at = vertex_at k found.0 l found.1.2 ∙ ap (vertex_of reached) found.2 in
          subst (IsMarked marks) at (marked.marked k (omega (arith, l, count)));
      number = λ n found.
          let k = found.1.0 in
          let l = found.1.1 in
          let at = vertex_at k found.0 l found.1.2 ∙ ap (vertex_of reached) found.2 in
          sym (ap (λ (v : ℕ). get_or numbers v 0) at)
          ∙ (marked.number k (omega (arith, l, count)) ∙ (number_at k found.0 l found.1.2 ∙ found.2));
      only = λ v h.
          let at = marked.only v h in
          let k = at.0 in
          let less = at.1 in
          let below : k < length reached = omega (arith, less, count) in
          let row = get_or reached k none in
          (row.number, (row, (k, below, there k below), refl), sym (vertex_at k row below (there k below)) ∙ at.2);
    }

    -- the initial instance's vertex is marked
    pub start_marked : IsMarked marks built.start
    start_marked = subst (IsMarked marks) (sym is.start) (numbered.marked initial (found_row trees rows initial from.found))

    -- evidence at its vertex shows its truth
    pub shown : (g : Game) (e : Evidence) → g ≡ built.game → IsEvidenceAt g marks numbers built.start e → Shows signatures trees initial e
    shown g e same at =
        at signatures trees reached (subst (λ (x : Game). IsGameOfRows signatures trees reached x) (sym same) is.game) numbered
        initial (found_row trees rows initial from.found) (sym is.start)
