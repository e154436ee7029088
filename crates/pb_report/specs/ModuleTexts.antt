-- What is printed about a module: functions of its rows and of the trees that its instances have.
use Rattle.std.specs.Prelude.{◌≡◌, ℕ, List, length, map}
use Rattle.pb_fixpoint_trees.specs.Tree.{Tree}
use Rattle.pb_fixpoint_trees.specs.Equations.{solved}
use Rattle.pb_fixpoint_trees.specs.Game.{Vertex, game_vertices}
use Rattle.pb_fixpoint_trees.specs.Row.{TokenRow}
use Rattle.pb_fixpoint_trees.specs.Reached.{rows_of}
use Rattle.pb_game.specs.declared.Game.{Game}
use Rattle.pb_game.specs.declared.certificate.Solution.{Solution}
use Rattle.pb_game.specs.Certificates.{IsCertificate}
use Rattle.pb_strategy.specs.Vertices.{HasVertices}
use Rattle.pb_bytecode.specs.Contents.{Contents}
use Rattle.pb_bytecode.specs.Meaning.{AreTrees, signature_of, answer}
use Rattle.pb_report.specs.declared.answer.Answer.{Answer}
use Rattle.pb_report.specs.CutCalls.{cut_count}
use Rattle.pb_report.specs.InstanceName.{instance_name}
use Rattle.pb_report.specs.VertexNames.{vertex_name}
use Rattle.pb_report.specs.GameText.{game_text}
use Rattle.pb_report.specs.SolutionText.{solution_text}
use Rattle.pb_report.specs.CertificateText.{certificate_text}

-- the vertices of the game of the reached instances, by number
abbrev pub module_vertices : Contents → (ℕ → Tree) → List TokenRow → List Vertex
module_vertices m trees rows = game_vertices (map signature_of m.equations) (rows_of trees rows)

-- the truth of the initial instance, and the counts of the reached instances, of those that meet a
-- cut, and of vertices
abbrev pub answer_for : Contents → (ℕ → Tree) → List TokenRow → Answer
answer_for m trees rows = record {
  truth = answer m trees;
  instances = length rows;
  cut = cut_count (rows_of trees rows);
  vertices = length (module_vertices m trees rows);
}

-- the text that the trees say, whichever the module's instances have
abbrev pub IsTextOfTrees : Contents → ((ℕ → Tree) → List ℕ) → List ℕ → Type 0
IsTextOfTrees m text written = (trees : ℕ → Tree) → AreTrees m trees → written ≡ text trees

-- the game of the reached instances, the sinks and the instances by name
abbrev pub module_game_text : Contents → (ℕ → Tree) → List TokenRow → List ℕ
module_game_text m trees rows =
    game_text (vertex_name m (rows_of trees rows)) (module_vertices m trees rows)

-- the nested solution of the equations (Groote and Willemse 2005) at the reached instances, by
-- their names
abbrev pub module_solution_text : Contents → (ℕ → Tree) → List TokenRow → List ℕ
module_solution_text m trees rows =
    solution_text (instance_name m) (solved (map signature_of m.equations) trees)
    (rows_of trees rows)

-- The text of a certificate of the game whose vertices, by the same numbers, are those of
-- `module_game_text`: a winner for each, a strategy for each winner, and progress measures.
pub record IsCertificateText (m : Contents) (trees : ℕ → Tree) (rows : List TokenRow)
    (written : List ℕ) : Type 0 where
  pub game : Game
  pub vertices : HasVertices game (module_vertices m trees rows)
  pub solution : Solution
  pub certificate : IsCertificate game solution
  pub text : written ≡ certificate_text game solution
