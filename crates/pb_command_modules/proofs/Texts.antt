-- A text that was written for the rows in memory is that of the module's reached instances.
use Rattle.std.proofs.Common.{◌≡◌, ◌∙◌, ℕ, List, Option, ap}
use Rattle.pb_text_tree.specs.declared.place.Place.{Place}
use Rattle.pb_fixpoint_trees.specs.Tree.{Tree}
use Rattle.pb_fixpoint_trees.specs.Row.{TokenRow}
use Rattle.pb_bytecode.specs.Contents.{Contents}
use Rattle.pb_exploration_reached.specs.Rows.{AreExploredRows}
use Rattle.pb_game.specs.Certificates.{IsCertificate}
use Rattle.pb_game.specs.declared.certificate.Solution.{Solution}
use Rattle.pb_game_of_trees.specs.Explored.{IsModuleGame}
use Rattle.pb_game_of_trees.specs.declared.tree_game.TreeGame.{TreeGame}
use Rattle.pb_report.specs.CertificateText.{certificate_text}
use Rattle.pb_report.specs.declared.module_evidence.Explanation.{Explanation}
use Rattle.pb_report.specs.ModuleEvidence.{IsExplanation, module_evidence_text}
use Rattle.pb_report.specs.ModuleTexts.{IsTextOfTrees}
use Rattle.pb_command_modules.specs.Writes.{IsTextOfReached, WritesCertificate, WritesEvidence}

pub text_of_reached : (m : Contents) (found rows : List TokenRow) → rows ≡ found → AreExploredRows m found → (text : (ℕ → Tree) → List TokenRow → List ℕ)
    → (written : List ℕ) → IsTextOfTrees m (λ trees. text trees rows) written → IsTextOfReached m text written
text_of_reached m found rows same explored text written is trees have = (found, explored trees have, is trees have ∙ ap (text trees) same)

-- the text of a certificate of the module's game
pub certificate_of_module : (m : Contents) (rows : List TokenRow) → AreExploredRows m rows → (built : TreeGame) → IsModuleGame m rows built → (s : Solution) → IsCertificate built.game s
    → (written : List ℕ) → written ≡ certificate_text built.game s → WritesCertificate m written
certificate_of_module m rows explored built game s certificate written is trees have = (
  rows,
  explored trees have,
  record { game = built.game; vertices = (game trees have).game.vertices; solution = s; certificate = certificate; text = is },
)

-- the text of the evidence that explains it
pub evidence_of_module : (m : Contents) (x : Explanation) → IsExplanation m x → (place : ℕ → ℕ → Option Place)
    → (written : List ℕ) → IsTextOfTrees m (λ trees. module_evidence_text m trees place x.evidence) written → WritesEvidence m place written
evidence_of_module m x explains place written is = (x.evidence, λ trees have. (explains trees have).shown, is)
