-- Which text is written: of a verified module, and of the module that bytes spell.
use Rattle.std.specs.Prelude.{◌≡◌, ℕ, List, Option, codes}
use Rattle.pb_text_tree.specs.declared.place.Place.{Place}
use Rattle.pb_sorts.specs.declared.counting.Counting.{Counting}
use Rattle.pb_fixpoint_trees.specs.Tree.{Tree}
use Rattle.pb_fixpoint_trees.specs.Row.{TokenRow}
use Rattle.pb_bytecode.specs.Contents.{Contents}
use Rattle.pb_bytecode.specs.Listing.{listing}
use Rattle.pb_bytecode.specs.Meaning.{AreTrees}
use Rattle.pb_exploration_reached.specs.Rows.{AreReached}
use Rattle.pb_evidence.specs.declared.Evidence.{Evidence}
use Rattle.pb_report.specs.ModuleEvidence.{IsModuleEvidence, module_evidence_text}
use Rattle.pb_report.specs.ModuleTexts.{module_game_text, module_solution_text}
use Rattle.pb_report.specs.ModuleTexts.{IsCertificateText, IsTextOfTrees}
use Rattle.pb_command_solver.specs.Answers.{IsAnswerOf}
use Rattle.pb_command_modules.specs.Answers.{IsAnswerOfCode, IsModuleOfCode, Spell}
use Rattle.pb_command_modules.specs.Delivery.{IsReportOf}

-- ---- of a verified module

-- the text of its reached instances, whichever trees its instances have
abbrev pub IsTextOfReached : Contents → ((ℕ → Tree) → List TokenRow → List ℕ) → List ℕ → Type 0
IsTextOfReached m text written =
    (trees : ℕ → Tree) → AreTrees m trees
    → (rows : List TokenRow) × AreReached m trees rows × (written ≡ text trees rows)

-- the report of its answer, by which instances count
abbrev pub WritesReport : Counting → Contents → List ℕ → Type 0
WritesReport counting m written = IsReportOf (IsAnswerOf counting m) written

-- the text of the game of its reached instances
abbrev pub WritesGame : Contents → List ℕ → Type 0
WritesGame m written = IsTextOfReached m (module_game_text m) written

-- the text of their truth in the solution of its equations
abbrev pub WritesSolution : Contents → List ℕ → Type 0
WritesSolution m written = IsTextOfReached m (module_solution_text m) written

-- the text of some certificate of that game
abbrev pub WritesCertificate : Contents → List ℕ → Type 0
WritesCertificate m written =
    (trees : ℕ → Tree) → AreTrees m trees
    → (rows : List TokenRow) × AreReached m trees rows × IsCertificateText m trees rows written

-- the text of some evidence for the truth of its initial instance, with the places that are told of
-- who calls whom
abbrev pub WritesEvidence : Contents → (ℕ → ℕ → Option Place) → List ℕ → Type 0
WritesEvidence m place written =
    (e : Evidence) × IsModuleEvidence m e
    × IsTextOfTrees m (λ trees. module_evidence_text m trees place e) written

-- ---- of the module that bytes spell, by which instances count against the limit

-- `verify`
abbrev pub WritesAcceptance : Counting → List ℕ → List ℕ → Type 0
WritesAcceptance counting bytes written =
    (m : Contents) × IsModuleOfCode counting bytes m × (written ≡ codes "accepted\n")

-- `list`
abbrev pub WritesListing : Counting → List ℕ → List ℕ → Type 0
WritesListing counting bytes written =
    (m : Contents) × Spell counting bytes m × (written ≡ listing m)

-- `solve-code`
abbrev pub WritesAnswer : Counting → List ℕ → List ℕ → Type 0
WritesAnswer counting bytes written = IsReportOf (IsAnswerOfCode counting bytes) written
