-- Which text each command writes for a text of equations.
use Rattle.std.specs.Prelude.{◌≡◌, ℕ, Bool, List, Result}
use Rattle.pb_sorts.specs.declared.counting.Counting.{Counting}
use Rattle.pb_sorts.specs.declared.sink.Sink.{Ghosts}
use Rattle.pb_bytecode.specs.Contents.{Contents}
use Rattle.pb_bytecode.specs.Meaning.{parameters}
use Rattle.pb_bytecode.specs.Spelling.{spelling}
use Rattle.pb_report.specs.declared.answer.Answer.{Answer}
use Rattle.pb_report.specs.Report.{report_text}
use Rattle.pb_evidence.specs.declared.Evidence.{Evidence}
use Rattle.pb_evidence.specs.Evidence.{graph_of}
use Rattle.pb_report.specs.ModuleEvidence.{module_evidence_text}
use Rattle.pb_report.specs.ModuleTexts.{IsTextOfTrees}
use Rattle.pb_command_faults.specs.declared.solve_error.SolveError.{SolveError}
use Rattle.pb_command_modules.specs.Delivery.{DeliversOrRefuses}
use Rattle.pb_evidence_places.specs.CallPlaces.{AreCalled, told_place}
use Rattle.pb_command_texts.specs.Answers.{IsAnswer, IsEvidence, IsModuleOfText}
use Rattle.pb_command_texts.specs.Refusals.{IsRefused}

-- a text of the module of the text that the bytes are, by which instances count
abbrev pub WritesOfModule : Counting → (Contents → List ℕ → Type 0) → List ℕ → List ℕ → Type 0
WritesOfModule counting IsWritten bytes written =
    (m : Contents) × IsModuleOfText counting bytes m × IsWritten m written

-- the bytes of a module
abbrev pub WritesModule : Contents → List ℕ → Type 0
WritesModule m written = written ≡ spelling m

-- the report on the answer to a text
abbrev pub WritesTextReport : Counting → List ℕ → List ℕ → Type 0
WritesTextReport counting bytes written =
    (a : Answer) × IsAnswer counting bytes a × (written ≡ report_text a)

-- the text of evidence for the answer to a text, with the places of calls where they are to be
-- told, of which each name has one; which lines name a cut call, the trees of the module's
-- instances say
abbrev pub WritesTextEvidence : Counting → Bool → List ℕ → List ℕ → Type 0
WritesTextEvidence counting places bytes written =
    (m : Contents) × (e : Evidence) × (is : IsEvidence counting bytes m e)
    × AreCalled is.text (parameters m) (graph_of e)
    × IsTextOfTrees m
    (λ trees. module_evidence_text m trees (told_place places is.text (parameters m)) e) written

-- it goes out, or the text is refused
abbrev pub DeliversTextEvidence : {S T : Type 0} → Counting → Bool → List ℕ → Result T SolveError
    → Ghosts S → (old new : S) → Type 0
DeliversTextEvidence counting places bytes result sink old new =
    DeliversOrRefuses (WritesTextEvidence counting places bytes) (IsRefused counting bytes) result
    sink old new
