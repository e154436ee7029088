use Rattle.std.proofs.Common.{ℕ, Option, drop}
use Rattle.pb_text_tree.specs.declared.place.Place.{Place}
use Rattle.pb_fixpoint_trees.specs.Tree.{Tree}
use Rattle.pb_bytecode.specs.Meaning.{AreTrees}
use Rattle.pb_report.proofs.Underway.{IsUnderway}
use Rattle.pb_report.specs.CallPlaces.{AreCallPlaces}
use Rattle.pb_report.specs.ModuleEvidence.{module_evidence_text}
use Rattle.pb_report.specs.ModuleLines.{evidence_lines_of}
use Rattle.pb_report.proofs.evidence_text.write_evidence.Given as goal

abbrev pub invariant-loop-k : goal.invariant-loop-k
invariant-loop-k g l =
    (trees : ℕ → Tree) → AreTrees l.verified trees → (place : ℕ → ℕ → Option Place) → AreCallPlaces place l.placed.explanation.now.evidence l.placed.call_places.now →
    IsUnderway g.S.Sink l.fn.writer l.writer
    (module_evidence_text l.verified trees place l.placed.explanation.now.evidence)
    (evidence_lines_of l.verified trees place l.placed.explanation.now.evidence (drop l.k l.placed.explanation.now.evidence.instances.items))
