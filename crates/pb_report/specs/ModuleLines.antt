-- The lines of a module's evidence, by their places.
use Rattle.std.specs.Prelude.{ℕ, List, Option, slice_index}
use Rattle.pb_text_tree.specs.declared.place.Place.{Place}
use Rattle.pb_fixpoint_trees.specs.Tree.{Tree}
use Rattle.pb_bytecode.specs.Contents.{Contents}
use Rattle.pb_evidence.specs.declared.Evidence.{Evidence}
use Rattle.pb_evidence.specs.Evidence.{graph_of}
use Rattle.pb_report.specs.InstanceName.{instance_name}
use Rattle.pb_report.specs.Cuts.{is_cut}
use Rattle.pb_report.specs.EvidenceText.{evidence_line, evidence_lines}

-- those of these instances
abbrev pub evidence_lines_of :
    Contents → (ℕ → Tree) → (ℕ → ℕ → Option Place) → Evidence → List ℕ → List ℕ
evidence_lines_of m trees place e instances =
    evidence_lines (instance_name m) place e.truth (graph_of e).dependencies (is_cut trees e)
    instances

abbrev pub evidence_line_of : Contents → (ℕ → Tree) → (ℕ → ℕ → Option Place) → Evidence → ℕ → List ℕ
evidence_line_of m trees place e n =
    evidence_line (instance_name m) (place n) e.truth n ((graph_of e).dependencies n)
    (is_cut trees e n)

-- that of the instance at a place
abbrev pub evidence_line_at : Contents → (ℕ → Tree) → (ℕ → ℕ → Option Place) → Evidence → ℕ → List ℕ
evidence_line_at m trees place e k =
    evidence_line_of m trees place e (slice_index e.instances.items k)
