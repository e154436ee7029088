-- Evidence for the truth of a module's initial instance, and its text.
use Rattle.std.specs.Prelude.{◌≡◌, ℕ, List, Option, map}
use Rattle.pb_text_tree.specs.declared.place.Place.{Place}
use Rattle.pb_fixpoint_trees.specs.Tree.{Tree}
use Rattle.pb_fixpoint_trees.specs.Equations.{Signature}
use Rattle.pb_bytecode.specs.Contents.{Contents}
use Rattle.pb_bytecode.specs.Meaning.{AreTrees, signature_of, initial_of}
use Rattle.pb_evidence.specs.declared.Evidence.{Evidence}
use Rattle.pb_evidence.specs.Evidence.{graph_of, Shows}
use Rattle.pb_report.specs.InstanceName.{instance_name}
use Rattle.pb_report.specs.Cuts.{is_cut, cuts_of}
use Rattle.pb_report.specs.EvidenceText.{evidence_text}
use Rattle.pb_report.specs.declared.module_evidence.Explanation.{Explanation}

-- it shows the truth of the system's instance n, and says which of its instances rest on a cut call
pub record Explains (signatures : List Signature) (trees : ℕ → Tree) (n : ℕ) (x : Explanation)
    : Type 0 where
  pub shown : Shows signatures trees n x.evidence
  pub cuts : x.cuts.items ≡ cuts_of trees x.evidence

-- with whichever trees the module's instances have, it explains the truth of the initial one
abbrev pub IsExplanation : Contents → Explanation → Type 0
IsExplanation m x =
    (trees : ℕ → Tree) → AreTrees m trees
    → Explains (map signature_of m.equations) trees (initial_of m) x

-- with whichever trees the module's instances have, it shows the truth of the initial one
abbrev pub IsModuleEvidence : Contents → Evidence → Type 0
IsModuleEvidence m e =
    (trees : ℕ → Tree) → AreTrees m trees
    → Shows (map signature_of m.equations) trees (initial_of m) e

-- evidence as a text, the instances by their names, with the places that are told of who calls whom
abbrev pub module_evidence_text :
    Contents → (ℕ → Tree) → (ℕ → ℕ → Option Place) → Evidence → List ℕ
module_evidence_text m trees place e =
    evidence_text (instance_name m) place e.truth (is_cut trees e) (graph_of e)
