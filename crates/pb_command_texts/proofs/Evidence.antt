-- Evidence of a text is that of its module.
use Rattle.std.proofs.Common.{◌∙◌, ℕ, Bool, List}
use Rattle.pb_sorts.specs.declared.counting.Counting.{Counting}
use Rattle.pb_text_tree.specs.Form.{SpecForm}
use Rattle.pb_bytecode.specs.Contents.{Contents}
use Rattle.pb_bytecode.specs.Meaning.{parameters}
use Rattle.pb_text_meaning.specs.Erase.{erase}
use Rattle.pb_typing_rules.specs.WellTyped.{IsWellTyped}
use Rattle.pb_assembler_modules.specs.Module.{IsCompiledModule}
use Rattle.pb_evidence.specs.Evidence.{graph_of}
use Rattle.pb_evidence.specs.declared.Evidence.{Evidence}
use Rattle.pb_report.specs.ModuleEvidence.{IsModuleEvidence}
use Rattle.pb_command_texts.specs.Answers.{IsReadText, IsWellTypedBy, IsModuleOfForm}
use Rattle.pb_evidence_places.specs.CallPlaces.{AreCalled, told_place}
use Rattle.pb_command_modules.specs.Writes.{WritesEvidence}
use Rattle.pb_command_texts.specs.Writes.{WritesTextEvidence}
use Rattle.pb_game_of_trees.specs.Explored.{ModuleHasTrees}

-- what is known of the names in evidence
abbrev pub AreNamesCalled : Type 0
AreNamesCalled =
    (text : SpecForm) (m : Contents) (e : Evidence) → IsWellTyped (erase text) → IsCompiledModule (erase text) m → ModuleHasTrees m → IsModuleEvidence m e
    → AreCalled text (parameters m) (graph_of e)

-- evidence of the module of what a text says is evidence of the text
module _ (law : AreNamesCalled) (counting : Counting) (bytes : List ℕ) (text : SpecForm) (m : Contents) (read : IsReadText bytes text) (typed : IsWellTypedBy counting text)
    (of_text : IsModuleOfForm text m) (places : Bool) where
  pub text_evidence : (written : List ℕ) → WritesEvidence m (told_place places text (parameters m)) written → WritesTextEvidence counting places bytes written
  text_evidence written found = let some = of_text.trees in (
    m,
    found.0,
    record {
      text = text;
      read = read;
      typed = typed;
      solved = (found.1 some.0 some.1).truth ∙ (of_text.says some.0 some.1).answer;
      of_text = of_text;
      shown = found.1;
    },
    law text m found.0 of_text.typed of_text.compiled some found.1,
    found.2,
  )
