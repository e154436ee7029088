-- What the answer to a text is, and what its module is.
use Rattle.std.specs.Prelude.{◌≡◌, ℕ, List}
use Rattle.pb_sorts.specs.Counting.{instance_limit}
use Rattle.pb_sorts.specs.declared.counting.Counting.{Counting}
use Rattle.pb_text_tree.specs.Form.{SpecForm}
use Rattle.pb_text.specs.Parsing.{IsReading, IsReadingWithin}
use Rattle.pb_typing_rules.specs.WellTyped.{IsWellTyped, IsWellTypedWithin}
use Rattle.pb_text_meaning.specs.Erase.{erase}
use Rattle.pb_text_meaning.specs.Meaning.{answer}
use Rattle.pb_bytecode.specs.Contents.{Contents}
use Rattle.pb_verifier.specs.Acceptance.{IsAccepted}
use Rattle.pb_game_of_trees.specs.Explored.{ModuleHasTrees}
use Rattle.pb_assembler_modules.specs.Answers.{HasMeaningOf}
use Rattle.pb_assembler_modules.specs.Module.{IsCompiledModule, KeepsAllLimits}
use Rattle.pb_report.specs.declared.answer.Answer.{Answer}
use Rattle.pb_evidence.specs.declared.Evidence.{Evidence}
use Rattle.pb_report.specs.ModuleEvidence.{IsModuleEvidence}
use Rattle.pb_command_solver.specs.Answers.{IsAnswerOf}

-- the bytes say this within the limits, and they say nothing else, whatever the limits
pub record IsReadText (bytes : List ℕ) (x : SpecForm) : Type 0 where
  pub reading : IsReading bytes x
  pub only : (depth operators : ℕ) (y : SpecForm) → IsReadingWithin depth operators bytes y → y ≡ x

-- what the text says is well typed, and declares no more instances than it may, by which of them
-- count
abbrev pub IsWellTypedBy : Counting → SpecForm → Type 0
IsWellTypedBy counting text = IsWellTypedWithin (instance_limit counting) (erase text)

-- The module of what a text says: that is well typed, and the module is what the compile scheme
-- makes of it, with code that keeps the machine's limits and is accepted, so that its instances
-- have trees, with which their runs end. Whichever these are, they have the text's answer, each of
-- its instances has the truth that it has in the text's solution, and each tree is true where the
-- text's right side is.
pub record IsModuleOfForm (text : SpecForm) (m : Contents) : Type 0 where
  pub typed : IsWellTyped (erase text)
  pub compiled : IsCompiledModule (erase text) m
  pub kept : KeepsAllLimits (erase text) m
  pub accepted : IsAccepted m
  pub trees : ModuleHasTrees m
  pub says : HasMeaningOf (erase text) m

-- the module of a text, given by its bytes
pub record IsModuleOfText (counting : Counting) (bytes : List ℕ) (m : Contents) : Type 0 where
  pub text : SpecForm
  pub read : IsReadText bytes text
  pub typed : IsWellTypedBy counting text
  pub of_text : IsModuleOfForm text m

-- The answer to a text: what it says is well typed, and its initial instance has this truth in the
-- solution. The counts are those of the reached instances of its module.
pub record IsAnswer (counting : Counting) (bytes : List ℕ) (a : Answer) : Type 0 where
  pub text : SpecForm
  pub read : IsReadText bytes text
  pub typed : IsWellTypedBy counting text
  pub solved : a.truth ≡ answer (erase text)
  pub contents : Contents
  pub of_text : IsModuleOfText counting bytes contents
  pub counted : IsAnswerOf counting contents a

-- Evidence for the answer to a text: what it says is well typed, its initial instance has this
-- truth in the solution, and of the module of what it says it shows that.
pub record IsEvidence (counting : Counting) (bytes : List ℕ) (m : Contents) (e : Evidence)
    : Type 0 where
  pub text : SpecForm
  pub read : IsReadText bytes text
  pub typed : IsWellTypedBy counting text
  pub solved : e.truth ≡ answer (erase text)
  pub of_text : IsModuleOfForm text m
  pub shown : IsModuleEvidence m e
