-- What it is to explain a text.
use Rattle.std.specs.Prelude.{◌≡◌, IfOk, Result}
use Rattle.pb_base.specs.OrMemory.{IfRefused}
use Rattle.pb_base.specs.declared.or_memory.OrMemory.{OrMemory}
use Rattle.pb_sorts.specs.declared.counting.Counting.{Counting}
use Rattle.pb_text_tree.specs.Form.{spec_form}
use Rattle.pb_typing.specs.declared.typed.Typed.{Typed}
use Rattle.pb_report.specs.ModuleEvidence.{IsExplanation}
use Rattle.pb_command_faults.specs.declared.solve_fault.SolveFault.{SolveFault}
use Rattle.pb_command_texts.specs.declared.explained.ExplainedText.{ExplainedText}
use Rattle.pb_command_texts.specs.Answers.{IsModuleOfForm}
use Rattle.pb_command_texts.specs.Refusals.{IsUnexplainedForm}

-- a text's module, and an explanation of that module's answer
pub record IsExplained (explained : ExplainedText) : Type 0 where
  pub of_text : IsModuleOfForm (spec_form explained.typed.spec) explained.verified
  pub explains : IsExplanation explained.verified explained.explanation

-- the text is explained, or its code or its game is too large, by which instances count
pub record ExplainsText (counting : Counting) (text : Typed)
    (result : Result ExplainedText (OrMemory SolveFault)) : Type 0 where
  pub typed : IfOk result (λ explained. explained.typed ≡ text)
  pub explained : IfOk result IsExplained
  pub refused : IfRefused result (IsUnexplainedForm counting (spec_form text.spec))
