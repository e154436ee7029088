-- What becomes of a text on its way to a module: each step has its answer, or says what is refused.
use Rattle.std.specs.Prelude.{◌≡◌, ℕ, List, IfOk, Result}
use Rattle.pb_base.specs.OrMemory.{IfRefused}
use Rattle.pb_base.specs.declared.or_memory.OrMemory.{OrMemory}
use Rattle.pb_sorts.specs.declared.counting.Counting.{Counting}
use Rattle.pb_text_tree.specs.Form.{SpecForm, spec_form}
use Rattle.pb_typing.specs.declared.typed.Typed.{Typed}
use Rattle.pb_bytecode.specs.Contents.{Contents}
use Rattle.pb_bytecode.specs.Decoded.{module_contents}
use Rattle.pb_bytecode.specs.Meaning.{parameters}
use Rattle.pb_bytecode.specs.declared.module.Module.{Module}
use Rattle.pb_command_faults.specs.declared.solve_fault.SolveFault.{SolveFault}
use Rattle.pb_command_texts.specs.Answers.{IsReadText, IsWellTypedBy, IsModuleOfForm, IsModuleOfText}
use Rattle.pb_command_texts.specs.Refusals.{IsRefused, IsUncompiled, IsUncompiledForm}

-- the bytes say a text that is well typed, by which instances count, or they are refused
pub record ReadsText (counting : Counting) (bytes : List ℕ)
    (result : Result Typed (OrMemory SolveFault)) : Type 0 where
  pub read : IfOk result (λ typed. IsReadText bytes (spec_form typed.spec))
  pub typed : IfOk result (λ typed. IsWellTypedBy counting (spec_form typed.spec))
  pub refused : IfRefused result (IsUncompiled counting bytes)

-- a text that is well typed has this module, with its layout, or its code exceeds a limit
pub record CompilesText (typed : Typed) (result : Result Module (OrMemory SolveFault))
    : Type 0 where
  pub «module» : IfOk result (λ m. IsModuleOfForm (spec_form typed.spec) (module_contents m))
  pub laid_out : IfOk result (λ m. parameters (module_contents m) ≡ typed.layout)
  pub refused : IfRefused result (IsUncompiledForm (spec_form typed.spec))

-- it has this module, which is verified, or its code exceeds a limit
pub record VerifiesForm (text : SpecForm) (result : Result Contents (OrMemory SolveFault))
    : Type 0 where
  pub «module» : IfOk result (IsModuleOfForm text)
  pub refused : IfRefused result (IsUncompiledForm text)

-- so it is with the text that the bytes say, or they are refused
pub record VerifiesText (counting : Counting) (bytes : List ℕ)
    (result : Result Contents (OrMemory SolveFault)) : Type 0 where
  pub «module» : IfOk result (IsModuleOfText counting bytes)
  pub refused : IfRefused result (IsRefused counting bytes)
