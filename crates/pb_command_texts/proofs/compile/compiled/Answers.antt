-- The module of the text says what the text says.
use Rattle.std.proofs.Common.{◌≡◌, ◌∙◌, ap, sym, subst}
use Rattle.pb_text_tree.specs.Form.{spec_form}
use Rattle.pb_text_meaning.specs.Erase.{erase}
use Rattle.pb_typing_rules.specs.WellTyped.{IsWellTyped}
use Rattle.pb_typing.specs.declared.typed.Typed.{Typed}
use Rattle.pb_bytecode.specs.Contents.{Contents}
use Rattle.pb_bytecode.specs.Decoded.{module_contents}
use Rattle.pb_bytecode.specs.Meaning.{program_of}
use Rattle.pb_bytecode_program.proofs.Safe.{is_safe}
use Rattle.pb_machine.proofs.ModuleInstances.{there_are_trees}
use Rattle.pb_verifier.specs.Acceptance.{IsAccepted}
use Rattle.pb_assembler_modules.specs.Answers.{HasMeaningOf}
use Rattle.pb_assembler_modules.specs.Module.{IsCompiledModule, KeepsAllLimits}
use Rattle.pb_assembler_measures.specs.Excess.{IsFirstExcess}
use Rattle.pb_base.proofs.Faults.{if_raised}
use Rattle.pb_command_texts.specs.Answers.{IsModuleOfForm}
use Rattle.pb_command_texts.specs.Refusals.{IsUncompiledForm}
use Rattle.pb_typing.proofs.Accepted.{accepted-well-typed}
use Rattle.pb_command_texts.proofs.compile.compiled.Goals as goal

module_of : (typed normal : Typed) (m : Contents) → IsWellTyped (erase (spec_form typed.spec)) → normal ≡ typed
    → IsCompiledModule (erase (spec_form normal.spec)) m → KeepsAllLimits (erase (spec_form normal.spec)) m → IsAccepted m → HasMeaningOf (erase (spec_form normal.spec)) m
    → IsModuleOfForm (spec_form typed.spec) m
module_of typed normal m well_typed same compiled kept accepted says =
    record {
      typed = well_typed;
      compiled = subst (λ (t : Typed). IsCompiledModule (erase (spec_form t.spec)) m) same compiled;
      kept = subst (λ (t : Typed). KeepsAllLimits (erase (spec_form t.spec)) m) same kept;
      accepted = accepted;
      trees = there_are_trees m (λ k e at. let code = accepted.codes k e at in is_safe (program_of m e) code.table code.accepted);
      says = subst (λ (t : Typed). HasMeaningOf (erase (spec_form t.spec)) m) same says;
    }

pub returns-in-Ok : goal.returns-in-Ok
returns-in-Ok c = record {
  «module» =
      module_of c.args.typed.now c.in_ok-normal.normal.typed.now (module_contents c.in-Ok.module)
      (accepted-well-typed (spec_form c.args.typed.now.spec) c.args.typed.now.faultless) c.in_ok-normal.ensures.text c.in-Ok.ensures.«module» c.in-Ok.ensures.kept
      c.in-Ok.ensures.accepted c.in-Ok.ensures.meaning;
  laid_out = c.in-Ok.ensures.laid_out ∙ ap (λ (t : Typed). t.layout) c.in_ok-normal.ensures.text;
  refused = tt;
}

pub returns : goal.returns
returns c = record {
  «module» = tt;
  laid_out = tt;
  refused =
      let text = spec_form c.args.typed.now.spec in
      if_raised c.in-Err.error c.raise.result c.raise.ensures
      (λ fault above same excess. subst (IsUncompiledForm text) (sym same)
      (subst (λ (t : Typed). IsFirstExcess (erase (spec_form t.spec)) fault) c.in_ok-normal.ensures.text excess))
      c.in-Err.ensures.refused;
}
