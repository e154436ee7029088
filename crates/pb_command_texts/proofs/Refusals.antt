-- What is refused by one command is refused by those that do more.
use Rattle.std.proofs.Common.{◌≡◌, ℕ, List, sym, subst}
use Rattle.std.specs.Prelude.{Contains, Result, Ok, Err}
use Rattle.pb_sorts.specs.Counting.{instance_limit}
use Rattle.pb_sorts.specs.declared.counting.Counting.{Counting}
use Rattle.pb_text_tree.specs.Form.{SpecForm}
use Rattle.pb_text.specs.Parsing.{IsFirstFault, NoReading}
use Rattle.pb_text.specs.declared.error.TextFault.{TextFault}
use Rattle.pb_typing_declarations.specs.declared.fault.TypingFault.{TypingFault}
use Rattle.pb_typing_rules.specs.Faults.{faults}
use Rattle.pb_base.specs.OrMemory.{IfFault, IfRefused, raised}
use Rattle.pb_base.specs.declared.or_memory.OrMemory.{OrMemory}
use Rattle.pb_base.specs.declared.or_memory.OrMemory.TheVariants as or_memory
use Rattle.pb_command_faults.specs.declared.solve_fault.SolveFault.{SolveFault}
use Rattle.pb_command_faults.specs.declared.solve_fault.SolveFault.TheVariants as solve_fault
use Rattle.pb_bytecode.specs.Contents.{Contents}
use Rattle.pb_command_texts.specs.Answers.{IsModuleOfForm, IsModuleOfText, IsReadText, IsWellTypedBy}
use Rattle.pb_command_texts.specs.Refusals.{IsUncompiled, IsUncompiledForm, IsUnexplainedForm, IsRefused}
use Rattle.pb_command_texts.proofs.Texts.{of_bytes}
use Rattle.pb_command_modules.specs.Refusals.{IsRefusedModule}

-- ---- from a command to those that do more

pub uncompiled : (counting : Counting) (bytes : List ℕ) (f : SolveFault) → IsUncompiled counting bytes f → IsRefused counting bytes f
uncompiled counting bytes solve_fault.TooManyVertices h = absurd h
uncompiled counting bytes solve_fault.NoProperty h = h
uncompiled counting bytes (solve_fault.Property fault) h = h
uncompiled counting bytes (solve_fault.Text fault) h = h
uncompiled counting bytes (solve_fault.Typing fault) h = h
uncompiled counting bytes (solve_fault.Limit excess) h = h
uncompiled counting bytes (solve_fault.Module fault) h = h
uncompiled counting bytes (solve_fault.Acceptance fault) h = h

-- what is not compiled, given by its form, is not by its bytes
pub form_uncompiled : (counting : Counting) (bytes : List ℕ) (text : SpecForm) → IsReadText bytes text → IsWellTypedBy counting text → (f : SolveFault)
    → IsUncompiledForm text f → IsUncompiled counting bytes f
form_uncompiled counting bytes text read typed (solve_fault.Limit excess) h = record { text = text; read = read; typed = typed; exceeds = h }
form_uncompiled counting bytes text read typed solve_fault.TooManyVertices h = absurd h
form_uncompiled counting bytes text read typed solve_fault.NoProperty h = absurd h
form_uncompiled counting bytes text read typed (solve_fault.Property fault) h = absurd h
form_uncompiled counting bytes text read typed (solve_fault.Text fault) h = absurd h
form_uncompiled counting bytes text read typed (solve_fault.Typing fault) h = absurd h
form_uncompiled counting bytes text read typed (solve_fault.Module fault) h = absurd h
form_uncompiled counting bytes text read typed (solve_fault.Acceptance fault) h = absurd h

-- and what isn't compiled isn't explained
pub form_unexplained : (counting : Counting) (text : SpecForm) (f : SolveFault) → IsUncompiledForm text f → IsUnexplainedForm counting text f
form_unexplained counting text (solve_fault.Limit excess) h = h
form_unexplained counting text solve_fault.TooManyVertices h = absurd h
form_unexplained counting text solve_fault.NoProperty h = absurd h
form_unexplained counting text (solve_fault.Property fault) h = absurd h
form_unexplained counting text (solve_fault.Text fault) h = absurd h
form_unexplained counting text (solve_fault.Typing fault) h = absurd h
form_unexplained counting text (solve_fault.Module fault) h = absurd h
form_unexplained counting text (solve_fault.Acceptance fault) h = absurd h

pub module_unexplained : (counting : Counting) (text : SpecForm) (m : Contents) → IsModuleOfForm text m → (f : SolveFault) → IsRefusedModule counting m f → IsUnexplainedForm counting text f
module_unexplained counting text m of_text solve_fault.TooManyVertices h = (m, of_text, h)
module_unexplained counting text m of_text (solve_fault.Limit excess) h = absurd h
module_unexplained counting text m of_text solve_fault.NoProperty h = absurd h
module_unexplained counting text m of_text (solve_fault.Property fault) h = absurd h
module_unexplained counting text m of_text (solve_fault.Text fault) h = absurd h
module_unexplained counting text m of_text (solve_fault.Typing fault) h = absurd h
module_unexplained counting text m of_text (solve_fault.Module fault) h = absurd h
module_unexplained counting text m of_text (solve_fault.Acceptance fault) h = absurd h

pub unexplained : (counting : Counting) (bytes : List ℕ) (text : SpecForm) → IsReadText bytes text → IsWellTypedBy counting text → (f : SolveFault)
    → IsUnexplainedForm counting text f → IsRefused counting bytes f
unexplained counting bytes text read typed (solve_fault.Limit excess) h =
    uncompiled counting bytes (solve_fault.Limit excess) (form_uncompiled counting bytes text read typed (solve_fault.Limit excess) h)
unexplained counting bytes text read typed solve_fault.TooManyVertices h = (h.0, of_bytes counting bytes text h.0 read typed h.1, h.2)
unexplained counting bytes text read typed solve_fault.NoProperty h = absurd h
unexplained counting bytes text read typed (solve_fault.Property fault) h = absurd h
unexplained counting bytes text read typed (solve_fault.Text fault) h = absurd h
unexplained counting bytes text read typed (solve_fault.Typing fault) h = absurd h
unexplained counting bytes text read typed (solve_fault.Module fault) h = absurd h
unexplained counting bytes text read typed (solve_fault.Acceptance fault) h = absurd h

-- ---- where `?` hands an error up

-- a text that has no reading is refused by the fault that stands first in it
pub unread : (counting : Counting) (bytes : List ℕ) (e : OrMemory TextFault) (x : OrMemory SolveFault) → raised (λ f above. above ≡ solve_fault.Text f) e x
    → IfFault e (λ _. NoReading bytes) → IfFault e (IsFirstFault bytes) → IfFault x (IsUncompiled counting bytes)
unread counting bytes (or_memory.Refused f) (or_memory.Refused above) made none first = subst (IsUncompiled counting bytes) (sym made) (none, first)
unread counting bytes (or_memory.Refused f) or_memory.Memory made none first = tt
unread counting bytes or_memory.Memory (or_memory.Refused above) made none first = absurd made
unread counting bytes or_memory.Memory or_memory.Memory made none first = tt

-- and one that is not well typed by a rule that it breaks
pub untyped : (counting : Counting) (bytes : List ℕ) (text : SpecForm) → IsReadText bytes text → (e : OrMemory TypingFault) (x : OrMemory SolveFault)
    → raised (λ f above. above ≡ solve_fault.Typing f) e x → IfFault e (Contains (faults (instance_limit counting) text)) → IfFault e (λ _. ¬ IsWellTypedBy counting text)
    → IfFault x (IsUncompiled counting bytes)
untyped counting bytes text read (or_memory.Refused f) (or_memory.Refused above) made among ill = subst (IsUncompiled counting bytes) (sym made) (text, read, ill, among)
untyped counting bytes text read (or_memory.Refused f) or_memory.Memory made among ill = tt
untyped counting bytes text read or_memory.Memory (or_memory.Refused above) made among ill = absurd made
untyped counting bytes text read or_memory.Memory or_memory.Memory made among ill = tt

pub refused_texts : {T : Type 0} (counting : Counting) (bytes : List ℕ) (text : SpecForm) (r : Result T (OrMemory SolveFault)) → IsReadText bytes text → IsWellTypedBy counting text
    → IfRefused r (IsUncompiledForm text) → IfRefused r (IsRefused counting bytes)
refused_texts counting bytes text (Ok x) read typed h = tt
refused_texts counting bytes text (Err or_memory.Memory) read typed h = tt
refused_texts counting bytes text (Err (or_memory.Refused f)) read typed h = uncompiled counting bytes f (form_uncompiled counting bytes text read typed f h)

-- ---- what is refused of a module is refused of the input that it is the module of

pub module_of_text_refused : (counting : Counting) (bytes : List ℕ) (m : Contents) → IsModuleOfText counting bytes m → (f : SolveFault) → IsRefusedModule counting m f → IsRefused counting bytes f
module_of_text_refused counting bytes m of_text solve_fault.TooManyVertices h = (m, of_text, h)
module_of_text_refused counting bytes m of_text solve_fault.NoProperty h = absurd h
module_of_text_refused counting bytes m of_text (solve_fault.Property fault) h = absurd h
module_of_text_refused counting bytes m of_text (solve_fault.Text fault) h = absurd h
module_of_text_refused counting bytes m of_text (solve_fault.Typing fault) h = absurd h
module_of_text_refused counting bytes m of_text (solve_fault.Limit excess) h = absurd h
module_of_text_refused counting bytes m of_text (solve_fault.Module fault) h = absurd h
module_of_text_refused counting bytes m of_text (solve_fault.Acceptance fault) h = absurd h
