-- What a fault says of a text.
use Rattle.std.specs.Prelude.{Contains, ℕ, List}
use Rattle.pb_sorts.specs.Counting.{instance_limit}
use Rattle.pb_sorts.specs.declared.counting.Counting.{Counting}
use Rattle.pb_text_tree.specs.Form.{SpecForm}
use Rattle.pb_text.specs.Parsing.{IsFirstFault, NoReading}
use Rattle.pb_text.specs.declared.error.TextFault.{TextFault}
use Rattle.pb_typing_rules.specs.Faults.{faults}
use Rattle.pb_typing_declarations.specs.declared.fault.TypingFault.{TypingFault}
use Rattle.pb_text_meaning.specs.Erase.{erase}
use Rattle.pb_assembler_measures.specs.Excess.{IsFirstExcess}
use Rattle.pb_assembler_measures.specs.declared.compile_error.Excess.{Excess}
use Rattle.pb_bytecode.specs.Contents.{Contents}
use Rattle.pb_command_solver.specs.Answers.{IsTooLarge}
use Rattle.pb_command_faults.specs.declared.solve_fault.SolveFault.{SolveFault}
use Rattle.pb_command_faults.specs.declared.solve_fault.SolveFault.TheVariants as solve_fault
use Rattle.pb_command_texts.specs.Answers.{IsReadText, IsWellTypedBy, IsModuleOfForm, IsModuleOfText}

-- the bytes have no reading within the limits, and the rule is broken at its place
abbrev pub IsSyntaxFault : List ℕ → TextFault → Type 0
IsSyntaxFault bytes fault = NoReading bytes × IsFirstFault bytes fault

-- what the bytes say is not well typed, by which instances count, and breaks the rule at its place
abbrev pub IsRefusedType : Counting → List ℕ → TypingFault → Type 0
IsRefusedType counting bytes fault =
    (x : SpecForm) × IsReadText bytes x × (¬ IsWellTypedBy counting x)
    × Contains (faults (instance_limit counting) x) fault

-- what the bytes say is well typed, and its first equation whose code exceeds a limit is this one,
-- with this as its first
pub record IsOverLimit (counting : Counting) (bytes : List ℕ) (excess : Excess) : Type 0 where
  pub text : SpecForm
  pub read : IsReadText bytes text
  pub typed : IsWellTypedBy counting text
  pub exceeds : IsFirstExcess (erase text) excess

-- what a fault says of a text that is well typed, given by its form
abbrev pub IsUncompiledForm : SpecForm → SolveFault → Type 0
IsUncompiledForm text (solve_fault.Limit excess) = IsFirstExcess (erase text) excess
IsUncompiledForm text fault = ⊥

-- and of the module of one that is explained, by which instances count
abbrev pub IsUnexplainedForm : Counting → SpecForm → SolveFault → Type 0
IsUnexplainedForm counting text solve_fault.TooManyVertices =
    (m : Contents) × IsModuleOfForm text m × IsTooLarge counting m
IsUnexplainedForm counting text fault = IsUncompiledForm text fault

-- What a fault says of the text of each command, by which instances count against the limit. Where
-- it says ⊥ the command has no such fault.

-- `compile`: the module of a text is never refused, and no game is built
abbrev pub IsUncompiled : Counting → List ℕ → SolveFault → Type 0
IsUncompiled counting bytes (solve_fault.Text fault) = IsSyntaxFault bytes fault
IsUncompiled counting bytes (solve_fault.Typing fault) = IsRefusedType counting bytes fault
IsUncompiled counting bytes (solve_fault.Limit excess) = IsOverLimit counting bytes excess
IsUncompiled counting bytes fault = ⊥

-- `solve`, `game`, `solution`, `certificate` and `explain`: the text isn't compiled, or its module
-- has too large a game
abbrev pub IsRefused : Counting → List ℕ → SolveFault → Type 0
IsRefused counting bytes solve_fault.TooManyVertices =
    (m : Contents) × IsModuleOfText counting bytes m × IsTooLarge counting m
IsRefused counting bytes fault = IsUncompiled counting bytes fault
