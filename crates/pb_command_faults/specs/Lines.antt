-- The line that tells of a fault or a refusal, with its line feed.
use Rattle.std.specs.Prelude.{ℕ, List, ◌++◌, codes, decimal}
use Rattle.pb_text_tree.specs.declared.place.Place.{Place}
use Rattle.pb_text.specs.declared.error.TextRule as text_rule
use Rattle.pb_text.specs.declared.error.TextRule.TheVariants.{UnknownByte, UnexpectedToken, LargeNumber, LimitExceeded, RangeLine}
use Rattle.pb_text.specs.declared.error.TextFault.{TextFault}
use Rattle.pb_typing_declarations.specs.TypingRule.{rule_number}
use Rattle.pb_typing_declarations.specs.declared.fault.TypingFault.{TypingFault}
use Rattle.pb_assembler_measures.specs.declared.compile_error.Excess.{Excess}
use Rattle.pb_bytecode.specs.FaultText as module_fault
use Rattle.pb_bytecode.specs.LimitNumber.{limit_number}
use Rattle.pb_bytecode.specs.declared.fault.ModuleFault.{ModuleFault}
use Rattle.pb_verifier.specs.FaultText as code_fault
use Rattle.pb_verifier.specs.declared.verify_error.CodeFault.{CodeFault}
use Rattle.pb_command_faults.specs.declared.property_fault.PropertyExcess.{PropertyExcess}
use Rattle.pb_command_faults.specs.declared.property_fault.PropertyExcess.TheVariants.{Text, Code, Game, NegationText, NegationTyping}
use Rattle.pb_command_faults.specs.declared.property_fault.PropertyFault.{PropertyFault}
use Rattle.pb_command_faults.specs.declared.fault.ProgramFault.{ProgramFault}
use Rattle.pb_command_faults.specs.declared.fault.ProgramFault.TheVariants.{U01, U02, E01, E02, M01}

-- a fault of the whole run: its number
abbrev pub line_of : ProgramFault → List ℕ
line_of U01 = codes "U01\n"
line_of U02 = codes "U02\n"
line_of E01 = codes "E01\n"
line_of E02 = codes "E02\n"
line_of M01 = codes "M01\n"

-- a rule, by its number, and where it is broken
abbrev pub line_at : List ℕ → Place → List ℕ
line_at rule place =
    rule ++ (codes " line " ++ decimal place.line) ++ (codes " column " ++ decimal place.column)
    ++ codes "\n"

abbrev pub text_rule_number : text_rule.TextRule → List ℕ
text_rule_number UnknownByte = codes "P01"
text_rule_number UnexpectedToken = codes "P02"
text_rule_number LargeNumber = codes "P03"
text_rule_number LimitExceeded = codes "P04"
text_rule_number RangeLine = codes "P05"

-- why a text was not read
abbrev pub text_line : TextFault → List ℕ
text_line fault = line_at (text_rule_number fault.rule) fault.place

-- why a text that was read was refused
abbrev pub typing_line : TypingFault → List ℕ
typing_line fault = line_at (rule_number fault.rule) fault.place

-- what of a property of a model is too large, or which rule its negation breaks, and where its name
-- stands
abbrev pub property_rule : PropertyExcess → List ℕ
property_rule Text = codes "T12"
property_rule (Code limit) = limit_number limit
property_rule Game = codes "G01"
property_rule (NegationText rule) = text_rule_number rule
property_rule (NegationTyping rule) = rule_number rule

abbrev pub property_line : PropertyFault → List ℕ
property_line fault = line_at (property_rule fault.excess) fault.place

-- ---- modules: bytes, equations and the places of their code are counted from 0

-- a limit, and the equation whose code exceeds it
abbrev pub limit_line : Excess → List ℕ
limit_line excess =
    limit_number excess.limit ++ (codes " equation " ++ decimal excess.equation) ++ codes "\n"

-- why bytes are no module
abbrev pub module_line : ModuleFault → List ℕ
module_line fault = module_fault.fault_text fault ++ codes "\n"

-- why a module is not accepted
abbrev pub code_line : CodeFault → List ℕ
code_line fault = code_fault.code_fault_text fault ++ codes "\n"
