-- How a user sees why a module is refused: the number of the rule, the equation and the place of
-- the instruction.
use Rattle.std.specs.Prelude.{ℕ, List, ◌++◌, codes, decimal}
use Rattle.pb_verifier_states.specs.RuleNumber.{rule_number}
use Rattle.pb_verifier.specs.declared.verify_error.CodeFault.{CodeFault}

abbrev pub code_fault_text : CodeFault → List ℕ
code_fault_text fault =
    rule_number fault.rule
    ++ (codes " equation " ++ (decimal fault.equation ++ (codes " place " ++ decimal fault.place)))
