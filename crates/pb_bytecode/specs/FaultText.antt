-- How a user sees why bytes are no module: the number of the rule and the byte of the field that
-- breaks it.
use Rattle.std.specs.Prelude.{ℕ, List, ◌++◌, codes, decimal}
use Rattle.pb_bytecode.specs.RuleNumber.{rule_number}
use Rattle.pb_bytecode.specs.declared.fault.ModuleFault.{ModuleFault}

abbrev pub fault_text : ModuleFault → List ℕ
fault_text fault = rule_number fault.rule ++ (codes " byte " ++ decimal fault.byte)
