-- The numbers by which a user sees what is wrong with bytes.
use Rattle.std.specs.Prelude.{ℕ, List, codes}
use Rattle.pb_bytecode.specs.declared.fault.ModuleRule.{ModuleRule}
use Rattle.pb_bytecode.specs.declared.fault.ModuleRule.TheVariants as rule

abbrev pub rule_number : ModuleRule → List ℕ
rule_number rule.Mark = codes "B01"
rule_number rule.Version = codes "B02"
rule_number rule.Truncated = codes "B03"
rule_number rule.UnknownOp = codes "B04"
rule_number rule.Limit = codes "B05"
rule_number rule.Trailing = codes "B06"
rule_number rule.Initial = codes "B07"
