-- The numbers by which a user sees the rules that code breaks.
use Rattle.std.specs.Prelude.{ℕ, List, codes}
use Rattle.pb_verifier_states.specs.declared.rule.AcceptanceRule.{AcceptanceRule}
use Rattle.pb_verifier_states.specs.declared.rule.AcceptanceRule.TheVariants as rule

abbrev pub rule_number : AcceptanceRule → List ℕ
rule_number rule.MissingOperand = codes "V01"
rule_number rule.WrongKind = codes "V02"
rule_number rule.Divisor = codes "V03"
rule_number rule.Overflow = codes "V04"
rule_number rule.TargetOutside = codes "V05"
rule_number rule.TargetNotLater = codes "V06"
rule_number rule.TargetInOtherBody = codes "V07"
rule_number rule.ArgumentOutside = codes "V08"
rule_number rule.UnknownName = codes "V09"
rule_number rule.TooManyOperands = codes "V10"
rule_number rule.WaysDiffer = codes "V11"
rule_number rule.LoopStructure = codes "V12"
rule_number rule.Brackets = codes "V13"
rule_number rule.Roots = codes "V14"
rule_number rule.PastTheEnd = codes "V15"
rule_number rule.StatedCounts = codes "V16"
