-- The numbers by which a user sees rules.
use Rattle.std.specs.Prelude.{ℕ, List, codes}
use Rattle.pb_typing_declarations.specs.declared.fault.TypingRule.{TypingRule}
use Rattle.pb_typing_declarations.specs.declared.fault.TypingRule.TheVariants as rule

abbrev pub rule_number : TypingRule → List ℕ
rule_number rule.UnknownName = codes "T01"
rule_number rule.NameTwice = codes "T02"
rule_number rule.UnknownSort = codes "T03"
rule_number rule.WrongKind = codes "T04"
rule_number rule.MissingRange = codes "T05"
rule_number rule.OddNegations = codes "T06"
rule_number rule.PredicateInData = codes "T07"
rule_number rule.WrongCount = codes "T08"
rule_number rule.Divisor = codes "T09"
rule_number rule.LargeInterval = codes "T10"
rule_number rule.OutsideCarrier = codes "T11"
rule_number rule.Limit = codes "T12"
rule_number rule.QuantifierInData = codes "T13"
