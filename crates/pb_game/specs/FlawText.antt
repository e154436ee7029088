-- How a user sees what is wrong with a solution: the number of the rule, and the vertex.
use Rattle.std.specs.Prelude.{ℕ, List, ◌++◌, codes, decimal}
use Rattle.pb_game.specs.declared.certificate.Flaw.{Flaw}
use Rattle.pb_game.specs.declared.certificate.CertificateRule.{CertificateRule}
use Rattle.pb_game.specs.declared.certificate.CertificateRule.TheVariants.{Length, NoSuccessor, LeavesRegion, Increases, NoDecrease}

abbrev pub rule_number : CertificateRule → List ℕ
rule_number Length = codes "K05"
rule_number NoSuccessor = codes "K01"
rule_number LeavesRegion = codes "K02"
rule_number Increases = codes "K03"
rule_number NoDecrease = codes "K04"

abbrev pub flaw_text : Flaw → List ℕ
flaw_text flaw = rule_number flaw.rule ++ (codes " vertex " ++ decimal flaw.vertex)
