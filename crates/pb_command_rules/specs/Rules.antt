-- The rules' numbers and words: made from docs/RULES.md by `.ci/rules`.
use Rattle.std.specs.Prelude.{ℕ, List, Option, codes, find}
use Rattle.std.specs.Str.{bytes_eq}
use Rattle.pb_command_rules.specs.declared.rule.Rule.{Rule}
use Rattle.pb_command_rules.specs.declared.rule.Rule.TheVariants.{P01, P02, P03, P04, P05, T01, T02, T03, T04, T05, T06, T07, T08, T09, T10, T11, T12, T13, C01, C02, C03, C04, C05, C06, B01, B02, B03, B04, B05, B06, B07, V01, V02, V03, V04, V05, V06, V07, V08, V09, V10, V11, V12, V13, V14, V15, V16, G01, U01, U02, M01, E01, E02}
use Rattle.pb_command_rules.specs.declared.rule.TheConstants.{RULES}
use Rattle.pb_command_rules.specs.declared.words.texts.TheConstants.{P01_WORDS, P02_WORDS, P03_WORDS, P04_WORDS, P05_WORDS, T01_WORDS, T02_WORDS, T03_WORDS, T04_WORDS, T05_WORDS, T06_WORDS, T07_WORDS, T08_WORDS, T09_WORDS, T10_WORDS, T11_WORDS, T12_WORDS, T13_WORDS}
use Rattle.pb_command_rules.specs.declared.words.runs.TheConstants.{C01_WORDS, C02_WORDS, C03_WORDS, C04_WORDS, C05_WORDS, C06_WORDS, B01_WORDS, B02_WORDS, B03_WORDS, B04_WORDS, B05_WORDS, B06_WORDS, B07_WORDS, V01_WORDS, V02_WORDS, V03_WORDS, V04_WORDS, V05_WORDS, V06_WORDS, V07_WORDS, V08_WORDS, V09_WORDS, V10_WORDS, V11_WORDS, V12_WORDS, V13_WORDS, V14_WORDS, V15_WORDS, V16_WORDS, G01_WORDS, U01_WORDS, U02_WORDS, M01_WORDS, E01_WORDS, E02_WORDS}

-- the number by which the program tells of a rule
abbrev pub rule_number : Rule → List ℕ
rule_number P01 = codes "P01"
rule_number P02 = codes "P02"
rule_number P03 = codes "P03"
rule_number P04 = codes "P04"
rule_number P05 = codes "P05"
rule_number T01 = codes "T01"
rule_number T02 = codes "T02"
rule_number T03 = codes "T03"
rule_number T04 = codes "T04"
rule_number T05 = codes "T05"
rule_number T06 = codes "T06"
rule_number T07 = codes "T07"
rule_number T08 = codes "T08"
rule_number T09 = codes "T09"
rule_number T10 = codes "T10"
rule_number T11 = codes "T11"
rule_number T12 = codes "T12"
rule_number T13 = codes "T13"
rule_number C01 = codes "C01"
rule_number C02 = codes "C02"
rule_number C03 = codes "C03"
rule_number C04 = codes "C04"
rule_number C05 = codes "C05"
rule_number C06 = codes "C06"
rule_number B01 = codes "B01"
rule_number B02 = codes "B02"
rule_number B03 = codes "B03"
rule_number B04 = codes "B04"
rule_number B05 = codes "B05"
rule_number B06 = codes "B06"
rule_number B07 = codes "B07"
rule_number V01 = codes "V01"
rule_number V02 = codes "V02"
rule_number V03 = codes "V03"
rule_number V04 = codes "V04"
rule_number V05 = codes "V05"
rule_number V06 = codes "V06"
rule_number V07 = codes "V07"
rule_number V08 = codes "V08"
rule_number V09 = codes "V09"
rule_number V10 = codes "V10"
rule_number V11 = codes "V11"
rule_number V12 = codes "V12"
rule_number V13 = codes "V13"
rule_number V14 = codes "V14"
rule_number V15 = codes "V15"
rule_number V16 = codes "V16"
rule_number G01 = codes "G01"
rule_number U01 = codes "U01"
rule_number U02 = codes "U02"
rule_number M01 = codes "M01"
rule_number E01 = codes "E01"
rule_number E02 = codes "E02"

-- what is written of it
abbrev pub rule_words : Rule → List ℕ
rule_words P01 = P01_WORDS.now
rule_words P02 = P02_WORDS.now
rule_words P03 = P03_WORDS.now
rule_words P04 = P04_WORDS.now
rule_words P05 = P05_WORDS.now
rule_words T01 = T01_WORDS.now
rule_words T02 = T02_WORDS.now
rule_words T03 = T03_WORDS.now
rule_words T04 = T04_WORDS.now
rule_words T05 = T05_WORDS.now
rule_words T06 = T06_WORDS.now
rule_words T07 = T07_WORDS.now
rule_words T08 = T08_WORDS.now
rule_words T09 = T09_WORDS.now
rule_words T10 = T10_WORDS.now
rule_words T11 = T11_WORDS.now
rule_words T12 = T12_WORDS.now
rule_words T13 = T13_WORDS.now
rule_words C01 = C01_WORDS.now
rule_words C02 = C02_WORDS.now
rule_words C03 = C03_WORDS.now
rule_words C04 = C04_WORDS.now
rule_words C05 = C05_WORDS.now
rule_words C06 = C06_WORDS.now
rule_words B01 = B01_WORDS.now
rule_words B02 = B02_WORDS.now
rule_words B03 = B03_WORDS.now
rule_words B04 = B04_WORDS.now
rule_words B05 = B05_WORDS.now
rule_words B06 = B06_WORDS.now
rule_words B07 = B07_WORDS.now
rule_words V01 = V01_WORDS.now
rule_words V02 = V02_WORDS.now
rule_words V03 = V03_WORDS.now
rule_words V04 = V04_WORDS.now
rule_words V05 = V05_WORDS.now
rule_words V06 = V06_WORDS.now
rule_words V07 = V07_WORDS.now
rule_words V08 = V08_WORDS.now
rule_words V09 = V09_WORDS.now
rule_words V10 = V10_WORDS.now
rule_words V11 = V11_WORDS.now
rule_words V12 = V12_WORDS.now
rule_words V13 = V13_WORDS.now
rule_words V14 = V14_WORDS.now
rule_words V15 = V15_WORDS.now
rule_words V16 = V16_WORDS.now
rule_words G01 = G01_WORDS.now
rule_words U01 = U01_WORDS.now
rule_words U02 = U02_WORDS.now
rule_words M01 = M01_WORDS.now
rule_words E01 = E01_WORDS.now
rule_words E02 = E02_WORDS.now

-- the first rule that has the number
abbrev pub rule_of : List ℕ → Option Rule
rule_of number = find (λ rule. bytes_eq (rule_number rule) number) RULES.now
