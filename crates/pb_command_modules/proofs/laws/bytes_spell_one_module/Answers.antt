use Rattle.std.proofs.Common.{◌≡◌, ◌∙◌, ◌++◌, ℕ, List, [], true, sym, ap, arith}
use Rattle.pb_sorts.specs.declared.counting.Counting.{Counting}
use Rattle.pb_bytecode.specs.Contents.{Contents}
use Rattle.pb_bytecode.specs.Limits.{fits}
use Rattle.pb_bytecode.specs.Spelling.{spelling}
use Rattle.pb_command_modules.specs.Answers.{Spell}
use Rattle.pb_command_modules.proofs.laws.bytes_spell_one_module.Goals as goal

abbrev NoSpellingBeginsAnother : Type 0
NoSpellingBeginsAnother = (m n : Contents) (after behind : List ℕ) → fits m ≡ true → fits n ≡ true
    → spelling m ++ after ≡ spelling n ++ behind → (m ≡ n) × (after ≡ behind)

one_module : NoSpellingBeginsAnother → (counting : Counting) (bytes : List ℕ) (m n : Contents) → Spell counting bytes m → Spell counting bytes n → m ≡ n
one_module law counting bytes m n first second =
    (law m n [] [] first.within_limits second.within_limits (ap (λ (xs : List ℕ). xs ++ []) (sym first.spelled ∙ second.spelled))).0

pub returns-clause-spelled : goal.returns-clause-spelled
returns-clause-spelled c counting bytes m n first second = one_module c.no_spelling_begins_another.ensures counting bytes m n first second

pub returns-clause-accepted : goal.returns-clause-accepted
returns-clause-accepted c counting bytes m n first second = one_module c.no_spelling_begins_another.ensures counting bytes m n first.spell second.spell

pub returns-clause-still : goal.returns-clause-still
returns-clause-still c bytes m spell = record { within_limits = spell.within_limits; few = let few = spell.few in omega arith; spelled = spell.spelled }
