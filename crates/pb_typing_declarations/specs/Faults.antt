-- Faults: rules that fail, each with its place in the text.
use Rattle.std.specs.Prelude.{Bool, true, false, not, nat_le, List, [], ◌∷◌, ◌++◌, length, Contains}
use Rattle.std.specs.List.{list_any}
use Rattle.pb_base.specs.OrMemory.{IfFault}
use Rattle.pb_base.specs.declared.or_memory.OrMemory.{OrMemory}
use Rattle.pb_base.specs.declared.limits.TheConstants.{MAX_NAME_BYTES}
use Rattle.pb_text_tree.specs.declared.place.Place.{Place}
use Rattle.pb_text_tree.specs.Form.{Named}
use Rattle.pb_text_meaning.specs.Syntax.{Name, same_name}
use Rattle.pb_typing_declarations.specs.declared.fault.TypingRule.{TypingRule}
use Rattle.pb_typing_declarations.specs.declared.fault.TypingRule.TheVariants.{NameTwice, Limit}
use Rattle.pb_typing_declarations.specs.declared.fault.TypingFault.{TypingFault}

-- the rule fails at the place unless the test holds
abbrev pub unless : Bool → TypingRule → Place → List TypingFault
unless true rule place = []
unless false rule place = record { rule = rule; place = place } ∷ []

-- an error that isn't want of memory is one of the faults
abbrev pub IsAmong : List TypingFault → OrMemory TypingFault → Type 0
IsAmong all error = IfFault error (Contains all)

-- ---- names

abbrev pub is_among : List Name → Name → Bool
is_among names x = list_any (λ y. same_name y x) names

-- T02: a name that was declared before, among names that stand behind others
abbrev pub repeated_after : List Name → List Named → List TypingFault
repeated_after before [] = []
repeated_after before (x ∷ xs) =
    unless (not (is_among before x.text)) NameTwice x.place ++ repeated_after (x.text ∷ before) xs

abbrev pub repeated : List Named → List TypingFault
repeated = repeated_after []

-- T12: a name of at most MAX_NAME_BYTES bytes
abbrev pub length_faults : Named → List TypingFault
length_faults x = unless (nat_le (length x.text) MAX_NAME_BYTES) Limit x.place
