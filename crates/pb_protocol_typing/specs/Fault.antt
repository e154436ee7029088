-- The first fault in the order of the text, if a rule fails there.
use Rattle.std.specs.Prelude.{Bool, true, false, List, [], ◌∷◌, Option, Some, None}
use Rattle.std.specs.Option.{option_or}
use Rattle.pb_text_tree.specs.declared.place.Place.{Place}
use Rattle.pb_typing_declarations.specs.declared.fault.TypingRule.{TypingRule}
use Rattle.pb_typing_declarations.specs.declared.fault.TypingFault.{TypingFault}

-- the rule fails at the place
abbrev pub fault_at : TypingRule → Place → Option TypingFault
fault_at rule place = Some (record { rule = rule; place = place })

-- the rule fails at the place unless the test holds
abbrev pub fault_unless : Bool → TypingRule → Place → Option TypingFault
fault_unless true rule place = None
fault_unless false rule place = fault_at rule place

-- the first of two faults
abbrev pub either_fault : Option TypingFault → Option TypingFault → Option TypingFault
either_fault one other = option_or one other

-- the fault of the first item that has one
abbrev pub first_fault : {X : Type 0} → (X → Option TypingFault) → List X → Option TypingFault
first_fault fault [] = None
first_fault fault (x ∷ xs) = either_fault (fault x) (first_fault fault xs)

-- a fault, if there is one, as a list
abbrev pub listed : Option TypingFault → List TypingFault
listed None = []
listed (Some fault) = fault ∷ []
