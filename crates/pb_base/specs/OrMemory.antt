-- What a contract says of an error: of want of memory nothing, and of a fault what holds of it.
use Rattle.std.specs.Prelude.{ℕ, List, Option, Some, Result, Ok, Err, codes}
use Rattle.pb_base.specs.declared.or_memory.OrMemory.{OrMemory}
use Rattle.pb_base.specs.declared.or_memory.OrMemory.TheVariants.{Refused, Memory}

-- P holds of the fault, if the error is one
abbrev pub IfFault : {F : Type 0} → OrMemory F → (F → Type 0) → Type 0
IfFault (Refused fault) P = P fault
IfFault Memory P = Unit {0}

-- P holds of the fault for which there is no answer, if there is one
abbrev pub IfRefused : {A F : Type 0} → Result A (OrMemory F) → (F → Type 0) → Type 0
IfRefused (Ok answer) P = Unit {0}
IfRefused (Err error) P = IfFault error P

-- where there is a fault, P
abbrev pub OnRefused : {A F : Type 0} → Result A (OrMemory F) → Type 0 → Type 0
OnRefused result P = IfRefused result (λ _. P)

-- want of memory stays what it is, and of a fault there is the one above
abbrev pub raised : {F G : Type 0} → (F → G → Type 0) → OrMemory F → OrMemory G → Type 0
raised gives (Refused fault) (Refused above) = gives fault above
raised gives Memory Memory = Unit {0}
raised gives (Refused fault) Memory = ⊥
raised gives Memory (Refused above) = ⊥

-- how a user sees an error: as the fault, or `M01`
abbrev pub error_text : {F : Type 0} → (F → Option (List ℕ)) → OrMemory F → Option (List ℕ)
error_text text (Refused fault) = text fault
error_text text Memory = Some (codes "M01")
