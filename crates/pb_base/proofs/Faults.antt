-- What follows of the fault, where an error is one.
use Rattle.std.specs.Prelude.{Result, Ok, Err}
use Rattle.pb_base.specs.OrMemory.{IfFault, IfRefused, raised}
use Rattle.pb_base.specs.declared.or_memory.OrMemory.{OrMemory}
use Rattle.pb_base.specs.declared.or_memory.OrMemory.TheVariants.{Refused, Memory}

pub if_fault : {F : Type 0} {P Q : F → Type 0} → (error : OrMemory F) → ((fault : F) → P fault → Q fault) → IfFault error P → IfFault error Q
if_fault (Refused fault) f h = f fault h
if_fault Memory f h = h

pub if_refused : {A F : Type 0} {P Q : F → Type 0} → (result : Result A (OrMemory F)) → ((fault : F) → P fault → Q fault) → IfRefused result P → IfRefused result Q
if_refused (Ok answer) f h = h
if_refused (Err error) f h = if_fault error f h

-- of the fault above
pub if_raised : {F G : Type 0} {P : F → Type 0} {Q : G → Type 0} {gives : F → G → Type 0}
    → (error : OrMemory F) (above : OrMemory G) → raised gives error above
    → ((fault : F) (other : G) → gives fault other → P fault → Q other) → IfFault error P → IfFault above Q
if_raised (Refused fault) (Refused other) made f h = f fault other made h
if_raised (Refused fault) Memory made f h = absurd made
if_raised Memory (Refused other) made f h = absurd made
if_raised Memory Memory made f h = h
