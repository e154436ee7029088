-- What holds of the value of a call, where there is one.
use Rattle.std.proofs.Common.{Result, Ok, Err}
use Rattle.std.specs.Prelude.{IfOk}

pub if-ok : {A E : Type 0} {P Q : A → Type 0} (result : Result A E) → ((v : A) → P v → Q v) → IfOk result P → IfOk result Q
if-ok (Ok v) f h = f v h
if-ok (Err e) f h = tt
