-- A truth value is read back from the value of data that it was made.
use Rattle.std.proofs.Common.{◌≡◌, Bool, true, false, refl}
use Rattle.pb_base_values.specs.Carrier.{of_bool}
use Rattle.pb_text_meaning.specs.Value.{is_true}

pub is_true-of_bool : (b : Bool) → is_true (of_bool b) ≡ b
is_true-of_bool true = refl
is_true-of_bool false = refl
