-- What an evaluation over slots leaves of them.
use Rattle.std.specs.Prelude.{◌≡◌, Bool, List}
use Rattle.pb_base_values.specs.Carrier.{Tuple}
use Rattle.pb_sorts.specs.declared.carrier.Carrier.{Carrier}
use Rattle.pb_text_meaning.specs.Syntax.{Spec}
use Rattle.pb_typing_values.specs.Environment.{IsLaidOut}

-- A truth is this one under each text that has the layout, and the slots hold what they held.
pub record Evaluates (layout : List (List Carrier)) (truth : Spec → Bool) (old new : Tuple)
    (result : Bool) : Type 0 where
  pub gives : (spec : Spec) → IsLaidOut spec layout → result ≡ truth spec
  pub kept : new ≡ old
