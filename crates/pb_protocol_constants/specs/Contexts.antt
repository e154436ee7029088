-- What constants are unfolded by.
use Rattle.std.specs.Prelude.{◌≡◌}
use Rattle.pb_protocol_tree.specs.Form.{ProtocolForm}
use Rattle.pb_protocol_meaning.specs.Erase.{erase}
use Rattle.pb_protocol_unfolder_terms.specs.declared.context.Context.{Context}
use Rattle.pb_protocol_unfolder_terms.specs.Contexts.{without_state, IsContext}
use Rattle.pb_protocol_unfolder_terms.specs.Tells.{surroundings_in}
use Rattle.pb_protocol_unfolder_terms.specs.TermFaults.{surroundings_at_start}

-- the definitions of a protocol, and no state variable
pub record IsOfConstants (m : ProtocolForm) (c : Context) : Type 0 where
  pub context : IsContext (without_state (erase m)) c
  pub surroundings : surroundings_in c ≡ surroundings_at_start m
