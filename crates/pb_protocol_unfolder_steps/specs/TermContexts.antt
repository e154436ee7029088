-- What the terms of a protocol are unfolded by, and what those of its initial state are.
use Rattle.std.specs.Prelude.{◌≡◌}
use Rattle.pb_protocol_tree.specs.Form.{ProtocolForm}
use Rattle.pb_protocol_meaning.specs.Erase.{erase}
use Rattle.pb_protocol_unfolder_terms.specs.declared.context.Context.{Context}
use Rattle.pb_protocol_unfolder_terms.specs.Contexts.{IsContext, without_state}
use Rattle.pb_protocol_unfolder_terms.specs.Tells.{surroundings_in}
use Rattle.pb_protocol_unfolder_terms.specs.TermFaults.{surroundings_at_start, surroundings_of}

-- the terms of its steps and formulas
pub record IsContextOf (m : ProtocolForm) (c : Context) : Type 0 where
  pub context : IsContext (erase m) c
  pub surroundings : surroundings_in c ≡ surroundings_of m

-- the terms of its initial state, and values in sets of steps, which name no state variables
pub record IsContextAtStart (m : ProtocolForm) (c : Context) : Type 0 where
  pub context : IsContext (without_state (erase m)) c
  pub surroundings : surroundings_in c ≡ surroundings_at_start m
