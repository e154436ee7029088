-- What an unfolder unfolds, and what names stand for in it.
use Rattle.pb_protocol_tree.specs.Form.{ProtocolForm, protocol_form}
use Rattle.pb_protocol_meaning.specs.Syntax.{Protocol}
use Rattle.pb_protocol_meaning.specs.Erase.{protocol_of}
use Rattle.pb_protocol_unfolding.specs.PutIn.{TermScope}
use Rattle.pb_protocol_unfolder_terms.specs.Contexts as terms
use Rattle.pb_protocol_unfolder_terms.specs.declared.scope.TermScope as declared_scope
use Rattle.pb_protocol_unfolder_steps.specs.declared.unfolder.Unfolder as declared_unfolder

-- its protocol, without places
abbrev pub protocol_in : declared_unfolder.Unfolder → Protocol
protocol_in u = protocol_of u

-- and with them
abbrev pub form_in : declared_unfolder.Unfolder → ProtocolForm
form_in u = protocol_form u

-- the innermost first
abbrev pub scope_within : declared_unfolder.Unfolder → declared_scope.TermScope → TermScope
scope_within u scope = terms.scope_in (protocol_in u) scope
