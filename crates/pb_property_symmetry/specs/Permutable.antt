-- Elements of a sort that may be permuted where a property is decided.
use Rattle.std.specs.Prelude.{◌≡◌, false}
use Rattle.pb_base_values.specs.Carrier.{Carrier}
use Rattle.pb_text_meaning.specs.Syntax.{Name}
use Rattle.pb_protocol_tree.specs.Form.{PropertyForm, ProtocolForm}
use Rattle.pb_protocol_unfolder.specs.Plain.{is_plain_protocol}
use Rattle.pb_property_symmetry.specs.Properties.{IsSameWhere}

-- the protocol is unfolded, and it and the property are the same where these elements are permuted
pub record IsPermutable (protocol : ProtocolForm) (p : PropertyForm) (sort : Name) (M : Carrier)
    : Type 0 where
  pub unfolds : is_plain_protocol protocol ≡ false
  pub same : IsSameWhere protocol p sort M
