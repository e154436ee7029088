-- State variables, as the program holds them.
use Rattle.std.specs.Prelude.{List, map}
use Rattle.pb_text_meaning.specs.Syntax.{Variable}
use Rattle.pb_model_meaning.specs.Syntax.{Model}
use Rattle.pb_protocol_packing.specs.Groups.{member_for}
use Rattle.pb_protocol_packing.specs.Packing.{Member}
use Rattle.pb_protocol_packer.specs.View.{name_bytes}
use Rattle.pb_protocol_groups.specs.declared.state_variables.StateVariable as declared_variable

abbrev pub variable_of_state : declared_variable.StateVariable → Variable
variable_of_state x = record { name = name_bytes x.name.now; sort = name_bytes x.sort.now }

abbrev pub variables_of_state : List declared_variable.StateVariable → List Variable
variables_of_state = map variable_of_state

-- and as members of a group
abbrev pub as_member : Model → declared_variable.StateVariable → Member
as_member m x = member_for m (variable_of_state x)

abbrev pub members_for : Model → List declared_variable.StateVariable → List Member
members_for m = map (as_member m)
